use Rattle.std.proofs.Common.{◌∙◌, subst, List}
use Rattle.dk_parser.specs.Grammar.{Tokens}
use Rattle.expected_tokens.specs.declared.class.TokenClass.{TokenClass}
use Rattle.expected_tokens.specs.Classes.{classes}
use Rattle.expected_tokens.specs.Expected.{AreThose, CanFollow}
use Rattle.expected_tokens.proofs.Table.{in_table}
use Rattle.expected_tokens.proofs.Those.{exact}
use Rattle.expected_tokens.proofs.expected.expected_tokens.Goals as goal

pub returns-clause-those : goal.returns-clause-those
returns-clause-those c =
    subst (λ (ts : Tokens). AreThose (CanFollow ts) classes c.in_ok-found.found.items) c.in_ok-tokens.ensures
    (subst (λ (cs : List TokenClass). AreThose (CanFollow c.in_ok-tokens.tokens.items) cs c.in_ok-found.found.items) (c.deref.ensures.value ∙ c.in_ok-all.ensures) c.in_ok-found.ensures)

pub returns-clause-exact : goal.returns-clause-exact
returns-clause-exact c =
    exact (CanFollow c.args.before.now) classes c.in_ok-found.found.items in_table
    (subst (λ (ts : Tokens). AreThose (CanFollow ts) classes c.in_ok-found.found.items) c.in_ok-tokens.ensures
    (subst (λ (cs : List TokenClass). AreThose (CanFollow c.in_ok-tokens.tokens.items) cs c.in_ok-found.found.items) (c.deref.ensures.value ∙ c.in_ok-all.ensures) c.in_ok-found.ensures))

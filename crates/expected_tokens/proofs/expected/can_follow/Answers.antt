use Rattle.std.proofs.Common.{sym, subst, ◌∙◌}
use Rattle.dk_lexer.specs.Faithful.{IsEnded}
use Rattle.expected_tokens.specs.Expected.{GoesOn, StopsBefore}
use Rattle.std.proofs.Common.{MatchBool}
use Rattle.expected_tokens.proofs.Tried.{ended, judged}
use Rattle.expected_tokens.proofs.expected.can_follow.Goals as goal

pub goes_on-requires : goal.goes_on-requires
goes_on-requires c = subst IsEnded (sym (c.deref.ensures.value ∙ c.in_ok-push_tried.ensures)) (ended c.args.tokens.now.items c.args.class c.requires)

pub returns-clause-can : goal.returns-clause-can
returns-clause-can c =
    judged c.args.tokens.now.items c.args.class c.in_ok-can.can c.requires
    (subst (λ ts. MatchBool c.in_ok-can.can (GoesOn ts) (StopsBefore ts)) (c.deref.ensures.value ∙ c.in_ok-push_tried.ensures) c.in_ok-can.ensures)

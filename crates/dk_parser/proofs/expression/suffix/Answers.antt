use Rattle.std.proofs.Common.{sym, ap, ◌∙◌}
use Rattle.dk_parser.specs.Terminals.{terminal}
use Rattle.dk_parser.proofs.Laws as L
use Rattle.dk_parser.proofs.Stucks as S
use Rattle.dk_parser.proofs.expression.suffix.Goals as goal

pub returns-in_default : goal.returns-in_default
returns-in_default c = record { parsed = λ l h. S.stuck_word l c.args.step _ c.requires (λ tok r e. cc (c.in_default.ensures)); fewer = tt }

pub returns-in_default-kind : goal.returns-in_default-kind
returns-in_default-kind c =
    let f = c.in-Some.ensures in
    record {
      fewer = tt;
      parsed = λ l h. S.stuck_word l c.args.step _ c.requires
          (λ tok r e. rw c.in-Number.is (S.no_number l c.in-Number.operator tok.span (terminal tok) (λ v k. c.in_default-kind.not-Number v (sym f.kind_is ∙ ap terminal (L.head_is _ _ _ _ (sym f.whole ∙ e)) ∙ k))));
    }

pub returns-in_default-kind-2 : goal.returns-in_default-kind-2
returns-in_default-kind-2 c =
    let f = c.in-Some.ensures in
    record {
      fewer = tt;
      parsed = λ l h. S.stuck_word l c.args.step _ c.requires
          (λ tok r e. rw c.in-Type.is (S.no_type l tok.span (terminal tok) (λ v k. c.in_default-kind-2.not-TypeWord v (sym f.kind_is ∙ ap terminal (L.head_is _ _ _ _ (sym f.whole ∙ e)) ∙ k))));
    }

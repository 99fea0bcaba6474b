use Rattle.std.proofs.Common.{◌≡◌, ◌∙◌, ◌+◌, ◌<◌, length, map, sym, subst, rules, arith}
use Rattle.std.specs.Prelude.{FitsSigned}
use Rattle.std.proofs.lemmas.Int.{to_z-of_z}
use mir.Syntax.{w64}
use Rattle.dk_base.specs.Types.{IsIn}
use Rattle.value_rows.specs.Rows.{entry}
use Rattle.value_rows.proofs.Steps.{part_more, kept_at, read_is}
use Rattle.value_rows.proofs.parts.copy_part.Goals as goal

pub narrow-requires : goal.narrow-requires
narrow-requires g c =
    let fits : FitsSigned w64 c.widen.result = search rules in
    let there : c.args.from + c.loop-k.k < length c.args.elements.now = search rules in
    let read : c.widen.result ≡ entry (map g.T.Element.worth c.args.elements.now) (c.args.from + c.loop-k.k) = c.widen.ensures.value ∙ read_is g.T.Element.worth c.args.elements.now (c.args.from + c.loop-k.k) c.index-elements-from.result there c.index-elements-from.is in
    rw (to_z-of_z w64 c.widen.result fits) (subst (IsIn g.L.Element.ty) (sym read) (c.requires.fits c.loop-k.k c.loop-k-test.true))

pub loop-k-preserved : goal.loop-k-preserved
loop-k-preserved g c =
    let worth = g.L.Element.worth in
    let k = c.loop-k.k in
    let to = c.loop-k.to in
    let element = c.narrow.result in
    let fits : FitsSigned w64 c.widen.result = search rules in
    let here : c.args.start + k < length to = search rules in
    let there : c.args.from + k < length c.args.elements.now = search rules in
    let is = (rw (to_z-of_z w64 c.widen.result fits) at c.narrow.ensures) ∙ c.widen.ensures.value ∙ read_is g.T.Element.worth c.args.elements.now (c.args.from + k) c.index-elements-from.result there c.index-elements-from.is in
    record {
      long = search rules;
      copied = part_more worth to c.args.start k element (λ j. entry (map g.T.Element.worth c.args.elements.now) (c.args.from + j)) here is c.loop-k.invariant.copied;
      before = λ j lt. kept_at worth to (c.args.start + k) j element _ (λ e. omega (arith, lt, e)) (c.loop-k.invariant.before j lt);
      behind = λ j le. kept_at worth to (c.args.start + k) j element _ (λ e. omega (arith, le, e)) (c.loop-k.invariant.behind j (omega (arith, le)));
    }

use Rattle.std.proofs.Common.{arith, refl, subst}
use Rattle.pgm_codec.specs.Answers.{Refuses}
use Rattle.row_stream.proofs.HeadEnds.{range_short}
use Rattle.row_stream.proofs.faults.header_fault.Goals as goal

pub overflow_add-result-in-Range : goal.overflow_add-result-in-Range
overflow_add-result-in-Range c =
    let bytes = c.requires.refusal.0 in
    let l = range_short bytes c.in-Range.inside (subst (λ f. Refuses bytes f) c.in-Range.is c.requires.refusal.1) in
    omega (arith, l, c.requires.offset)

pub returns-in-Magic : goal.returns-in-Magic
returns-in-Magic c = λ size bits number bytes r. (subst (λ f. Refuses bytes f) c.in-Magic.is r, refl)

use Rattle.std.proofs.Common.{arith, subst}
use Rattle.pgm_codec.specs.Answers.{Refuses}
use Rattle.pgm_rounds.proofs.Digits.{range_within}
use Rattle.pgm_rounds.proofs.image.next_header.Goals as goal

pub overflow_add-result-in-Err-Range : goal.overflow_add-result-in-Err-Range
overflow_add-result-in-Err-Range c =
    let l = range_within c.args.rest.now c.in-Err-Range.inside (subst (λ f. Refuses c.args.rest.now f) c.in-Err-Range.field-0-is c.in-Err-Range.ensures.judged) in
    omega arith

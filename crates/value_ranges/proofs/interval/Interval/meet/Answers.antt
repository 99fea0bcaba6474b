use Rattle.std.proofs.Common.{arith}
use Rattle.std.proofs.lemmas.Int.{ints, clamps}
use Rattle.value_ranges.proofs.interval.Interval.meet.Goals as goal

pub returns-clause-both : goal.returns-clause-both
returns-clause-both c = λ v is also.
    let l = is.least in let g = is.greatest in let m = also.least in let h = also.greatest in
    let low = c.max.ensures.value in let high = c.min.ensures.value in
    record { least = omega (arith, ints, clamps, l, m, low); greatest = omega (arith, ints, clamps, g, h, high) }

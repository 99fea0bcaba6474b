use Rattle.std.proofs.Common.{rules, ◌≤ℤ◌, ℤ, arith, unsigned_abs}
use Rattle.std.specs.Prelude.{FitsSigned}
use Rattle.std.proofs.lemmas.Int.{ints, to_z-of_z}
use mir.Syntax.{w128}
use Rattle.dk_base.specs.declared.ty.Ty.TheVariants.{Unsigned}
use Rattle.value_ranges.specs.declared.interval.Interval.{Interval}
use Rattle.value_ranges.specs.Intervals.{IsBetween, IsLeastType}
use Rattle.value_ranges.proofs.Ends.{or_between, xor_between}
use Rattle.value_ranges.proofs.Fewest.{unsigned_least}
use Rattle.value_ranges.proofs.arithmetic.either_bits.Goals as goal

some : (r : Interval) (v : ℤ) → IsBetween r v → r.least ≤ℤ r.greatest
some r v is = let l = is.least in let g = is.greatest in omega (arith, ints, l, g)

pub returns-clause-or : goal.returns-clause-or
returns-clause-or c = λ v u is also.
    let both = c.join-both.result in
    let fits : FitsSigned w128 both.greatest = search rules in
    let least : IsLeastType both (Unsigned c.bits_for-width.result) = unsigned_least both (unsigned_abs both.greatest) c.bits_for-width.result (some both v (c.join-both.ensures.this v is)) (search rules) (search rules) (search rules) (rw (to_z-of_z w128 both.greatest fits) at c.bits_for-width.ensures.least) in
    or_between (Unsigned c.bits_for-width.result) c.args.left c.args.right both c.of_type.result v u c.join-both.ensures.this c.join-both.ensures.other (search rules) least c.of_type.ensures.values is also

pub returns-clause-xor : goal.returns-clause-xor
returns-clause-xor c = λ v u is also.
    let both = c.join-both.result in
    let fits : FitsSigned w128 both.greatest = search rules in
    let least : IsLeastType both (Unsigned c.bits_for-width.result) = unsigned_least both (unsigned_abs both.greatest) c.bits_for-width.result (some both v (c.join-both.ensures.this v is)) (search rules) (search rules) (search rules) (rw (to_z-of_z w128 both.greatest fits) at c.bits_for-width.ensures.least) in
    xor_between (Unsigned c.bits_for-width.result) c.args.left c.args.right both c.of_type.result v u c.join-both.ensures.this c.join-both.ensures.other (search rules) least c.of_type.ensures.values is also

use Rattle.std.proofs.Common.{rules}
use Rattle.std.specs.Prelude.{FitsSigned}
use Rattle.std.proofs.lemmas.Int.{to_z-of_z}
use mir.Syntax.{w64}
use Rattle.value_rows.proofs.Bits.{signed_cut}
use Rattle.value_rows.proofs.numbers.cut_signed.Goals as goal

pub returns : goal.returns
returns c w some most same also =
    let fits : FitsSigned w64 c.turned.result = search rules in
    rw (to_z-of_z w64 c.turned.result fits)
    (signed_cut c.args.value c.turned.result c.bits_of-mask.result c.bits_of.result c.low_bits-low.result w c.args.mask c.args.half (rw (to_z-of_z w64 c.args.mask c.ranges.mask) at c.bits_of-mask.ensures.value) (rw (to_z-of_z w64 c.args.half c.ranges.half) at c.bits_of.ensures.value) (rw (to_z-of_z w64 c.args.value c.ranges.value) at c.low_bits-low.ensures.low) c.turned.ensures some most same also)

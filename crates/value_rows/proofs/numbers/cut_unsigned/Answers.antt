use Rattle.std.proofs.Common.{rules}
use Rattle.std.specs.Prelude.{FitsSigned}
use Rattle.std.proofs.lemmas.Int.{to_z-of_z}
use mir.Syntax.{w64}
use Rattle.value_rows.proofs.Bits.{unsigned_cut}
use Rattle.value_rows.proofs.numbers.cut_unsigned.Goals as goal

pub returns : goal.returns
returns c w most same =
    let fits : FitsSigned w64 c.number_of.result = search rules in
    rw (to_z-of_z w64 c.number_of.result fits)
    (unsigned_cut c.args.value c.number_of.result c.bits_of.result c.low_bits.result w c.args.mask (rw (to_z-of_z w64 c.args.mask c.ranges.mask) at c.bits_of.ensures.value) (rw (to_z-of_z w64 c.args.value c.ranges.value) at c.low_bits.ensures.low) c.number_of.ensures most same)

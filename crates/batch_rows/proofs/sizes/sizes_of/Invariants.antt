use Rattle.std.proofs.Common.{◌≡◌, ℕ, length, Some}
use Rattle.std.specs.Prelude.{slice_get}
use Rattle.batch_rows.specs.declared.code.Instruction.{Instruction}
use Rattle.lane_rows.specs.declared.row.Size.{Size}
use Rattle.batch_rows.specs.LaneSizes.{IsSized}
use Rattle.lane_rows.specs.Values.{bits_of}
use Rattle.batch_rows.proofs.sizes.sizes_of.Given as goal

abbrev pub invariant-loop-k : goal.invariant-loop-k
invariant-loop-k l = (length l.sizes.items ≡ l.k) × ((j : ℕ) (i : Instruction) (s : Size) → slice_get l.code j ≡ Some i → slice_get l.sizes.items j ≡ Some s → IsSized l.widths (bits_of s) i)

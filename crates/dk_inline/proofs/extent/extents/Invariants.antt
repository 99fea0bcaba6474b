use Rattle.std.proofs.Common.{◌≡◌, ℕ, ◌+◌, length, slice_get, Some}
use Rattle.dk_types.specs.Typed.{Definition, typing_of}
use Rattle.dk_inline.specs.declared.extent.InlinedSize.{InlinedSize}
use Rattle.dk_inline.specs.Inlined.{inlined_body, substitutes}
use Rattle.dk_inline.specs.Extents.{IsExtent, AreExtents}
use Rattle.dk_inline.proofs.Counted.{images_before}
use Rattle.dk_inline.proofs.extent.extents.Given as goal

abbrev pub invariant-loop-k : goal.invariant-loop-k
invariant-loop-k l = record {
  images : AreExtents l.known.items (images_before (typing_of l.program) l.k);
  known : length l.known.items ≡ length l.program.inputs + l.k;
  count : length l.all.items ≡ l.k;
  each : (j : ℕ) (d : Definition) (x : InlinedSize) → slice_get (typing_of l.program).definitions j ≡ Some d → slice_get l.all.items j ≡ Some x → IsExtent x (inlined_body (substitutes (typing_of l.program)) d);
}

use Rattle.std.proofs.Common.{◌≡◌, ℕ, ◌<◌, slice_get, slice_index}
use Rattle.pointwise_ir.specs.Programs.{names_of, types_of}
use Rattle.same_pictures.proofs.pairing.are_same_outputs.Given as goal

abbrev pub invariant-loop-k : goal.invariant-loop-k
invariant-loop-k l = record {
  names : (j : ℕ) → j < l.k → slice_get (names_of l.fn.new) (slice_index l.fn.new.outputs j) ≡ slice_get (names_of l.fn.old) (slice_index l.fn.old.outputs j);
  types : (j : ℕ) → j < l.k → slice_get (types_of l.fn.new) (slice_index l.fn.new.outputs j) ≡ slice_get (types_of l.fn.old) (slice_index l.fn.old.outputs j);
}

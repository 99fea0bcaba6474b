use Rattle.std.proofs.Common.{◌≡◌, ◌+◌, ℕ, slice_get, Some}
use Rattle.pointwise_ir.specs.Passes.{KeepsMeaning}
use Rattle.pointwise_ir.proofs.rewrite.run_passes.Given as goal

abbrev pub invariant-loop-pass : goal.invariant-loop-pass
invariant-loop-pass g l = record {
  meaning : KeepsMeaning l.fn.ir l.done;
  last : (k : ℕ) (p : _) → k + 1 ≡ l.pass-index → slice_get l.passes k ≡ Some p → (goal.Rewrite-dyn g (p.vtable, p.value)).gives p.value l.done;
  none : l.pass-index ≡ 0 → l.done ≡ l.fn.ir;
}

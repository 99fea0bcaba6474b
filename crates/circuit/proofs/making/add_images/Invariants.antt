use Rattle.std.proofs.Common.{◌≡◌}
use Rattle.circuit.specs.Whole.{HasImages}
use Rattle.circuit.proofs.making.add_images.Given as goal

abbrev pub invariant-loop-k : goal.invariant-loop-k
invariant-loop-k g l = record {
  enable : l.b.enable ≡ l.fn.b.enable;
  images : HasImages l.b l.ir l.plan (g.F.BufferForm.form l.form) l.k l.images;
}

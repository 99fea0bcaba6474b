use Rattle.std.proofs.Common.{◌≡◌, ℕ, ◌<◌, length, Some}
use Rattle.std.specs.Prelude.{slice_get}
use Rattle.cycle_sim.specs.Ports.{out_of}
use Rattle.cycle_sim.proofs.ports.show_outs.Given as goal

abbrev pub invariant-loop-output : goal.invariant-loop-output
invariant-loop-output l = record {
  length : length l.outs ≡ length l.fn.outs;
  each : (k : ℕ) → k < l.output → slice_get l.outs k ≡ Some (out_of l.outputs k);
}

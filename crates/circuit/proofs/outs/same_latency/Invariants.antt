use Rattle.std.proofs.Common.{◌≡◌, ℕ, ◌<◌}
use Rattle.buffer_plan.specs.Plans.{latency_of}
use Rattle.circuit.proofs.outs.same_latency.Given as goal

abbrev pub invariant-loop-j : goal.invariant-loop-j
invariant-loop-j l = (i : ℕ) → i < l.j → latency_of l.plan i ≡ l.latency → ⊥

use Rattle.std.proofs.Common.{◌≡◌, map, take}
use Rattle.circuit.specs.Known.{step_of}
use Rattle.circuit.proofs.known.step_keys.Given as goal

abbrev pub invariant-loop-step : goal.invariant-loop-step
invariant-loop-step l = record { keys : map step_of l.keys.items ≡ take l.step-index l.steps }

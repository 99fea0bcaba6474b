use Rattle.std.proofs.Common.{◌≡◌, map, take}
use Rattle.verilog_text.specs.Stands.{assign_of}
use Rattle.verilog_read.proofs.parts.assigns_of.Given as goal

abbrev pub invariant-loop-assign : goal.invariant-loop-assign
invariant-loop-assign l = l.items.items ≡ map (assign_of l.text) (take l.assign-index l.assigns)

use Rattle.std.proofs.Common.{◌≡◌, map, take}
use Rattle.verilog_text.specs.Stands.{update_of}
use Rattle.verilog_read.proofs.parts.updates_of.Given as goal

abbrev pub invariant-loop-update : goal.invariant-loop-update
invariant-loop-update l = l.items.items ≡ map (update_of l.text) (take l.update-index l.updates)

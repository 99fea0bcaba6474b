use Rattle.std.proofs.Common.{◌≡◌, ◌++◌, drop}
use Rattle.verilog_layout.specs.Layout.{each, update_layout}
use Rattle.verilog_print.proofs.line.push_updates.Given as goal

abbrev pub invariant-loop-update : goal.invariant-loop-update
invariant-loop-update l = l.out.items ++ each (update_layout l.«module») (drop l.update-index l.updates) ≡ l.fn.out.items ++ each (update_layout l.«module») l.updates

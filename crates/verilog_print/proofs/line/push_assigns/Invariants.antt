use Rattle.std.proofs.Common.{◌≡◌, ◌++◌, drop}
use Rattle.verilog_layout.specs.Layout.{each, assign_layout}
use Rattle.verilog_print.proofs.line.push_assigns.Given as goal

abbrev pub invariant-loop-assign : goal.invariant-loop-assign
invariant-loop-assign l = l.out.items ++ each (assign_layout l.«module») (drop l.assign-index l.assigns) ≡ l.fn.out.items ++ each (assign_layout l.«module») l.assigns

use Rattle.std.proofs.Common.{◌≡◌, drop}
use Rattle.verilog_text.specs.Limits.{assigns_fault}
use Rattle.verilog_read.proofs.limits.check_assigns.Given as goal

abbrev pub invariant-loop-assign : goal.invariant-loop-assign
invariant-loop-assign l = assigns_fault l.assigns ≡ assigns_fault (drop l.assign-index l.assigns)

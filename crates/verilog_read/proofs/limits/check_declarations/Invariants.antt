use Rattle.std.proofs.Common.{◌≡◌, ◌≤◌, drop}
use Rattle.dk_base.specs.declared.TheConstants.{MAX_BUFFER_BITS}
use Rattle.verilog_text.specs.Limits.{declarations_fault}
use Rattle.verilog_read.proofs.limits.check_declarations.Given as goal

abbrev pub invariant-loop-declaration : goal.invariant-loop-declaration
invariant-loop-declaration l = (l.total ≤ MAX_BUFFER_BITS) × (declarations_fault 0 l.declarations ≡ declarations_fault l.total (drop l.declaration-index l.declarations))

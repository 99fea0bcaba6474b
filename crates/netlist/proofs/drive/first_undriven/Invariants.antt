use Rattle.netlist.specs.Driven.{IsDrivenEntry}
use Rattle.netlist.proofs.Resolving.{Before}
use Rattle.netlist.proofs.drive.first_undriven.Given as goal

abbrev pub invariant-loop-place : goal.invariant-loop-place
invariant-loop-place l = Before (IsDrivenEntry l.tables) l.scope l.place

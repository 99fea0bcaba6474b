use Rattle.std.proofs.Common.{arith, sym, ◌∙◌}
use Rattle.netlist.specs.Driven.{IsDrivenEntry}
use Rattle.netlist.proofs.Resolving.{before_end}
use Rattle.netlist.proofs.Driving.{first_not_driven}
use Rattle.netlist.proofs.drive.first_undriven.Goals as goal

pub returns-then-not-is_driven_at-clause-some : goal.returns-then-not-is_driven_at-clause-some
returns-then-not-is_driven_at-clause-some c =
    first_not_driven c.args.tables.now c.args.scope.now c.loop-place.place (omega arith) (λ e at. sym c.if-not-is_driven_at.true ∙ c.is_driven_at.ensures e at) c.loop-place.invariant

pub returns-clause-none : goal.returns-clause-none
returns-clause-none c = before_end (IsDrivenEntry c.args.tables.now) c.args.scope.now c.loop-place.place (omega arith) c.loop-place.invariant

use Rattle.std.proofs.Common.{subst}
use Rattle.dk_base.specs.declared.operator.Scaling.{Scaling}
use Rattle.dk_base.specs.Types.{IsType}
use Rattle.datapath.specs.Expressions.{scaling_result, TakesNumber}
use Rattle.datapath.proofs.Applied.{scaling_makes}
use Rattle.datapath.proofs.apply.scaled.Goals as goal

pub quotient-requires-clause-x : goal.quotient-requires-clause-x
quotient-requires-clause-x c = c.requires.x

pub quotient-requires-clause-by : goal.quotient-requires-clause-by
quotient-requires-clause-by c = subst (λ (o : Scaling). TakesNumber o c.args.by) c.in-Divide.is c.requires.by

pub shift_left-requires : goal.shift_left-requires
shift_left-requires c = record { x = c.requires.x; ty = subst (λ (o : Scaling). IsType (scaling_result o c.args.x.ty c.args.by)) c.in-ShiftLeft.is c.requires.ty }

pub shift_right-requires : goal.shift_right-requires
shift_right-requires c = c.requires.x

pub returns-in-Divide : goal.returns-in-Divide
returns-in-Divide c = scaling_makes c.args.b.now c.quotient.new.b c.args.x c.quotient.result c.args.by _ _ c.in-Divide.is c.quotient.ensures

pub returns-in-ShiftLeft : goal.returns-in-ShiftLeft
returns-in-ShiftLeft c = scaling_makes c.args.b.now c.shift_left.new.b c.args.x c.shift_left.result c.args.by _ _ c.in-ShiftLeft.is c.shift_left.ensures

pub returns-in-ShiftRight : goal.returns-in-ShiftRight
returns-in-ShiftRight c = scaling_makes c.args.b.now c.shift_right.new.b c.args.x c.shift_right.result c.args.by _ _ c.in-ShiftRight.is c.shift_right.ensures

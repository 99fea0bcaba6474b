use Rattle.std.proofs.Common.{Some, sym, subst}
use Rattle.std.specs.Prelude.{Option, IfSome}
use Rattle.wiring.specs.Netlist.{Netlist}
use Rattle.batch_rows.specs.declared.module_code.BatchCode.{BatchCode}
use Rattle.batch_code.specs.Code.{IsBatchCode}
use Rattle.batch_sim.proofs.rows.make.rows_of.Goals as goal

pub engine_of-requires-clause-code : goal.engine_of-requires-clause-code
engine_of-requires-clause-code c =
    let m : Netlist = c.args.module.now.netlist in
    let code : BatchCode = c.in-Some-2.code in
    let some : IfSome (Some code) (IsBatchCode m) = subst (λ (o : Option BatchCode). IfSome o (IsBatchCode m)) c.in-Some-2.is c.in_ok-code.ensures in
    subst (λ (n : Netlist). IsBatchCode n code) (sym c.wiring-wiring.ensures.netlist) some

use Rattle.std.proofs.Common.{sym, subst}
use Rattle.wiring.specs.Netlist.{Netlist}
use Rattle.wiring.specs.Snapshot.{Contents}
use Rattle.wiring.specs.Clock.{given, Stops}
use Rattle.cycle_sim.specs.Simulated.{clock}
use Rattle.batch_sim.proofs.stored.step_stored.Goals as goal

pub returns-clause-only : goal.returns-clause-only
returns-clause-only c = λ x i stops. c.step_all-done.ensures.only x i
    (subst (λ (n : Netlist). Stops n c.exchange.new.self.contents (given n (clock c.args.reset c.args.enable c.args.dins.now)) x i) (sym c.exchange.ensures.netlist)
    (subst (λ (h : Contents). Stops c.args.sim.now.netlist h (given c.args.sim.now.netlist (clock c.args.reset c.args.enable c.args.dins.now)) x i) (sym c.exchange.ensures.contents) stops))

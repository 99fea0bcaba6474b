use Rattle.std.proofs.Common.{◌≡◌, ◌*◌, length, ap, sym, subst, arith}
use Rattle.wiring.specs.Netlist.{Netlist}
use Rattle.wiring.specs.Snapshot.{IsNext}
use Rattle.wiring.specs.Clock.{given, Steps}
use Rattle.cycle_sim.specs.Simulated.{Machine}
use Rattle.cycle_sim.specs.Ports.{AreShown}
use Rattle.cycle_sim.proofs.Given.{are_shown}
use Rattle.cycle_sim.proofs.sim.Sim.step_all.Goals as goal

pub returns-in-Err-clause-only : goal.returns-in-Err-clause-only
returns-in-Err-clause-only c = rw (← c.self.view_is) c.in-Err.ensures.only

pub returns-in-Ok-clause-only : goal.returns-in-Ok-clause-only
returns-in-Ok-clause-only c = rw (← c.self.view_is) c.in-Ok.ensures.only

pub returns-in-Ok-clause-ok : goal.returns-in-Ok-clause-ok
returns-in-Ok-clause-ok c =
    let m = c.self.inside.circuit.netlist in
    let s = c.settle.new.self.shot in
    let next : IsNext m s c.edge.new.self.shot.contents = subst (λ (n : Netlist). IsNext n s c.edge.new.self.shot.contents) c.settle.ensures.netlist c.edge.ensures.next in
    let steps : Steps m c.self.inside.circuit.shot.contents (given m (record { reset = c.args.reset; enable = c.args.enable; dins = c.args.dins.now })) s c.edge.new.self.shot.contents =
    record { snapshot = c.settle.ensures.shot; in_range = c.in-Ok.ensures.ok; next = next } in
    let room : length m.outputs ≡ 2 * length c.args.outs.now = subst (λ (v : Machine). length v.netlist.outputs ≡ 2 * length c.args.outs.now) (sym c.self.view_is) c.requires.outs in
    let long : length c.outputs.result.now ≡ 2 * length c.show_outs.new.outs = omega (arith, c.outputs.ensures.count, ap (λ (n : Netlist). length n.outputs) c.settle.ensures.netlist, room, c.show_outs.ensures.length) in
    let shown : AreShown s c.show_outs.new.outs = are_shown s c.outputs.result.now c.show_outs.new.outs c.outputs.ensures.values long (λ k l. c.show_outs.ensures.each k (omega (arith, l, c.show_outs.ensures.length))) in
    rw (← c.self.view_is) (s, steps, shown)

use Rattle.std.proofs.Common.{sym, subst}
use Rattle.wiring.specs.Netlist.{netlist_of}
use Rattle.wiring.specs.Snapshot.{FitsContents}
use Rattle.cycle_sim.specs.Slots.{words_of}
use Rattle.cycle_sim.specs.Simulated.{Moment, held_contents}
use Rattle.cycle_sim.proofs.Exchanged.{exchanged_circuit, exchanged_contents}
use Rattle.cycle_sim.proofs.circuit.Circuit.exchange.Goals as goal

pub invariant_of-self : goal.invariant_of-self
invariant_of-self c =
    let fits : FitsContents (netlist_of c.self.inside.wiring) (held_contents c.args.regs.now.items (words_of c.args.arrays.now.items)) = subst (λ (v : Moment). FitsContents v.netlist (held_contents c.args.regs.now.items (words_of c.args.arrays.now.items))) (sym c.self.view_is) c.requires.fit in
    rw (c.exchange_vec.ensures.values, c.exchange_arrays.ensures.arrays)
    (exchanged_circuit (netlist_of c.self.inside.wiring) c.self.inside.order.items c.self.inside.program c.self.inside.values.items c.self.inside.staged.items (words_of c.self.inside.arrays.items) c.self.invariant c.args.regs.now.items (words_of c.args.arrays.now.items) fits)

pub returns-clause-contents : goal.returns-clause-contents
returns-clause-contents c =
    let fits : FitsContents (netlist_of c.self.inside.wiring) (held_contents c.args.regs.now.items (words_of c.args.arrays.now.items)) = subst (λ (v : Moment). FitsContents v.netlist (held_contents c.args.regs.now.items (words_of c.args.arrays.now.items))) (sym c.self.view_is) c.requires.fit in
    rw (c.exchange_vec.ensures.values, c.exchange_arrays.ensures.arrays)
    (exchanged_contents (netlist_of c.self.inside.wiring) c.self.inside.order.items c.self.inside.program c.self.inside.values.items c.self.inside.staged.items (words_of c.self.inside.arrays.items) c.self.invariant c.args.regs.now.items (words_of c.args.arrays.now.items) fits)

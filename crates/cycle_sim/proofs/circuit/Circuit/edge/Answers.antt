use Rattle.std.proofs.Common.{sym, subst}
use Rattle.wiring.specs.Netlist.{netlist_of}
use Rattle.wiring.specs.Snapshot.{IsInRange}
use Rattle.cycle_sim.specs.Slots.{words_of}
use Rattle.cycle_sim.specs.Simulated.{Moment, shot_of}
use Rattle.cycle_sim.proofs.Simulates.{edges_safe, regs_within, after_edge, next_of}
use Rattle.cycle_sim.proofs.circuit.Circuit.edge.Goals as goal

pub edge_vec-requires : goal.edge_vec-requires
edge_vec-requires c =
    let range : IsInRange (netlist_of c.self.inside.wiring) (shot_of (netlist_of c.self.inside.wiring) c.self.inside.values.items (words_of c.self.inside.arrays.items)) = subst (λ (v : Moment). IsInRange v.netlist v.shot) (sym c.self.view_is) c.requires in
    record {
      edges = edges_safe (netlist_of c.self.inside.wiring) c.self.inside.order.items c.self.inside.program c.self.inside.values.items c.self.inside.staged.items (words_of c.self.inside.arrays.items) c.self.invariant range;
      regs = regs_within (netlist_of c.self.inside.wiring) c.self.inside.order.items c.self.inside.program c.self.inside.values.items c.self.inside.staged.items (words_of c.self.inside.arrays.items) c.self.invariant;
    }

pub invariant_of-self : goal.invariant_of-self
invariant_of-self c =
    let range : IsInRange (netlist_of c.self.inside.wiring) (shot_of (netlist_of c.self.inside.wiring) c.self.inside.values.items (words_of c.self.inside.arrays.items)) = subst (λ (v : Moment). IsInRange v.netlist v.shot) (sym c.self.view_is) c.requires in
    after_edge (netlist_of c.self.inside.wiring) c.self.inside.order.items c.self.inside.program c.self.inside.values.items c.self.inside.staged.items (words_of c.self.inside.arrays.items) c.self.invariant range c.edge_vec.new.values.items c.edge_vec.new.staged.items (words_of c.edge_vec.new.arrays.items) c.edge_vec.ensures.staged c.edge_vec.ensures.values c.edge_vec.ensures.arrays

pub returns-clause-next : goal.returns-clause-next
returns-clause-next c =
    let range : IsInRange (netlist_of c.self.inside.wiring) (shot_of (netlist_of c.self.inside.wiring) c.self.inside.values.items (words_of c.self.inside.arrays.items)) = subst (λ (v : Moment). IsInRange v.netlist v.shot) (sym c.self.view_is) c.requires in
    rw (← c.self.view_is) (next_of (netlist_of c.self.inside.wiring) c.self.inside.order.items c.self.inside.program c.self.inside.values.items c.self.inside.staged.items (words_of c.self.inside.arrays.items) c.self.invariant range c.edge_vec.new.values.items c.edge_vec.new.staged.items (words_of c.edge_vec.new.arrays.items) c.edge_vec.ensures.staged c.edge_vec.ensures.values c.edge_vec.ensures.arrays)

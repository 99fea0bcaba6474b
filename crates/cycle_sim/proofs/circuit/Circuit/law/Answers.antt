use Rattle.wiring.specs.Netlist.{netlist_of}
use Rattle.cycle_sim.specs.Slots.{words_of}
use Rattle.cycle_sim.proofs.Fitted.{contents_fit, contents_placed}
use Rattle.cycle_sim.proofs.circuit.Circuit.law.Goals as goal

pub returns : goal.returns
returns c = record {
  one_valuation = rw (← c.self.view_is) (c.one_valuation_law.ensures (netlist_of c.self.inside.wiring) c.self.inside.order.items c.self.invariant.rules c.self.invariant.ordered);
  one_next = rw (← c.self.view_is) (c.one_next_law.ensures (netlist_of c.self.inside.wiring) c.self.invariant.rules);
  places = rw (← c.self.view_is) (contents_placed (netlist_of c.self.inside.wiring) c.self.inside.order.items c.self.inside.program c.self.inside.values.items c.self.inside.staged.items (words_of c.self.inside.arrays.items) c.self.invariant);
  fit = rw (← c.self.view_is) (contents_fit (netlist_of c.self.inside.wiring) c.self.inside.order.items c.self.inside.program c.self.inside.values.items c.self.inside.staged.items (words_of c.self.inside.arrays.items) c.self.invariant);
}

use Rattle.std.proofs.Common.{◌∙◌, ap, length}
use Rattle.wiring.specs.Netlist.{netlist_of}
use Rattle.cycle_sim.specs.Slots.{words_of}
use Rattle.cycle_sim.proofs.Simulates.{values_are, slots_long}
use Rattle.cycle_sim.proofs.circuit.Circuit.values.Goals as goal

pub returns-clause-values : goal.returns-clause-values
returns-clause-values c = rw (← c.self.view_is) (c.deref.ensures.value ∙ values_are (netlist_of c.self.inside.wiring) c.self.inside.order.items c.self.inside.program c.self.inside.values.items c.self.inside.staged.items (words_of c.self.inside.arrays.items) c.self.invariant)

pub returns-clause-count : goal.returns-clause-count
returns-clause-count c = rw (← c.self.view_is) (ap length c.deref.ensures.value ∙ slots_long (netlist_of c.self.inside.wiring) c.self.inside.order.items c.self.inside.program c.self.inside.values.items c.self.inside.staged.items (words_of c.self.inside.arrays.items) c.self.invariant)

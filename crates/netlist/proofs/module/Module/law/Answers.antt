use Rattle.wiring.specs.Netlist.{netlist_of}
use Rattle.netlist.proofs.module.Module.law.Goals as goal

pub returns-clause-one_valuation : goal.returns-clause-one_valuation
returns-clause-one_valuation c = rw (← c.self.view_is) (c.one_valuation_law.ensures (netlist_of c.self.inside.wiring) c.self.inside.order.items c.self.invariant.0 c.self.invariant.2)

pub returns-clause-one_next : goal.returns-clause-one_next
returns-clause-one_next c = rw (← c.self.view_is) (c.one_next_law.ensures (netlist_of c.self.inside.wiring) c.self.invariant.0)

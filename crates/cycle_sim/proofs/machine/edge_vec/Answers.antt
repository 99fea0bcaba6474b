use Rattle.cycle_sim.proofs.machine.edge_vec.Goals as goal

pub take_edge-requires : goal.take_edge-requires
take_edge-requires c = rw (c.deref_mut.ensures.value, c.deref_mut-2.ensures.value, c.deref_mut-3.ensures.value) c.requires

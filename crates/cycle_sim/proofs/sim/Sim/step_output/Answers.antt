use Rattle.std.proofs.Common.{rules}
use Rattle.cycle_sim.proofs.sim.Sim.step_output.Goals as goal

pub returns-in-Err : goal.returns-in-Err
returns-in-Err c = record {
  netlist = search rules;
  ok = search rules;
  stops = search rules;
  only = rw (← c.self.view_is) (λ x i h. let e = c.in-Err.ensures.only x i h in cc);
  err = search rules;
}

pub returns-in-Ok : goal.returns-in-Ok
returns-in-Ok c = record {
  netlist = search rules;
  ok = search rules;
  stops = search rules;
  only = rw (← c.self.view_is) (λ x i h. let e = c.in-Ok.ensures.only x i h in cc);
  err = search rules;
}

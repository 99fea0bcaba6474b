use Rattle.test_bench.proofs.Clocks.{few_outputs}
use Rattle.test_bench.proofs.bench.set_up.Goals as goal

pub new-requires-2-clause-outputs : goal.new-requires-2-clause-outputs
new-requires-2-clause-outputs c = few_outputs c.args.module.now.netlist c.in_ok-sim.sim.netlist c.wiring-wiring.ensures.rules c.in_ok-sim.ensures.netlist c.outputs-count.result c.outputs-count.ensures

use Rattle.std.proofs.Common.{◌≡◌, ◌*◌, ◌∙◌, length, ap, arith}
use Rattle.cycle_sim.proofs.Given.{valids_even}
use Rattle.cycle_sim.proofs.ports.output_count.Goals as goal

pub returns : goal.returns
returns c =
    let even : length c.args.wiring.now.outputs.items ≡ 2 * length c.requires.ports.douts = ap length c.requires.ports.outputs_are ∙ valids_even c.requires.ports.douts in
    omega (arith, even, c.len.ensures, c.args.wiring.now.outputs.ok.0)

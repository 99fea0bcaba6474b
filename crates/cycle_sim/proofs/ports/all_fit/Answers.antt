use Rattle.std.proofs.Common.{◌≡◌, length, arith}
use Rattle.cycle_sim.proofs.Pieces.{fit_from}
use Rattle.cycle_sim.proofs.ports.all_fit.Goals as goal

pub returns-clause-yes : goal.returns-clause-yes
returns-clause-yes c =
    let same : length c.args.numbers.now ≡ length c.args.widths.now = omega (arith, c.if-widths-numbers.false) in
    λ _. fit_from c.args.widths.now c.args.numbers.now same (λ k l. c.loop-k.invariant k (omega (arith, l, c.loop-k-test.false)))

use Rattle.std.proofs.Common.{arith}
use Rattle.std.proofs.lemmas.Option.{slice_get_within}
use Rattle.test_bench.proofs.clocking.show.Goals as goal

pub returns-clause-kept : goal.returns-clause-kept
returns-clause-kept c = λ k old new out a b d.
    let l = slice_get_within c.args.outs.now k out d in
    c.loop-k.invariant.done k old new out (omega (arith, l, c.loop-k-test.false)) a b d

use Rattle.std.proofs.Common.{arith, sym}
use Rattle.same_pictures.proofs.Lists.{equal_lists}
use Rattle.same_pictures.proofs.pairing.are_same_inputs.Goals as goal

pub returns : goal.returns
returns c holds = equal_lists c.args.new.now c.args.old.now (sym c.if-old-new.false) (λ k lt. c.loop-k.invariant.same k (let past = c.loop-k-test.false in let long = c.if-old-new.false in omega (arith, lt, past, long)))

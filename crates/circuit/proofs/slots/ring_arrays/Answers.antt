use Rattle.std.proofs.Common.{◌∙◌, sym, arith}
use Rattle.circuit.proofs.Counting.{ring_one, ring_none}
use Rattle.circuit.proofs.slots.ring_arrays.Goals as goal

pub returns-then-depth-eq0 : goal.returns-then-depth-eq0
returns-then-depth-eq0 c = ring_none c.args.plan.now c.args.image (sym c.depth.ensures.depth ∙ c.if-depth-eq0.true)

pub returns : goal.returns
returns c = ring_one c.args.plan.now c.args.image (omega (arith, c.if-depth-eq0.false, c.depth.ensures.depth))

use Rattle.std.proofs.Common.{arith}
use Rattle.wiring.proofs.Masks.{mask_of}
use Rattle.wiring.proofs.values.mask.Goals as goal

pub returns : goal.returns
returns c = mask_of c.args.width c.half-half.result (omega (arith, c.if-width-eq0.false)) c.half-half.ensures

use Rattle.std.proofs.Common.{arith}
use Rattle.datapath.proofs.Known.{no_copies, all_copies}
use Rattle.datapath.proofs.constants.copies.Goals as goal

pub returns-then-bit-eq0 : goal.returns-then-bit-eq0
returns-then-bit-eq0 c = no_copies _ _ (omega (arith, c.if-bit-eq0.true))

pub returns : goal.returns
returns c = all_copies _ _ _ (omega (arith, c.if-bit-eq0.false, c.requires.bit)) c.all_ones.ensures

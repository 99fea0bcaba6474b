use Rattle.std.proofs.Common.{refl}
use Rattle.datapath.proofs.Growth.{constant_has}
use Rattle.datapath.proofs.Over.{constant_over}
use Rattle.datapath.proofs.constants.constant.Goals as goal

pub returns : goal.returns
returns c = record {
  is = refl;
  width = λ b. constant_has b _ _ _ refl c.requires.width c.requires.fits;
  made = λ b. constant_over b;
  known = tt;
}

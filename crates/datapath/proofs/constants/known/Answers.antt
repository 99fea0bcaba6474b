use Rattle.std.proofs.Common.{ap, subst}
use Rattle.datapath.specs.Nets.{IsKnown, known_value}
use Rattle.datapath.proofs.constants.known.Goals as goal

pub returns-in-Net : goal.returns-in-Net
returns-in-Net c = λ h. subst IsKnown c.in-Net.is h

pub returns-in-Constant : goal.returns-in-Constant
returns-in-Constant c = ap known_value c.in-Constant.is

use Rattle.std.proofs.Common.{refl, ap}
use Rattle.datapath.proofs.Divided.{unsigned_magnitude_carries}
use Rattle.datapath.proofs.Growth.{grows_itself}
use Rattle.datapath.proofs.Over.{itself_over}
use Rattle.datapath.proofs.Composed.{typed_carries}
use Rattle.dk_base.specs.Types.{magnitude_type}
use Rattle.datapath.proofs.division.magnitude.Goals as goal

pub returns-in-Unsigned : goal.returns-in-Unsigned
returns-in-Unsigned c = record {
  grows = grows_itself _;
  value = unsigned_magnitude_carries _ c.args.x _ c.in-Unsigned.is c.requires;
  made = itself_over;
  folds = λ h. (h.0, refl);
}

pub signed_magnitude-requires : goal.signed_magnitude-requires
signed_magnitude-requires c = record { x = c.requires; ty = c.in-Signed.is }

pub returns-in_ok-size-in-Signed : goal.returns-in_ok-size-in-Signed
returns-in_ok-size-in-Signed c = typed_carries (ap magnitude_type c.in-Signed.is) c.in_ok-size-in-Signed.ensures

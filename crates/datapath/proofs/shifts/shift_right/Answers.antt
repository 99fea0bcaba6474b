use Rattle.std.proofs.Common.{ap, rules, ◌≡◌, min, ◌-◌, refl}
use Rattle.datapath.specs.Nets.{bits_of}
use Rattle.datapath.proofs.Shifted.{out_carries, sign_carries}
use Rattle.datapath.proofs.Growth.{grows_itself}
use Rattle.datapath.proofs.Over.{nothing_over}
use Rattle.datapath.proofs.Composed.{type_width}
use Rattle.datapath.proofs.shifts.shift_right.Goals as goal

pub returns-then-by-width : goal.returns-then-by-width
returns-then-by-width c = record {
  grows = grows_itself _;
  value = out_carries _ c.args.x c.constant.result _ c.args.by c.in-Unsigned.is c.if-by-width.true c.requires (c.constant.ensures.width _) (λ nets. ap (bits_of nets) c.constant.ensures.is);
  made = nothing_over (c.constant.ensures.made _);
  folds = λ h. (c.constant.ensures.known, refl);
}

pub returns-in_ok-shifted-in-Signed : goal.returns-in_ok-shifted-in-Signed
returns-in_ok-shifted-in-Signed c = record {
  grows = c.in_ok-shifted-in-Signed.ensures.grows;
  value = let least : c.min.result ≡ min c.args.by (c.in-Signed.width - 1) = search rules in sign_carries _ _ c.args.x _ _ c.args.by c.min.result c.in-Signed.is least c.requires c.in_ok-shifted-in-Signed.ensures.grows.includes c.in_ok-shifted-in-Signed.ensures.value;
  made = c.in_ok-shifted-in-Signed.ensures.made;
  folds = c.in_ok-shifted-in-Signed.ensures.folds;
}

pub constant-requires-clause-width : goal.constant-requires-clause-width
constant-requires-clause-width c = type_width _ _ c.in-Unsigned.is c.requires.ty

pub returns-in_ok-shifted-in-Unsigned : goal.returns-in_ok-shifted-in-Unsigned
returns-in_ok-shifted-in-Unsigned c = c.in_ok-shifted-in-Unsigned.ensures

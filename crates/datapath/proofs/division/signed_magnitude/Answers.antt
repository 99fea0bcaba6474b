use Rattle.std.proofs.Common.{◌∙◌, sym, ap}
use Rattle.datapath.proofs.Divided.{magnitude_carries}
use Rattle.datapath.proofs.Growth.{then_grows}
use Rattle.datapath.proofs.Over.{then_two, itself_over, over_later}
use Rattle.datapath.proofs.Composed.{top_part, sign_chosen}
use Rattle.dk_base.specs.Types.{width_of}
use Rattle.datapath.proofs.Failing.{at_err}
use Rattle.datapath.proofs.division.signed_magnitude.Goals as goal

pub returns : goal.returns
returns c = record {
  grows = then_grows c.in_ok-sign.ensures.grows c.in_ok-atom.ensures.grows;
  value = magnitude_carries _ _ _ c.args.x _ _ _ c.requires.ty c.requires.x c.in_ok-sign.ensures.grows.includes c.in_ok-atom.ensures.grows.includes c.in_ok-sign.ensures.word c.in_ok-atom.ensures.word;
  made = then_two 0 c.in_ok-atom.ensures.made (over_later c.in_ok-atom.ensures.grows.includes c.in_ok-sign.ensures.made) itself_over;
  folds = λ h. let sign = c.in_ok-sign.ensures.folds h in let all = c.in_ok-atom.ensures.folds (sign.0, (h.0, tt)) in (all.0, all.1 ∙ sign.1);
}

pub returns-in_err-atom : goal.returns-in_err-atom
returns-in_err-atom c = at_err _ _ c.from_residual-in_err-atom.result c.from_residual-in_err-atom.ensures.1 (then_grows c.in_ok-sign.ensures.grows c.in_err-atom.ensures)

pub part-requires : goal.part-requires
part-requires c = top_part _ c.args.x _ (sym (ap width_of c.requires.ty)) c.requires.x

pub turned-requires : goal.turned-requires
turned-requires c = sign_chosen _ _ c.args.x _ _ c.requires.ty c.requires.x c.in_ok-sign.ensures.grows.includes c.in_ok-sign.ensures.word.width

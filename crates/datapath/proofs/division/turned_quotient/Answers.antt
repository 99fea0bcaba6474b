use Rattle.std.proofs.Common.{◌∙◌, arith, sym, ap}
use Rattle.datapath.proofs.Growth.{then_grows}
use Rattle.datapath.proofs.Divided.{signed_quotient_carries}
use Rattle.datapath.proofs.Over.{over_deeper, then_one, then_two, over_later}
use Rattle.datapath.proofs.Composed.{top_part, sign_chosen}
use Rattle.dk_base.specs.Types.{width_of}
use Rattle.datapath.proofs.Carried.{operand_later}
use Rattle.datapath.proofs.Failing.{at_err}
use Rattle.datapath.proofs.division.turned_quotient.Goals as goal

pub returns : goal.returns
returns c = record {
  grows = then_grows (then_grows (then_grows c.in_ok-size.ensures.grows c.in_ok-q.ensures.grows) c.in_ok-sign.ensures.grows) c.in_ok-atom.ensures.grows;
  value = signed_quotient_carries _ _ _ _ _ c.args.x c.in_ok-size.size c.in_ok-q.q _ _ _ c.args.by c.requires.operand.ty c.requires.operand.x c.in_ok-size.ensures.grows.includes c.in_ok-q.ensures.grows.includes c.in_ok-sign.ensures.grows.includes c.in_ok-atom.ensures.grows.includes c.in_ok-size.ensures.value c.in_ok-q.ensures.value c.in_ok-sign.ensures.word c.in_ok-atom.ensures.word;
  made = then_two 3 c.in_ok-atom.ensures.made (over_later c.in_ok-atom.ensures.grows.includes (over_deeper (omega arith) c.in_ok-sign.ensures.made)) (over_later c.in_ok-atom.ensures.grows.includes (over_later c.in_ok-sign.ensures.grows.includes (then_one 2 c.in_ok-q.ensures.made (over_later c.in_ok-q.ensures.grows.includes c.in_ok-size.ensures.made))));
  folds = λ h. let size = c.in_ok-size.ensures.folds h in let q = c.in_ok-q.ensures.folds (size.0, tt) in let sign = c.in_ok-sign.ensures.folds h in let all = c.in_ok-atom.ensures.folds (sign.0, (q.0, tt)) in (all.0, all.1 ∙ sign.1 ∙ q.1 ∙ size.1);
}

pub returns-in_err-q : goal.returns-in_err-q
returns-in_err-q c = at_err _ _ c.from_residual-in_err-q.result c.from_residual-in_err-q.ensures.1 (then_grows c.in_ok-size.ensures.grows c.in_err-q.ensures)

pub returns-in_err-sign : goal.returns-in_err-sign
returns-in_err-sign c = at_err _ _ c.from_residual-in_err-sign.result c.from_residual-in_err-sign.ensures.1 (then_grows (then_grows c.in_ok-size.ensures.grows c.in_ok-q.ensures.grows) c.in_err-sign.ensures)

pub returns-in_err-atom : goal.returns-in_err-atom
returns-in_err-atom c = at_err _ _ c.from_residual-in_err-atom.result c.from_residual-in_err-atom.ensures.1 (then_grows (then_grows (then_grows c.in_ok-size.ensures.grows c.in_ok-q.ensures.grows) c.in_ok-sign.ensures.grows) c.in_err-atom.ensures)

pub signed_magnitude-requires : goal.signed_magnitude-requires
signed_magnitude-requires c = c.requires.operand

pub unsigned_quotient-requires-clause-operand : goal.unsigned_quotient-requires-clause-operand
unsigned_quotient-requires-clause-operand c = record { x = c.in_ok-size.ensures.value.operand; ty = c.in_ok-size.ensures.value.is }

pub part-requires : goal.part-requires
part-requires c = top_part _ c.args.x _ (sym (ap width_of c.requires.operand.ty)) (operand_later _ _ _ (then_grows c.in_ok-size.ensures.grows c.in_ok-q.ensures.grows) c.requires.operand.x)

pub turned-requires : goal.turned-requires
turned-requires c = sign_chosen _ _ c.in_ok-q.q _ _ c.in_ok-q.ensures.value.is c.in_ok-q.ensures.value.operand c.in_ok-sign.ensures.grows.includes c.in_ok-sign.ensures.word.width

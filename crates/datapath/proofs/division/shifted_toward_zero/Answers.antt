use Rattle.std.proofs.Common.{◌∙◌, ◌≡◌, ◌+◌, ◌-◌, sym, ap, arith}
use Rattle.datapath.proofs.Growth.{then_grows, width_later, has_width_of}
use Rattle.datapath.proofs.Over.{then_one, then_two, itself_over, over_later}
use Rattle.datapath.proofs.Toward.{toward_carries}
use Rattle.datapath.proofs.Composed.{top_part, type_width}
use Rattle.dk_base.specs.Types.{width_of}
use Rattle.datapath.proofs.Divided.{at_type}
use Rattle.datapath.proofs.Failing.{at_err}
use Rattle.datapath.proofs.division.shifted_toward_zero.Goals as goal

pub returns : goal.returns
returns c = record {
  grows = then_grows (then_grows (then_grows (then_grows c.in_ok-sign.ensures.grows c.in_ok-ones.ensures.grows) c.in_ok-missing.ensures.grows) c.in_ok-bits.ensures.grows) c.in_ok-quotient.ensures.grows;
  value = toward_carries _ _ _ _ _ _ c.args.x c.in_ok-quotient.quotient _ _ _ _ c.args.width c.args.by c.requires.operand.ty c.requires.by.1 c.requires.operand.x c.in_ok-sign.ensures.grows.includes c.in_ok-ones.ensures.grows.includes c.in_ok-missing.ensures.grows.includes c.in_ok-bits.ensures.grows.includes c.in_ok-quotient.ensures.grows.includes c.in_ok-sign.ensures.word c.in_ok-ones.ensures.word c.in_ok-missing.ensures.word c.in_ok-bits.ensures.word c.in_ok-quotient.ensures.value;
  made = then_one 1 c.in_ok-quotient.ensures.made (over_later c.in_ok-quotient.ensures.grows.includes (then_two 0 c.in_ok-bits.ensures.made itself_over (over_later c.in_ok-bits.ensures.grows.includes (then_one 0 c.in_ok-missing.ensures.made (over_later c.in_ok-missing.ensures.grows.includes (then_one 0 c.in_ok-ones.ensures.made (over_later c.in_ok-ones.ensures.grows.includes c.in_ok-sign.ensures.made)))))));
  folds = λ h. let sign = c.in_ok-sign.ensures.folds h in let ones = c.in_ok-ones.ensures.folds (sign.0, tt) in let missing = c.in_ok-missing.ensures.folds (ones.0, tt) in let bits = c.in_ok-bits.ensures.folds (h.0, (missing.0, tt)) in let all = c.in_ok-quotient.ensures.folds (bits.0, tt) in (all.0, all.1 ∙ bits.1 ∙ missing.1 ∙ ones.1 ∙ sign.1);
}

pub returns-in_err-ones : goal.returns-in_err-ones
returns-in_err-ones c = at_err _ _ c.from_residual-in_err-ones.result c.from_residual-in_err-ones.ensures.1 (then_grows c.in_ok-sign.ensures.grows c.in_err-ones.ensures)

pub returns-in_err-missing : goal.returns-in_err-missing
returns-in_err-missing c = at_err _ _ c.from_residual-in_err-missing.result c.from_residual-in_err-missing.ensures.1 (then_grows (then_grows c.in_ok-sign.ensures.grows c.in_ok-ones.ensures.grows) c.in_err-missing.ensures)

pub returns-in_err-bits : goal.returns-in_err-bits
returns-in_err-bits c = at_err _ _ c.from_residual-in_err-bits.result c.from_residual-in_err-bits.ensures.1 (then_grows (then_grows (then_grows c.in_ok-sign.ensures.grows c.in_ok-ones.ensures.grows) c.in_ok-missing.ensures.grows) c.in_err-bits.ensures)

pub returns-in_err-quotient : goal.returns-in_err-quotient
returns-in_err-quotient c = at_err _ _ c.from_residual-in_err-quotient.result c.from_residual-in_err-quotient.ensures.1 (then_grows (then_grows (then_grows (then_grows c.in_ok-sign.ensures.grows c.in_ok-ones.ensures.grows) c.in_ok-missing.ensures.grows) c.in_ok-bits.ensures.grows) c.in_err-quotient.ensures)

pub part-requires : goal.part-requires
part-requires c = top_part _ c.args.x _ (sym (ap width_of c.requires.operand.ty)) c.requires.operand.x

pub repeat-requires-clause-width : goal.repeat-requires-clause-width
repeat-requires-clause-width c = let most = (type_width _ _ c.requires.operand.ty c.requires.operand.x.ty).1 in let by = c.requires.by.1 in (c.requires.by.0, omega (arith, by, most))

pub repeat-requires-clause-x : goal.repeat-requires-clause-x
repeat-requires-clause-x c = c.in_ok-sign.ensures.word.width

pub with_zeros-requires : goal.with_zeros-requires
with_zeros-requires c =
    let most = (type_width _ _ c.requires.operand.ty c.requires.operand.x.ty).1 in
    let by = c.requires.by.1 in
    record { high = omega (arith, by); low = c.requires.by.0; most = omega (arith, by, most); x = c.in_ok-ones.ensures.word.width }

pub operated-requires : goal.operated-requires
operated-requires c =
    let by = c.requires.by.1 in
    let whole : c.args.width ≡ c.args.width - c.args.by + c.args.by = omega (arith, by) in
    record {
      width = type_width _ _ c.requires.operand.ty c.requires.operand.x.ty;
      x = width_later _ _ _ _ (then_grows (then_grows c.in_ok-sign.ensures.grows c.in_ok-ones.ensures.grows) c.in_ok-missing.ensures.grows) (at_type _ c.args.x _ c.requires.operand.ty c.requires.operand.x).width;
      y = has_width_of whole c.in_ok-missing.ensures.word.width;
      divisor = tt;
    }

pub shift_right-requires : goal.shift_right-requires
shift_right-requires c = record { ty = c.requires.operand.x.ty; width = has_width_of (ap width_of c.requires.operand.ty) c.in_ok-bits.ensures.word.width }

use Rattle.std.proofs.Common.{ap, sym, ◌∙◌, arith}
use Rattle.datapath.specs.Nets.{bits_of}
use Rattle.datapath.proofs.Growth.{then_grows, width_later}
use Rattle.datapath.proofs.Limits.{high_word, high_signed_word}
use Rattle.datapath.proofs.Over.{then_one, then_two, itself_over, nothing_over, over_later}
use Rattle.datapath.proofs.Composed.{top_part, type_width}
use Rattle.datapath.proofs.Divided.{at_type}
use Rattle.dk_base.specs.Types.{width_of}
use Rattle.datapath.proofs.Failing.{at_err}
use Rattle.datapath.proofs.saturation.above_test.Goals as goal

pub returns-in_ok-high-in-Unsigned : goal.returns-in_ok-high-in-Unsigned
returns-in_ok-high-in-Unsigned c = record {
  grows = c.in_ok-high-in-Unsigned.ensures.grows;
  word = high_word _ _ c.args.x c.args.ty c.constant.result _ _ _ c.in-Unsigned.is c.requires.operand.x c.greatest-most.ensures c.in_ok-high-in-Unsigned.ensures.grows.includes (λ nets. ap (bits_of nets) c.constant.ensures.is) c.in_ok-high-in-Unsigned.ensures.word;
  made = then_two 1 c.in_ok-high-in-Unsigned.ensures.made (nothing_over (c.constant.ensures.made _)) itself_over;
  folds = λ h. c.in_ok-high-in-Unsigned.ensures.folds (c.constant.ensures.known, (h.0, tt));
}

pub returns-in_err-positive-in-Signed : goal.returns-in_err-positive-in-Signed
returns-in_err-positive-in-Signed c = at_err _ _ c.from_residual-in_err-positive-in-Signed.result c.from_residual-in_err-positive-in-Signed.ensures.1 (then_grows c.in_ok-sign-in-Signed.ensures.grows c.in_err-positive-in-Signed.ensures)

pub returns-in_err-high-in-Signed : goal.returns-in_err-high-in-Signed
returns-in_err-high-in-Signed c = at_err _ _ c.from_residual-in_err-high-in-Signed.result c.from_residual-in_err-high-in-Signed.ensures.1 (then_grows (then_grows c.in_ok-sign-in-Signed.ensures.grows c.in_ok-positive-in-Signed.ensures.grows) c.in_err-high-in-Signed.ensures)

pub returns-in_err-test-in-Signed : goal.returns-in_err-test-in-Signed
returns-in_err-test-in-Signed c = at_err _ _ c.from_residual-in_err-test-in-Signed.result c.from_residual-in_err-test-in-Signed.ensures.1 (then_grows (then_grows (then_grows c.in_ok-sign-in-Signed.ensures.grows c.in_ok-positive-in-Signed.ensures.grows) c.in_ok-high-in-Signed.ensures.grows) c.in_err-test-in-Signed.ensures)

pub returns-in_ok-test-in-Signed : goal.returns-in_ok-test-in-Signed
returns-in_ok-test-in-Signed c = record {
  grows = then_grows (then_grows (then_grows c.in_ok-sign-in-Signed.ensures.grows c.in_ok-positive-in-Signed.ensures.grows) c.in_ok-high-in-Signed.ensures.grows) c.in_ok-test-in-Signed.ensures.grows;
  word = high_signed_word _ _ _ _ _ c.args.x c.args.ty _ _ c.constant-in-Signed.result _ _ _ _ c.in-Signed.is c.requires.operand.x c.greatest-most.ensures c.in_ok-sign-in-Signed.ensures.grows.includes c.in_ok-positive-in-Signed.ensures.grows.includes c.in_ok-high-in-Signed.ensures.grows.includes c.in_ok-test-in-Signed.ensures.grows.includes (λ nets. ap (bits_of nets) c.constant-in-Signed.ensures.is) c.in_ok-sign-in-Signed.ensures.word c.in_ok-positive-in-Signed.ensures.word c.in_ok-high-in-Signed.ensures.word c.in_ok-test-in-Signed.ensures.word;
  made = then_two 1 c.in_ok-test-in-Signed.ensures.made (over_later c.in_ok-test-in-Signed.ensures.grows.includes (over_later c.in_ok-high-in-Signed.ensures.grows.includes (then_one 0 c.in_ok-positive-in-Signed.ensures.made (over_later c.in_ok-positive-in-Signed.ensures.grows.includes c.in_ok-sign-in-Signed.ensures.made)))) (over_later c.in_ok-test-in-Signed.ensures.grows.includes (then_two 0 c.in_ok-high-in-Signed.ensures.made (nothing_over (c.constant-in-Signed.ensures.made _)) itself_over));
  folds = λ h. let sign = c.in_ok-sign-in-Signed.ensures.folds h in let positive = c.in_ok-positive-in-Signed.ensures.folds (sign.0, tt) in let high = c.in_ok-high-in-Signed.ensures.folds (c.constant-in-Signed.ensures.known, (h.0, tt)) in let all = c.in_ok-test-in-Signed.ensures.folds (positive.0, (high.0, tt)) in (all.0, all.1 ∙ high.1 ∙ positive.1 ∙ sign.1);
}

pub constant-requires-clause-width : goal.constant-requires-clause-width
constant-requires-clause-width c = type_width _ _ c.in-Unsigned.is c.requires.operand.x.ty

pub constant-requires-in-Signed-clause-width : goal.constant-requires-in-Signed-clause-width
constant-requires-in-Signed-clause-width c = type_width _ _ c.in-Signed.is c.requires.operand.x.ty

pub operated-requires : goal.operated-requires
operated-requires c = record { width = (omega arith, omega arith); x = c.constant.ensures.width _; y = (at_type _ c.args.x _ c.in-Unsigned.is c.requires.operand.x).width; divisor = tt }

pub part-requires : goal.part-requires
part-requires c = top_part _ c.args.x _ (sym (ap width_of c.in-Signed.is)) c.requires.operand.x

pub complement-requires : goal.complement-requires
complement-requires c = record { width = (omega arith, omega arith); x = c.in_ok-sign-in-Signed.ensures.word.width }

pub operated-requires-in-Signed : goal.operated-requires-in-Signed
operated-requires-in-Signed c = record { width = (omega arith, omega arith); x = c.constant-in-Signed.ensures.width _; y = width_later _ _ _ _ (then_grows c.in_ok-sign-in-Signed.ensures.grows c.in_ok-positive-in-Signed.ensures.grows) (at_type _ c.args.x _ c.in-Signed.is c.requires.operand.x).width; divisor = tt }

pub operated-requires-in-Signed-2 : goal.operated-requires-in-Signed-2
operated-requires-in-Signed-2 c = record { width = (omega arith, omega arith); x = width_later _ _ _ _ c.in_ok-high-in-Signed.ensures.grows c.in_ok-positive-in-Signed.ensures.word.width; y = c.in_ok-high-in-Signed.ensures.word.width; divisor = tt }

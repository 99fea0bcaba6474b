use Rattle.std.proofs.Common.{◌≡◌, ◌-◌, ap, ◌∙◌, arith}
use Rattle.datapath.specs.Nets.{bits_of}
use Rattle.dk_base.specs.Types.{below}
use Rattle.datapath.proofs.Growth.{then_grows, has_width_of}
use Rattle.datapath.proofs.Limits.{low_word, sign_word}
use Rattle.datapath.proofs.Over.{over_deeper, then_two, nothing_over, over_later}
use Rattle.datapath.proofs.Composed.{top_part, type_is}
use Rattle.datapath.proofs.Failing.{at_err}
use Rattle.datapath.proofs.saturation.below_test.Goals as goal

pub returns-then-least-eq0 : goal.returns-then-least-eq0
returns-then-least-eq0 c = record {
  grows = c.in_ok-sign.ensures.grows;
  word = let none : below c.args.ty ≡ 0 = omega (arith, c.if-least-eq0.true, c.below-least.ensures.value) in sign_word _ _ c.args.x c.args.ty _ _ c.requires.operand.x c.width-width.ensures none c.requires.deeper c.in_ok-sign.ensures.grows.includes c.in_ok-sign.ensures.word;
  made = over_deeper (omega arith) c.in_ok-sign.ensures.made;
  folds = c.in_ok-sign.ensures.folds;
}

pub returns-in_err-low : goal.returns-in_err-low
returns-in_err-low c = at_err _ _ c.from_residual-in_err-low.result c.from_residual-in_err-low.ensures.1 (then_grows c.in_ok-up.ensures.grows c.in_err-low.ensures)

pub returns : goal.returns
returns c = record {
  grows = then_grows c.in_ok-up.ensures.grows c.in_ok-low.ensures.grows;
  word = let limit : c.below.result - c.below-least.result ≡ below c.args.x.ty - below c.args.ty = omega (arith, c.below.ensures.value, c.below-least.ensures.value) in low_word _ _ _ c.args.x c.args.ty _ c.constant-limit.result _ _ c.requires.operand.x c.requires.deeper c.in_ok-up.ensures.grows.includes c.in_ok-low.ensures.grows.includes (λ nets. ap (bits_of nets) c.constant-limit.ensures.is ∙ limit) c.in_ok-up.ensures.word c.in_ok-low.ensures.word;
  made = then_two 1 c.in_ok-low.ensures.made (over_later c.in_ok-low.ensures.grows.includes c.in_ok-up.ensures.made) (nothing_over (c.constant-limit.ensures.made _));
  folds = λ h. let up = c.in_ok-up.ensures.folds h in let all = c.in_ok-low.ensures.folds (up.0, (c.constant-limit.ensures.known, tt)) in (all.0, all.1 ∙ up.1);
}

pub part-requires : goal.part-requires
part-requires c = top_part _ c.args.x _ c.width-width.ensures c.requires.operand.x

pub offset-requires : goal.offset-requires
offset-requires c = record { x = c.requires.operand.x; ty = c.requires.operand.x.ty; within = record { low = omega arith; high = omega arith } }

pub constant-limit-requires-clause-width : goal.constant-limit-requires-clause-width
constant-limit-requires-clause-width c = type_is _ _ c.width-width.ensures c.requires.operand.x.ty

pub operated-requires : goal.operated-requires
operated-requires c = record { width = (omega arith, omega arith); x = has_width_of c.width-width.ensures c.in_ok-up.ensures.word.width; y = c.constant-limit.ensures.width _; divisor = tt }

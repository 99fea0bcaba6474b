use Rattle.datapath.proofs.Resized.{narrow_word, zeros_word, signs_word, narrow_part, widened}
use Rattle.datapath.proofs.resize.resized.Goals as goal

pub returns-then-width-low : goal.returns-then-width-low
returns-then-width-low c = record {
  grows = c.in_ok-atom-in-Unsigned.ensures.grows;
  word = narrow_word _ _ c.args.x _ _ _ c.in-Unsigned.is c.requires.operand c.if-width-low.true c.in_ok-atom-in-Unsigned.ensures.grows.includes c.in_ok-atom-in-Unsigned.ensures.word;
  made = c.in_ok-atom-in-Unsigned.ensures.made;
  folds = c.in_ok-atom-in-Unsigned.ensures.folds;
}

pub returns-then-width-low-2 : goal.returns-then-width-low-2
returns-then-width-low-2 c = record {
  grows = c.in_ok-atom-in-Signed.ensures.grows;
  word = narrow_word _ _ c.args.x _ _ _ c.in-Signed.is c.requires.operand c.if-width-low-2.true c.in_ok-atom-in-Signed.ensures.grows.includes c.in_ok-atom-in-Signed.ensures.word;
  made = c.in_ok-atom-in-Signed.ensures.made;
  folds = c.in_ok-atom-in-Signed.ensures.folds;
}

pub returns-in_ok-atom-in-Unsigned-2 : goal.returns-in_ok-atom-in-Unsigned-2
returns-in_ok-atom-in-Unsigned-2 c = record {
  grows = c.in_ok-atom-in-Unsigned-2.ensures.grows;
  word = zeros_word _ _ c.args.x _ _ _ c.in-Unsigned.is c.requires.operand c.if-width-low.false c.in_ok-atom-in-Unsigned-2.ensures.grows.includes c.in_ok-atom-in-Unsigned-2.ensures.word;
  made = c.in_ok-atom-in-Unsigned-2.ensures.made;
  folds = c.in_ok-atom-in-Unsigned-2.ensures.folds;
}

pub returns-in_ok-atom-in-Signed-2 : goal.returns-in_ok-atom-in-Signed-2
returns-in_ok-atom-in-Signed-2 c = record {
  grows = c.in_ok-atom-in-Signed-2.ensures.grows;
  word = signs_word _ _ c.args.x _ _ _ c.in-Signed.is c.requires.operand c.if-width-low-2.false c.in_ok-atom-in-Signed-2.ensures.grows.includes c.in_ok-atom-in-Signed-2.ensures.word;
  made = c.in_ok-atom-in-Signed-2.ensures.made;
  folds = c.in_ok-atom-in-Signed-2.ensures.folds;
}

pub part-requires : goal.part-requires
part-requires c = narrow_part _ c.args.x _ _ c.in-Unsigned.is c.requires.operand c.requires.width c.if-width-low.true

pub part-requires-then-width-low-2 : goal.part-requires-then-width-low-2
part-requires-then-width-low-2 c = narrow_part _ c.args.x _ _ c.in-Signed.is c.requires.operand c.requires.width c.if-width-low-2.true

pub with_zeros-requires : goal.with_zeros-requires
with_zeros-requires c = widened _ c.args.x _ _ c.in-Unsigned.is c.requires.operand c.requires.width c.if-width-low.false

pub with_signs-requires : goal.with_signs-requires
with_signs-requires c = widened _ c.args.x _ _ c.in-Signed.is c.requires.operand c.requires.width c.if-width-low-2.false

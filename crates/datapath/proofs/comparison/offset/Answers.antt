use Rattle.datapath.proofs.Growth.{then_grows}
use Rattle.std.proofs.Common.{ap, ◌∙◌, arith}
use Rattle.datapath.specs.Nets.{bits_of}
use Rattle.datapath.proofs.Compared.{offset_unsigned_word, offset_signed_word}
use Rattle.datapath.proofs.Over.{over_deeper, then_two, nothing_over, over_later}
use Rattle.datapath.proofs.Composed.{type_width}
use Rattle.datapath.proofs.Failing.{at_err}
use Rattle.datapath.proofs.comparison.offset.Goals as goal

pub returns-in_ok-atom-in-Unsigned : goal.returns-in_ok-atom-in-Unsigned
returns-in_ok-atom-in-Unsigned c = record {
  grows = c.in_ok-atom-in-Unsigned.ensures.grows;
  word = offset_unsigned_word _ _ c.args.x _ c.args.ty _ c.in-Unsigned.is c.requires.ty c.requires.within c.requires.x c.in_ok-atom-in-Unsigned.ensures.grows.includes c.in_ok-atom-in-Unsigned.ensures.word;
  made = over_deeper (omega arith) c.in_ok-atom-in-Unsigned.ensures.made;
  folds = c.in_ok-atom-in-Unsigned.ensures.folds;
}

pub returns-in_ok-atom-in-Signed : goal.returns-in_ok-atom-in-Signed
returns-in_ok-atom-in-Signed c = record {
  grows = then_grows c.in_ok-bits-in-Signed.ensures.grows c.in_ok-atom-in-Signed.ensures.grows;
  word = offset_signed_word _ _ _ c.args.x _ c.top_bit-half.result _ c.args.ty _ c.in-Signed.is c.requires.ty c.requires.within c.requires.x c.in_ok-bits-in-Signed.ensures.grows.includes c.in_ok-atom-in-Signed.ensures.grows.includes (λ nets. ap (bits_of nets) c.top_bit-half.ensures.is) c.in_ok-bits-in-Signed.ensures.word c.in_ok-atom-in-Signed.ensures.word;
  made = then_two 0 c.in_ok-atom-in-Signed.ensures.made (over_later c.in_ok-atom-in-Signed.ensures.grows.includes c.in_ok-bits-in-Signed.ensures.made) (nothing_over (c.top_bit-half.ensures.made _));
  folds = λ h. let bits = c.in_ok-bits-in-Signed.ensures.folds h in let all = c.in_ok-atom-in-Signed.ensures.folds (bits.0, (c.top_bit-half.ensures.known, tt)) in (all.0, all.1 ∙ bits.1);
}

pub returns-in_err-atom-in-Signed : goal.returns-in_err-atom-in-Signed
returns-in_err-atom-in-Signed c = at_err _ _ c.from_residual-in_err-atom-in-Signed.result c.from_residual-in_err-atom-in-Signed.ensures.1 (then_grows c.in_ok-bits-in-Signed.ensures.grows c.in_err-atom-in-Signed.ensures)

pub resized-requires : goal.resized-requires
resized-requires c = record { operand = c.requires.x; width = type_width _ _ c.in-Unsigned.is c.requires.ty }

pub resized-requires-in-Signed : goal.resized-requires-in-Signed
resized-requires-in-Signed c = record { operand = c.requires.x; width = type_width _ _ c.in-Signed.is c.requires.ty }

pub top_bit-half-requires : goal.top_bit-half-requires
top_bit-half-requires c = type_width _ _ c.in-Signed.is c.requires.ty

pub operated-requires : goal.operated-requires
operated-requires c = record { width = type_width _ _ c.in-Signed.is c.requires.ty; x = c.in_ok-bits-in-Signed.ensures.word.width; y = c.top_bit-half.ensures.width _; divisor = tt }

use Rattle.std.proofs.Common.{ap, refl, ◌∙◌}
use Rattle.datapath.specs.Nets.{bits_of}
use Rattle.datapath.proofs.Carried.{negation_carries, negated_width}
use Rattle.datapath.proofs.Growth.{then_grows}
use Rattle.datapath.proofs.Over.{then_two, nothing_over, over_later}
use Rattle.datapath.proofs.Failing.{at_err}
use Rattle.datapath.proofs.arithmetic.negation.Goals as goal

pub returns : goal.returns
returns c = record {
  grows = then_grows c.in_ok-right.ensures.grows c.in_ok-atom.ensures.grows;
  value = negation_carries _ _ _ c.args.x c.constant.result _ _ _ _ c.width-width.ensures refl c.requires.ty c.requires.x c.in_ok-right.ensures.grows.includes c.in_ok-atom.ensures.grows.includes (λ nets. ap (bits_of nets) c.constant.ensures.is) c.in_ok-right.ensures.word c.in_ok-atom.ensures.word;
  made = then_two 0 c.in_ok-atom.ensures.made (nothing_over (c.constant.ensures.made _)) (over_later c.in_ok-atom.ensures.grows.includes c.in_ok-right.ensures.made);
  folds = λ h. let right = c.in_ok-right.ensures.folds (h.0, tt) in let all = c.in_ok-atom.ensures.folds (c.constant.ensures.known, (right.0, tt)) in (all.0, all.1 ∙ right.1);
}

pub returns-in_err-atom : goal.returns-in_err-atom
returns-in_err-atom c = at_err _ _ c.from_residual-in_err-atom.result c.from_residual-in_err-atom.ensures.1 (then_grows c.in_ok-right.ensures.grows c.in_err-atom.ensures)

pub resized-requires : goal.resized-requires
resized-requires c = record { operand = c.requires.x; width = negated_width c.args.x _ c.width-width.ensures c.requires.ty }

pub operated-requires : goal.operated-requires
operated-requires c = record { width = negated_width c.args.x _ c.width-width.ensures c.requires.ty; x = c.constant.ensures.width _; y = c.in_ok-right.ensures.word.width; divisor = tt }

pub constant-requires-clause-width : goal.constant-requires-clause-width
constant-requires-clause-width c = negated_width c.args.x _ c.width-width.ensures c.requires.ty

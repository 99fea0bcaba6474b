use Rattle.std.proofs.Common.{ap, ◌∙◌}
use Rattle.datapath.specs.Nets.{bits_of}
use Rattle.datapath.proofs.Divided.{turned_word}
use Rattle.datapath.proofs.Growth.{then_grows, width_later}
use Rattle.datapath.proofs.Over.{then_two, then_three, nothing_over, over_later, first_over, second_over}
use Rattle.datapath.proofs.Failing.{at_err}
use Rattle.datapath.proofs.division.turned.Goals as goal

pub returns : goal.returns
returns c = record {
  grows = then_grows c.in_ok-negative.ensures.grows c.in_ok-atom.ensures.grows;
  word = turned_word _ _ c.args.sign c.args.x c.constant.result _ _ _ c.in_ok-atom.ensures.grows.includes (λ nets. ap (bits_of nets) c.constant.ensures.is) c.in_ok-negative.ensures.word c.in_ok-atom.ensures.word;
  made = then_three 1 c.in_ok-atom.ensures.made first_over (over_later c.in_ok-atom.ensures.grows.includes (then_two 0 c.in_ok-negative.ensures.made (nothing_over (c.constant.ensures.made _)) second_over)) second_over;
  folds = λ h. let negative = c.in_ok-negative.ensures.folds (c.constant.ensures.known, (h.1.0, tt)) in let all = c.in_ok-atom.ensures.folds (h.0, (negative.0, (h.1.0, tt))) in (all.0, all.1 ∙ negative.1);
}

pub returns-in_err-atom : goal.returns-in_err-atom
returns-in_err-atom c = at_err _ _ c.from_residual-in_err-atom.result c.from_residual-in_err-atom.ensures.1 (then_grows c.in_ok-negative.ensures.grows c.in_err-atom.ensures)

pub constant-requires-clause-width : goal.constant-requires-clause-width
constant-requires-clause-width c = c.requires.width

pub operated-requires : goal.operated-requires
operated-requires c = record { width = c.requires.width; x = c.constant.ensures.width _; y = c.requires.x; divisor = tt }

pub choose-requires : goal.choose-requires
choose-requires c = record {
  width = c.requires.width;
  c = width_later _ _ _ _ c.in_ok-negative.ensures.grows c.requires.c;
  x = c.in_ok-negative.ensures.word.width;
  y = width_later _ _ _ _ c.in_ok-negative.ensures.grows c.requires.x;
}

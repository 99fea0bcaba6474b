use Rattle.std.proofs.Common.{◌∙◌, arith}
use Rattle.datapath.proofs.WordParts.{signs_of}
use Rattle.datapath.proofs.Growth.{then_grows, width_later}
use Rattle.datapath.proofs.Over.{itself_over, then_one, then_two, over_later}
use Rattle.datapath.proofs.Failing.{at_err}
use Rattle.datapath.proofs.words.with_signs.Goals as goal

pub returns : goal.returns
returns c = record {
  grows = then_grows (then_grows c.in_ok-sign.ensures.grows c.in_ok-signs.ensures.grows) c.in_ok-atom.ensures.grows;
  word = signs_of _ _ _ c.args.x _ _ _ _ _ c.in_ok-signs.ensures.grows.includes c.in_ok-atom.ensures.grows.includes c.in_ok-sign.ensures.word c.in_ok-signs.ensures.word c.in_ok-atom.ensures.word;
  made = then_two 0 c.in_ok-atom.ensures.made (over_later c.in_ok-atom.ensures.grows.includes (then_one 0 c.in_ok-signs.ensures.made (over_later c.in_ok-signs.ensures.grows.includes c.in_ok-sign.ensures.made))) itself_over;
  folds = λ h. let sign = c.in_ok-sign.ensures.folds h in let signs = c.in_ok-signs.ensures.folds (sign.0, tt) in let all = c.in_ok-atom.ensures.folds (signs.0, (h.0, tt)) in (all.0, all.1 ∙ signs.1 ∙ sign.1);
}

pub returns-in_err-signs : goal.returns-in_err-signs
returns-in_err-signs c = at_err _ _ c.from_residual-in_err-signs.result c.from_residual-in_err-signs.ensures.1 (then_grows c.in_ok-sign.ensures.grows c.in_err-signs.ensures)

pub returns-in_err-atom : goal.returns-in_err-atom
returns-in_err-atom c = at_err _ _ c.from_residual-in_err-atom.result c.from_residual-in_err-atom.ensures.1 (then_grows (then_grows c.in_ok-sign.ensures.grows c.in_ok-signs.ensures.grows) c.in_err-atom.ensures)

pub part-requires : goal.part-requires
part-requires c = let low = c.requires.low in let most = c.requires.most in record { width = (low, omega (arith, most)); some = omega arith; inside = omega (arith, low); x = c.requires.x }

pub repeat-requires-clause-width : goal.repeat-requires-clause-width
repeat-requires-clause-width c = let most = c.requires.most in (c.requires.high, omega (arith, most))

pub repeat-requires-clause-x : goal.repeat-requires-clause-x
repeat-requires-clause-x c = c.in_ok-sign.ensures.word.width

pub join-requires : goal.join-requires
join-requires c = record { some = c.requires.low; most = c.requires.most; x = c.in_ok-signs.ensures.word.width; y = width_later _ _ _ _ (then_grows c.in_ok-sign.ensures.grows c.in_ok-signs.ensures.grows) c.requires.x }

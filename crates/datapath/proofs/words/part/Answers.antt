use Rattle.std.proofs.Common.{refl}
use Rattle.datapath.proofs.WordParts.{whole_part, part_word}
use Rattle.datapath.proofs.Growth.{then_grows, grows_itself}
use Rattle.datapath.proofs.Over.{itself_over, then_one, over_later}
use Rattle.datapath.proofs.Composed.{known_over}
use Rattle.datapath.proofs.Failing.{at_err}
use Rattle.datapath.proofs.words.part.Goals as goal

pub returns-then-count-width : goal.returns-then-count-width
returns-then-count-width c = record {
  grows = grows_itself _;
  word = whole_part _ _ c.args.low _ _ c.if-count-width.true c.requires.inside c.requires.x;
  made = itself_over;
  folds = λ h. (h.0, refl);
}

pub returns : goal.returns
returns c = record {
  grows = then_grows c.in_ok-whole.ensures.net.grows c.in_ok-atom.ensures.grows;
  word = part_word _ _ _ _ c.args.x _ _ _ c.in_ok-atom.ensures.grows.includes c.in_ok-whole.ensures.net.word c.in_ok-atom.ensures.word;
  made = then_one 0 c.in_ok-atom.ensures.made (over_later c.in_ok-atom.ensures.grows.includes c.in_ok-whole.ensures.net.made);
  folds = λ h. absurd (c.in-None.ensures h);
}

pub returns-in_err-atom : goal.returns-in_err-atom
returns-in_err-atom c = at_err _ _ c.from_residual-in_err-atom.result c.from_residual-in_err-atom.ensures.1 (then_grows c.in_ok-whole.ensures.net.grows c.in_err-atom.ensures)

pub returns-in-Some : goal.returns-in-Some
returns-in-Some c = known_over c.in-Some.ensures

pub folded_part-requires : goal.folded_part-requires
folded_part-requires c = c.requires

pub net_of-requires : goal.net_of-requires
net_of-requires c = record { width = c.requires.width; x = c.requires.x }

pub slice-requires-clause-part : goal.slice-requires-clause-part
slice-requires-clause-part c = record { width = c.requires.width; some = c.requires.some; inside = c.requires.inside; x = c.in_ok-whole.ensures.net.word.width }

pub returns-in_err-whole : goal.returns-in_err-whole
returns-in_err-whole c = at_err _ _ c.from_residual.result c.from_residual.ensures.1 c.in_err-whole.ensures.net

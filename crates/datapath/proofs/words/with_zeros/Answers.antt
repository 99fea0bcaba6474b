use Rattle.datapath.proofs.Over.{itself_over, then_two, nothing_over}
use Rattle.std.proofs.Common.{ap, arith}
use Rattle.datapath.specs.Nets.{bits_of}
use Rattle.datapath.proofs.WordParts.{zeros_above}
use Rattle.datapath.proofs.words.with_zeros.Goals as goal

pub returns : goal.returns
returns c = record {
  grows = c.in_ok-atom.ensures.grows;
  word = zeros_above _ c.constant-zeros.result _ c.args.x _ _ (λ s. ap (bits_of s) c.constant-zeros.ensures.is) c.in_ok-atom.ensures.word;
  made = then_two 0 c.in_ok-atom.ensures.made (nothing_over (c.constant-zeros.ensures.made _)) itself_over;
  folds = λ h. c.in_ok-atom.ensures.folds (c.constant-zeros.ensures.known, (h.0, tt));
}

pub constant-zeros-requires-clause-width : goal.constant-zeros-requires-clause-width
constant-zeros-requires-clause-width c = let most = c.requires.most in (c.requires.high, omega (arith, most))

pub join-requires : goal.join-requires
join-requires c = record { some = c.requires.low; most = c.requires.most; x = c.constant-zeros.ensures.width _; y = c.requires.x }

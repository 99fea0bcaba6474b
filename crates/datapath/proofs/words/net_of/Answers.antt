use Rattle.datapath.proofs.Growth.{grows_itself}
use Rattle.datapath.proofs.Over.{same_over}
use Rattle.datapath.proofs.Known.{same_word}
use Rattle.datapath.proofs.words.net_of.Goals as goal

pub returns-in-Net-clause-net : goal.returns-in-Net-clause-net
returns-in-Net-clause-net c = record {
  grows = grows_itself _;
  word = same_word _ _ _ _ c.in-Net.is c.requires.x;
  made = same_over _ _ _ _ c.in-Net.is;
}

pub copied-requires : goal.copied-requires
copied-requires c = c.requires

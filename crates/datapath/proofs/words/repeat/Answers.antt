use Rattle.datapath.proofs.Made.{repeat_operation, repeat_made}
use Rattle.datapath.proofs.Growth.{signal_of}
use Rattle.datapath.proofs.Over.{repeat_over}
use Rattle.datapath.proofs.Composed.{known_over}
use Rattle.datapath.proofs.Failing.{at_err}
use Rattle.datapath.proofs.words.repeat.Goals as goal

pub returns : goal.returns
returns c = record {
  grows = c.net_for.ensures.grows;
  word = repeat_made _ _ _ c.args.x _ _ c.atom-operand.ensures c.requires.x c.net_for.ensures.grows.includes c.in_ok-net.ensures.net;
  made = repeat_over _ _ _ c.args.x _ _ c.atom-operand.ensures c.in_ok-net.ensures.net;
  folds = λ h. absurd (c.in-None.ensures h);
}

pub returns-in-Some : goal.returns-in-Some
returns-in-Some c = known_over c.in-Some.ensures

pub atom-operand-requires : goal.atom-operand-requires
atom-operand-requires c = signal_of _ _ _ c.requires.x

pub net_for-requires-clause-operation : goal.net_for-requires-clause-operation
net_for-requires-clause-operation c = repeat_operation _ c.args.x _ _ c.atom-operand.ensures c.requires.width c.requires.x

pub returns-in_err-net : goal.returns-in_err-net
returns-in_err-net c = at_err _ _ c.from_residual.result c.from_residual.ensures.1 c.net_for.ensures.grows

use Rattle.datapath.proofs.Made.{copy_is_operation, copy_made}
use Rattle.datapath.proofs.Growth.{signal_of}
use Rattle.datapath.proofs.Over.{copy_over}
use Rattle.datapath.proofs.Failing.{at_err}
use Rattle.datapath.proofs.words.copied.Goals as goal

pub returns-clause-net : goal.returns-clause-net
returns-clause-net c = record {
  grows = c.net_for.ensures.grows;
  word = copy_made _ _ _ c.args.x _ _ c.atom-operand.ensures c.requires.x c.in_ok-net.ensures.net;
  made = copy_over _ _ _ c.args.x _ c.atom-operand.ensures c.in_ok-net.ensures.net;
}

pub atom-operand-requires : goal.atom-operand-requires
atom-operand-requires c = signal_of _ _ _ c.requires.x

pub net_for-requires-clause-operation : goal.net_for-requires-clause-operation
net_for-requires-clause-operation c = copy_is_operation _ c.args.x _ _ c.atom-operand.ensures c.requires.width c.requires.x

pub returns-in_err-net-clause-net : goal.returns-in_err-net-clause-net
returns-in_err-net-clause-net c = at_err _ _ c.from_residual.result c.from_residual.ensures.1 c.net_for.ensures.grows

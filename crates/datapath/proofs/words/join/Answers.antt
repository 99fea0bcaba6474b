use Rattle.std.proofs.Common.{arith}
use Rattle.datapath.proofs.Made.{join_operation, join_made}
use Rattle.datapath.proofs.Growth.{signal_of}
use Rattle.datapath.proofs.Over.{join_over}
use Rattle.datapath.proofs.Composed.{known_over}
use Rattle.datapath.proofs.Failing.{at_err}
use Rattle.datapath.proofs.words.join.Goals as goal

pub returns : goal.returns
returns c = record {
  grows = c.net_for.ensures.grows;
  word = join_made _ _ _ c.args.x c.args.y _ _ c.args.high c.args.low c.atom-left.ensures c.atom-right.ensures c.requires.x c.requires.y c.net_for.ensures.grows.includes c.in_ok-net.ensures.net;
  made = join_over _ _ _ c.args.x c.args.y _ _ c.atom-left.ensures c.atom-right.ensures c.in_ok-net.ensures.net;
  folds = λ h. absurd (c.in-None.ensures h);
}

pub returns-in-Some : goal.returns-in-Some
returns-in-Some c = known_over c.in-Some.ensures

pub atom-left-requires : goal.atom-left-requires
atom-left-requires c = signal_of _ _ _ c.requires.x

pub atom-right-requires : goal.atom-right-requires
atom-right-requires c = signal_of _ _ _ c.requires.y

pub net_for-requires-clause-operation : goal.net_for-requires-clause-operation
net_for-requires-clause-operation c = join_operation _ c.args.x c.args.y _ _ c.args.high c.args.low c.atom-left.ensures c.atom-right.ensures (let some = c.requires.some in (omega (arith, some), c.requires.most)) c.requires.x c.requires.y

pub returns-in_err-net : goal.returns-in_err-net
returns-in_err-net c = at_err _ _ c.from_residual.result c.from_residual.ensures.1 c.net_for.ensures.grows

pub folded_join-requires : goal.folded_join-requires
folded_join-requires c = c.requires

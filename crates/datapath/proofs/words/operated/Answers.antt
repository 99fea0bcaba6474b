use Rattle.std.proofs.Common.{subst, sym}
use Rattle.wiring.specs.Rules.{DividesByDivisor}
use Rattle.datapath.proofs.Made.{binary_operation, binary_made}
use Rattle.datapath.proofs.Growth.{signal_of}
use Rattle.datapath.proofs.Over.{binary_over}
use Rattle.datapath.proofs.Composed.{known_over}
use Rattle.datapath.proofs.Failing.{at_err}
use Rattle.datapath.proofs.words.operated.Goals as goal

pub returns : goal.returns
returns c = record {
  grows = c.net_for.ensures.grows;
  word = binary_made _ _ _ c.args.operator c.args.x c.args.y _ _ _ c.atom-left.ensures c.atom-right.ensures c.requires.x c.net_for.ensures.grows.includes c.in_ok-net.ensures.net;
  made = binary_over _ _ _ c.args.operator c.args.x c.args.y _ _ c.atom-left.ensures c.atom-right.ensures c.in_ok-net.ensures.net;
  folds = λ h. absurd (c.in-None.ensures h);
}

pub returns-in-Some : goal.returns-in-Some
returns-in-Some c = known_over c.in-Some.ensures

pub atom-left-requires : goal.atom-left-requires
atom-left-requires c = signal_of _ _ _ c.requires.x

pub atom-right-requires : goal.atom-right-requires
atom-right-requires c = signal_of _ _ _ c.requires.y

pub net_for-requires-clause-operation : goal.net_for-requires-clause-operation
net_for-requires-clause-operation c = binary_operation _ c.args.operator c.args.x c.args.y _ _ _ c.atom-left.ensures c.atom-right.ensures c.requires.width c.requires.x c.requires.y (subst (DividesByDivisor c.args.operator) (sym c.atom-right.ensures) c.requires.divisor)

pub folded-requires : goal.folded-requires
folded-requires c = c.requires

pub returns-in_err-net : goal.returns-in_err-net
returns-in_err-net c = at_err _ _ c.from_residual.result c.from_residual.ensures.1 c.net_for.ensures.grows

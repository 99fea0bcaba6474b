use Rattle.std.proofs.Common.{◌≡◌, ◌+◌, ◌-◌, arith}
use Rattle.datapath.proofs.Made.{slice_operation, slice_made}
use Rattle.datapath.proofs.Over.{slice_over}
use Rattle.datapath.proofs.Failing.{at_err}
use Rattle.datapath.proofs.words.slice.Goals as goal

pub returns : goal.returns
returns c = record {
  grows = c.net_for.ensures.grows;
  word = let some = c.requires.part.some in let top : c.args.low + c.args.count - 1 + 1 ≡ c.args.low + c.args.count = omega (arith, some) in slice_made _ _ _ c.args.x c.args.low c.args.count _ top some c.in_ok-net.ensures.net;
  made = slice_over _ _ _ c.args.x _ _ c.in_ok-net.ensures.net;
  folds = λ h. absurd h.0;
}

pub net_for-requires-clause-operation : goal.net_for-requires-clause-operation
net_for-requires-clause-operation c =
    let some = c.requires.part.some in
    let top : c.args.low + c.args.count - 1 + 1 ≡ c.args.low + c.args.count = omega (arith, some) in
    slice_operation _ c.args.x c.args.low c.args.count c.args.width _ c.requires.part.x c.requires.part.width.1 some c.requires.part.inside c.requires.proper top

pub returns-in_err-net : goal.returns-in_err-net
returns-in_err-net c = at_err _ _ c.from_residual.result c.from_residual.ensures.1 c.net_for.ensures.grows

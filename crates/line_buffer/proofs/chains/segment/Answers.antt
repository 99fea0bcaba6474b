use Rattle.std.proofs.Common.{◌∙◌, sym}
use Rattle.net_build.proofs.Failing.{at_err}
use Rattle.line_buffer.specs.Indices.{is_long}
use Rattle.line_buffer.proofs.chains.segment.Goals as goal

pub returns-then-is_long : goal.returns-then-is_long
returns-then-is_long c = c.in_ok-net.ensures (is_long c.args.least) (sym c.is_long.ensures ∙ c.if-is_long.true)

pub returns : goal.returns
returns c = c.in_ok-net-2.ensures (is_long c.args.least) (sym c.is_long.ensures ∙ c.if-is_long.false)

pub returns-in_err-net : goal.returns-in_err-net
returns-in_err-net c = at_err _ _ _ c.from_residual.result c.from_residual.ensures.1 c.in_err-net.ensures

pub returns-in_err-net-2 : goal.returns-in_err-net-2
returns-in_err-net-2 c = at_err _ _ _ c.from_residual-in_err-net-2.result c.from_residual-in_err-net-2.ensures.1 c.in_err-net-2.ensures

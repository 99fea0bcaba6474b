use Rattle.net_build.proofs.Failing.{at_err}
use Rattle.line_buffer.proofs.chains.block_chain.Goals as goal

pub returns : goal.returns
returns c = c.in_ok-nets.ensures

pub returns-in_err-nets : goal.returns-in_err-nets
returns-in_err-nets c = at_err _ _ _ c.from_residual.result c.from_residual.ensures.1 c.in_err-nets.ensures

use Rattle.std.proofs.Common.{length}
use Rattle.verilog_parse.proofs.Loops.{UpdatesBegun}
use Rattle.verilog_parse.proofs.update.updates_from.Given as goal

abbrev pub invariant-updates : goal.invariant-updates
invariant-updates l = UpdatesBegun l.fn.first l.target l.fn.updates.items l.updates.items l.fn.tokens l.tokens

abbrev pub decreases-updates : goal.decreases-updates
decreases-updates l = length l.tokens

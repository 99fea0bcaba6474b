use Rattle.std.proofs.Common.{refl}
use Rattle.verilog_read.proofs.parts.declaration_of.Goals as goal

pub returns : goal.returns
returns c = rw (c.in_ok-name.ensures, c.sort_of-sort.ensures c.args.text.now) refl

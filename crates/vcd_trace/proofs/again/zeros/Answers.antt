use Rattle.std.proofs.Common.{refl, length}
use Rattle.vcd_trace.proofs.Timewise.{zeros_of}
use Rattle.vcd_trace.proofs.again.zeros.Goals as goal

pub returns-in-Ok : goal.returns-in-Ok
returns-in-Ok c = zeros_of c.args.widths.now c.resize.new.self.items c.new-values.result.items (length c.args.widths.now) c.new-values.result.len c.new-values.ensures.items c.new-values.ensures.len refl c.in-Ok.ensures.items

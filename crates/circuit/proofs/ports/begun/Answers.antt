use Rattle.std.proofs.Common.{◌∙◌}
use Rattle.circuit.proofs.Adding.{din_widths, dout_widths}
use Rattle.circuit.proofs.ports.begun.Goals as goal

pub with_ports-requires-clause-din_widths : goal.with_ports-requires-clause-din_widths
with_ports-requires-clause-din_widths c = din_widths c.args.ir.now c.law.ensures c.deref.result.now (c.deref.ensures.value ∙ c.in_ok-dins.ensures)

pub with_ports-requires-clause-dout_widths : goal.with_ports-requires-clause-dout_widths
with_ports-requires-clause-dout_widths c = dout_widths c.args.ir.now c.law.ensures c.deref-2.result.now (c.deref-2.ensures.value ∙ c.in_ok-douts.ensures)

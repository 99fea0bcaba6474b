use Rattle.std.proofs.Common.{sym, ap, ◌∙◌}
use Rattle.wiring.specs.Netlist.{Netlist}
use Rattle.verilog_read.proofs.enables.lacking_enable.Goals as goal

pub returns-else-wiring-clause-lacks : goal.returns-else-wiring-clause-lacks
returns-else-wiring-clause-lacks c = record {
  m = c.args.module.now;
  stands = c.requires;
  without = sym (ap (λ (n : Netlist). n.enable) c.wiring.ensures.netlist) ∙ c.if-wiring.false;
  source = c.requires.has_parts.source;
  written = c.requires.has_parts.written;
  name_is = c.name_span.ensures c.requires.has_parts.source c.requires.has_parts.written;
}

use Rattle.std.proofs.Common.{refl, length}
use Rattle.std.proofs.lemmas.Option.{slice_get_read}
use Rattle.netlist.specs.declared.parts.Port.{Port}
use Rattle.netlist.specs.Scopes.{taken, given}
use Rattle.netlist.proofs.Resolving.{collected_step}
use Rattle.netlist.proofs.declare.port_widths.Goals as goal

pub loop-port-preserved : goal.loop-port-preserved
loop-port-preserved c =
    let at = slice_get_read c.args.ports.now (length c.args.ports.now) c.loop-port.port-index c.port-item.result refl c.loop-port-test.true c.port-item.is in
    record {
      inputs = collected_step (λ (q : Port). taken q.direction q.width) c.args.ports.now c.loop-port.port-index c.port-item.result c.loop-port.widths.inputs.items c.note_port.new.widths.inputs.items at c.loop-port.invariant.inputs c.in_ok-note_port.ensures.inputs;
      outputs = collected_step (λ (q : Port). given q.direction q.width) c.args.ports.now c.loop-port.port-index c.port-item.result c.loop-port.widths.outputs.items c.note_port.new.widths.outputs.items at c.loop-port.invariant.outputs c.in_ok-note_port.ensures.outputs;
    }

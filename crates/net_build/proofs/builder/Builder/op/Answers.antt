use Rattle.std.proofs.Common.{sym, subst, ap, ◌∙◌}
use Rattle.wiring.specs.declared.netlist.Net.TheVariants.{Wire}
use Rattle.wiring.specs.Netlist.{Netlist, netlist_of}
use Rattle.net_build.specs.Includes.{Includes}
use Rattle.net_build.specs.Draft.{IsOperation, AddsWires, width_of}
use Rattle.net_build.proofs.Drafts.{includes_op, wire_net, wire_width, wire_value, wire_made}
use Rattle.net_build.specs.Runs.{NeverStops}
use Rattle.net_build.proofs.Stops.{op_stops}
use Rattle.net_build.proofs.Reading.{reads_none, op_reads}
use Rattle.net_build.proofs.Updating.{wires_same, wires_op}
use Rattle.net_build.specs.Control.{IsControlled, AddsReads, reads_array}
use Rattle.net_build.proofs.Control.{op_control, made_wire}
use Rattle.net_build.proofs.builder.Builder.op.Goals as goal

pub returns-clause-includes : goal.returns-clause-includes
returns-clause-includes c =
    subst (λ (b : Netlist). Includes (netlist_of c.wire_of.new.wiring) b) c.self.view_is
    (includes_op (netlist_of c.self.inside.wiring) (netlist_of c.wire_of.new.wiring) c.args.operation c.in_ok-k.ensures.ok)

pub returns-clause-net : goal.returns-clause-net
returns-clause-net c = wire_net (netlist_of c.wire_of.new.wiring) c.in_ok-k.k c.args.operation c.in_ok-k.ensures.draft c.in_ok-k.ensures.wire

pub returns-clause-width : goal.returns-clause-width
returns-clause-width c =
    let old : Netlist = netlist_of c.self.inside.wiring in
    let new : Netlist = netlist_of c.wire_of.new.wiring in
    let operation : IsOperation old c.args.operation = subst (λ (b : Netlist). IsOperation b c.args.operation) (sym c.self.view_is) c.requires in
    wire_width old new c.in_ok-k.k c.args.operation c.in_ok-k.ensures.draft operation (includes_op old new c.args.operation c.in_ok-k.ensures.ok) c.in_ok-k.ensures.wire
    ∙ ap (λ (b : Netlist). width_of b c.args.operation) c.self.view_is

pub returns-clause-value : goal.returns-clause-value
returns-clause-value c = wire_value (netlist_of c.wire_of.new.wiring) c.in_ok-k.k c.args.operation c.in_ok-k.ensures.wire

pub returns-clause-made : goal.returns-clause-made
returns-clause-made c = wire_made (netlist_of c.wire_of.new.wiring) c.in_ok-k.k c.args.operation c.in_ok-k.ensures.wire

pub returns-in_err-k-clause-stops : goal.returns-in_err-k-clause-stops
returns-in_err-k-clause-stops c never reads = subst NeverStops (sym c.in_err-k.ensures.err) (subst NeverStops (sym c.self.view_is) never)

pub returns-clause-stops : goal.returns-clause-stops
returns-clause-stops c never reads = op_stops (netlist_of c.self.inside.wiring) (netlist_of c.wire_of.new.wiring) c.args.operation c.in_ok-k.ensures.ok (subst NeverStops (sym c.self.view_is) never) reads

pub returns-in_err-k-clause-wires : goal.returns-in_err-k-clause-wires
returns-in_err-k-clause-wires c = subst (AddsWires (netlist_of c.wire_of.new.wiring)) c.self.view_is (wires_same (netlist_of c.wire_of.new.wiring) (netlist_of c.self.inside.wiring) c.in_err-k.ensures.err)

pub returns-clause-wires : goal.returns-clause-wires
returns-clause-wires c = subst (AddsWires (netlist_of c.wire_of.new.wiring)) c.self.view_is (wires_op (netlist_of c.self.inside.wiring) (netlist_of c.wire_of.new.wiring) c.args.operation c.in_ok-k.ensures.ok)

pub returns-in_err-k-clause-control : goal.returns-in_err-k-clause-control
returns-in_err-k-clause-control c copies is = subst (λ (b : Netlist). IsControlled b copies) (sym c.in_err-k.ensures.err) (subst (λ (b : Netlist). IsControlled b copies) (sym c.self.view_is) is)

pub returns-clause-control : goal.returns-clause-control
returns-clause-control c copies is = op_control (netlist_of c.self.inside.wiring) (netlist_of c.wire_of.new.wiring) c.args.operation copies c.in_ok-k.ensures.ok (subst (λ (b : Netlist). IsControlled b copies) (sym c.self.view_is) is)

pub returns-clause-made_of : goal.returns-clause-made_of
returns-clause-made_of c base all =
    let b : Netlist = netlist_of c.wire_of.new.wiring in
    made_wire b (Wire c.in_ok-k.k) c.args.operation base (wire_made b c.in_ok-k.k c.args.operation c.in_ok-k.ensures.wire) all

pub returns-in_err-k-clause-reads : goal.returns-in_err-k-clause-reads
returns-in_err-k-clause-reads c = subst (λ (b : Netlist). AddsReads (netlist_of c.wire_of.new.wiring) b (reads_array c.args.operation)) c.self.view_is (reads_none (netlist_of c.wire_of.new.wiring) (netlist_of c.self.inside.wiring) (reads_array c.args.operation) (ap (λ (b : Netlist). b.assigns) c.in_err-k.ensures.err))

pub returns-clause-reads : goal.returns-clause-reads
returns-clause-reads c = op_reads (netlist_of c.self.inside.wiring) c.args.self.now (netlist_of c.wire_of.new.wiring) c.args.operation c.self.view_is c.in_ok-k.ensures.ok

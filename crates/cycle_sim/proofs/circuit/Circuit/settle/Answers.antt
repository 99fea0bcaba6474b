use Rattle.std.proofs.Common.{sym, subst}
use Rattle.wiring.specs.Netlist.{netlist_of}
use Rattle.wiring.specs.Snapshot.{Fit}
use Rattle.wiring.specs.Clock.{Clock, given}
use Rattle.cycle_sim.specs.Slots.{words_of}
use Rattle.cycle_sim.specs.Simulated.{Moment}
use Rattle.cycle_sim.specs.Ports.{din_widths}
use Rattle.cycle_sim.proofs.Given.{given_fit}
use Rattle.cycle_sim.proofs.Exactly.{clock_only}
use Rattle.cycle_sim.proofs.Simulates.{ports_within, ports_code, clock_circuit, clock_shot, clock_range, clock_stop}
use Rattle.cycle_sim.proofs.circuit.Circuit.settle.Goals as goal

pub settle_vec-requires : goal.settle_vec-requires
settle_vec-requires c =
    let clock : Clock = record { reset = c.args.reset; enable = c.args.enable; dins = c.args.dins.now } in
    let fits : Fit c.self.inside.wiring.inputs.items (given (netlist_of c.self.inside.wiring) clock) = given_fit (netlist_of c.self.inside.wiring) c.self.invariant.rules clock (subst (λ (v : Moment). Fit (din_widths v.netlist) c.args.dins.now) (sym c.self.view_is) c.requires) in
    record {
      inputs = ports_within (netlist_of c.self.inside.wiring) c.self.inside.order.items c.self.inside.program c.self.inside.values.items c.self.inside.staged.items (words_of c.self.inside.arrays.items) c.self.invariant clock fits;
      code = ports_code (netlist_of c.self.inside.wiring) c.self.inside.order.items c.self.inside.program c.self.inside.values.items c.self.inside.staged.items (words_of c.self.inside.arrays.items) c.self.invariant clock fits;
    }

pub invariant_of-self : goal.invariant_of-self
invariant_of-self c =
    let clock : Clock = record { reset = c.args.reset; enable = c.args.enable; dins = c.args.dins.now } in
    let fits : Fit c.self.inside.wiring.inputs.items (given (netlist_of c.self.inside.wiring) clock) = given_fit (netlist_of c.self.inside.wiring) c.self.invariant.rules clock (subst (λ (v : Moment). Fit (din_widths v.netlist) c.args.dins.now) (sym c.self.view_is) c.requires) in
    clock_circuit (netlist_of c.self.inside.wiring) c.self.inside.order.items c.self.inside.program c.self.inside.values.items c.self.inside.staged.items (words_of c.self.inside.arrays.items) c.self.invariant clock fits c.settle_vec.new.values.items c.settle_vec.ensures.values

pub returns-clause-shot : goal.returns-clause-shot
returns-clause-shot c =
    let clock : Clock = record { reset = c.args.reset; enable = c.args.enable; dins = c.args.dins.now } in
    let fits : Fit c.self.inside.wiring.inputs.items (given (netlist_of c.self.inside.wiring) clock) = given_fit (netlist_of c.self.inside.wiring) c.self.invariant.rules clock (subst (λ (v : Moment). Fit (din_widths v.netlist) c.args.dins.now) (sym c.self.view_is) c.requires) in
    rw (← c.self.view_is) (clock_shot (netlist_of c.self.inside.wiring) c.self.inside.order.items c.self.inside.program c.self.inside.values.items c.self.inside.staged.items (words_of c.self.inside.arrays.items) c.self.invariant clock fits c.settle_vec.new.values.items c.settle_vec.ensures.values)

pub returns-clause-ok : goal.returns-clause-ok
returns-clause-ok c =
    let clock : Clock = record { reset = c.args.reset; enable = c.args.enable; dins = c.args.dins.now } in
    let fits : Fit c.self.inside.wiring.inputs.items (given (netlist_of c.self.inside.wiring) clock) = given_fit (netlist_of c.self.inside.wiring) c.self.invariant.rules clock (subst (λ (v : Moment). Fit (din_widths v.netlist) c.args.dins.now) (sym c.self.view_is) c.requires) in
    rw (← c.self.view_is) (clock_range (netlist_of c.self.inside.wiring) c.self.inside.order.items c.self.inside.program c.self.inside.values.items c.self.inside.staged.items (words_of c.self.inside.arrays.items) c.self.invariant clock fits
    c.settle_vec.new.values.items c.settle_vec.ensures.values c.settle_vec.result c.settle_vec.ensures.ok)

pub returns-clause-stops : goal.returns-clause-stops
returns-clause-stops c =
    let clock : Clock = record { reset = c.args.reset; enable = c.args.enable; dins = c.args.dins.now } in
    let fits : Fit c.self.inside.wiring.inputs.items (given (netlist_of c.self.inside.wiring) clock) = given_fit (netlist_of c.self.inside.wiring) c.self.invariant.rules clock (subst (λ (v : Moment). Fit (din_widths v.netlist) c.args.dins.now) (sym c.self.view_is) c.requires) in
    rw (← c.self.view_is) (clock_stop (netlist_of c.self.inside.wiring) c.self.inside.order.items c.self.inside.program c.self.inside.values.items c.self.inside.staged.items (words_of c.self.inside.arrays.items) c.self.invariant clock fits
    c.settle_vec.new.values.items c.settle_vec.ensures.values c.settle_vec.result c.settle_vec.ensures.stops)

pub returns-clause-only : goal.returns-clause-only
returns-clause-only c =
    let clock : Clock = record { reset = c.args.reset; enable = c.args.enable; dins = c.args.dins.now } in
    let fits : Fit c.self.inside.wiring.inputs.items (given (netlist_of c.self.inside.wiring) clock) = given_fit (netlist_of c.self.inside.wiring) c.self.invariant.rules clock (subst (λ (v : Moment). Fit (din_widths v.netlist) c.args.dins.now) (sym c.self.view_is) c.requires) in
    rw (← c.self.view_is) (clock_only (netlist_of c.self.inside.wiring) c.self.inside.order.items c.self.inside.program c.self.inside.values.items c.self.inside.staged.items (words_of c.self.inside.arrays.items) c.self.invariant clock fits
    c.settle_vec.new.values.items c.settle_vec.ensures.values c.settle_vec.result c.settle_vec.ensures.ok c.settle_vec.ensures.stops)

use Rattle.std.proofs.Common.{◌≡◌, ℕ, ◌<◌, ◌≤◌, ◌+◌, ◌-◌, ◌*◌, length, refl, sym, subst, ◌∙◌, arith}
use Rattle.wiring.specs.Netlist.{Netlist}
use Rattle.wiring.specs.Snapshot.{Snapshot}
use Rattle.wiring.specs.Clock.{given, Steps, Stops}
use Rattle.cycle_sim.specs.Ports.{AreShown}
use Rattle.cycle_sim.specs.Simulated.{Machine}
use borrow.Rule.Slice.PartMut.{put_mid}
use Rattle.batch_sim.specs.Called.{batch_clocks, BatchStops, Came}
use Rattle.batch_sim.proofs.Clockwise.{code_ports, code_size, came_on, stops_here, code_clock, code_fits, code_outs, code_room, half_is}
use Rattle.batch_sim.proofs.each.step_each.Goals as goal

inside : {k last n : ℕ} → k < last → last ≤ n → k < n
inside l m = omega (arith, l, m)

pub loop-number-init : goal.loop-number-init
loop-number-init c = record { netlist = refl; came = λ from old came. came }

pub step_all-requires-clause-dins : goal.step_all-requires-clause-dins
step_all-requires-clause-dins c = code_fits c.args.sim.now.netlist c.loop-number.sim.netlist c.args.ports c.args.piece.now.inputs.enables.now c.args.piece.now.inputs.dins.now c.loop-number.number c.loop-number.invariant.netlist c.requires.ports (inside c.loop-number-test.true c.requires.step.piece.within) c.requires.step.piece.inputs.fit

pub step_all-requires-clause-outs : goal.step_all-requires-clause-outs
step_all-requires-clause-outs c =
    let room = code_room c.args.sim.now.netlist c.outputs-count.result c.loop-number.number (length c.args.piece.now.inputs.enables.now) c.args.outs.now c.loop-number.outs c.outputs-count.ensures (inside c.loop-number-test.true c.requires.step.piece.within) c.loop-number.auto.outs c.requires.step.outs in
    code_outs c.args.sim.now.netlist c.loop-number.sim.netlist c.outputs-count.result c.loop-number.number c.loop-number.outs c.loop-number.invariant.netlist c.outputs-count.ensures room

pub returns-in-Err : goal.returns-in-Err
returns-in-Err c = record {
  netlist = c.in-Err.ensures.netlist ∙ c.loop-number.invariant.netlist;
  ok = tt;
  stops =
      let m = c.args.sim.now.netlist in
      let k = c.loop-number.number in
      let clocks = batch_clocks m c.args.piece.now.inputs.enables.now c.args.piece.now.inputs.dins.now in
      let part = c.step_all.new.outs in
      let range = c.in-Err.range in
      let at = code_clock m c.args.ports c.args.piece.now.inputs.enables.now c.args.piece.now.inputs.dins.now k c.requires.ports (inside c.loop-number-test.true c.requires.step.piece.within) in
      let stops : Stops m c.loop-number.sim.contents (given m (code_ports c.args.ports c.args.piece.now.inputs.enables.now c.args.piece.now.inputs.dins.now k)) range.array range.index = subst (λ (n : Netlist). Stops n c.loop-number.sim.contents (given n (code_ports c.args.ports c.args.piece.now.inputs.enables.now c.args.piece.now.inputs.dins.now k)) range.array range.index) c.loop-number.invariant.netlist c.in-Err.ensures.stops in
      λ from old before.
      let here = stops_here m clocks from c.loop-number.sim.contents old c.loop-number.outs k (c.loop-number.invariant.came from old before) (code_ports c.args.ports c.args.piece.now.inputs.enables.now c.args.piece.now.inputs.dins.now k) at c.outputs-count.result part range c.in-Err.ensures.outs stops in
      subst (λ (x : Machine). BatchStops m clocks from x.contents old (put_mid (k * c.outputs-count.result) ((k + 1) * c.outputs-count.result - k * c.outputs-count.result) c.loop-number.outs part) (record { done = k; range = range })) (sym c.in-Err.ensures.err) here;
}

pub loop-number-preserved : goal.loop-number-preserved
loop-number-preserved c =
    let m = c.args.sim.now.netlist in
    let k = c.loop-number.number in
    let clocks = batch_clocks m c.args.piece.now.inputs.enables.now c.args.piece.now.inputs.dins.now in
    let count = c.outputs-count.result in
    let outs = c.loop-number.outs in
    let part = c.step_all.new.outs in
    let clock = code_ports c.args.ports c.args.piece.now.inputs.enables.now c.args.piece.now.inputs.dins.now k in
    let to = c.step_all.new.self.contents in
    let at = code_clock m c.args.ports c.args.piece.now.inputs.enables.now c.args.piece.now.inputs.dins.now k c.requires.ports (inside c.loop-number-test.true c.requires.step.piece.within) in
    let ok : (s : Snapshot) × Steps m c.loop-number.sim.contents (given m clock) s to × AreShown s part = subst (λ (n : Netlist). (s : Snapshot) × Steps n c.loop-number.sim.contents (given n clock) s to × AreShown s part) c.loop-number.invariant.netlist c.in-Ok.ensures.ok in
    let room = code_room m count k (length c.args.piece.now.inputs.enables.now) c.args.outs.now outs c.outputs-count.ensures (inside c.loop-number-test.true c.requires.step.piece.within) c.loop-number.auto.outs c.requires.step.outs in
    let size : length part ≡ count = c.step_all.auto.outs ∙ code_size count k outs room in
    record {
      netlist = c.in-Ok.ensures.netlist ∙ c.loop-number.invariant.netlist;
      came = λ from old before. came_on m clocks from c.loop-number.sim.contents old outs k (c.loop-number.invariant.came from old before) clock at to count part ok.0 (half_is (length m.outputs) count c.outputs-count.ensures) room size ok.1 ok.2;
    }

pub returns : goal.returns
returns c =
    let m = c.args.sim.now.netlist in
    let p = c.args.piece.now in
    let end : c.loop-number.number ≡ p.first + p.count = omega (arith, c.loop-number-test.false, c.loop-number.auto.number-end) in
    record {
      netlist = c.loop-number.invariant.netlist;
      ok = λ from old came. subst (λ (n : ℕ). Came m (batch_clocks m p.inputs.enables.now p.inputs.dins.now) from c.loop-number.sim.contents old c.loop-number.outs n) end (c.loop-number.invariant.came from old came);
      stops = tt;
    }

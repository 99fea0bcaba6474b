use Rattle.std.proofs.Common.{rules, ◌≤◌, ◌≡◌, length, refl, ap, subst, sym, arith, map, take, All}
use Rattle.std.proofs.lemmas.Result.{on_ok_weaker, on_err_weaker}
use Rattle.wiring.specs.Netlist.{Netlist}
use Rattle.cycle_sim.specs.Ports.{din_widths}
use Rattle.row_stream.specs.Formats.{kind_of}
use Rattle.row_stream.specs.Standing.{Lasts, pixel_clock}
use Rattle.row_stream.specs.States.{Setting, Keeps}
use Rattle.row_stream.proofs.Batches.{one_din, took_count}
use Rattle.row_stream.proofs.Telling.{Shown, goes_told, fails_told}
use Rattle.row_stream.proofs.Keeping.{same_stream}
use Rattle.row_stream.proofs.state.Stream.clock_batch.Goals as goal

pub step-requires-clause-room : goal.step-requires-clause-room
step-requires-clause-room g c = (c.args.self.now.format.size.width, c.requires.ready.ready.stream.batch, c.requires.count)

pub step-requires-clause-can : goal.step-requires-clause-can
step-requires-clause-can g c =
    let ready = c.requires.ready.ready in
    record {
      outputs = ready.stream.one.one;
      one_din = one_din (din_widths c.args.self.now.sim.netlist) 0 (ready.stream.fit 0 (omega arith));
      fit = c.requires.fit;
      lasts = ready.lasts;
    }

pub shown-outs-requires : goal.shown-outs-requires
shown-outs-requires g c =
    let batch = c.step.ensures.batch c.args.self.now.format.size.width c.requires.ready.ready.stream.batch in
    omega (arith, batch.outs, c.requires.count)

pub tell_all-requires-clause-douts : goal.tell_all-requires-clause-douts
tell_all-requires-clause-douts g c =
    let old = c.args.self.now in
    subst (λ z. All (λ out. out.dout ≤ old.format.maxval) z) (sym c.shown-outs.ensures) (c.step.ensures.steps.ran.small (kind_of old.format) c.requires.ready.ready.stream.one)

pub tell_all-requires-clause-few : goal.tell_all-requires-clause-few
tell_all-requires-clause-few g c =
    let old = c.args.self.now in
    let batch = c.step.ensures.batch old.format.size.width c.requires.ready.ready.stream.batch in
    let shown : length c.shown-outs.result.now ≡ c.args.count = took_count c.args.count _ _ c.shown-outs.ensures (omega (arith, batch.outs, c.requires.count)) in
    omega (arith, shown, c.requires.ready.few, c.requires.count, old.format.size.sides.most_columns)

pub returns-clause-clocks : goal.returns-clause-clocks
returns-clause-clocks g c = record {
  keeps =
      let old = c.args.self.now in
      record { setting = ap (λ (m : Netlist). let z : Setting = record { kind = kind_of old.format; netlist = m; bits = old.bits } in z) c.step.ensures.steps.netlist; row = refl; batch = c.step.ensures.batch old.format.size.width c.requires.ready.ready.stream.batch };
  more =
      let old = c.args.self.now in
      let batch = c.step.ensures.batch old.format.size.width c.requires.ready.ready.stream.batch in
      let shown : length c.shown-outs.result.now ≡ c.args.count = took_count c.args.count _ _ c.shown-outs.ensures (omega (arith, batch.outs, c.requires.count)) in
      let keeps : Keeps old _ = record { setting = ap (λ (m : Netlist). let z : Setting = record { kind = kind_of old.format; netlist = m; bits = old.bits } in z) c.step.ensures.steps.netlist; row = refl; batch = batch } in
      on_ok_weaker c.tell_all.result (λ h. record {
        ready = record {
          stream = same_stream old _ c.requires.ready.ready.stream keeps h.room;
          created = h.created;
          lasts = subst (λ (z : Netlist). Lasts z c.step.new.sim.contents) (sym c.step.ensures.steps.netlist) c.step.ensures.steps.ran.lasts;
        };
        few = omega (arith, h.few, shown);
      }) c.tell_all.ensures.more;
  ok =
      let outside = g.D.Desk.outside in
      let old = c.args.self.now in
      let ran = c.step.ensures.steps.ran in
      let shown = subst (λ z. Shown ran.shots z) (sym c.shown-outs.ensures) ran.shown in
      on_ok_weaker c.tell_all.result (λ h. goes_told (kind_of old.format) old.sim.netlist (map pixel_clock (take c.args.count old.batch.dins.items)) old.sim.contents c.step.new.sim.contents old.line (outside c.args.desk.now) (outside c.tell_all.new.desk) ran.shots c.shown-outs.result.now ran.runs shown c.tell_all.new.line h) c.tell_all.ensures.ok;
  err =
      let outside = g.D.Desk.outside in
      let old = c.args.self.now in
      let ran = c.step.ensures.steps.ran in
      let shown = subst (λ z. Shown ran.shots z) (sym c.shown-outs.ensures) ran.shown in
      on_err_weaker c.tell_all.result (λ h. fails_told (kind_of old.format) old.sim.netlist (map pixel_clock (take c.args.count old.batch.dins.items)) old.sim.contents c.step.new.sim.contents old.line (outside c.args.desk.now) (outside c.tell_all.new.desk) ran.shots c.shown-outs.result.now ran.runs shown h) c.tell_all.ensures.err;
  desk = search rules;
}

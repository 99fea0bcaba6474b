use Rattle.std.proofs.Common.{rules, ◌∷◌, [], refl, ap, subst, sym, arith}
use Rattle.std.proofs.lemmas.Result.{on_ok_weaker, on_err_weaker}
use Rattle.wiring.specs.Netlist.{Netlist}
use Rattle.row_stream.specs.Formats.{kind_of}
use Rattle.row_stream.specs.Standing.{Lasts, reset_clock}
use Rattle.row_stream.specs.States.{Setting, Keeps}
use Rattle.row_stream.proofs.Clocks.{dout_fits}
use Rattle.row_stream.proofs.Telling.{goes_told, fails_told}
use Rattle.row_stream.proofs.Keeping.{same_stream}
use Rattle.row_stream.proofs.state.Stream.reset.Goals as goal

pub step-requires-clause-din : goal.step-requires-clause-din
step-requires-clause-din g c = c.requires.stream.fit 0 (omega arith)

pub tell-requires : goal.tell-requires
tell-requires g c =
    let old = c.args.self.now in
    let ok = c.in-Ok.ensures.ok in
    record {
      can = record { created = c.requires.created; room = c.requires.stream.room; some = search rules };
      dout = dout_fits c.values_fit_law.ensures.nets (kind_of old.format) old.sim.netlist c.requires.stream.one reset_clock old.sim.contents c.step.new.sim.contents ok.0 c.in-Ok.out c.law.ensures.fit (c.requires.stream.fit 0 (omega arith)) ok.1 ok.2;
      few = omega (arith, c.requires.few);
    }

pub returns : goal.returns
returns g c = record {
  keeps =
      let old = c.args.self.now in
      record { setting = ap (λ (m : Netlist). let z : Setting = record { kind = kind_of old.format; netlist = m; bits = old.bits } in z) c.in-Ok.ensures.netlist; row = refl; batch = c.requires.stream.batch };
  more =
      let old = c.args.self.now in
      let ok = c.in-Ok.ensures.ok in
      let keeps : Keeps old _ = record { setting = ap (λ (m : Netlist). let z : Setting = record { kind = kind_of old.format; netlist = m; bits = old.bits } in z) c.in-Ok.ensures.netlist; row = refl; batch = c.requires.stream.batch } in
      on_ok_weaker c.tell.result (λ h. record {
        ready = record {
          stream = same_stream old _ c.requires.stream keeps h.room;
          created = h.created;
          lasts = subst (λ (z : Netlist). Lasts z c.step.new.sim.contents) (sym c.in-Ok.ensures.netlist) (c.requires.starts.lasts ok.0 c.step.new.sim.contents ok.1);
        };
        few = h.few;
      }) c.tell.ensures.more;
  ok =
      let outside = g.D.Desk.outside in
      let old = c.args.self.now in
      let ok = c.in-Ok.ensures.ok in
      let to = c.step.new.sim.contents in
      on_ok_weaker c.tell.result (λ h. goes_told (kind_of old.format) old.sim.netlist (reset_clock ∷ []) old.sim.contents to old.line (outside c.args.desk.now) (outside c.tell.new.desk) (ok.0 ∷ []) (c.in-Ok.out ∷ []) (to, ok.1, refl) (ok.2, tt) c.tell.new.line h) c.tell.ensures.ok;
  err =
      let outside = g.D.Desk.outside in
      let old = c.args.self.now in
      let ok = c.in-Ok.ensures.ok in
      let to = c.step.new.sim.contents in
      on_err_weaker c.tell.result (λ h. fails_told (kind_of old.format) old.sim.netlist (reset_clock ∷ []) old.sim.contents to old.line (outside c.args.desk.now) (outside c.tell.new.desk) (ok.0 ∷ []) (c.in-Ok.out ∷ []) (to, ok.1, refl) (ok.2, tt) h) c.tell.ensures.err;
  desk = search rules;
}

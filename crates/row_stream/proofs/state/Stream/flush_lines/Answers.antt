use Rattle.std.proofs.Common.{rules, refl, ◌∙◌, ◌∷◌, ◌+◌, ◌*◌, ◌≤◌, ℕ, [], subst, sym, arith, map, take, All}
use Rattle.wiring.specs.Snapshot.{Fit}
use Rattle.cycle_sim.specs.Ports.{din_widths}
use Rattle.row_stream.specs.Formats.{kind_of}
use Rattle.row_stream.specs.Standing.{pixel_clock}
use Rattle.row_stream.specs.Progress.{Goes, Fails}
use Rattle.row_stream.specs.States.{Setting}
use Rattle.row_stream.proofs.Flushed.{all_made, first_clocks, goes_zeros, fails_zeros, next_line, lines_within, zeros_none}
use Rattle.row_stream.proofs.Keeping.{passed, keeps_none, keeps_then}
use Rattle.row_stream.proofs.state.Stream.flush_lines.Goals as goal

pub loop-number-init : goal.loop-number-init
loop-number-init g c =
    let old = c.args.self.now in
    record {
      keeps = keeps_none old c.requires.ready.ready.stream;
      more = record { ready = c.requires.ready.ready; few = omega arith };
      dins = refl;
      idle = refl;
      no_read = refl;
      no_failure = refl;
      goes = zeros_none (kind_of old.format) old.sim.netlist old.format.size.width old.sim.contents old.line (g.D.Desk.outside c.args.desk.now);
    }

pub clock_batch-requires-clause-count : goal.clock_batch-requires-clause-count
clock_batch-requires-clause-count g c =
    let old = c.args.self.now in
    subst (λ (z : Setting). old.format.size.width ≤ z.kind.size.width) (sym c.loop-number.invariant.keeps.setting) (omega arith)

pub clock_batch-requires-clause-ready : goal.clock_batch-requires-clause-ready
clock_batch-requires-clause-ready g c = record {
  ready = c.loop-number.invariant.more.ready;
  few =
      let width : ℕ = c.args.self.now.format.size.width in
      let within = lines_within c.loop-number.number c.args.count width c.loop-number-test.true in
      omega (arith, c.loop-number.invariant.more.few, c.requires.ready.few, c.requires.count, within);
}

pub clock_batch-requires-clause-fit : goal.clock_batch-requires-clause-fit
clock_batch-requires-clause-fit g c =
    let mid = c.loop-number.self in
    let inv = c.loop-number.invariant in
    subst (λ z. All (λ d. Fit (din_widths mid.sim.netlist) (d ∷ [])) z) (sym (inv.dins ∙ c.requires.zeros)) (all_made (λ d. Fit (din_widths mid.sim.netlist) (d ∷ [])) (λ k. 0) c.args.self.now.format.size.width (λ k l. inv.more.ready.stream.fit 0 (omega arith)))

pub returns-in_err-clock_batch-clause-clocks : goal.returns-in_err-clock_batch-clause-clocks
returns-in_err-clock_batch-clause-clocks g c = record {
  keeps =
      keeps_then c.args.self.now c.loop-number.self c.clock_batch.new.self c.loop-number.invariant.keeps c.in_err-clock_batch.ensures.clocks.keeps;
  more = search rules;
  ok = search rules;
  err =
      let outside = g.D.Desk.outside in
      let old = c.args.self.now in
      let kind = kind_of old.format in
      let m = old.sim.netlist in
      let width : ℕ = old.format.size.width in
      let inv = c.loop-number.invariant in
      let mid = c.loop-number.self in
      let k = c.loop-number.number in
      let clocks = first_clocks (λ k. 0) width width mid.batch.dins.items (inv.dins ∙ c.requires.zeros) (omega arith) in
      let there = outside c.clock_batch.new.desk in
      let here = subst (λ z. Fails kind m z mid.sim.contents mid.line (outside c.loop-number.desk) there) clocks
      (subst (λ (z : Setting). Fails z.kind z.netlist (map pixel_clock (take width mid.batch.dins.items)) mid.sim.contents mid.line (outside c.loop-number.desk) there) inv.keeps.setting c.in_err-clock_batch.ensures.clocks.err) in
      passed c.from_residual.result c.in_err-clock_batch.field-0.0 c.from_residual.ensures.1 (fails_zeros kind m (k * width) width old.sim.contents mid.sim.contents old.line mid.line (outside c.args.desk.now) (outside c.loop-number.desk) there inv.goes (c.args.count * width) (lines_within k c.args.count width c.loop-number-test.true) here);
  desk = search rules;
}

pub loop-number-preserved : goal.loop-number-preserved
loop-number-preserved g c =
    let outside = g.D.Desk.outside in
    let old = c.args.self.now in
    let kind = kind_of old.format in
    let m = old.sim.netlist in
    let width : ℕ = old.format.size.width in
    let inv = c.loop-number.invariant in
    let mid = c.loop-number.self in
    let k = c.loop-number.number in
    let clocks = first_clocks (λ k. 0) width width mid.batch.dins.items (inv.dins ∙ c.requires.zeros) (omega arith) in
    let new = c.clock_batch.new.self in
    let next = next_line k width in
    let here = subst (λ z. Goes kind m z mid.sim.contents new.sim.contents mid.line new.line (outside c.loop-number.desk) (outside c.clock_batch.new.desk)) clocks
    (subst (λ (z : Setting). Goes z.kind z.netlist (map pixel_clock (take width mid.batch.dins.items)) mid.sim.contents new.sim.contents mid.line new.line (outside c.loop-number.desk) (outside c.clock_batch.new.desk)) inv.keeps.setting c.in_ok-clock_batch.ensures.clocks.ok) in
    record {
      keeps = keeps_then old mid new inv.keeps c.in_ok-clock_batch.ensures.clocks.keeps;
      more = record { ready = c.in_ok-clock_batch.ensures.clocks.more.ready; few = omega (arith, c.in_ok-clock_batch.ensures.clocks.more.few, inv.more.few, next) };
      dins = c.in_ok-clock_batch.ensures.dins ∙ inv.dins;
      idle = c.in_ok-clock_batch.ensures.clocks.desk.idle ∙ inv.idle;
      no_read = c.in_ok-clock_batch.ensures.clocks.desk.no_read ∙ inv.no_read;
      no_failure = search rules;
      goes = goes_zeros kind m (k * width) width old.sim.contents mid.sim.contents old.line mid.line (outside c.args.desk.now) (outside c.loop-number.desk) (outside c.clock_batch.new.desk) inv.goes new.sim.contents new.line ((k + 1) * width) next here;
    }

use Rattle.std.proofs.Common.{◌∙◌, ◌∷◌, ◌*◌, ◌≤◌, ℕ, [], ap, subst, sym, arith, map, take, All}
use Rattle.std.specs.Prelude.{◌/◌, ◌%◌}
use Rattle.std.specs.List.{range_with_len}
use Rattle.std.proofs.lemmas.Result.{on_ok_weaker, on_err_weaker}
use Rattle.wiring.specs.Snapshot.{Fit}
use Rattle.cycle_sim.specs.Ports.{din_widths}
use Rattle.row_stream.specs.Formats.{kind_of}
use Rattle.row_stream.specs.Standing.{pixel_clock}
use Rattle.row_stream.specs.Progress.{Goes, Fails}
use Rattle.row_stream.specs.States.{Setting}
use Rattle.row_stream.proofs.Flushed.{all_made, first_clocks, goes_zeros, fails_zeros, fails_all, parts_of, part_within, rest_within}
use Rattle.row_stream.proofs.Keeping.{passed, keeps_then}
use Rattle.row_stream.proofs.state.Stream.flush.Goals as goal

pub flush_lines-requires-clause-ready : goal.flush_lines-requires-clause-ready
flush_lines-requires-clause-ready g c = record {
  ready =
      let s = c.requires.ready.ready.stream in
      record {
        stream = record {
          bits = s.bits;
          one = s.one;
          fit = s.fit;
          room = s.room;
          row = s.row;
          batch = record { enables = s.batch.enables; dins = c.fill_zeros.ensures.count ∙ s.batch.dins; outs = s.batch.outs };
        };
        created = c.requires.ready.ready.created;
        lasts = c.requires.ready.ready.lasts;
      };
  few = c.requires.ready.few;
}

pub returns-in_err-flush_lines-clause-err : goal.returns-in_err-flush_lines-clause-err
returns-in_err-flush_lines-clause-err g c =
    let outside = g.D.Desk.outside in
    let old = c.args.self.now in
    let width : ℕ = old.format.size.width in
    passed c.from_residual.result c.in_err-flush_lines.field-0.0 c.from_residual.ensures.1
    (fails_all (kind_of old.format) old.sim.netlist (c.args.count / width * width) c.args.count old.sim.contents old.line (outside c.args.desk.now) (outside c.flush_lines.new.desk) (part_within c.args.count width) c.in_err-flush_lines.ensures.clocks.err)

pub clock_batch-requires-clause-count : goal.clock_batch-requires-clause-count
clock_batch-requires-clause-count g c =
    let old = c.args.self.now in
    let width : ℕ = old.format.size.width in
    subst (λ (z : Setting). c.args.count % width ≤ z.kind.size.width) (sym c.in_ok-flush_lines.ensures.clocks.keeps.setting) (rest_within c.args.count width old.line.count c.requires.ready.ready.stream.room.below)

pub clock_batch-requires-clause-ready : goal.clock_batch-requires-clause-ready
clock_batch-requires-clause-ready g c = record {
  ready = c.in_ok-flush_lines.ensures.clocks.more.ready;
  few =
      let within = part_within c.args.count c.args.self.now.format.size.width in
      omega (arith, c.in_ok-flush_lines.ensures.clocks.more.few, c.requires.ready.few, c.requires.count, within);
}

pub clock_batch-requires-clause-fit : goal.clock_batch-requires-clause-fit
clock_batch-requires-clause-fit g c =
    let mid = c.flush_lines.new.self in
    let first = c.in_ok-flush_lines.ensures in
    let zeros = first.dins ∙ c.fill_zeros.ensures.is ∙ ap (λ n. map (λ k. 0) (range_with_len 0 n)) c.requires.ready.ready.stream.batch.dins in
    subst (λ z. All (λ d. Fit (din_widths mid.sim.netlist) (d ∷ [])) z) (sym zeros) (all_made (λ d. Fit (din_widths mid.sim.netlist) (d ∷ [])) (λ k. 0) c.args.self.now.format.size.width (λ k l. first.clocks.more.ready.stream.fit 0 (omega arith)))

pub returns-clause-keeps : goal.returns-clause-keeps
returns-clause-keeps g c =
    let k = c.in_ok-flush_lines.ensures.clocks.keeps in
    keeps_then c.args.self.now c.flush_lines.new.self c.clock_batch.new.self (record { setting = k.setting; row = k.row; batch = k.batch }) c.clock_batch.ensures.clocks.keeps

pub returns-clause-ok : goal.returns-clause-ok
returns-clause-ok g c =
    let outside = g.D.Desk.outside in
    let old = c.args.self.now in
    let kind = kind_of old.format in
    let m = old.sim.netlist in
    let width : ℕ = old.format.size.width in
    let n : ℕ = c.args.count in
    let mid = c.flush_lines.new.self in
    let half = outside c.flush_lines.new.desk in
    let now = outside c.clock_batch.new.desk in
    let first = c.in_ok-flush_lines.ensures in
    let zeros = first.dins ∙ c.fill_zeros.ensures.is ∙ ap (λ n. map (λ k. 0) (range_with_len 0 n)) c.requires.ready.ready.stream.batch.dins in
    let clocks = first_clocks (λ k. 0) (n % width) width mid.batch.dins.items zeros (rest_within n width old.line.count c.requires.ready.ready.stream.room.below) in
    let parts = parts_of n width in
    let new = c.clock_batch.new.self in
    on_ok_weaker c.clock_batch.result (λ h.
    goes_zeros kind m (n / width * width) (n % width) old.sim.contents mid.sim.contents old.line mid.line (outside c.args.desk.now) half now first.clocks.ok new.sim.contents new.line n parts
    (subst (λ z. Goes kind m z mid.sim.contents new.sim.contents mid.line new.line half now) clocks
    (subst (λ (z : Setting). Goes z.kind z.netlist (map pixel_clock (take (n % width) mid.batch.dins.items)) mid.sim.contents new.sim.contents mid.line new.line half now) first.clocks.keeps.setting h))) c.clock_batch.ensures.clocks.ok

pub returns-clause-err : goal.returns-clause-err
returns-clause-err g c =
    let outside = g.D.Desk.outside in
    let old = c.args.self.now in
    let kind = kind_of old.format in
    let m = old.sim.netlist in
    let width : ℕ = old.format.size.width in
    let n : ℕ = c.args.count in
    let mid = c.flush_lines.new.self in
    let half = outside c.flush_lines.new.desk in
    let now = outside c.clock_batch.new.desk in
    let first = c.in_ok-flush_lines.ensures in
    let zeros = first.dins ∙ c.fill_zeros.ensures.is ∙ ap (λ n. map (λ k. 0) (range_with_len 0 n)) c.requires.ready.ready.stream.batch.dins in
    let clocks = first_clocks (λ k. 0) (n % width) width mid.batch.dins.items zeros (rest_within n width old.line.count c.requires.ready.ready.stream.room.below) in
    let parts = parts_of n width in
    on_err_weaker c.clock_batch.result (λ h.
    fails_zeros kind m (n / width * width) (n % width) old.sim.contents mid.sim.contents old.line mid.line (outside c.args.desk.now) half now first.clocks.ok n (omega (arith, parts))
    (subst (λ z. Fails kind m z mid.sim.contents mid.line half now) clocks
    (subst (λ (z : Setting). Fails z.kind z.netlist (map pixel_clock (take (n % width) mid.batch.dins.items)) mid.sim.contents mid.line half now) first.clocks.keeps.setting h))) c.clock_batch.ensures.clocks.err

use Rattle.std.proofs.Common.{rules, ◌*◌, ◌∙◌, ◌∷◌, ◌≡◌, ◌≤◌, ℕ, List, [], ap, subst, sym, arith, map, length, take, All}
use Rattle.std.specs.List.{range_with_len}
use Rattle.std.proofs.lemmas.Result.{on_ok_weaker, on_err_weaker}
use Rattle.wiring.specs.Snapshot.{Fit}
use Rattle.cycle_sim.specs.Ports.{din_widths}
use Rattle.dk_base.specs.declared.TheConstants.{MAX_SIDE}
use Rattle.pgm_codec.specs.Images.{sample_size}
use Rattle.pgm_codec.specs.Rasters.{sample_at}
use Rattle.row_stream.specs.Formats.{kind_of}
use Rattle.row_stream.specs.Progress.{Goes, Fails}
use Rattle.row_stream.specs.States.{row_of}
use Rattle.row_stream.proofs.Flushed.{all_made, first_clocks}
use Rattle.row_stream.proofs.RowLemmas.{row_fits}
use Rattle.row_stream.proofs.state.Stream.clock_row.Goals as goal

pub row_bytes-requires : goal.row_bytes-requires
row_bytes-requires g c = subst (λ z. z ≤ MAX_SIDE) (sym c.requires.header.sized.width) c.args.self.now.format.size.sides.most_columns

pub split_at-requires : goal.split_at-requires
split_at-requires g c = omega (arith, c.row_bytes.ensures.most, c.requires.header.sized.width, c.requires.ready.ready.stream.row, ap (λ (z : List ℕ). length z) c.deref.ensures.value)

pub fill_samples-requires : goal.fill_samples-requires
fill_samples-requires g c =
    let header = c.args.header.now in
    let old = c.args.self.now in
    let front : c.split_at.result.0.now ≡ row_of header old = c.split_at.ensures.front ∙ ap (λ (z : List ℕ). take c.row_bytes.result z) c.deref.ensures.value ∙ ap (λ n. take n old.row.items) c.row_bytes.ensures.is in
    let count : length c.split_at.result.0.now ≡ header.width * sample_size header.maxval = ap (λ (z : List ℕ). length z) front ∙ (omega (arith, c.requires.row.length_is)) in
    count ∙ ap (λ n. n * sample_size header.maxval) (c.requires.header.sized.width ∙ sym c.requires.ready.ready.stream.batch.dins)

pub clock_batch-requires-clause-ready : goal.clock_batch-requires-clause-ready
clock_batch-requires-clause-ready g c = record {
  ready =
      let s = c.requires.ready.ready.stream in
      record {
        stream = record {
          bits = s.bits;
          one = s.one;
          fit = s.fit;
          room = s.room;
          row = s.row;
          batch = record { enables = s.batch.enables; dins = c.fill_samples.ensures.count ∙ s.batch.dins; outs = s.batch.outs };
        };
        created = c.requires.ready.ready.created;
        lasts = c.requires.ready.ready.lasts;
      };
  few = let few = c.requires.ready.few in omega (arith, few);
}

pub clock_batch-requires-clause-fit : goal.clock_batch-requires-clause-fit
clock_batch-requires-clause-fit g c =
    let header = c.args.header.now in
    let old = c.args.self.now in
    let s = c.requires.ready.ready.stream in
    let P : ℕ → Type 0 = λ d. Fit (din_widths old.sim.netlist) (d ∷ []) in
    let front : c.split_at.result.0.now ≡ row_of header old = c.split_at.ensures.front ∙ ap (λ (z : List ℕ). take c.row_bytes.result z) c.deref.ensures.value ∙ ap (λ n. take n old.row.items) c.row_bytes.ensures.is in
    let f : ℕ → ℕ = λ k. sample_at header.maxval (row_of header old) k in
    let is : c.fill_samples.new.dins.items ≡ map f (range_with_len 0 old.format.size.width) = c.fill_samples.ensures.is ∙ ap (λ (z : List ℕ). map (λ k. sample_at header.maxval z k) (range_with_len 0 (length old.batch.dins.items))) front ∙ ap (λ n. map f (range_with_len 0 n)) s.batch.dins in
    subst (λ z. All P z) (sym is) (all_made P f old.format.size.width (row_fits P header (row_of header old) old.format.size.width c.requires.row c.requires.header.sized.width (λ x l. s.fit x (omega (arith, l, c.requires.header.maxval)))))

pub returns : goal.returns
returns g c = record {
  keeps = search rules;
  more = search rules;
  ok =
      let header = c.args.header.now in
      let old = c.args.self.now in
      let outside = g.D.Desk.outside in
      let front : c.split_at.result.0.now ≡ row_of header old = c.split_at.ensures.front ∙ ap (λ (z : List ℕ). take c.row_bytes.result z) c.deref.ensures.value ∙ ap (λ n. take n old.row.items) c.row_bytes.ensures.is in
      let f : ℕ → ℕ = λ k. sample_at header.maxval (row_of header old) k in
      let is : c.fill_samples.new.dins.items ≡ map f (range_with_len 0 old.format.size.width) = c.fill_samples.ensures.is ∙ ap (λ (z : List ℕ). map (λ k. sample_at header.maxval z k) (range_with_len 0 (length old.batch.dins.items))) front ∙ ap (λ n. map f (range_with_len 0 n)) c.requires.ready.ready.stream.batch.dins in
      let clocks = first_clocks f old.format.size.width old.format.size.width c.fill_samples.new.dins.items is (omega arith) in
      on_ok_weaker c.clock_batch.result (λ h. subst (λ z. Goes (kind_of old.format) old.sim.netlist z old.sim.contents c.clock_batch.new.self.sim.contents old.line c.clock_batch.new.self.line (outside c.args.desk.now) (outside c.clock_batch.new.desk)) clocks h) c.clock_batch.ensures.clocks.ok;
  err =
      let header = c.args.header.now in
      let old = c.args.self.now in
      let outside = g.D.Desk.outside in
      let front : c.split_at.result.0.now ≡ row_of header old = c.split_at.ensures.front ∙ ap (λ (z : List ℕ). take c.row_bytes.result z) c.deref.ensures.value ∙ ap (λ n. take n old.row.items) c.row_bytes.ensures.is in
      let f : ℕ → ℕ = λ k. sample_at header.maxval (row_of header old) k in
      let is : c.fill_samples.new.dins.items ≡ map f (range_with_len 0 old.format.size.width) = c.fill_samples.ensures.is ∙ ap (λ (z : List ℕ). map (λ k. sample_at header.maxval z k) (range_with_len 0 (length old.batch.dins.items))) front ∙ ap (λ n. map f (range_with_len 0 n)) c.requires.ready.ready.stream.batch.dins in
      let clocks = first_clocks f old.format.size.width old.format.size.width c.fill_samples.new.dins.items is (omega arith) in
      on_err_weaker c.clock_batch.result (λ h. subst (λ z. Fails (kind_of old.format) old.sim.netlist z old.sim.contents old.line (outside c.args.desk.now) (outside c.clock_batch.new.desk)) clocks h) c.clock_batch.ensures.clocks.err;
  desk = search rules;
}

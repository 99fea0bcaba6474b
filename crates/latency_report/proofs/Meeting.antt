-- The report of a plan has the values of a report of its version.
use Rattle.std.proofs.Common.{◌≡◌, ◌∙◌, ℕ, zero, suc, ◌+◌, ◌-◌, ◌^◌, ◌<◌, ◌≤◌, Bool, true, false, eqb, List, [], ◌∷◌, ◌++◌, length, map, slice_index, slice_index_or, refl, ap, sym, subst, arith}
use Rattle.std.specs.Prelude.{◌&&◌, nat_eq, if◌then◌else◌, All}
use Rattle.std.specs.List.{range_with_len, enumerate_from, AllByRecursion}
use Rattle.std.proofs.Math.Nat.{mul-le-mul_left}
use Rattle.std.proofs.lemmas.Int.{ints}
use Rattle.std.proofs.lemmas.Bool.Decides.{nat_tests}
use Rattle.std.proofs.lemmas.List.{get_or-map, length-map}
use Rattle.std.proofs.lemmas.List.FromFn.{length-enumerate_from, get_or-enumerate_from}
use Rattle.std.proofs.lemmas.List.Elements.{recursion_from_All}
use Rattle.dk_base.specs.declared.TheConstants.{MAX_SIDE}
use Rattle.dk_base.specs.declared.stencils.Image.{Image}
use Rattle.dk_base.specs.declared.stencils.LiveRead.{LiveRead}
use Rattle.dk_base.specs.Stencils.{Ascends, IsOffset, IsRead, place}
use Rattle.pointwise_ir.specs.Programs.{Program, names_of}
use Rattle.raster_delay.specs.declared.placed.PlacedRead.{PlacedRead}
use Rattle.raster_delay.specs.Placing.{placed}
use Rattle.raster_delay.specs.Systems.{System, image_count, placed_reads, depth}
use Rattle.raster_delay.proofs.Bridge.{rec_append, rec_map_in, rec_range_in}
use Rattle.buffer_plan.specs.Plans.{Plan, IsPlan}
use Rattle.report_text.specs.declared.report.ImageLine.{ImageLine}
use Rattle.source_words.specs.Words.{is_name}
use Rattle.report_text.specs.Reports.{IsImageLine, IsAmount, IsFlowLine, AreDistinct, most_images, most_latencies, Meets}
use Rattle.report_text.specs.Reports as R
use Rattle.latency_report.specs.Printed.{name_of, line_of, image_lines, latencies, version_of, report_of}
use Rattle.plan_check.specs.Flows.{makers, carried}
use Rattle.plan_check.specs.Sums.{hold_maker, start_maker, read_maker, keep_maker}
use Rattle.latency_report.proofs.Lines.{Maker}
use Rattle.latency_report.proofs.Rising.{Precedes, Rises, carried_rise, carried_in, rises_append, kinds, holds_rise, starts_rise, by_read, AreKept, reads_rise}

-- what the version states of the counts
version_low : (b : Bool) → 2 ≤ (if b then 2 else 3)
version_low true = omega arith
version_low false = omega arith

version_high : (b : Bool) → (if b then 2 else 3) ≤ 3
version_high true = omega arith
version_high false = omega arith

images_for : (b : Bool) (n : ℕ) → n ≤ 264 → (b ≡ true → n ≤ 257) → n ≤ most_images (if b then 2 else 3)
images_for true n most few = few refl
images_for false n most few = most

latencies_for : (b : Bool) (n : ℕ) → n ≤ 8 → (b ≡ true → n ≤ 1) → n ≤ most_latencies (if b then 2 else 3)
latencies_for true n most few = few refl
latencies_for false n most few = most

both_true : (a b : Bool) → (a && b) ≡ true → (a ≡ true) × (b ≡ true)
both_true true true e = (refl, refl)
both_true true false e = absurd (let x : ⊥ = cc in x)
both_true false b e = absurd (let x : ⊥ = cc in x)

equal : (a b : ℕ) → eqb a b ≡ true → a ≡ b
equal a b e = grind (arith, nat_tests)

none : Image
none = record { number = 0; width = 0 }

-- numbers that ascend are at least their places
number_least : (images : List Image) → Ascends images → (k : ℕ) → k < length images → k ≤ (slice_index_or images k none).number
number_least images up zero lt = omega arith
number_least images up (suc k) lt = omega (arith, number_least images up k (omega arith), up k (suc k) none (omega arith) lt)

module _ (p : Program) (s : System) (d ends flow : List ℕ) where
  abbrev plan : Plan
  plan = record { system = s; delays = d }

  pub record IsPrinted : Type 0 where
    pub plan : IsPlan plan
    pub images : All (λ (i : Image). i.number < length (names_of p)) s.stencils.images
    pub names : All (λ name. is_name name ≡ true) (names_of p)
    pub distinct : AreDistinct (names_of p)
    pub few : length (names_of p) ≤ s.stencils.inputs + 256
    pub ends_are : (k : ℕ) → k < image_count s → slice_index ends k ≡ slice_index d k + depth s d k
    pub ends_most : (k : ℕ) → slice_index ends k < 2 ^ 64
    pub flow_most : (k : ℕ) → slice_index flow k < 2 ^ 64

  module _ (is : IsPrinted) where
    abbrev lines : List ImageLine
    lines = image_lines p plan

    size : length lines ≡ image_count s
    size = length-map (enumerate_from 0 s.stencils.images) (line_of p plan) ∙ length-enumerate_from 0 s.stencils.images

    -- the line at a place
    line_at : (k : ℕ) (e : ImageLine) → k < image_count s → slice_index_or lines k e ≡ line_of p plan (k, slice_index_or s.stencils.images k none)
    line_at k e lt =
        get_or-map (line_of p plan) (enumerate_from 0 s.stencils.images) k (0, none) e (omega (arith, length-enumerate_from 0 s.stencils.images))
        ∙ ap (line_of p plan) (get_or-enumerate_from 0 s.stencils.images k (0, none) lt ∙ ap (λ j. (j, slice_index_or s.stencils.images k none)) (let h : 0 + k ≡ k = omega arith in h))

    is_line : (k : ℕ) → k < image_count s → IsImageLine (line_of p plan (k, slice_index_or s.stencils.images k none))
    is_line k lt =
        let i = slice_index_or s.stencils.images k none in
        let w = is.plan.system.stencils.images.widths k none lt in
        let near = is.plan.near k in
        let end = is.ends_are k lt in
        let end_most = is.ends_most k in
        record {
          name = is.names i.number [] (is.images k none lt);
          some_bits = w.some;
          most_bits = w.most;
          delay = omega (arith, near);
          depth = omega (arith, end, end_most);
        }

    lines_all : AllByRecursion IsImageLine lines
    lines_all = recursion_from_All IsImageLine lines (λ k e lt. let here : k < image_count s = omega (arith, size) in subst IsImageLine (sym (line_at k e here)) (is_line k here))

    name_at : (k : ℕ) → k < image_count s → slice_index_or (R.names_of lines) k [] ≡ name_of p (slice_index_or s.stencils.images k none).number
    name_at k lt =
        let e : ImageLine = line_of p plan (0, none) in
        get_or-map (λ (i : ImageLine). i.name) lines k e [] (omega (arith, size)) ∙ ap (λ (i : ImageLine). i.name) (line_at k e lt)

    names_distinct : AreDistinct (R.names_of lines)
    names_distinct i j lt below same =
        let j_in : j < image_count s = omega (arith, size, length-map lines (λ (i : ImageLine). i.name)) in
        let i_in : i < image_count s = omega arith in
        is.distinct (slice_index_or s.stencils.images i none).number (slice_index_or s.stencils.images j none).number
        (is.plan.system.stencils.images.ascending i j none lt j_in) (is.images j none j_in)
        (sym (name_at i i_in) ∙ (same ∙ name_at j j_in))

    few_images : nat_eq s.stencils.inputs 1 && nat_eq (length s.stencils.outputs) 1 ≡ true → image_count s ≤ 257
    few_images one =
        let inputs : s.stencils.inputs ≡ 1 = equal s.stencils.inputs 1 (both_true _ _ one).0 in
        let few = is.few in
        last (image_count s) refl inputs few
      where
        last : (n : ℕ) → n ≡ image_count s → s.stencils.inputs ≡ 1 → length (names_of p) ≤ s.stencils.inputs + 256 → image_count s ≤ 257
        last zero e inputs few = omega arith
        last (suc n) e inputs few =
            let least = number_least s.stencils.images is.plan.system.stencils.images.ascending n (omega arith) in
            let most = is.images n none (omega arith) in
            omega (arith, least, most, few, inputs, e)

    latencies_size : length (latencies plan) ≡ length s.stencils.outputs
    latencies_size = length-map s.stencils.outputs (λ g. slice_index d (place s.stencils.images g))

    latencies_all : AllByRecursion (λ n. n < 2 ^ 64) (latencies plan)
    latencies_all = rec_map_in (λ n. n < 2 ^ 64) (λ g. slice_index d (place s.stencils.images g)) s.stencils.outputs (each s.stencils.outputs)
      where
        each : (gs : List ℕ) → AllByRecursion (λ g. slice_index d (place s.stencils.images g) < 2 ^ 64) gs
        each [] = tt
        each (g ∷ gs) = (let near = is.plan.near (place s.stencils.images g) in omega (arith, near), each gs)

    -- the reads by place
    abbrev Reader : LiveRead → Type 0
    Reader r = IsRead s.stencils.width s.stencils.height s.stencils.inputs s.stencils.images r

    between : AllByRecursion Reader s.stencils.reads
    between = recursion_from_All Reader s.stencils.reads is.plan.system.stencils.reads.between

    kept : (reads : List LiveRead) → AllByRecursion Reader reads → AllByRecursion (AreKept s.stencils.images) reads
    kept [] h = tt
    kept (r ∷ reads) h = ((h.0.reader_kept, h.0.source_kept), kept reads h.1)

    abbrev IsLine : Maker → Type 0
    IsLine m = (n : ℕ) → IsAmount n → IsFlowLine (image_count s) (m n)

    reads_in : (f : PlacedRead → Maker)
        → ((r : PlacedRead) (n : ℕ) → r.f < image_count s → r.g < image_count s → IsOffset MAX_SIDE r.dx → IsOffset MAX_SIDE r.dy → IsAmount n → IsFlowLine (image_count s) (f r n))
        → (reads : List LiveRead) → AllByRecursion Reader reads → AllByRecursion IsLine (map f (map (placed s.stencils.images) reads))
    reads_in f line [] h = tt
    reads_in f line (r ∷ reads) h =
        let columns = is.plan.system.stencils.frame.most_columns in
        let rows = is.plan.system.stencils.frame.most_rows in
        let across = h.0.across in
        let down = h.0.down in (
          (λ n amount. line (placed s.stencils.images r) n h.0.reader_kept h.0.source_kept
              (record { low = omega (arith, ints, columns, across.low); high = omega (arith, ints, columns, across.high) })
              (record { low = omega (arith, ints, rows, down.low); high = omega (arith, ints, rows, down.high) }) amount),
          reads_in f line reads h.1,
        )

    abbrev holds : List Maker
    holds = map hold_maker (range_with_len 0 (image_count s))

    abbrev starts : List Maker
    starts = map start_maker (range_with_len s.stencils.inputs (image_count s - s.stencils.inputs))

    abbrev reads : List Maker
    reads = map read_maker (placed_reads s)

    abbrev keeps : List Maker
    keeps = map keep_maker (placed_reads s)

    all_in : AllByRecursion IsLine (makers s)
    all_in =
        let kept_inputs = is.plan.system.stencils.images.inputs_kept in
        rec_append IsLine ((holds ++ starts) ++ reads) keeps
        (rec_append IsLine (holds ++ starts) reads
        (rec_append IsLine holds starts
        (rec_map_in IsLine hold_maker (range_with_len 0 (image_count s)) (rec_range_in (λ k. IsLine (hold_maker k)) 0 (image_count s) (λ k le lt. λ n amount. (omega arith, amount))))
        (rec_map_in IsLine start_maker (range_with_len s.stencils.inputs (image_count s - s.stencils.inputs))
        (rec_range_in (λ k. IsLine (start_maker k)) s.stencils.inputs (image_count s - s.stencils.inputs) (λ k le lt. λ n amount. (omega (arith, kept_inputs), amount)))))
        (reads_in read_maker (λ r n f g x y amount. (f, g, x, y, amount)) s.stencils.reads between))
        (reads_in keep_maker (λ r n f g x y amount. (f, g, x, y, amount)) s.stencils.reads between)

    abbrev After : List Maker → Maker → Type 0
    After ys x = AllByRecursion (Precedes x) ys

    all_rise : Rises (makers s)
    all_rise =
        let up = is.plan.system.stencils.images.ascending in
        let order = is.plan.system.stencils.reads.in_order in
        let are = kept s.stencils.reads between in
        let places = range_with_len 0 (image_count s) in
        let later = range_with_len s.stencils.inputs (image_count s - s.stencils.inputs) in
        rises_append ((holds ++ starts) ++ reads) keeps
        (rises_append (holds ++ starts) reads
        (rises_append holds starts (holds_rise 0 (image_count s)) (starts_rise s.stencils.inputs (image_count s - s.stencils.inputs))
        (kinds hold_maker start_maker (λ a b m n. omega arith) places later))
        (reads_rise s.stencils.images up read_maker (λ a b m n h. by_read (read_maker a m) (read_maker b n) refl h) s.stencils.reads are order)
        (rec_append (After reads) holds starts (kinds hold_maker read_maker (λ a b m n. omega arith) places (placed_reads s)) (kinds start_maker read_maker (λ a b m n. omega arith) later (placed_reads s))))
        (reads_rise s.stencils.images up keep_maker (λ a b m n h. by_read (keep_maker a m) (keep_maker b n) refl h) s.stencils.reads are order)
        (rec_append (After keeps) (holds ++ starts) reads
        (rec_append (After keeps) holds starts (kinds hold_maker keep_maker (λ a b m n. omega arith) places (placed_reads s)) (kinds start_maker keep_maker (λ a b m n. omega arith) later (placed_reads s)))
        (kinds read_maker keep_maker (λ a b m n. omega arith) (placed_reads s) (placed_reads s)))

    pub meets : Meets (report_of p plan flow)
    meets =
        let stencils = is.plan.system.stencils in
        let frame = stencils.frame in
        let bits_limit = is.plan.within.few_bits in
        let latency_limit = is.plan.within.short in
        let some_inputs = stencils.images.some_inputs in
        let inputs_kept = stencils.images.inputs_kept in
        let outputs = stencils.outputs in
        let reads_most = stencils.reads.most_reads in
        let one : Bool = nat_eq s.stencils.inputs 1 && nat_eq (length s.stencils.outputs) 1 in
        let product = mul-le-mul_left s.stencils.width frame.most_rows in
        let columns = frame.most_columns in
        record {
          first_version = omega (arith, version_low one);
          last_version = version_high one;
          bare = λ e. absurd (omega (arith, version_low one, e));
          bits_limit = omega arith;
          latency_limit = omega arith;
          age = is.plan.system.age_limit;
          some_columns = frame.some_columns;
          most_columns = frame.most_columns;
          some_rows = frame.some_rows;
          most_rows = frame.most_rows;
          some_images = omega (arith, size, some_inputs, inputs_kept);
          image_limit = subst (λ n. n ≤ most_images (version_of s)) (sym size) (images_for one (image_count s) stencils.images.most_images few_images);
          images = lines_all;
          distinct = names_distinct;
          some_latencies = omega (arith, latencies_size, outputs.some_outputs);
          latency_count = subst (λ n. n ≤ most_latencies (version_of s)) (sym latencies_size)
              (latencies_for one (length s.stencils.outputs) outputs.most_outputs (λ e. omega (arith, equal (length s.stencils.outputs) 1 (both_true _ _ e).1)));
          latencies = latencies_all;
          clocks = omega (arith, product, columns, latency_limit);
          bits = omega (arith, bits_limit);
          reads = omega (arith, reads_most);
          flow = subst (λ n. AllByRecursion (IsFlowLine n) (carried (makers s) flow)) (sym size) (carried_in (image_count s) (makers s) flow all_in is.flow_most);
          ascending = carried_rise (makers s) flow all_rise;
        }

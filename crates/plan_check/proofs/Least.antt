-- What holds of each constraint holds of those that flow lines name; and a report that holds shows that no causal delays need fewer bits.
use Rattle.std.proofs.Common.{◌≡◌, ◌≢◌, ◌<◌, ◌≤◌, ◌+◌, ◌-◌, ◌*◌, ◌∙◌, ℕ, pos, suc, List, [], ◌∷◌, ◌++◌, map, length, refl, ap, sym, arith, cond, eqb, inl, inr, slice_index, slice_index_or, sum_by}
use Rattle.std.specs.Prelude.{All, ◌-ℤ◌}
use Rattle.std.specs.List.{AllByRecursion, range_with_len, enumerate_from}
use Rattle.std.proofs.lemmas.Int.{ints}
use Rattle.std.proofs.lemmas.Bool.{cases_lt, ne_eqb}
use Rattle.std.proofs.lemmas.List.{length-map}
use Rattle.std.proofs.lemmas.List.Sums.{sum_by-cons}
use Rattle.std.proofs.lemmas.List.Elements.{All-contains, All-map, All-from_recursion, recursion_from_All}
use Rattle.raster_delay.specs.Network.{IsWithin, Buffer, inflow, outflow, amount_at, ends, begins}
use Rattle.raster_delay.specs.Delays.{hold, start, read, keep, holds_of, starts_of, depth_of, IsForm, IsSmall}
use Rattle.raster_delay.specs.Systems.{System, IsSystem, IsCausal, image_count, widths, placed_reads, constraints_in, buffers, nodes, bits, coefficient_in}
use Rattle.raster_delay.specs.declared.network.Constraint.{Constraint}
use Rattle.raster_delay.specs.declared.placed.PlacedRead.{PlacedRead}
use Rattle.raster_delay.proofs.Bridge.{rec_left, rec_right, rec_map_out, rec_range_out}
use Rattle.raster_delay.proofs.Places.{system_form}
use Rattle.raster_delay.proofs.Within.{within_all, small_all, worth_at_most}
use Rattle.report_text.specs.declared.report.ImageLine.{ImageLine}
use Rattle.report_text.specs.declared.report.FlowLine.{FlowLine}
use Rattle.report_text.specs.declared.report.FlowLine.TheVariants.{Hold, Start, Read, Keep}
use Rattle.report_text.specs.Reports.{Report}
use Rattle.plan_check.specs.Holding.{HasConstraint, ImageHolds, AreLeast, delays, delays_of, depths_of, widths_of}
use Rattle.plan_check.specs.Flows.{amount_of}
use Rattle.plan_check.specs.Sums.{SumsHold, bits_of_lines, constraint_of, carriers, amounts}
use Rattle.plan_check.proofs.Firsts.{NumbersHold}
use Rattle.plan_check.proofs.Flowing.{inflow_cons, outflow_cons}

elsewhere : (k a v : ℕ) → k ≢ v → cond (eqb k v) a 0 ≡ 0
elsewhere k a v h = rw ne_eqb refl

at_cons : (k a : ℕ) (xs : List (ℕ × ℕ)) (v : ℕ) → amount_at ((k, a) ∷ xs) v ≡ cond (eqb k v) a 0 + amount_at xs v
at_cons k a xs v = sum_by-cons (λ (b : ℕ × ℕ). cond (eqb b.0 v) b.1 0) (k, a) xs

no_ends : (n v : ℕ) (bs : List Buffer) → n ≤ v → AllByRecursion (λ b. b.end < n) bs → amount_at (ends bs) v ≡ 0
no_ends n v [] le all = refl
no_ends n v (b ∷ bs) le all = omega (arith, at_cons b.end b.width (ends bs) v, elsewhere b.end b.width v (omega (arith, all.0)), no_ends n v bs le all.1)

no_begins : (n v : ℕ) (bs : List Buffer) → n ≤ v → AllByRecursion (λ b. b.begin < n) bs → amount_at (begins bs) v ≡ 0
no_begins n v [] le all = refl
no_begins n v (b ∷ bs) le all = omega (arith, at_cons b.begin b.width (begins bs) v, elsewhere b.begin b.width v (omega (arith, all.0)), no_begins n v bs le all.1)

module _ (s : System) where
  no_inflow : (n v : ℕ) (xs : List FlowLine) → n ≤ v → AllByRecursion (λ c. c.target < n) (carriers s xs) → inflow (carriers s xs) (amounts xs) v ≡ 0
  no_inflow n v [] le all = refl
  no_inflow n v (x ∷ xs) le all = omega (arith, inflow_cons s v x xs, elsewhere (constraint_of s x).target (amount_of x) v (omega (arith, all.0)), no_inflow n v xs le all.1)

  no_outflow : (n v : ℕ) (xs : List FlowLine) → n ≤ v → AllByRecursion (λ c. c.source < n) (carriers s xs) → outflow (carriers s xs) (amounts xs) v ≡ 0
  no_outflow n v [] le all = refl
  no_outflow n v (x ∷ xs) le all = omega (arith, outflow_cons s v x xs, elsewhere (constraint_of s x).source (amount_of x) v (omega (arith, all.0)), no_outflow n v xs le all.1)

module _ (s : System) (is : IsSystem s) (P : Constraint → Type 0) (all : AllByRecursion P (constraints_in s)) where
  abbrev inputs : ℕ
  inputs = s.stencils.inputs

  abbrev images : ℕ
  images = image_count s

  abbrev the_reads : List Constraint
  the_reads = map (read s.stencils.width s.age inputs) (placed_reads s)

  abbrev the_keeps : List Constraint
  the_keeps = map (keep s.stencils.width inputs images) (placed_reads s)

  -- what holds of each constraint holds of the one that a flow line names
  pub of_carrier : (x : FlowLine) → HasConstraint s x → P (constraint_of s x)
  of_carrier (Hold g n) h = rec_range_out (λ k. P (hold inputs images k)) 0 images
      (rec_map_out P (hold inputs images) (range_with_len 0 images) (rec_left P (holds_of inputs images) (starts_of inputs images)
      (rec_left P (holds_of inputs images ++ starts_of inputs images) the_reads (rec_left P ((holds_of inputs images ++ starts_of inputs images) ++ the_reads) the_keeps all)))) g (omega arith) (omega (arith, h))
  of_carrier (Start f n) h = rec_range_out (λ k. P (start inputs k)) inputs (images - inputs)
      (rec_map_out P (start inputs) (range_with_len inputs (images - inputs)) (rec_right P (holds_of inputs images) (starts_of inputs images)
      (rec_left P (holds_of inputs images ++ starts_of inputs images) the_reads (rec_left P ((holds_of inputs images ++ starts_of inputs images) ++ the_reads) the_keeps all)))) f h.0 (omega (arith, h.0, h.1))
  of_carrier (Read f g dx dy n) h = All-contains (λ r. P (read s.stencils.width s.age inputs r)) (placed_reads s) (record { f = f; g = g; dx = dx; dy = dy })
      (All-from_recursion (λ r. P (read s.stencils.width s.age inputs r)) (placed_reads s) (rec_map_out P (read s.stencils.width s.age inputs) (placed_reads s)
      (rec_right P (holds_of inputs images ++ starts_of inputs images) the_reads (rec_left P ((holds_of inputs images ++ starts_of inputs images) ++ the_reads) the_keeps all)))) h
  of_carrier (Keep f g dx dy n) h = All-contains (λ r. P (keep s.stencils.width inputs images r)) (placed_reads s) (record { f = f; g = g; dx = dx; dy = dy })
      (All-from_recursion (λ r. P (keep s.stencils.width inputs images r)) (placed_reads s) (rec_map_out P (keep s.stencils.width inputs images) (placed_reads s)
      (rec_right P ((holds_of inputs images ++ starts_of inputs images) ++ the_reads) the_keeps all))) h

  pub of_carriers : (flow : List FlowLine) → All (HasConstraint s) flow → All P (carriers s flow)
  of_carriers flow h = All-map P (constraint_of s) flow (λ k d lt. of_carrier (slice_index_or flow k d) (h k d lt))

module _ (s : System) (is : IsSystem s) (x : FlowLine) (has : HasConstraint s x) where
  pub source_within : (constraint_of s x).source < nodes s
  source_within = of_carrier s is (λ c. c.source < nodes s) (recursion_from_All (λ c. c.source < nodes s) (constraints_in s) (within_all s.stencils.width s.age s.stencils.inputs (image_count s) (widths s) (placed_reads s) (system_form s is)).sources) x has

  pub target_within : (constraint_of s x).target < nodes s
  target_within = of_carrier s is (λ c. c.target < nodes s) (recursion_from_All (λ c. c.target < nodes s) (constraints_in s) (within_all s.stencils.width s.age s.stencils.inputs (image_count s) (widths s) (placed_reads s) (system_form s is)).targets) x has

module _ (s : System) (is : IsSystem s) (flow : List FlowLine) (has : All (HasConstraint s) flow) where
  form : IsForm s.stencils.width s.age s.stencils.inputs (image_count s) (widths s) (placed_reads s)
  form = system_form s is

  inside : IsWithin (nodes s) (constraints_in s) (buffers s)
  inside = within_all s.stencils.width s.age s.stencils.inputs (image_count s) (widths s) (placed_reads s) form

  sources : All (λ c. c.source < nodes s) (carriers s flow)
  sources = of_carriers s is (λ c. c.source < nodes s) (recursion_from_All (λ c. c.source < nodes s) (constraints_in s) inside.sources) flow has

  targets : All (λ c. c.target < nodes s) (carriers s flow)
  targets = of_carriers s is (λ c. c.target < nodes s) (recursion_from_All (λ c. c.target < nodes s) (constraints_in s) inside.targets) flow has

  -- at any node, also one that is none of the system's
  pub balanced_at : (b : ℕ) → SumsHold s flow b → (v : ℕ) → pos (inflow (carriers s flow) (amounts flow) v) -ℤ pos (outflow (carriers s flow) (amounts flow) v) ≡ coefficient_in s v
  balanced_at b h v = elim (cases_lt v (nodes s)) [
    | inl lt ↦ h.balanced v lt
    | inr le ↦ omega (
      arith,
      ints,
      no_inflow s (nodes s) v flow (omega arith) (recursion_from_All (λ c. c.target < nodes s) (carriers s flow) targets),
      no_outflow s (nodes s) v flow (omega arith) (recursion_from_All (λ c. c.source < nodes s) (carriers s flow) sources),
      no_ends (nodes s) v (buffers s) (omega arith) (recursion_from_All (λ b. b.end < nodes s) (buffers s) inside.ends),
      no_begins (nodes s) v (buffers s) (omega arith) (recursion_from_All (λ b. b.begin < nodes s) (buffers s) inside.begins),
    )
  ]

pub small_cost : (s : System) → IsSystem s → (x : FlowLine) → HasConstraint s x → IsSmall (constraint_of s x)
small_cost s is x h = of_carrier s is IsSmall (recursion_from_All IsSmall (constraints_in s) (small_all s.stencils.width s.age s.stencils.inputs (image_count s) (widths s) (placed_reads s) (system_form s is))) x h

-- the sum over image lines, where each depth is that of the delays
bits_same : (row : ℕ) (d : List ℕ) (reads : List PlacedRead) (j : ℕ) (images : List ImageLine) → ((k : ℕ) → k < length images → slice_index (depths_of images) k ≡ depth_of row d reads (j + k))
    → bits_of_lines images ≡ sum_by (λ (x : ℕ × ℕ). x.1 * depth_of row d reads x.0) (enumerate_from j (widths_of images))
bits_same row d reads j [] h = refl
bits_same row d reads j (i ∷ images) h =
    let f : ImageLine → ℕ = λ (i : ImageLine). i.width * i.depth in
    let g : ℕ × ℕ → ℕ = λ (x : ℕ × ℕ). x.1 * depth_of row d reads x.0 in
    let here : i.depth ≡ depth_of row d reads j = h 0 (omega arith) ∙ ap (depth_of row d reads) (omega arith) in
    let rest = bits_same row d reads (j + 1) images (λ k lt. h (suc k) (omega arith) ∙ ap (depth_of row d reads) (omega arith)) in
    omega (arith, sum_by-cons f i images, sum_by-cons g (j, i.width) (enumerate_from (j + 1) (widths_of images)), ap (λ x. i.width * x) here, rest)

pub same_list : (xs ys : List ℕ) → length xs ≡ length ys → ((k : ℕ) → k < length xs → slice_index xs k ≡ slice_index ys k) → xs ≡ ys
same_list [] [] l f = refl
same_list [] (y ∷ ys) l f = absurd (omega arith)
same_list (x ∷ xs) [] l f = absurd (omega arith)
same_list (x ∷ xs) (y ∷ ys) l f = ap (λ a. a ∷ xs) (f 0 (omega arith)) ∙ ap (λ s. y ∷ s) (same_list xs ys (omega arith) (λ k b. f (suc k) (omega arith)))

module _ (s : System) (is : IsSystem s) (images : List ImageLine) (count : length images ≡ image_count s) (holds : (k : ℕ) → k < length images → ImageHolds s images k) where
  same_widths : widths_of images ≡ widths s
  same_widths = same_list (widths_of images) (widths s)
      (length-map images (λ (i : ImageLine). i.width) ∙ count ∙ sym (system_form s is).one_width_each)
      (λ k lt. (holds k (omega (arith, lt, length-map images (λ (i : ImageLine). i.width)))).width_is)

  -- image lines that hold sum to the bits of their delays
  pub bits_of_delays : bits_of_lines images ≡ bits s (delays_of images)
  bits_of_delays =
      let d = delays_of images in
      bits_same s.stencils.width d (placed_reads s) 0 images (λ k lt. let e : k ≡ 0 + k = omega arith in (holds k lt).depth_is ∙ ap (depth_of s.stencils.width d (placed_reads s)) e)
      ∙ ap (λ ws. sum_by (λ (x : ℕ × ℕ). x.1 * depth_of s.stencils.width d (placed_reads s) x.0) (enumerate_from 0 ws)) same_widths

module _ (s : System) (is : IsSystem s) (r : Report) (count : length r.images ≡ image_count s) (h : NumbersHold s r) where
  printed_causal : IsCausal s (delays r)
  printed_causal = record {
    one_each = length-map r.images (λ (i : ImageLine). i.delay) ∙ count;
    inputs_at_once = λ k lt. (h.images k (omega (arith, lt, count, (system_form s is).inputs_kept))).at_once lt;
    ages = λ i d lt.
        let q = slice_index_or (placed_reads s) i d in
        let form = system_form s is in
        let kept : q.g < length r.images = omega (arith, form.reads_are.earlier i d lt, form.reads_are.among i d lt, count) in
        (h.images q.g kept).ages i d lt refl;
  }

  pub are_least : AreLeast s r
  are_least = record {
    causal = printed_causal;
    bits_are = sym h.bits;
    least = λ d causal.
        let most = worth_at_most s.stencils.width s.age s.stencils.inputs (image_count s) (widths s) (placed_reads s) (system_form s is) d causal h.flow.flow h.flow.balanced in
        omega (arith, ints, most, h.flow.worth_is);
  }

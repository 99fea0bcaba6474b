-- The report of causal delays with a balanced flow that is worth their bits holds.
use Rattle.std.proofs.Common.{◌≡◌, ◌<◌, ◌+◌, ◌*◌, ◌∙◌, ℕ, pos, zero, suc, List, [], ◌∷◌, map, length, slice_index, slice_index_or, max, refl, ap, sym, subst, arith}
use Rattle.std.specs.Prelude.{◌≤ℤ◌}
use Rattle.std.specs.List.{enumerate_from}
use Rattle.std.proofs.lemmas.List.{get_or-map, length-map}
use Rattle.dk_base.specs.Stencils.{place}
use Rattle.dk_base.specs.declared.stencils.Image.{Image}
use Rattle.pointwise_ir.specs.Programs.{Program, names_of}
use Rattle.raster_delay.specs.Delays.{age_of}
use Rattle.raster_delay.specs.Systems.{System, IsSystem, IsCausal, IsBalanced, image_count, widths, placed_reads, depth, bits, worth_of}
use Rattle.buffer_plan.specs.Plans.{Plan}
use Rattle.buffer_plan.specs.Limits.{greatest_delay}
use Rattle.report_text.specs.declared.report.ImageLine.{ImageLine}
use Rattle.report_text.specs.declared.report.FlowLine.TheVariants.{Hold}
use Rattle.report_text.specs.Reports.{Report}
use Rattle.latency_report.specs.Printed.{line_of, image_lines, latencies, report_of, name_of}
use Rattle.plan_check.specs.Flows.{makers, carried}
use Rattle.plan_check.specs.Holding.{ImageHolds, FlowHolds, delays_of, depths_of, widths_of, greatest}
use Rattle.plan_check.specs.Program.{HoldsOf}
use Rattle.plan_check.proofs.Least.{same_list}
use Rattle.plan_check.proofs.Carried.{carried_has, carrying_carried}
use Rattle.plan_check.proofs.Firsts.{NumbersHold, to_rules}
use Rattle.plan_check.proofs.Foreigns.{names_keep, outputs_keep, none_foreign}

length_enumerate : (j : ℕ) (xs : List Image) → length (enumerate_from j xs) ≡ length xs
length_enumerate j [] = refl
length_enumerate j (x ∷ xs) = omega (arith, length_enumerate (j + 1) xs)

enumerate_at : (j : ℕ) (xs : List Image) (k n : ℕ) (d : Image) (e : ℕ × Image) → j + k ≡ n → k < length xs → slice_index_or (enumerate_from j xs) k e ≡ (n, slice_index_or xs k d)
enumerate_at j [] k n d e is lt = absurd (omega arith)
enumerate_at j (x ∷ xs) zero n d e is lt = ap (λ m. (m, x)) (let z : j ≡ n = omega arith in z)
enumerate_at j (x ∷ xs) (suc k) n d e is lt = enumerate_at (j + 1) xs k n d e (omega arith) (omega arith)

greatest_same : (images : List Image) (d outs : List ℕ) → greatest (map (λ g. slice_index d (place images g)) outs) ≡ greatest_delay images d outs
greatest_same images d [] = refl
greatest_same images d (g ∷ outs) = ap (λ m. max (slice_index d (place images g)) m) (greatest_same images d outs)

module _ (p : Program) (s : System) (d flow : List ℕ) where
  abbrev plan : Plan
  plan = record { system = s; delays = d }

  abbrev lines : List ImageLine
  lines = image_lines p plan

  count : length lines ≡ image_count s
  count = length-map (enumerate_from 0 s.stencils.images) (line_of p plan) ∙ length_enumerate 0 s.stencils.images

  none : Image
  none = record { number = 0; width = 0 }

  line_at : (k : ℕ) (e : ImageLine) → k < image_count s → slice_index_or lines k e ≡ line_of p plan (k, slice_index_or s.stencils.images k none)
  line_at k e lt =
      get_or-map (line_of p plan) (enumerate_from 0 s.stencils.images) k (0, none) e (omega (arith, lt, length_enumerate 0 s.stencils.images))
      ∙ ap (line_of p plan) (enumerate_at 0 s.stencils.images k k none (0, none) (omega arith) lt)

  delays_same : length d ≡ image_count s → delays_of lines ≡ d
  delays_same size = same_list (delays_of lines) d (length-map lines (λ (i : ImageLine). i.delay) ∙ count ∙ sym size) (λ k lt.
      let below : k < image_count s = omega (arith, lt, count, length-map lines (λ (i : ImageLine). i.delay)) in
      let some : ImageLine = line_of p plan (k, none) in
      get_or-map (λ (i : ImageLine). i.delay) lines k some 0 (omega (arith, below, count)) ∙ ap (λ (i : ImageLine). i.delay) (line_at k some below))

  line_width : (k : ℕ) → k < image_count s → slice_index (widths_of lines) k ≡ slice_index (widths s) k
  line_width k lt =
      let some : ImageLine = line_of p plan (k, none) in
      get_or-map (λ (i : ImageLine). i.width) lines k some 0 (omega (arith, lt, count)) ∙ ap (λ (i : ImageLine). i.width) (line_at k some lt)
      ∙ sym (get_or-map (λ (i : Image). i.width) s.stencils.images k none 0 lt)

  line_depth : (k : ℕ) → k < image_count s → slice_index (depths_of lines) k ≡ depth s d k
  line_depth k lt =
      let some : ImageLine = line_of p plan (k, none) in
      get_or-map (λ (i : ImageLine). i.depth) lines k some 0 (omega (arith, lt, count)) ∙ ap (λ (i : ImageLine). i.depth) (line_at k some lt)

  line_name : (k : ℕ) → k < image_count s → slice_index_or (map (λ (i : ImageLine). i.name) lines) k [] ≡ name_of p (slice_index (map (λ (i : Image). i.number) s.stencils.images) k)
  line_name k lt =
      let some : ImageLine = line_of p plan (k, none) in
      get_or-map (λ (i : ImageLine). i.name) lines k some [] (omega (arith, lt, count)) ∙ ap (λ (i : ImageLine). i.name) (line_at k some lt)
      ∙ ap (name_of p) (sym (get_or-map (λ (i : Image). i.number) s.stencils.images k none 0 lt))

  module _ (is : IsSystem s) (causal : IsCausal s d) (balanced : IsBalanced s flow) (worth_is : worth_of s flow ≡ pos (bits s d)) where
    abbrev report : Report
    report = report_of p plan flow

    image_holds : (k : ℕ) → k < length lines → ImageHolds s lines k
    image_holds k lt =
        let same = delays_same causal.one_each in
        let below : k < image_count s = omega (arith, lt, count) in
        record {
          width_is = line_width k below;
          at_once = λ early. ap (λ xs. slice_index xs k) same ∙ causal.inputs_at_once k early;
          ages = λ i e short of_it. subst (λ xs. pos s.age ≤ℤ age_of s.stencils.width xs (slice_index_or (placed_reads s) i e)) (sym same) (causal.ages i e short);
          depth_is = line_depth k below ∙ ap (λ xs. depth s xs k) (sym same);
        }

    flow_holds : FlowHolds s (carried (makers s) flow) (bits s d)
    flow_holds = record { flow = flow; lines_are = carrying_carried s flow; balanced = balanced; worth_is = worth_is }

    bits_right : bits s d ≡ bits s (delays_of lines)
    bits_right = ap (bits s) (sym (delays_same causal.one_each))

    latency_right : (k : ℕ) → k < length (latencies plan) → slice_index (latencies plan) k ≡ slice_index (delays_of lines) (place s.stencils.images (slice_index s.stencils.outputs k))
    latency_right k lt =
        get_or-map (λ g. slice_index d (place s.stencils.images g)) s.stencils.outputs k 0 0 (omega (arith, lt, length-map s.stencils.outputs (λ g. slice_index d (place s.stencils.images g))))
        ∙ ap (λ xs. slice_index xs (place s.stencils.images (slice_index s.stencils.outputs k))) (sym (delays_same causal.one_each))

    printed_numbers : NumbersHold s (report_of p plan flow)
    printed_numbers = record {
      images = image_holds;
      latencies = latency_right;
      clocks = ap (λ m. s.stencils.width * s.stencils.height + m) (sym (greatest_same s.stencils.images d s.stencils.outputs));
      bits = bits_right;
      constraints = λ k lt. carried_has s flow k (Hold 0 0) lt;
      flow = flow_holds;
    }

    pub report_holds : HoldsOf (names_of p) s (report_of p plan flow)
    report_holds =
        let names = names_of p in
        let t = s.stencils in
        let outputs : length (latencies plan) ≡ length t.outputs = length-map t.outputs (λ g. slice_index d (place t.images g)) in
        let named = names_keep names t report (record { width = refl; height = refl }) (λ k lt. let below : k < image_count s = omega (arith, lt, count) in record { kept = below; name_is = line_name k below; width_is = line_width k below }) in
        record {
          program = none_foreign names t report named (outputs_keep names t report named (omega (arith, count)) (omega (arith, outputs))) (omega (arith, outputs)) (λ _. refl);
          numbers = to_rules s report printed_numbers;
        }

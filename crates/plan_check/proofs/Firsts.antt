-- Which line is the first that is wrong by the printed numbers, part after part.
use Rattle.std.proofs.Common.{◌≡◌, ◌<◌, ◌≤◌, ◌+◌, ◌-◌, ℕ, List, [], ◌∷◌, ◌++◌, map, length, arith}
use Rattle.std.proofs.lemmas.List.{length-map, length-append}
use Rattle.raster_delay.specs.Systems.{System, bits}
use Rattle.report_text.specs.Reports.{Report}
use Rattle.report_text.specs.Layout.{head_lines, unless_first, size_line, image_line, latency_line, clocks_line, bits_line, reads_line, flow_line, end_line}
use Rattle.plan_check.specs.First.{IsFirst, Misses}
use Rattle.plan_check.specs.Rules.{each, Keeps, Breaks}
use Rattle.plan_check.specs.Numbering.{image_number, latency_number, clocks_number, bits_number, flow_number, last_number}
use Rattle.plan_check.specs.Holding.{ImageHolds, LatencyHolds, delays, clocks_of, HasConstraint, FlowHolds}
use Rattle.plan_check.specs.Judging.{line_at, number_rules}
use Rattle.plan_check.proofs.Broken.{From, keeps_both, keeps_left, keeps_right, keeps_each, each_keeps, first_each, first_one, from_both, from_each, skip, stop}

-- the rules by the printed numbers, part by part
abbrev image_rules : System → Report → List (ℕ × Type 0)
image_rules s r = each (image_number r) (length r.images) (ImageHolds s r.images)

abbrev latency_rules : System → Report → List (ℕ × Type 0)
latency_rules s r = each (latency_number r) (length r.latencies) (LatencyHolds s r.images r.latencies)

abbrev sum_rules : System → Report → List (ℕ × Type 0)
sum_rules s r = (clocks_number r, r.clocks ≡ clocks_of r) ∷ (bits_number r, r.bits ≡ bits s (delays r)) ∷ []

abbrev constraint_rules : System → Report → List (ℕ × Type 0)
constraint_rules s r = each (flow_number r) (length r.flow) (λ k. HasConstraint s (line_at r.flow k))

abbrev flow_rules : System → Report → List (ℕ × Type 0)
flow_rules s r = (last_number r, FlowHolds s r.flow r.bits) ∷ []

module _ (s : System) (r : Report) where
  -- the last line follows those of the flow, and is no earlier than that of the bits
  pub last_is : last_number r ≡ flow_number r 0 + length r.flow + length (unless_first r.version (end_line ∷ [])) - 1
  last_is =
      let h = head_lines r in
      let i = map image_line r.images in
      let l = map latency_line r.latencies in
      let t = unless_first r.version (reads_line r.reads ∷ []) in
      let f = map (flow_line r.images) r.flow in
      let e = unless_first r.version (end_line ∷ []) in
      let last = clocks_line r.clocks ∷ bits_line r.bits ∷ (t ++ (f ++ e)) in
      omega (
        arith,
        length-append h (size_line r.width r.height ∷ (i ++ (l ++ last))),
        length-append i (l ++ last),
        length-append l last,
        length-append t (f ++ e),
        length-append f e,
        length-map r.images image_line,
        length-map r.latencies latency_line,
        length-map r.flow (flow_line r.images),
      )

  abbrev behind_images : List (ℕ × Type 0)
  behind_images = latency_rules s r ++ (sum_rules s r ++ (constraint_rules s r ++ flow_rules s r))

  abbrev behind_latencies : List (ℕ × Type 0)
  behind_latencies = sum_rules s r ++ (constraint_rules s r ++ flow_rules s r)

  abbrev behind_sums : List (ℕ × Type 0)
  behind_sums = constraint_rules s r ++ flow_rules s r

  from_flow : (n : ℕ) → n ≤ last_number r → From n (flow_rules s r)
  from_flow n le = (le, tt)

  from_constraints : (n : ℕ) → n ≤ bits_number r → From n behind_sums
  from_constraints n le = from_both n (constraint_rules s r) (flow_rules s r)
      (from_each (flow_number r) (λ k. HasConstraint s (line_at r.flow k)) n (length r.flow) (λ k lt. omega (arith, le)))
      (from_flow n (omega (arith, le, last_is)))

  from_sums : (n : ℕ) → n ≤ clocks_number r → From n behind_latencies
  from_sums n le = (le, (omega (arith, le), from_constraints n (omega (arith, le))))

  from_latencies : (n : ℕ) → n ≤ latency_number r 0 → From n behind_images
  from_latencies n le = from_both n (latency_rules s r) behind_latencies
      (from_each (latency_number r) (LatencyHolds s r.images r.latencies) n (length r.latencies) (λ k lt. omega (arith, le)))
      (from_sums n (omega (arith, le)))

  -- the first image line that is wrong
  pub wrong_image : (w : ℕ) → IsFirst (Misses (ImageHolds s r.images) (length r.images)) w → IsFirst (Breaks (number_rules s r)) (image_number r w)
  wrong_image w f = stop (image_rules s r) behind_images (image_number r w)
      (first_each (image_number r) (ImageHolds s r.images) (λ j k le. omega (arith, le)) (length r.images) w f)
      (let below = f.is.0 in from_latencies (image_number r w) (omega (arith, below)))

  pub images_keep : ((k : ℕ) → k < length r.images → ImageHolds s r.images k) → Keeps (image_rules s r)
  images_keep h = keeps_each (image_number r) (ImageHolds s r.images) (length r.images) h

  module _ (images : Keeps (image_rules s r)) where
    pub wrong_latency : (w : ℕ) → IsFirst (Misses (LatencyHolds s r.images r.latencies) (length r.latencies)) w → IsFirst (Breaks (number_rules s r)) (latency_number r w)
    wrong_latency w f = skip (image_rules s r) behind_images (latency_number r w) images (stop (latency_rules s r) behind_latencies (latency_number r w)
        (first_each (latency_number r) (LatencyHolds s r.images r.latencies) (λ j k le. omega (arith, le)) (length r.latencies) w f)
        (let below = f.is.0 in from_sums (latency_number r w) (omega (arith, below))))

    pub latencies_keep : ((k : ℕ) → k < length r.latencies → LatencyHolds s r.images r.latencies k) → Keeps (latency_rules s r)
    latencies_keep h = keeps_each (latency_number r) (LatencyHolds s r.images r.latencies) (length r.latencies) h

    module _ (latencies : Keeps (latency_rules s r)) where
      past : (n : ℕ) → IsFirst (Breaks behind_latencies) n → IsFirst (Breaks (number_rules s r)) n
      past n f = skip (image_rules s r) behind_images n images (skip (latency_rules s r) behind_latencies n latencies f)

      pub wrong_clocks : (r.clocks ≡ clocks_of r → ⊥) → IsFirst (Breaks (number_rules s r)) (clocks_number r)
      wrong_clocks not = past (clocks_number r) (first_one (clocks_number r) (r.clocks ≡ clocks_of r) ((bits_number r, r.bits ≡ bits s (delays r)) ∷ behind_sums) not
          (omega arith, from_constraints (clocks_number r) (omega arith)))

      pub wrong_bits : r.clocks ≡ clocks_of r → (r.bits ≡ bits s (delays r) → ⊥) → IsFirst (Breaks (number_rules s r)) (bits_number r)
      wrong_bits right not = past (bits_number r) (skip ((clocks_number r, r.clocks ≡ clocks_of r) ∷ []) ((bits_number r, r.bits ≡ bits s (delays r)) ∷ behind_sums) (bits_number r) (right, tt)
          (first_one (bits_number r) (r.bits ≡ bits s (delays r)) behind_sums not (from_constraints (bits_number r) (omega arith))))

      module _ (sums : Keeps (sum_rules s r)) where
        pub wrong_constraint : (w : ℕ) → IsFirst (Misses (λ k. HasConstraint s (line_at r.flow k)) (length r.flow)) w → IsFirst (Breaks (number_rules s r)) (flow_number r w)
        wrong_constraint w f = past (flow_number r w) (skip (sum_rules s r) behind_sums (flow_number r w) sums (stop (constraint_rules s r) (flow_rules s r) (flow_number r w)
            (first_each (flow_number r) (λ k. HasConstraint s (line_at r.flow k)) (λ j k le. omega (arith, le)) (length r.flow) w f)
            (let below = f.is.0 in from_flow (flow_number r w) (omega (arith, below, last_is)))))

        pub constraints_keep : ((k : ℕ) → k < length r.flow → HasConstraint s (line_at r.flow k)) → Keeps (constraint_rules s r)
        constraints_keep h = keeps_each (flow_number r) (λ k. HasConstraint s (line_at r.flow k)) (length r.flow) h

        module _ (constraints : (k : ℕ) → k < length r.flow → HasConstraint s (line_at r.flow k)) where
          pub wrong_flow : (FlowHolds s r.flow r.bits → ⊥) → IsFirst (Breaks (number_rules s r)) (last_number r)
          wrong_flow not = past (last_number r) (skip (sum_rules s r) behind_sums (last_number r) sums (skip (constraint_rules s r) (flow_rules s r) (last_number r)
              (constraints_keep constraints) (first_one (last_number r) (FlowHolds s r.flow r.bits) [] not tt)))

          pub none_wrong : FlowHolds s r.flow r.bits → Keeps (number_rules s r)
          none_wrong flow = keeps_both (image_rules s r) behind_images images (keeps_both (latency_rules s r) behind_latencies latencies (keeps_both (sum_rules s r) behind_sums sums
              (keeps_both (constraint_rules s r) (flow_rules s r) (constraints_keep constraints) (flow, tt))))

-- what the printed numbers of a report that holds say
pub record NumbersHold (s : System) (r : Report) : Type 0 where
  pub images : (k : ℕ) → k < length r.images → ImageHolds s r.images k
  pub latencies : (k : ℕ) → k < length r.latencies → LatencyHolds s r.images r.latencies k
  pub clocks : r.clocks ≡ clocks_of r
  pub bits : r.bits ≡ bits s (delays r)
  pub constraints : (k : ℕ) → k < length r.flow → HasConstraint s (line_at r.flow k)
  pub flow : FlowHolds s r.flow r.bits

pub of_rules : (s : System) (r : Report) → Keeps (number_rules s r) → NumbersHold s r
of_rules s r h =
    let last = keeps_right (image_rules s r) (behind_images s r) h in
    let sums = keeps_right (latency_rules s r) (behind_latencies s r) last in
    let flows = sums.1.1 in
    record {
      images = each_keeps (image_number r) (ImageHolds s r.images) (length r.images) (keeps_left (image_rules s r) (behind_images s r) h);
      latencies = each_keeps (latency_number r) (LatencyHolds s r.images r.latencies) (length r.latencies) (keeps_left (latency_rules s r) (behind_latencies s r) last);
      clocks = sums.0;
      bits = sums.1.0;
      constraints = each_keeps (flow_number r) (λ k. HasConstraint s (line_at r.flow k)) (length r.flow) (keeps_left (constraint_rules s r) (flow_rules s r) flows);
      flow = (keeps_right (constraint_rules s r) (flow_rules s r) flows).0;
    }

pub to_rules : (s : System) (r : Report) → NumbersHold s r → Keeps (number_rules s r)
to_rules s r h =
    none_wrong s r (images_keep s r h.images) (latencies_keep s r (images_keep s r h.images) h.latencies) (h.clocks, (h.bits, tt)) h.constraints h.flow

-- Which line is the first that is wrong by the program, and by either kind of rule.
use Rattle.std.proofs.Common.{◌≡◌, ◌<◌, ◌≤◌, ◌+◌, ℕ, List, [], ◌∷◌, ◌++◌, length, min, refl, subst, arith, inl, inr}
use Rattle.std.proofs.lemmas.Bool.{cases_lt}
use Rattle.dk_base.specs.Stencils.{Stencils}
use Rattle.raster_delay.specs.Systems.{System}
use Rattle.report_text.specs.Reports.{Report}
use Rattle.plan_check.specs.declared.verdict.Verdict.{Verdict}
use Rattle.plan_check.specs.declared.verdict.Verdict.TheVariants.{Yes, No}
use Rattle.plan_check.specs.First.{IsFirst, Misses}
use Rattle.plan_check.specs.Rules.{each, Keeps, Breaks}
use Rattle.plan_check.specs.Numbering.{size_number, image_number, latency_number, clocks_number, bits_number}
use Rattle.plan_check.specs.Judging.{number_rules, Judges}
use Rattle.plan_check.specs.Program.{IsNamed, IsOfSize, IsOfCounts, program_rules, IsAmiss, foreign, wrong, HoldsOf, JudgesOf}
use Rattle.plan_check.proofs.Broken.{From, none_broken, keeps_both, keeps_left, keeps_right, keeps_each, each_keeps, first_each, first_one, from_both, from_each, skip, stop}

-- the rules by the program, part by part
abbrev size_rules : (names : List (List ℕ)) → Stencils → Report → List (ℕ × Type 0)
size_rules names s r = (size_number r, IsOfSize s r) ∷ each (image_number r) (length r.images) (IsNamed names s r.images)

abbrev output_rules : Stencils → Report → List (ℕ × Type 0)
output_rules s r = (latency_number r 0, length s.images ≤ length r.images) ∷ each (latency_number r) (length r.latencies) (λ k. k < length s.outputs)

abbrev count_rules : Stencils → Report → List (ℕ × Type 0)
count_rules s r = (clocks_number r, length s.outputs ≤ length r.latencies) ∷ (bits_number r + 1, (r.version ≡ 1 → ⊥) → r.reads ≡ length s.reads) ∷ []

module _ (names : List (List ℕ)) (s : Stencils) (r : Report) where
  abbrev behind_images : List (ℕ × Type 0)
  behind_images = output_rules s r ++ count_rules s r

  from_counts : (n : ℕ) → n ≤ clocks_number r → From n (count_rules s r)
  from_counts n le = (le, (omega (arith, le), tt))

  from_each_output : (n : ℕ) → n ≤ latency_number r 0 → From n (output_rules s r)
  from_each_output n le = (le, from_each (latency_number r) (λ k. k < length s.outputs) n (length r.latencies) (λ k lt. omega (arith, le)))

  from_outputs : (n : ℕ) → n ≤ latency_number r 0 → From n behind_images
  from_outputs n le = from_both n (output_rules s r) (count_rules s r) (from_each_output n le) (from_counts n (omega (arith, le)))

  pub wrong_size : (IsOfSize s r → ⊥) → IsFirst (Breaks (program_rules names s r)) (size_number r)
  wrong_size not = stop (size_rules names s r) behind_images (size_number r)
      (first_one (size_number r) (IsOfSize s r) _ not (from_each (image_number r) (IsNamed names s r.images) (size_number r) (length r.images) (λ k lt. omega arith)))
      (from_outputs (size_number r) (omega arith))

  module _ (size : IsOfSize s r) where
    pub wrong_name : (w : ℕ) → IsFirst (Misses (IsNamed names s r.images) (length r.images)) w → IsFirst (Breaks (program_rules names s r)) (image_number r w)
    wrong_name w f = stop (size_rules names s r) behind_images (image_number r w)
        (skip ((size_number r, IsOfSize s r) ∷ []) _ (image_number r w) (size, tt) (first_each (image_number r) (IsNamed names s r.images) (λ j k le. omega (arith, le)) (length r.images) w f))
        (let below = f.is.0 in from_outputs (image_number r w) (omega (arith, below)))

    pub names_keep : ((k : ℕ) → k < length r.images → IsNamed names s r.images k) → Keeps (size_rules names s r)
    names_keep h = (size, keeps_each (image_number r) (IsNamed names s r.images) (length r.images) h)

  module _ (images : Keeps (size_rules names s r)) where
    pub few_images : (length s.images ≤ length r.images → ⊥) → IsFirst (Breaks (program_rules names s r)) (latency_number r 0)
    few_images not = skip (size_rules names s r) behind_images (latency_number r 0) images (stop (output_rules s r) (count_rules s r) (latency_number r 0)
        (first_one (latency_number r 0) (length s.images ≤ length r.images) _ not (from_each (latency_number r) (λ k. k < length s.outputs) (latency_number r 0) (length r.latencies) (λ k lt. omega arith)))
        (from_counts (latency_number r 0) (omega arith)))

    module _ (enough : length s.images ≤ length r.images) where
      pub no_output : length s.outputs < length r.latencies → IsFirst (Breaks (program_rules names s r)) (latency_number r (length s.outputs))
      no_output lt =
          let f : IsFirst (Misses (λ k. k < length s.outputs) (length r.latencies)) (length s.outputs) = record { is = (lt, λ h. omega (arith, h)); before = λ m less h. h.1 less } in
          skip (size_rules names s r) behind_images (latency_number r (length s.outputs)) images (stop (output_rules s r) (count_rules s r) (latency_number r (length s.outputs))
          (skip ((latency_number r 0, length s.images ≤ length r.images) ∷ []) _ (latency_number r (length s.outputs)) (enough, tt)
          (first_each (latency_number r) (λ k. k < length s.outputs) (λ j k le. omega (arith, le)) (length r.latencies) (length s.outputs) f))
          (from_counts (latency_number r (length s.outputs)) (omega (arith, lt))))

      pub outputs_keep : length r.latencies ≤ length s.outputs → Keeps (output_rules s r)
      outputs_keep most = (enough, keeps_each (latency_number r) (λ k. k < length s.outputs) (length r.latencies) (λ k lt. omega (arith, lt, most)))

    module _ (outputs : Keeps (output_rules s r)) where
      past : (n : ℕ) → IsFirst (Breaks (count_rules s r)) n → IsFirst (Breaks (program_rules names s r)) n
      past n f = skip (size_rules names s r) behind_images n images (skip (output_rules s r) (count_rules s r) n outputs f)

      pub few_latencies : (length s.outputs ≤ length r.latencies → ⊥) → IsFirst (Breaks (program_rules names s r)) (clocks_number r)
      few_latencies not = past (clocks_number r) (first_one (clocks_number r) (length s.outputs ≤ length r.latencies) ((bits_number r + 1, (r.version ≡ 1 → ⊥) → r.reads ≡ length s.reads) ∷ []) not (omega arith, tt))

      module _ (each_output : length s.outputs ≤ length r.latencies) where
        pub wrong_reads : (((r.version ≡ 1 → ⊥) → r.reads ≡ length s.reads) → ⊥) → IsFirst (Breaks (program_rules names s r)) (bits_number r + 1)
        wrong_reads not = past (bits_number r + 1) (skip ((clocks_number r, length s.outputs ≤ length r.latencies) ∷ []) ((bits_number r + 1, (r.version ≡ 1 → ⊥) → r.reads ≡ length s.reads) ∷ []) (bits_number r + 1) (each_output, tt)
            (first_one (bits_number r + 1) ((r.version ≡ 1 → ⊥) → r.reads ≡ length s.reads) [] not tt))

        pub none_foreign : ((r.version ≡ 1 → ⊥) → r.reads ≡ length s.reads) → Keeps (program_rules names s r)
        none_foreign reads = keeps_both (size_rules names s r) behind_images images (keeps_both (output_rules s r) (count_rules s r) outputs (each_output, (reads, tt)))

  -- as many images and outputs
  pub all_counts : Keeps (program_rules names s r) → IsOfCounts s r
  all_counts h =
      let last = keeps_right (size_rules names s r) behind_images h in
      let named = each_keeps (image_number r) (IsNamed names s r.images) (length r.images) (keeps_left (size_rules names s r) behind_images h).1 in
      let counts = keeps_right (output_rules s r) (count_rules s r) last in
      let has = each_keeps (latency_number r) (λ k. k < length s.outputs) (length r.latencies) (keeps_left (output_rules s r) (count_rules s r) last).1 in
      let enough = (keeps_left (output_rules s r) (count_rules s r) last).0 in
      let least = counts.0 in
      record {
        images = elim (cases_lt (length s.images) (length r.images)) [
          | inl lt ↦ let k = (named (length s.images) lt).kept in absurd (omega (arith, k))
          | inr le ↦ omega (arith, enough, le)
        ];
        latencies = elim (cases_lt (length s.outputs) (length r.latencies)) [
          | inl lt ↦ let k = has (length s.outputs) lt in absurd (omega (arith, k))
          | inr le ↦ omega (arith, least, le)
        ];
      }

module _ (names : List (List ℕ)) (s : System) (r : Report) where
  amiss_alone : (line : ℕ) → IsFirst (Breaks (program_rules names s.stencils r)) line → ((m : ℕ) → m < line → IsOfCounts s.stencils r → Breaks (number_rules s r) m → ⊥) → IsFirst (IsAmiss names s r) line
  amiss_alone line f right = record { is = foreign f.is; before = before } where
    before : (m : ℕ) → m < line → IsAmiss names s r m → ⊥
    before m lt (foreign h) = f.before m lt h
    before m lt (wrong counts h) = right m lt counts h

  -- no count is right
  pub amiss_uneven : (line : ℕ) → IsFirst (Breaks (program_rules names s.stencils r)) line → (IsOfCounts s.stencils r → ⊥) → IsFirst (IsAmiss names s r) line
  amiss_uneven line f uneven = amiss_alone line f (λ m lt counts h. uneven counts)

  pub amiss_right : (line : ℕ) → IsFirst (Breaks (program_rules names s.stencils r)) line → Keeps (number_rules s r) → IsFirst (IsAmiss names s r) line
  amiss_right line f holds = amiss_alone line f (λ m lt counts h. none_broken (number_rules s r) m holds h)

  amiss_wrong : (line : ℕ) → Keeps (program_rules names s.stencils r) → IsFirst (Breaks (number_rules s r)) line → IsFirst (IsAmiss names s r) line
  amiss_wrong line program w = record { is = wrong (all_counts names s.stencils r program) w.is; before = before } where
    before : (m : ℕ) → m < line → IsAmiss names s r m → ⊥
    before m lt (foreign h) = none_broken (program_rules names s.stencils r) m program h
    before m lt (wrong counts h) = w.before m lt h

  pub amiss_both : (line other sooner : ℕ) → sooner ≡ min line other → IsFirst (Breaks (program_rules names s.stencils r)) line → IsOfCounts s.stencils r → IsFirst (Breaks (number_rules s r)) other → IsFirst (IsAmiss names s r) sooner
  amiss_both line other sooner is f counts w = elim (cases_lt line other) [
    | inl lt ↦
        let e : line ≡ sooner = omega arith in
        subst (IsFirst (IsAmiss names s r)) e (amiss_alone line f (λ m below counts h. w.before m (omega arith) h))
    | inr le ↦
        let e : other ≡ sooner = omega arith in
        subst (IsFirst (IsAmiss names s r)) e (record { is = wrong counts w.is; before = before le })
  ]
    where
      before : other ≤ line → (m : ℕ) → m < other → IsAmiss names s r m → ⊥
      before le m lt (foreign h) = f.before m (omega arith) h
      before le m lt (wrong counts h) = w.before m lt h

  -- what is answered where no line is wrong by the program
  pub judges_native : (v : Verdict) → Keeps (program_rules names s.stencils r) → Judges s r v → JudgesOf names s r v
  judges_native Yes program holds = record { program = program; numbers = holds }
  judges_native (No line) program w = amiss_wrong line program w

  -- a report that holds is answered with yes
  pub yes_alone : (v : Verdict) → HoldsOf names s r → JudgesOf names s r v → v ≡ Yes
  yes_alone Yes holds judged = refl
  yes_alone (No line) holds judged = absurd (refuted judged.is) where
    refuted : IsAmiss names s r line → ⊥
    refuted (foreign h) = none_broken (program_rules names s.stencils r) line holds.program h
    refuted (wrong counts h) = none_broken (number_rules s r) line holds.numbers h

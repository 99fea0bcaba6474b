-- Flow lines that ascend and name constraints are at most as many as these.
use Rattle.std.proofs.Common.{◌≡◌, ◌<◌, ◌≤◌, ◌+◌, ◌-◌, ◌*◌, ◌^◌, ℕ, zero, suc, pos, List, [], ◌∷◌, length, slice_index_or, refl, sym, ap, subst, arith, inl, inr, ◌∙◌}
use Rattle.std.specs.Prelude.{Contains, ◌<ℤ◌}
use Rattle.std.proofs.lemmas.Int.{ints}
use Rattle.std.proofs.lemmas.Bool.{cases_lt, cases_eq}
use Rattle.std.proofs.lemmas.List.{get_or_default}
use Rattle.dk_base.specs.Stencils.{IsBefore}
use Rattle.raster_delay.specs.declared.placed.PlacedRead.{PlacedRead}
use Rattle.raster_delay.specs.Systems.{System, IsSystem, image_count, placed_reads}
use Rattle.raster_delay.proofs.Places.{system_form}
use Rattle.report_text.specs.declared.report.FlowLine.{FlowLine}
use Rattle.report_text.specs.declared.report.FlowLine.TheVariants.{Hold, Start, Read, Keep}
use Rattle.report_text.specs.Reports.{StandsBefore, Ascend}
use Rattle.plan_check.specs.Holding.{HasConstraint, read_at}
use Rattle.plan_check.specs.Judging.{line_at}
use Rattle.plan_check.specs.Orders.{IsEarlier}
use Rattle.plan_check.proofs.Order.{in_order, not_both}

-- of two lines of one kind that name only an image
image_rises : (f g : ℕ) → IsBefore (record { f = f; g = 0; dx = pos 0; dy = pos 0 }) (record { f = g; g = 0; dx = pos 0; dy = pos 0 }) → f < g
image_rises f g b = elim (cases_lt f g) [
  | inl lt ↦ lt
  | inr le ↦
      let most = b.reader in
      let e : f ≡ g = omega (arith, most, le) in
      let apart : pos 0 <ℤ pos 0 = b.columns e refl refl in
      absurd (omega (arith, ints, apart))
]

-- a line of a later kind comes before none of an earlier one
kinds_fall : (j k : ℕ) → k < j → j ≤ k → ⊥
kinds_fall j k lt le = omega (arith, lt, le)

ascend_at : (flow : List FlowLine) (k : ℕ) (d : FlowLine) → Ascend flow → suc k < length flow → StandsBefore (slice_index_or flow k d) (slice_index_or flow (suc k) d)
ascend_at [] k d up lt = absurd (omega (arith, lt))
ascend_at (a ∷ []) k d up lt = absurd (omega (arith, lt))
ascend_at (a ∷ b ∷ more) zero d up lt = up.0
ascend_at (a ∷ b ∷ more) (suc k) d up lt = ascend_at (b ∷ more) k d up.1 (omega (arith, lt))

module _ (s : System) (is : IsSystem s) where
  abbrev reads : List PlacedRead
  reads = placed_reads s

  -- the place among all constraints of the one that a flow line names
  abbrev pub rank : (x : FlowLine) → HasConstraint s x → ℕ
  rank (Hold g n) h = g
  rank (Start f n) h = image_count s + (f - s.stencils.inputs)
  rank (Read f g dx dy n) h = image_count s + (image_count s - s.stencils.inputs) + h.0
  rank (Keep f g dx dy n) h = image_count s + (image_count s - s.stencils.inputs) + length (placed_reads s) + h.0

  rank_below : (x : FlowLine) (h : HasConstraint s x) → rank x h < 2 * image_count s + 2 * length (placed_reads s)
  rank_below (Hold g n) h = omega (arith, h)
  rank_below (Start f n) h = omega (arith, h.0, h.1)
  rank_below (Read f g dx dy n) h = omega (arith, h.1)
  rank_below (Keep f g dx dy n) h = omega (arith, h.1)

  place_rises : (a b : PlacedRead) (p : Contains (placed_reads s) a) (q : Contains (placed_reads s) b) → IsEarlier a b → p.0 < q.0
  place_rises a b p q e =
      let at_p : slice_index_or (placed_reads s) p.0 a ≡ a = p.2 in
      let at_q : slice_index_or (placed_reads s) q.0 a ≡ b = get_or_default (placed_reads s) q.0 a b q.1 ∙ q.2 in
      elim (cases_lt p.0 q.0) [
        | inl done ↦ done
        | inr le ↦ elim (cases_eq q.0 p.0) [
          | inl same ↦
              let one : a ≡ b = sym at_p ∙ ap (λ k. slice_index_or (placed_reads s) k a) (sym same) ∙ at_q in
              absurd (not_both a b e (subst (λ x. IsEarlier x a) one (subst (λ x. IsEarlier a x) (sym one) e)))
          | inr ne ↦
              let back = in_order s is q.0 p.0 a (omega arith) p.1 in
              absurd (not_both a b e (subst (λ x. IsEarlier b x) at_p (subst (λ x. IsEarlier x (slice_index_or (placed_reads s) p.0 a)) at_q back)))
        ]
      ]

  pub rank_rises : (x y : FlowLine) (h : HasConstraint s x) (j : HasConstraint s y) → StandsBefore x y → rank x h < rank y j
  rank_rises (Hold g n) (Hold g' n') h j b = image_rises g g' (b.reads refl)
  rank_rises (Hold g n) (Start f' n') h j b = omega (arith, h, j.0)
  rank_rises (Hold g n) (Read f' g' dx' dy' n') h j b = omega (arith, h)
  rank_rises (Hold g n) (Keep f' g' dx' dy' n') h j b = omega (arith, h)
  rank_rises (Start f n) (Hold g' n') h j b = absurd (kinds_fall 1 0 (omega arith) b.kinds)
  rank_rises (Start f n) (Start f' n') h j b = omega (arith, h.0, j.0, image_rises f f' (b.reads refl))
  rank_rises (Start f n) (Read f' g' dx' dy' n') h j b = omega (arith, h.0, h.1)
  rank_rises (Start f n) (Keep f' g' dx' dy' n') h j b = omega (arith, h.0, h.1)
  rank_rises (Read f g dx dy n) (Hold g' n') h j b = absurd (kinds_fall 2 0 (omega arith) b.kinds)
  rank_rises (Read f g dx dy n) (Start f' n') h j b = absurd (kinds_fall 2 1 (omega arith) b.kinds)
  rank_rises (Read f g dx dy n) (Read f' g' dx' dy' n') h j b = omega (arith, place_rises (read_at f g dx dy) (read_at f' g' dx' dy') h j (b.reads refl))
  rank_rises (Read f g dx dy n) (Keep f' g' dx' dy' n') h j b = omega (arith, h.1)
  rank_rises (Keep f g dx dy n) (Hold g' n') h j b = absurd (kinds_fall 3 0 (omega arith) b.kinds)
  rank_rises (Keep f g dx dy n) (Start f' n') h j b = absurd (kinds_fall 3 1 (omega arith) b.kinds)
  rank_rises (Keep f g dx dy n) (Read f' g' dx' dy' n') h j b = absurd (kinds_fall 3 2 (omega arith) b.kinds)
  rank_rises (Keep f g dx dy n) (Keep f' g' dx' dy' n') h j b = omega (arith, place_rises (read_at f g dx dy) (read_at f' g' dx' dy') h j (b.reads refl))

  module _ (flow : List FlowLine) (up : Ascend flow) where
    climbs : (k : ℕ) → k < length flow → ((i : ℕ) → i < suc k → HasConstraint s (line_at flow i)) → (h : HasConstraint s (line_at flow k)) → k ≤ rank (line_at flow k) h
    climbs zero lt all h = omega arith
    climbs (suc k) lt all h =
        let before : HasConstraint s (line_at flow k) = all k (omega arith) in
        omega (arith, climbs k (omega (arith, lt)) (λ i b. all i (omega (arith, b))) before, rank_rises (line_at flow k) (line_at flow (suc k)) before h (ascend_at flow k (Hold 0 0) up lt))

    -- the lines in front of the first that names no constraint
    pub few_lines : (w : ℕ) → w ≤ length flow → ((k : ℕ) → k < w → HasConstraint s (line_at flow k)) → w ≤ 2 ^ 18
    few_lines zero le all = omega arith
    few_lines (suc w) le all =
        let here : HasConstraint s (line_at flow w) = all w (omega arith) in
        let form = system_form s is in
        omega (arith, climbs w (omega (arith, le)) all here, rank_below (line_at flow w) here, form.image_limit, form.count)

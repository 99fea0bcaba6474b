-- One constraint more that holds, where its target's number is raised.
use Rattle.std.proofs.Common.{◌≡◌, ◌≢◌, ◌<◌, ◌≤◌, ℕ, pos, List, length, set, slice_index, ◌+◌, ◌^◌, max, ap, ◌∙◌, arith, inl, inr, get_or-set_other, get_or-set_same}
use Rattle.std.specs.Prelude.{◌+ℤ◌, ◌≤ℤ◌, All}
use Rattle.std.proofs.lemmas.Int.{ints}
use Rattle.std.proofs.lemmas.Bool.{cases_eq, cases_lt}
use Rattle.raster_delay.specs.Network.{Holds, constraint_at}
use Rattle.raster_delay.specs.Delays.{NoReturn}
use Rattle.raster_delay.specs.declared.network.Constraint.{Constraint}

module _ (cs : List Constraint) (p old : List ℕ) (i least y : ℕ) (h : i < length cs) (within : (constraint_at cs i).target < length p)
    (y_is : y ≡ max (slice_index p (constraint_at cs i).target) least)
    (enough : (pos (slice_index p (constraint_at cs i).source) +ℤ (constraint_at cs i).cost) ≤ℤ pos least)
    (no_more : (n : ℕ) → (pos (slice_index p (constraint_at cs i).source) +ℤ (constraint_at cs i).cost) ≤ℤ pos n → least ≤ n)
    (no_return : NoReturn cs) where
  at_target : slice_index (set p (constraint_at cs i).target y) (constraint_at cs i).target ≡ y
  at_target = get_or-set_same p (constraint_at cs i).target y 0 within

  pub at_other : (v : ℕ) → v ≢ (constraint_at cs i).target → slice_index (set p (constraint_at cs i).target y) v ≡ slice_index p v
  at_other v ne = get_or-set_other p (constraint_at cs i).target v y 0 ne

  pub relax_more : (v : ℕ) → slice_index p v ≤ slice_index (set p (constraint_at cs i).target y) v
  relax_more v = elim (cases_eq v (constraint_at cs i).target) [
    | inl e ↦ omega (arith, at_target, y_is, ap (slice_index p) e, ap (slice_index (set p (constraint_at cs i).target y)) e)
    | inr ne ↦ omega (arith, at_other v ne)
  ]

  pub relax_near : (m : ℕ) → ((v : ℕ) → slice_index p v ≤ m) → least ≤ m + 2 ^ 25 → (v : ℕ) → slice_index (set p (constraint_at cs i).target y) v ≤ m + 2 ^ 25
  relax_near m near le v = elim (cases_eq v (constraint_at cs i).target) [
    | inl e ↦ omega (arith, at_target, y_is, near v, le, ap (slice_index p) e, ap (slice_index (set p (constraint_at cs i).target y)) e)
    | inr ne ↦ omega (arith, at_other v ne, near v)
  ]

  pub relax_holds : ((k : ℕ) → k < i → Holds p (constraint_at cs k)) → (k : ℕ) → k < i + 1 → Holds (set p (constraint_at cs i).target y) (constraint_at cs k)
  relax_holds holds k le =
      let c = constraint_at cs k in
      let source : slice_index (set p (constraint_at cs i).target y) c.source ≡ slice_index p c.source = at_other c.source (λ e. no_return k i (omega arith) h e) in
      elim (cases_lt k i) [
        | inl earlier ↦ omega (arith, ints, source, relax_more c.target, holds k earlier)
        | inr later ↦
            let e : k ≡ i = omega arith in
            let at : slice_index (set p (constraint_at cs i).target y) c.target ≡ y = ap (λ j. slice_index (set p (constraint_at cs i).target y) (constraint_at cs j).target) e ∙ at_target in
            let need : (pos (slice_index p c.source) +ℤ c.cost) ≤ℤ pos least = rw e enough in
            omega (arith, ints, source, at, y_is, need)
      ]

  pub relax_least : (d : List ℕ) → All (Holds d) cs → ((v : ℕ) → slice_index p v ≤ slice_index d v) → (v : ℕ) → slice_index (set p (constraint_at cs i).target y) v ≤ slice_index d v
  relax_least d holds below v = elim (cases_eq v (constraint_at cs i).target) [
    | inl e ↦
        let c = constraint_at cs i in
        let fits : least ≤ slice_index d c.target = no_more (slice_index d c.target) (omega (arith, ints, below c.source, holds i (record { source = 0; target = 0; cost = pos 0 }) h)) in
        omega (arith, at_target, y_is, fits, below c.target, ap (slice_index d) e, ap (slice_index (set p (constraint_at cs i).target y)) e)
    | inr ne ↦ omega (arith, at_other v ne, below v)
  ]

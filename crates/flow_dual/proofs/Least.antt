-- What stays true of the numbers when those that are not reached are lowered, and why they are the least in the end.
use Rattle.std.proofs.Common.{◌≡◌, ◌<◌, ◌≤◌, ℕ, zero, suc, pos, List, [], ◌∷◌, length, sum, slice_index, ◌-◌, ap, ◌∙◌, arith, inl, inr}
use Rattle.std.specs.Prelude.{All}
use Rattle.std.proofs.lemmas.Int.{ints}
use Rattle.std.proofs.lemmas.Bool.{cases_eq}
use Rattle.std.proofs.lemmas.List.Elements.{All-from_get_or}
use Rattle.std.proofs.lemmas.List.Sums.{sum_by-cons}
use Rattle.raster_delay.specs.Network.{constraint_at, IsTight, Holds, IsComplementary}
use Rattle.raster_delay.specs.declared.network.Constraint.{Constraint}
use Rattle.flow_dual.specs.Tree.{IsTree, IsLink, HangsTight, IsClosed, LeavesRoom, IsRooted, Sinks}
use Rattle.flow_dual.proofs.Raising.{cases_zero}

abbrev nothing : Constraint
nothing = record { source = 0; target = 0; cost = pos 0 }

-- there is room to lower each of them
pub sink_room : (cs : List Constraint) (n : ℕ) (order p : List ℕ) (by : ℕ) → IsRooted cs n → 0 < slice_index order 0 → All (Holds p) cs → LeavesRoom cs p order by
    → (m v : ℕ) → v ≤ m → v < n → slice_index order v ≡ 0 → by ≤ slice_index p v
sink_room cs n order p by rooted root holds room zero v le h out = let e : v ≡ 0 = omega arith in absurd (omega (arith, ap (slice_index order) e))
sink_room cs n order p by rooted root holds room (suc m) v le h out = elim (cases_zero v) [
  | inl e ↦ absurd (omega (arith, ap (slice_index order) e))
  | inr some ↦
      let r = rooted v some h in
      let c = constraint_at cs r.0 in
      elim (cases_zero (slice_index order c.source)) [
        | inl s ↦
            let below : by ≤ slice_index p c.source = sink_room cs n order p by rooted root holds room m c.source (omega (arith, r.3)) (omega (arith, r.3)) s in
            omega (arith, ints, below, holds r.0 nothing r.1, r.4, ap (slice_index p) r.2)
        | inr s ↦ omega (arith, ints, room r.0 r.1 s (ap (slice_index order) r.2 ∙ out), r.4, ap (slice_index p) r.2)
      ]
]

module _ (cs : List Constraint) (flow order old new : List ℕ) (by : ℕ) (sinks : Sinks order old new by)
    (can : (i : ℕ) → i < length cs → (slice_index order (constraint_at cs i).source ≡ 0 → by ≤ slice_index old (constraint_at cs i).source)
    × (slice_index order (constraint_at cs i).target ≡ 0 → by ≤ slice_index old (constraint_at cs i).target)) where
  sunk_holds_at : (i : ℕ) → i < length cs → LeavesRoom cs old order by → Holds old (constraint_at cs i) → Holds new (constraint_at cs i)
  sunk_holds_at i h room holds =
      let c = constraint_at cs i in
      elim (cases_zero (slice_index order c.source)) [
        | inl s ↦ elim (cases_zero (slice_index order c.target)) [
          | inl t ↦ omega (arith, ints, sinks.others c.source s, sinks.others c.target t, holds, (can i h).0 s, (can i h).1 t)
          | inr t ↦ omega (arith, ints, sinks.others c.source s, sinks.reached c.target t, holds, (can i h).0 s)
        ]
        | inr s ↦ elim (cases_zero (slice_index order c.target)) [
          | inl t ↦ omega (arith, ints, sinks.reached c.source s, sinks.others c.target t, room i h s t, (can i h).1 t)
          | inr t ↦ omega (arith, ints, sinks.reached c.source s, sinks.reached c.target t, holds)
        ]
      ]

  pub sunk_holds : LeavesRoom cs old order by → All (Holds old) cs → All (Holds new) cs
  sunk_holds room holds = All-from_get_or (Holds new) cs nothing (λ i h. sunk_holds_at i h room (holds i nothing h))

  pub sunk_complementary : IsClosed cs old flow order → IsComplementary cs flow old → IsComplementary cs flow new
  sunk_complementary closed carries = λ i h some.
      let c = constraint_at cs i in
      let tight : IsTight old c = carries i h some in
      elim (cases_zero (slice_index order c.source)) [
        | inl s ↦ elim (cases_zero (slice_index order c.target)) [
          | inl t ↦ omega (arith, ints, sinks.others c.source s, sinks.others c.target t, tight, (can i h).0 s, (can i h).1 t)
          | inr t ↦ absurd (omega (arith, s, (closed i h).backward t some))
        ]
        | inr s ↦ let t = (closed i h).forward s tight in omega (arith, ints, sinks.reached c.source s, sinks.reached c.target t, tight)
      ]

sum-le : (xs ys : List ℕ) → length ys ≡ length xs → ((k : ℕ) → slice_index ys k ≤ slice_index xs k) → sum ys ≤ sum xs
sum-le [] [] e le = omega arith
sum-le [] (y ∷ ys) e le = absurd (omega arith)
sum-le (x ∷ xs) [] e le = absurd (omega arith)
sum-le (x ∷ xs) (y ∷ ys) e le = omega (arith, sum_by-cons (λ (n : ℕ). n) x xs, sum_by-cons (λ (n : ℕ). n) y ys, le 0, sum-le xs ys (omega arith) (λ k. le (suc k)))

-- a list with nothing greater and something less has a smaller sum
pub sum-less : (xs ys : List ℕ) (v : ℕ) → length ys ≡ length xs → ((k : ℕ) → slice_index ys k ≤ slice_index xs k) → v < length xs
    → slice_index ys v < slice_index xs v → sum ys < sum xs
sum-less [] ys v e le h less = absurd (omega arith)
sum-less (x ∷ xs) [] v e le h less = absurd (omega arith)
sum-less (x ∷ xs) (y ∷ ys) zero e le h less = omega (arith, sum_by-cons (λ (n : ℕ). n) x xs, sum_by-cons (λ (n : ℕ). n) y ys, sum-le xs ys (omega arith) (λ k. le (suc k)))
sum-less (x ∷ xs) (y ∷ ys) (suc v) e le h less =
    omega (arith, sum_by-cons (λ (n : ℕ). n) x xs, sum_by-cons (λ (n : ℕ). n) y ys, le 0, sum-less xs ys v (omega arith) (λ k. le (suc k)) (omega arith) less)

-- where all is reached from 0, nothing is less
module _ (cs : List Constraint) (p flow order parent : List ℕ) (tree : IsTree cs flow order parent 0) (tight : HangsTight cs p order parent 0)
    (zero_at : slice_index p 0 ≡ 0) (d : List ℕ) (holds : All (Holds d) cs) (carries : IsComplementary cs flow d) where
  less_link : (v i : ℕ) → i < length cs → IsLink cs flow order i v → IsTight p (constraint_at cs i)
      → (u : ℕ) × (0 < slice_index order u) × (slice_index order u < slice_index order v) × (slice_index p u ≤ slice_index d u → slice_index p v ≤ slice_index d v)
  less_link v i h link at =
      let c = constraint_at cs i in
      elim link [
        | inl a ↦ (c.source, a.1.0, a.1.1, λ below. omega (arith, ints, ap (slice_index p) a.0, ap (slice_index d) a.0, at, holds i nothing h, below))
        | inr a ↦ (c.target, a.2.0, a.2.1, λ below. omega (arith, ints, ap (slice_index p) a.0, ap (slice_index d) a.0, at, carries i h a.1, below))
      ]

  less_upto : (m v : ℕ) → slice_index order v ≤ m → 0 < slice_index order v → slice_index p v ≤ slice_index d v
  less_upto zero v le some = absurd (omega arith)
  less_upto (suc m) v le some = elim (cases_eq v 0) [
    | inl e ↦ omega (arith, ap (slice_index p) e)
    | inr ne ↦
        let u = less_link v (slice_index parent v) (tree.parents v ne some) (tree.links v ne some) (tight v ne some) in
        u.3 (less_upto m u.0 (omega (arith, u.2)) u.1)
  ]

  pub least_of_reached : (v : ℕ) → 0 < slice_index order v → slice_index p v ≤ slice_index d v
  least_of_reached v some = less_upto (slice_index order v) v (omega arith) some

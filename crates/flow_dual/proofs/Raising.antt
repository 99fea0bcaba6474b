-- What stays true of the numbers of the nodes when those that are reached are raised, and when flow is pushed.
use Rattle.std.proofs.Common.{◌≡◌, ◌<◌, ◌≤◌, ℕ, zero, suc, pos, List, length, slice_index, ◌+◌, ◌*◌, ◌^◌, refl, ap, arith, inl, inr, subst}
use Rattle.std.specs.Prelude.{◌⊎◌, All}
use Rattle.std.proofs.lemmas.Int.{ints}
use Rattle.std.proofs.lemmas.Bool.{cases_eq}
use Rattle.std.proofs.lemmas.List.Elements.{All-from_get_or}
use Rattle.raster_delay.specs.Network.{constraint_at, IsTight, Holds, IsComplementary}
use Rattle.raster_delay.specs.declared.network.Constraint.{Constraint}
use Rattle.raster_delay.specs.Delays.{IsSmall}
use Rattle.flow_dual.specs.Tree.{IsTree, IsLink, HangsTight, IsClosed, LeavesRoom, ChangesOnlyOn, Shifts}

abbrev nothing : Constraint
nothing = record { source = 0; target = 0; cost = pos 0 }

pub cases_zero : (n : ℕ) → (n ≡ 0) ⊎ (0 < n)
cases_zero zero = inl refl
cases_zero (suc n) = inr (omega arith)

module _ (cs : List Constraint) (flow order old new : List ℕ) (by : ℕ) (shifts : Shifts order old new by) where
  shifted_holds_at : (i : ℕ) → i < length cs → LeavesRoom cs old order by → Holds old (constraint_at cs i) → Holds new (constraint_at cs i)
  shifted_holds_at i h room holds =
      let c = constraint_at cs i in
      elim (cases_zero (slice_index order c.source)) [
        | inl s ↦ elim (cases_zero (slice_index order c.target)) [
          | inl t ↦ omega (arith, ints, shifts.others c.source s, shifts.others c.target t, holds)
          | inr t ↦ omega (arith, ints, shifts.others c.source s, shifts.reached c.target t, holds)
        ]
        | inr s ↦ elim (cases_zero (slice_index order c.target)) [
          | inl t ↦ omega (arith, ints, shifts.reached c.source s, shifts.others c.target t, room i h s t)
          | inr t ↦ omega (arith, ints, shifts.reached c.source s, shifts.reached c.target t, holds)
        ]
      ]

  pub shifted_holds : LeavesRoom cs old order by → All (Holds old) cs → All (Holds new) cs
  shifted_holds room holds = All-from_get_or (Holds new) cs nothing (λ i h. shifted_holds_at i h room (holds i nothing h))

  pub shifted_complementary : IsClosed cs old flow order → IsComplementary cs flow old → IsComplementary cs flow new
  shifted_complementary closed carries = λ i h some.
      let c = constraint_at cs i in
      let tight : IsTight old c = carries i h some in
      elim (cases_zero (slice_index order c.source)) [
        | inl s ↦ elim (cases_zero (slice_index order c.target)) [
          | inl t ↦ omega (arith, ints, shifts.others c.source s, shifts.others c.target t, tight)
          | inr t ↦ absurd (omega (arith, s, (closed i h).backward t some))
        ]
        | inr s ↦ let t = (closed i h).forward s tight in omega (arith, ints, shifts.reached c.source s, shifts.reached c.target t, tight)
      ]

-- a push along a tree of tight constraints leaves flow only on tight constraints
pub pushed_complementary : (cs : List Constraint) (p order parent old new : List ℕ) (root node : ℕ) → HangsTight cs p order parent root
    → ChangesOnlyOn order parent root node old new → IsComplementary cs old p → IsComplementary cs new p
pushed_complementary cs p order parent old new root node tight changes carries = λ i h some.
    elim (cases_eq (slice_index new i) (slice_index old i)) [
      | inl same ↦ carries i h (omega (arith, same))
      | inr differs ↦ let u = changes i differs in subst (λ j. IsTight p (constraint_at cs j)) u.4 (tight u.0 u.1 u.2)
    ]

-- no node that is reached is far above the root
abbrev step : ℕ
step = 2 ^ 24 + 64

module _ (cs : List Constraint) (p flow order parent : List ℕ) (root : ℕ) (tree : IsTree cs flow order parent root) (tight : HangsTight cs p order parent root)
    (small : All IsSmall cs) where
  near_link : (v i : ℕ) → i < length cs → IsLink cs flow order i v → IsTight p (constraint_at cs i)
      → (u : ℕ) × (0 < slice_index order u) × (slice_index order u < slice_index order v) × (slice_index p v ≤ slice_index p u + step)
  near_link v i h link at =
      let c = constraint_at cs i in
      let cheap : IsSmall c = small i nothing h in
      elim link [
        | inl a ↦ (c.source, a.1.0, a.1.1, omega (arith, ints, ap (slice_index p) a.0, at, cheap.0, cheap.1))
        | inr a ↦ (c.target, a.2.0, a.2.1, omega (arith, ints, ap (slice_index p) a.0, at, cheap.0, cheap.1))
      ]

  near_upto : (m v : ℕ) → slice_index order v ≤ m → 0 < slice_index order v → slice_index p v ≤ slice_index p root + slice_index order v * step
  near_upto zero v le some = absurd (omega arith)
  near_upto (suc m) v le some = elim (cases_eq v root) [
    | inl e ↦ omega (arith, ap (slice_index p) e)
    | inr ne ↦
        let u = near_link v (slice_index parent v) (tree.parents v ne some) (tree.links v ne some) (tight v ne some) in
        omega (arith, u.3, u.2, near_upto m u.0 (omega (arith, u.2)) u.1)
  ]

  pub near_root : (v : ℕ) → 0 < slice_index order v → slice_index p v ≤ slice_index p root + slice_index order v * step
  near_root v some = near_upto (slice_index order v) v (omega arith) some

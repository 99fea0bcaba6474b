-- Each node hangs on an earlier one, so none has less than node 0; and what stays true when node 0's number is taken from all.
use Rattle.std.proofs.Common.{◌≡◌, ◌<◌, ◌≤◌, ℕ, zero, suc, pos, List, slice_index, ◌+◌, ◌-◌, ap, arith, inl, inr}
use Rattle.std.specs.Prelude.{All}
use Rattle.std.proofs.lemmas.Int.{ints}
use Rattle.std.proofs.lemmas.Bool.{cases_lt}
use Rattle.std.proofs.lemmas.List.Elements.{All-from_get_or}
use Rattle.raster_delay.specs.Network.{constraint_at, Holds, IsComplementary}
use Rattle.raster_delay.specs.Delays.{begin_count, node_count, constraints_of}
use Rattle.raster_delay.specs.declared.network.Constraint.{Constraint}
use Rattle.raster_delay.specs.declared.placed.PlacedRead.{PlacedRead}
use Rattle.raster_delay.proofs.Parts.{hold_at, start_at, length_all}
use Rattle.flow_dual.specs.Tree.{IsRooted}
use Rattle.flow_dual.proofs.Raising.{cases_zero}

abbrev nothing : Constraint
nothing = record { source = 0; target = 0; cost = pos 0 }

pub rooted : (row age inputs images : ℕ) (reads : List PlacedRead) → 1 ≤ inputs → inputs ≤ images → IsRooted (constraints_of row age inputs images reads) (node_count inputs images)
rooted row age inputs images reads some kept = λ v low high. elim (cases_lt v (begin_count inputs images)) [
  | inl h ↦
      let k : ℕ = v + inputs - 1 in
      let at = start_at row age inputs images reads kept k (omega arith) (omega arith) in (
        images + (k - inputs),
        omega (arith, length_all row age inputs images reads kept),
        omega (arith, ap (λ (c : Constraint). c.target) at),
        omega (arith, ap (λ (c : Constraint). c.source) at),
        ap (λ (c : Constraint). c.cost) at,
      )
  | inr h ↦
      let k : ℕ = v - begin_count inputs images in
      let at = hold_at row age inputs images reads kept k (omega arith) in (
        k,
        omega (arith, length_all row age inputs images reads kept),
        omega (arith, ap (λ (c : Constraint). c.target) at),
        omega (arith, ap (λ (c : Constraint). c.source) at),
        ap (λ (c : Constraint). c.cost) at,
      )
]

pub above_root : (cs : List Constraint) (n : ℕ) (p : List ℕ) → IsRooted cs n → All (Holds p) cs → (m v : ℕ) → v ≤ m → v < n → slice_index p 0 ≤ slice_index p v
above_root cs n p rooted holds zero v le h = let e : v ≡ 0 = omega arith in omega (arith, ap (slice_index p) e)
above_root cs n p rooted holds (suc m) v le h = elim (cases_zero v) [
  | inl e ↦ omega (arith, ap (slice_index p) e)
  | inr some ↦
      let r = rooted v some h in
      let c = constraint_at cs r.0 in
      omega (arith, ints, above_root cs n p rooted holds m c.source (omega (arith, r.3)) (omega (arith, r.3)), holds r.0 nothing r.1, r.4, ap (slice_index p) r.2)
]

module _ (cs : List Constraint) (n : ℕ) (p new : List ℕ) (sources : All (λ c. c.source < n) cs) (targets : All (λ c. c.target < n) cs)
    (above : (v : ℕ) → v < n → slice_index p 0 ≤ slice_index p v) (is : (v : ℕ) → slice_index new v ≡ slice_index p v - slice_index p 0) where
  pub rebased_holds : All (Holds p) cs → All (Holds new) cs
  rebased_holds holds = All-from_get_or (Holds new) cs nothing (λ i h.
      let c = constraint_at cs i in
      omega (arith, ints, holds i nothing h, is c.source, is c.target, above c.source (sources i nothing h), above c.target (targets i nothing h)))

  pub rebased_complementary : (flow : List ℕ) → IsComplementary cs flow p → IsComplementary cs flow new
  rebased_complementary flow carries = λ i h some.
      let c = constraint_at cs i in
      omega (arith, ints, carries i h some, is c.source, is c.target, above c.source (sources i nothing h), above c.target (targets i nothing h))

-- A live read has one tap.
use Rattle.std.proofs.Common.{◌≡◌, ℕ, ◌<◌, List, Some, sym, ap, subst, ◌∙◌, inl, inr, arith}
use Rattle.std.specs.Prelude.{pos, slice_get}
use Rattle.std.specs.List.{AllPairs}
use Rattle.std.specs.List.Sorted.{IsStrictlyIncreasing}
use Rattle.std.proofs.lemmas.Bool.{cases_lt}
use Rattle.std.proofs.lemmas.Int.{ints}
use Rattle.std.proofs.lemmas.List.Kept.{AllPairs-from_increasing}
use Rattle.std.proofs.lemmas.Option.{same_Some, slice_get_within, get_or_from_slice_get}
use Rattle.dk_base.specs.declared.stencils.LiveRead.{LiveRead}
use Rattle.wiring.specs.declared.netlist.Net.{Net}
use Rattle.buffer_plan.specs.Plans.{Plan, ages_of}
use Rattle.buffer_plan.proofs.Aged.{are_ages}
use Rattle.circuit.specs.Taps.{taps_at, IsTapOf}

-- a number is in one place of a list that ascends
not_before : (xs : List ℕ) → AllPairs (λ x y. x < y) xs → (i j a : ℕ) → slice_get xs i ≡ Some a → slice_get xs j ≡ Some a → i < j → ⊥
not_before xs up i j a at on less =
    let low = up i j 0 less (slice_get_within xs j a on) in
    let one = get_or_from_slice_get xs i a 0 at in
    let other = get_or_from_slice_get xs j a 0 on in
    omega (arith, low, one, other)

one_place : (xs : List ℕ) → IsStrictlyIncreasing xs → (i j a : ℕ) → slice_get xs i ≡ Some a → slice_get xs j ≡ Some a → i ≡ j
one_place xs up i j a at on =
    let pairs = AllPairs-from_increasing xs up in
    elim (cases_lt i j) as (λ _. i ≡ j) [
      | inl less ↦ absurd (not_before xs pairs i j a at on less)
      | inr most ↦ elim (cases_lt j i) as (λ _. i ≡ j) [
        | inl less ↦ absurd (not_before xs pairs j i a on at less)
        | inr least ↦ omega (arith, most, least)
      ]
    ]

pub one_tap : (plan : Plan) (taps : List (List Net)) (r : LiveRead) (tap other : Net) → IsTapOf plan taps r tap → IsTapOf plan taps r other → tap ≡ other
one_tap plan taps r tap other is on =
    let same : is.age ≡ on.age = (let e : pos is.age ≡ pos on.age = is.is_age ∙ sym on.is_age in omega (arith, ints, e)) in
    let place : is.place ≡ on.place = one_place (ages_of plan r.g) (are_ages plan r.g).ascending is.place on.place on.age (subst (λ (a : ℕ). slice_get (ages_of plan r.g) is.place ≡ Some a) same is.aged) on.aged in
    same_Some tap other (sym is.there ∙ ap (slice_get (taps_at plan taps r.g)) place ∙ on.there)

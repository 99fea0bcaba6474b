-- A search among numbers that ascend finds what is there.
use Rattle.std.proofs.Common.{◌≡◌, ℕ, ◌<◌, ◌≤◌, List, length, Result, Err, ap, subst, ◌∙◌, inl, inr, arith, get_or}
use Rattle.std.specs.Prelude.{Contains}
use Rattle.std.specs.Ordering.{nat_cmp}
use Rattle.std.specs.List.Sorted.{IsStrictlyIncreasing, IsBinarySearchResult}
use Rattle.std.proofs.lemmas.Bool.{cases_lt, cases_eq}
use Rattle.std.proofs.lemmas.List.{get_or_default}
use Rattle.std.proofs.lemmas.List.Sorted.{searched}
use Rattle.std.proofs.lemmas.List.Kept.{AllPairs-from_increasing}

rises : (xs : List ℕ) → IsStrictlyIncreasing xs → (i j : ℕ) → i ≤ j → j < length xs → get_or xs i 0 ≤ get_or xs j 0
rises xs up i j le lt = elim (cases_eq i j) [
  | inl e ↦ omega (arith, ap (λ (k : ℕ). get_or xs k 0) e)
  | inr ne ↦ (let less = AllPairs-from_increasing xs up i j 0 (omega (arith, le, ne)) lt in omega (arith, less))
]

pub found_there : (xs : List ℕ) (x : ℕ) (r : Result ℕ ℕ) (i : ℕ) → IsBinarySearchResult (λ y. nat_cmp y x) xs r → IsStrictlyIncreasing xs → Contains xs x → r ≡ Err i → ⊥
found_there xs x r i is up (k, lt, e) failed =
    let all = searched xs x (Err i) (subst (IsBinarySearchResult (λ y. nat_cmp y x) xs) failed is) (rises xs up) in
    let here : get_or xs k 0 ≡ x = get_or_default xs k 0 x lt ∙ e in
    elim (cases_lt k i) [
      | inl low ↦ (let less = all.1 k low in omega (arith, less, here))
      | inr high ↦ (let more = all.2 k high lt in omega (arith, more, here))
    ]

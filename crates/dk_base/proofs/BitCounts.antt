-- The number of bits of a number.
use Rattle.std.proofs.Common.{◌≡◌, ℕ, suc, ◌-◌, ◌^◌, ◌<◌, ◌≤◌, pos, arith, inl, inr, subst, sym}
use Rattle.std.specs.Int.{leading_zeros, w64}
use Rattle.std.proofs.Math.Pow.{pow_mono}
use Rattle.std.proofs.lemmas.Int.{ints}
use Rattle.std.proofs.lemmas.Bool.{cases_lt, cases_eq}
use Rattle.std.proofs.lemmas.Nat.{leading_top}
use Rattle.dk_base.specs.declared.ty.Ty.TheVariants.{Unsigned}
use Rattle.dk_base.specs.Types.{IsType, IsIn}
use Rattle.dk_base.specs.Numbers.{IsBitCount, bit_count}

none : (v : ℕ) → v ≡ 0 → IsBitCount v 1
none v e = record { some = omega arith; holds = omega (arith, e); least = λ m some above. some }

pub top : (v n : ℕ) → 0 < v → v < 2 ^ 64 → n ≡ 64 - leading_zeros w64 v → IsBitCount v n
top v n some fits e =
    let t = leading_top 64 v some fits in
    let n_is : n ≡ suc t.0 = let f = t.1 in omega (arith, e, f) in
    let P : ℕ → Type 0 = λ k. v < 2 ^ k in
    record {
      some = omega (arith, n_is);
      holds = subst P (sym n_is) t.3;
      least = λ m any above. elim (cases_lt m n) [
        | inl low ↦ let k : m ≤ t.0 = omega (arith, low, n_is) in let p : 2 ^ m ≤ 2 ^ t.0 = pow_mono k in let l = t.2 in absurd (omega (arith, p, l, above))
        | inr high ↦ high
      ];
    }

pub bit_count_is : (v n : ℕ) → v < 2 ^ 64 → n ≡ bit_count v → IsBitCount v n
bit_count_is v n fits e = elim (cases_eq v 0) [
  | inl zero_is ↦
      let one : n ≡ 1 = grind (arith, e, zero_is) in
      let P : ℕ → Type 0 = λ k. IsBitCount v k in subst P (sym one) (none v zero_is)
  | inr other ↦
      let some : 0 < v = omega (arith, other) in
      let is : n ≡ 64 - leading_zeros w64 v = grind (arith, e, some) in
      top v n some fits is
]

pub bit_count_only : (v n m : ℕ) → IsBitCount v n → IsBitCount v m → n ≡ m
bit_count_only v n m p q =
    let a = p.least m q.some q.holds in
    let b = q.least n p.some p.holds in
    omega (arith, a, b)

-- a literal's type
pub bit_count_type : (v n : ℕ) → v < 2 ^ 64 → IsBitCount v n → IsType (Unsigned n)
bit_count_type v n fits p = record { some = p.some; most = let a = p.least 64 (let one : 1 ≤ 64 = omega arith in one) fits in a }

pub bit_count_in : (v n : ℕ) → IsBitCount v n → IsIn (Unsigned n) (pos v)
bit_count_in v n p = let h = p.holds in record { least = omega (arith, ints); greatest = omega (arith, ints, h) }

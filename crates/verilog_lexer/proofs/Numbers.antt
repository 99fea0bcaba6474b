-- Numbers grow with their digits.
use Rattle.std.proofs.Common.{◌≡◌, ℕ, suc, ◌≤◌, ◌<◌, List, [], ◌∷◌, arith, get_or, length, drop, drop-cons, Option, Some, None, inl, inr, refl}
use Rattle.verilog_text.specs.Bytes.{value_after, with_digit, of_size, in_base, base_of, fitting, is_numeral}
use Rattle.std.proofs.lemmas.Bool.{cases_Bool}

pub digit_grows : (base v d : ℕ) → 1 ≤ base → v ≤ with_digit base v d
digit_grows base v d h = grind arith

pub value_grows : (base v : ℕ) (ds : List ℕ) → 1 ≤ base → v ≤ value_after base v ds
value_grows base v [] h = omega arith
value_grows base v (d ∷ ds) h = let p = value_grows base (with_digit base v d) ds h in let q = digit_grows base v d h in omega (arith, p, q)

-- one digit more
pub value_at : (base v : ℕ) (ds : List ℕ) (i : ℕ) → 1 ≤ base → i < length ds → with_digit base v (get_or ds i 0) ≤ value_after base v (drop i ds)
value_at base v ds i b h = rw (drop-cons ds i 0) (value_grows base (with_digit base v (get_or ds i 0)) (drop (suc i) ds) b)

wide_fit : (size value : ℕ) → 64 < size → fitting size value ≡ None
wide_fit size value h = grind arith

wide_base : (size : ℕ) (base : Option ℕ) (ds : List ℕ) → 64 < size → in_base size base ds ≡ None
wide_base size None ds h = refl
wide_base size (Some b) ds h = elim (cases_Bool (is_numeral b ds)) as (λ _. in_base size (Some b) ds ≡ None) [
  | inl t ↦ rw t (wide_fit size (value_after b 0 ds) h)
  | inr f ↦ rw f refl
]

-- a size that is no number of bits makes no constant
pub too_wide : (size : ℕ) (rest : List ℕ) → 64 < size → of_size size rest ≡ None
too_wide size [] h = refl
too_wide size (t ∷ []) h = refl
too_wide size (t ∷ b ∷ ds) h = wide_base size (base_of b) ds h

-- Comparisons by bits.
use Rattle.std.proofs.Common.{◌≡◌, ℕ, ◌+◌, ◌-◌, ◌%◌, ◌^◌, ◌<◌, ◌≤◌, true, false, nat_lt, nat_eq, ℤ, pos, negsuc, ◌+ℤ◌, ◌-ℤ◌, ◌≤ℤ◌, ◌<ℤ◌, neg_ℤ, int_lt, unsigned_abs, refl, sym, ◌∙◌, ap, subst, arith, inl, inr, ◌⊎◌, if◌then◌else◌}
use Rattle.std.proofs.lemmas.Int.{ints, by_lt_z}
use Rattle.std.proofs.lemmas.Nat.{pow_pos}
use Rattle.std.proofs.lemmas.Bool.{cases_eq}
use Rattle.std.specs.Ordering.{int_eq}
use Rattle.dk_base.specs.declared.ty.Ty.{Ty}
use Rattle.dk_base.specs.declared.ty.Ty.TheVariants.{Unsigned, Signed}
use Rattle.dk_base.specs.Types.{IsType, IsIn, width_of, below, above, least_of, greatest_of}
use Rattle.dk_base.specs.Numbers.{code, number, saturate}
use Rattle.dk_base.proofs.Codes.{span, code_pos, code_add, code_by, number_code}

-- a number that is not negative is its size
pub abs_of : (v : ℤ) → pos 0 ≤ℤ v → pos (unsigned_abs v) ≡ v
abs_of (pos n) h = refl
abs_of (negsuc n) h = let e : 1 ≤ 0 = omega (arith, ints, h) in omega (arith, ints, e)

-- how far a number of a type is above its least
pub offset_code : (t : Ty) (v : ℤ) → IsType t → IsIn t v → code (width_of t) (v +ℤ pos (below t)) ≡ unsigned_abs (v +ℤ pos (below t))
offset_code t v ok h =
    let e = abs_of (v +ℤ pos (below t)) h.least in
    let s = span t ok in
    let g = h.greatest in
    let b : unsigned_abs (v +ℤ pos (below t)) < 2 ^ width_of t = omega (arith, ints, e, s, g) in
    ap (code (width_of t)) (sym e) ∙ code_pos (width_of t) _ b

-- the bits with the sign bit turned over, in offset binary
pub offset_signed : (n : ℕ) (v : ℤ) → IsType (Signed n) → IsIn (Signed n) v → (code n v + 2 ^ (n - 1)) % 2 ^ n ≡ unsigned_abs (v +ℤ pos (2 ^ (n - 1)))
offset_signed n v ok h =
    let s = span (Signed n) ok in
    let c : code n (pos (2 ^ (n - 1))) ≡ 2 ^ (n - 1) = code_pos n (2 ^ (n - 1)) (omega (arith, s, pow_pos (n - 1))) in
    ap (λ m. (code n v + m) % 2 ^ n) (sym c) ∙ sym (code_add n v (pos (2 ^ (n - 1)))) ∙ offset_code (Signed n) v ok h

pub offset_unsigned : (n : ℕ) (v : ℤ) → IsType (Unsigned n) → IsIn (Unsigned n) v → code n v ≡ unsigned_abs (v +ℤ pos 0)
offset_unsigned n v ok h =
    let e : v +ℤ pos 0 ≡ v = omega (arith, ints) in
    ap (code n) (sym e) ∙ offset_code (Unsigned n) v ok h

pub less_by_offset : (k : ℕ) (v u : ℤ) → pos 0 ≤ℤ (v +ℤ pos k) → pos 0 ≤ℤ (u +ℤ pos k) → nat_lt (unsigned_abs (v +ℤ pos k)) (unsigned_abs (u +ℤ pos k)) ≡ int_lt v u
less_by_offset k v u h g =
    let e = abs_of _ h in
    let f = abs_of _ g in
    grind (arith, ints, e, f)

int_eq_same : (v u : ℤ) → v ≡ u → int_eq v u ≡ true
int_eq_same (pos a) (pos b) e = let f : a ≡ b = omega (arith, ints, e) in grind (arith, f)
int_eq_same (pos a) (negsuc b) e = absurd (omega (arith, ints, e))
int_eq_same (negsuc a) (pos b) e = absurd (omega (arith, ints, e))
int_eq_same (negsuc a) (negsuc b) e = let f : a ≡ b = omega (arith, ints, e) in grind (arith, f)

int_eq_apart : (v u : ℤ) → (v ≡ u → ⊥) → int_eq v u ≡ false
int_eq_apart (pos a) (pos b) e = let f : a ≡ b → ⊥ = λ p. e (ap pos p) in grind (arith, f)
int_eq_apart (pos a) (negsuc b) e = refl
int_eq_apart (negsuc a) (pos b) e = refl
int_eq_apart (negsuc a) (negsuc b) e = let f : a ≡ b → ⊥ = λ p. e (ap negsuc p) in grind (arith, f)

pub equal_by_code : (t : Ty) (v u : ℤ) → IsType t → IsIn t v → IsIn t u → nat_eq (code (width_of t) v) (code (width_of t) u) ≡ int_eq v u
equal_by_code t v u ok h g =
    let e = number_code t v ok h in
    let f = number_code t u ok g in
    elim (cases_eq (code (width_of t) v) (code (width_of t) u)) [
      | inl same ↦
          let vu : v ≡ u = sym e ∙ ap (number t) same ∙ f in
          let a : nat_eq (code (width_of t) v) (code (width_of t) u) ≡ true = grind (arith, same) in
          a ∙ sym (int_eq_same v u vu)
      | inr apart ↦
          let ne : v ≡ u → ⊥ = λ p. apart (ap (code (width_of t)) p) in
          let a : nat_eq (code (width_of t) v) (code (width_of t) u) ≡ false = grind (arith, apart) in
          a ∙ sym (int_eq_apart v u ne)
    ]

-- tests against the ends of a range, in offset binary
pub low_test : (B L : ℕ) (v : ℤ) → L < B → pos 0 ≤ℤ (v +ℤ pos B) → nat_lt (unsigned_abs (v +ℤ pos B)) (B - L) ≡ int_lt v (neg_ℤ (pos L))
low_test B L v h g =
    let e = abs_of _ g in
    by_lt_z v (neg_ℤ (pos L))
    (λ low. let l = low in let a : unsigned_abs (v +ℤ pos B) < B - L = omega (arith, ints, e, l, h) in grind (arith, ints, a, l))
    (λ high. let l = high in let a : B - L ≤ unsigned_abs (v +ℤ pos B) = omega (arith, ints, e, l, h) in grind (arith, ints, a, l))

pub high_test : (B G A : ℕ) (v : ℤ) → G + 1 ≡ A → pos 0 ≤ℤ (v +ℤ pos B) → nat_lt (B + G) (unsigned_abs (v +ℤ pos B)) ≡ int_lt (pos A -ℤ pos 1) v
high_test B G A v h g =
    let e = abs_of _ g in
    by_lt_z (pos A -ℤ pos 1) v
    (λ low. let l = low in let a : B + G < unsigned_abs (v +ℤ pos B) = omega (arith, ints, e, l, h) in grind (arith, ints, a, l))
    (λ high. let l = high in let a : unsigned_abs (v +ℤ pos B) ≤ B + G = omega (arith, ints, e, l, h) in grind (arith, ints, a, l))

pub never_low : (B L : ℕ) (v : ℤ) → B ≤ L → pos 0 ≤ℤ (v +ℤ pos B) → int_lt v (neg_ℤ (pos L)) ≡ false
never_low B L v h g =
    by_lt_z v (neg_ℤ (pos L)) (λ low. absurd (let l = low in omega (arith, ints, l, h, g))) (λ high. let l = high in grind (arith, ints, l))

pub never_high : (A C : ℕ) (v : ℤ) → C ≤ A → v <ℤ pos C → int_lt (pos A -ℤ pos 1) v ≡ false
never_high A C v h g =
    by_lt_z (pos A -ℤ pos 1) v (λ low. absurd (let l = low in omega (arith, ints, l, h, g))) (λ high. let l = high in grind (arith, ints, l))

pub saturate_low : (t : Ty) (v : ℤ) → int_lt v (least_of t) ≡ true → saturate t v ≡ least_of t
saturate_low t v h = ap (λ c. if c then least_of t else if int_lt (greatest_of t) v then greatest_of t else v) h

pub saturate_high : (t : Ty) (v : ℤ) → int_lt v (least_of t) ≡ false → int_lt (greatest_of t) v ≡ true → saturate t v ≡ greatest_of t
saturate_high t v h g = ap (λ c. if c then least_of t else if int_lt (greatest_of t) v then greatest_of t else v) h ∙ ap (λ c. if c then greatest_of t else v) g

pub saturate_inside : (t : Ty) (v : ℤ) → int_lt v (least_of t) ≡ false → int_lt (greatest_of t) v ≡ false → saturate t v ≡ v
saturate_inside t v h g = ap (λ c. if c then least_of t else if int_lt (greatest_of t) v then greatest_of t else v) h ∙ ap (λ c. if c then greatest_of t else v) g

pub int_lt_cases : (v u : ℤ) → ((v <ℤ u) × (int_lt v u ≡ true)) ⊎ ((u ≤ℤ v) × (int_lt v u ≡ false))
int_lt_cases v u = by_lt_z v u (λ low. inl (low, (let l = low in grind (arith, ints, l)))) (λ high. inr (high, (let l = high in grind (arith, ints, l))))

pub least_in : (t : Ty) → IsType t → IsIn t (least_of t)
least_in (Unsigned n) ok = record { least = omega (arith, ints); greatest = omega (arith, ints, pow_pos n) }
least_in (Signed n) ok = record { least = omega (arith, ints); greatest = omega (arith, ints, pow_pos (n - 1)) }

pub greatest_in : (t : Ty) → IsType t → IsIn t (greatest_of t)
greatest_in (Unsigned n) ok = record { least = omega (arith, ints, pow_pos n); greatest = omega (arith, ints) }
greatest_in (Signed n) ok = record { least = omega (arith, ints, pow_pos (n - 1)); greatest = omega (arith, ints) }

pub saturate_in : (t : Ty) (v : ℤ) → IsType t → IsIn t (saturate t v)
saturate_in t v ok =
    let P : ℤ → Type 0 = λ u. IsIn t u in
    elim (int_lt_cases v (least_of t)) [
      | inl (low, e) ↦ subst P (sym (saturate_low t v e)) (least_in t ok)
      | inr (high, e) ↦ elim (int_lt_cases (greatest_of t) v) [
        | inl (above_it, f) ↦ subst P (sym (saturate_high t v e f)) (greatest_in t ok)
        | inr (inside, f) ↦ subst P (sym (saturate_inside t v e f)) (record { least = omega (arith, ints, high, inside); greatest = omega (arith, ints, high, inside) })
      ]
    ]

pub least_code : (t : Ty) → IsType t → code (width_of t) (least_of t) ≡ below t
least_code (Unsigned n) ok = code_by n (neg_ℤ (pos 0)) 0 (pow_pos n) (record { up = 0; down = 0; is = omega (arith, ints) })
least_code (Signed n) ok =
    let s = span (Signed n) ok in
    code_by n (neg_ℤ (pos (2 ^ (n - 1)))) (2 ^ (n - 1)) (omega (arith, s, pow_pos (n - 1))) (record { up = 1; down = 0; is = omega (arith, ints, s) })

pub greatest_code : (t : Ty) → IsType t → code (width_of t) (greatest_of t) ≡ above t - 1
greatest_code (Unsigned n) ok = code_by n _ (2 ^ n - 1) (omega (arith, pow_pos n)) (record { up = 0; down = 0; is = omega (arith, ints, pow_pos n) })
greatest_code (Signed n) ok =
    let s = span (Signed n) ok in
    code_by n _ (2 ^ (n - 1) - 1) (omega (arith, s, pow_pos (n - 1))) (record { up = 0; down = 0; is = omega (arith, ints, pow_pos (n - 1)) })

-- the bits of the nearest number by two tests
pub saturate_code : (t : Ty) (v : ℤ) → IsType t →
    (if int_lt (greatest_of t) v then above t - 1 else if int_lt v (least_of t) then below t else code (width_of t) v) ≡ code (width_of t) (saturate t v)
saturate_code t v ok =
    elim (int_lt_cases v (least_of t)) [
      | inl (low, e) ↦ elim (int_lt_cases (greatest_of t) v) [
        | inl (above_it, f) ↦ absurd (omega (arith, ints, low, above_it))
        | inr (inside, f) ↦
            ap (λ c. if c then above t - 1 else if int_lt v (least_of t) then below t else code (width_of t) v) f ∙ ap (λ c. if c then below t else code (width_of t) v) e ∙
            sym (ap (code (width_of t)) (saturate_low t v e) ∙ least_code t ok)
      ]
      | inr (high, e) ↦ elim (int_lt_cases (greatest_of t) v) [
        | inl (above_it, f) ↦
            ap (λ c. if c then above t - 1 else if int_lt v (least_of t) then below t else code (width_of t) v) f ∙ sym (ap (code (width_of t)) (saturate_high t v e f) ∙ greatest_code t ok)
        | inr (inside, f) ↦
            ap (λ c. if c then above t - 1 else if int_lt v (least_of t) then below t else code (width_of t) v) f ∙ ap (λ c. if c then below t else code (width_of t) v) e ∙
            sym (ap (code (width_of t)) (saturate_inside t v e f))
      ]
    ]

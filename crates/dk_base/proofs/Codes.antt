-- Laws of two's complement.
use Rattle.std.proofs.Common.{◌≡◌, ℕ, suc, ◌+◌, ◌-◌, ◌*◌, ◌%◌, ◌^◌, ◌<◌, ◌≤◌, ℤ, pos, negsuc, ◌+ℤ◌, ◌-ℤ◌, sym, ◌∙◌, ap, arith, inl, inr}
use Rattle.std.proofs.lemmas.Int.{ints}
use Rattle.std.proofs.lemmas.Bool.{cases_lt}
use Rattle.std.proofs.lemmas.Nat.{mod-mul-add, pow-add}
use Rattle.dk_base.specs.declared.ty.Ty.{Ty}
use Rattle.dk_base.specs.declared.ty.Ty.TheVariants.{Unsigned, Signed}
use Rattle.dk_base.specs.Types.{IsType, IsIn, width_of, below, above}
use Rattle.dk_base.specs.Numbers.{code, number}
use Rattle.dk_base.proofs.Congruence.{IsCongruent, congruent_itself, congruent_add, congruent_subtract, code_is, code_congruent, code_below}

pub mod_same : (n m : ℕ) → n < m → n % m ≡ n
mod_same n m h =
    let e : n ≡ 0 * m + n = grind arith in
    ap (λ x. x % m) e ∙ mod-mul-add 0 m n h

-- the bits are the one congruent natural number below 2 ^ w
pub code_by : (w : ℕ) (v : ℤ) (n : ℕ) → n < 2 ^ w → IsCongruent (2 ^ w) v n → code w v ≡ n
code_by w v n h p = code_is w v n p ∙ mod_same n (2 ^ w) h

pub code_pos : (w n : ℕ) → n < 2 ^ w → code w (pos n) ≡ n
code_pos w n h = code_by w (pos n) n h (congruent_itself (2 ^ w) n)

-- bits of sums, differences and products
pub code_add : (w : ℕ) (v u : ℤ) → code w (v +ℤ u) ≡ (code w v + code w u) % 2 ^ w
code_add w v u = code_is w _ _ (congruent_add _ _ _ _ _ (code_congruent w v) (code_congruent w u))

pub code_subtract : (w : ℕ) (v u : ℤ) → code w (v -ℤ u) ≡ (code w v + 2 ^ w - code w u) % 2 ^ w
code_subtract w v u =
    let b : code w u ≤ 2 ^ w = omega (arith, code_below w u) in
    code_is w _ _ (congruent_subtract (2 ^ w) v u _ _ b (code_congruent w v) (code_congruent w u))

-- a power of two as a multiple of a lower one
pub pow_split : (m w : ℕ) → m ≤ w → 2 ^ w ≡ 2 ^ (w - m) * 2 ^ m
pow_split m w h = ap (λ x. 2 ^ x) (let e : w ≡ (w - m) + m = omega arith in e) ∙ pow-add 2 (w - m) m

times_assoc : (a b m : ℕ) → (a * b) * m ≡ a * (b * m)
times_assoc a b m = grind arith

pub congruent_narrow : (m w : ℕ) (v : ℤ) (n : ℕ) → m ≤ w → IsCongruent (2 ^ w) v n → IsCongruent (2 ^ m) v n
congruent_narrow m w v n h p =
    let s = pow_split m w h in
    let u : p.up * 2 ^ w ≡ (p.up * 2 ^ (w - m)) * 2 ^ m = ap (λ x. p.up * x) s ∙ sym (times_assoc p.up (2 ^ (w - m)) (2 ^ m)) in
    let d : p.down * 2 ^ w ≡ (p.down * 2 ^ (w - m)) * 2 ^ m = ap (λ x. p.down * x) s ∙ sym (times_assoc p.down (2 ^ (w - m)) (2 ^ m)) in
    let e = p.is in
    record { up = p.up * 2 ^ (w - m); down = p.down * 2 ^ (w - m); is = omega (arith, ints, u, d, e) }

-- the low bits
pub code_narrow : (m w : ℕ) (v : ℤ) → m ≤ w → code m v ≡ code w v % 2 ^ m
code_narrow m w v h = code_is m v _ (congruent_narrow m w v _ h (code_congruent w v))

-- the two parts of a range
pub half : (n : ℕ) → 1 ≤ n → 2 ^ (n - 1) + 2 ^ (n - 1) ≡ 2 ^ n
half n h =
    let e : n ≡ (n - 1) + 1 = omega arith in
    let p : 2 ^ ((n - 1) + 1) ≡ 2 ^ (n - 1) * 2 ^ 1 = pow-add 2 (n - 1) 1 in
    let q : 2 ^ (n - 1) * 2 ^ 1 ≡ 2 ^ (n - 1) + 2 ^ (n - 1) = grind arith in
    sym (ap (λ x. 2 ^ x) e ∙ p ∙ q)

pub span : (t : Ty) → IsType t → below t + above t ≡ 2 ^ width_of t
span (Unsigned n) h = omega arith
span (Signed n) h = half n h.some

-- the number of the bits of a number in range is that number
pub number_low : (t : Ty) (n : ℕ) → n < above t → number t n ≡ pos n
unfolding number
number_low t n h = grind arith

pub number_high : (t : Ty) (n : ℕ) → above t ≤ n → number t n ≡ pos n -ℤ pos (2 ^ width_of t)
unfolding number
number_high t n h = grind arith

pub number_in : (t : Ty) (n : ℕ) → IsType t → n < 2 ^ width_of t → IsIn t (number t n)
number_in t n ok h =
    let s = span t ok in
    elim (cases_lt n (above t)) [
      | inl low ↦ rw (number_low t n low) (record { least = omega (arith, ints); greatest = omega (arith, ints) })
      | inr high ↦ rw (number_high t n high) (record { least = omega (arith, ints, s); greatest = omega (arith, ints, s) })
    ]

pub number_congruent : (t : Ty) (n : ℕ) → IsCongruent (2 ^ width_of t) (number t n) n
number_congruent t n =
    elim (cases_lt n (above t)) [
      | inl low ↦ rw (number_low t n low) (congruent_itself _ n)
      | inr high ↦ rw (number_high t n high) (record { up = 1; down = 0; is = omega (arith, ints) })
    ]

pub code_number : (t : Ty) (n : ℕ) → n < 2 ^ width_of t → code (width_of t) (number t n) ≡ n
code_number t n h = code_by _ _ n h (number_congruent t n)

pub number_code : (t : Ty) (v : ℤ) → IsType t → IsIn t v → number t (code (width_of t) v) ≡ v
number_code t (pos n) ok h =
    let s = span t ok in
    let g = h.greatest in
    let b : n < 2 ^ width_of t = omega (arith, ints, s, g) in
    let a : n < above t = omega (arith, ints, g) in
    ap (number t) (code_pos (width_of t) n b) ∙ number_low t n a
number_code t (negsuc n) ok h =
    let s = span t ok in
    let g = h.least in
    let b : n < below t = omega (arith, ints, g) in
    let c : IsCongruent (2 ^ width_of t) (negsuc n) (2 ^ width_of t - suc n) = record { up = 1; down = 0; is = omega (arith, ints, s, b) } in
    let l : 2 ^ width_of t - suc n < 2 ^ width_of t = omega (arith, s, b) in
    let a : above t ≤ 2 ^ width_of t - suc n = omega (arith, s, b) in
    ap (number t) (code_by (width_of t) (negsuc n) _ l c) ∙ number_high t _ a ∙ omega (arith, ints, s, b)

-- what a net of bits is worth, by its bits
pub number_is : (t : Ty) (v : ℤ) (n : ℕ) → IsType t → IsIn t v → n ≡ code (width_of t) v → number t n ≡ v
number_is t v n ok h e = ap (number t) e ∙ number_code t v ok h

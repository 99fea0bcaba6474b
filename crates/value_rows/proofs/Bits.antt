-- Values of 64 bits cut to fewer bits, and quotients by powers of two.
use Rattle.std.proofs.Common.{◌≡◌, ℕ, suc, ◌+◌, ◌-◌, ◌*◌, ◌/◌, ◌%◌, ◌^◌, ◌<◌, ◌≤◌, ℤ, pos, negsuc, ◌+ℤ◌, ◌-ℤ◌, ◌≤ℤ◌, ◌<ℤ◌, neg_ℤ, unsigned_abs, bit_and, bit_or, Bool, true, false, not, refl, if◌then◌else◌, sym, ◌∙◌, ap, arith, inl, inr}
use Rattle.std.specs.Prelude.{FitsSigned, int_div}
use Rattle.std.specs.Int.{cast_unsigned, int_div_euclid}
use Rattle.std.proofs.lemmas.Bool.{cases_lt}
use Rattle.std.proofs.lemmas.Int.{ints}
use Rattle.std.proofs.lemmas.Nat.{and_mask, and_le_r, div-mul-add, div-add-mod', mod_below}
use Rattle.std.proofs.Math.Nat.{div-eq_of_lt, mod-eq_of_lt}
use Rattle.std.specs.Int.Bits.{or_zero_l, or_zero_r, and_zero_r}
use Rattle.std.proofs.Math.Pow.{pow_mono}
use mir.Syntax.{w64}
use Rattle.dk_base.specs.declared.ty.Ty.TheVariants.{Unsigned, Signed}
use Rattle.dk_base.specs.Numbers.{code, number, wrap}
use Rattle.dk_base.proofs.Congruence.{IsCongruent, congruent_itself, code_is, code_below, mod_multiple}
use Rattle.dk_base.proofs.Codes.{congruent_narrow, half, number_low, number_high}

bits_congruent : (v : ℤ) → FitsSigned w64 v → IsCongruent (2 ^ 64) v (cast_unsigned w64 v)
bits_congruent (pos n) fits = congruent_itself (2 ^ 64) n
bits_congruent (negsuc n) fits = let h = fits.sfits in record { up = 1; down = 0; is = omega (arith, ints, h) }

-- the low bits of a value
pub low_bits_are : (v : ℤ) (w : ℕ) → FitsSigned w64 v → w ≤ 63 → bit_and (cast_unsigned w64 v) (2 ^ w - 1) ≡ code w v
low_bits_are v w fits h =
    let less : w ≤ 64 = omega (arith, h) in
    and_mask (cast_unsigned w64 v) w ∙ sym (code_is w v (cast_unsigned w64 v) (congruent_narrow w 64 v (cast_unsigned w64 v) less (bits_congruent v fits)))

pub masked_is : (v : ℤ) (m w : ℕ) → FitsSigned w64 v → w ≤ 63 → m ≡ 2 ^ w - 1 → bit_and (cast_unsigned w64 v) m ≡ code w v
masked_is v m w fits h is = ap (λ x. bit_and (cast_unsigned w64 v) x) is ∙ low_bits_are v w fits h

pub masked_below : (n m k : ℕ) → m < k → bit_and n m < k
masked_below n m k lt = let le = and_le_r n m in omega (arith, lt, le)

-- what they are worth
pub unsigned_bits : (w : ℕ) (v : ℤ) → pos (code w v) ≡ wrap (Unsigned w) v
unsigned_bits w v = sym (number_low (Unsigned w) (code w v) (code_below w v))

-- The low bits, turned by half of their range and back: they are worth what the signed type says.
turned_low : (n h : ℕ) → n < h → pos ((n + h) % (h + h)) -ℤ pos h ≡ pos n
turned_low n h lt =
    let e : (n + h) % (h + h) ≡ n + h = mod-eq_of_lt (omega (arith, lt)) in
    ap (λ k. pos k -ℤ pos h) e ∙ omega (arith, ints)

turned_high : (n h : ℕ) → h ≤ n → n < h + h → pos ((n + h) % (h + h)) -ℤ pos h ≡ pos n -ℤ pos (h + h)
turned_high n h le lt =
    let some : 0 < h + h = omega (arith, lt) in
    let split : n + h ≡ n - h + 1 * (h + h) = omega (arith, le) in
    let e : (n + h) % (h + h) ≡ n - h = ap (λ k. k % (h + h)) split ∙ mod_multiple (n - h) 1 (h + h) some ∙ mod-eq_of_lt (omega (arith, le, lt)) in
    ap (λ k. pos k -ℤ pos h) e ∙ omega (arith, ints, le)

pub signed_turned : (w n : ℕ) → 1 ≤ w → n < 2 ^ w → pos ((n + 2 ^ (w - 1)) % 2 ^ w) -ℤ pos (2 ^ (w - 1)) ≡ number (Signed w) n
signed_turned w n some lt =
    let twice : 2 ^ (w - 1) + 2 ^ (w - 1) ≡ 2 ^ w = half w some in
    let few : n < 2 ^ (w - 1) + 2 ^ (w - 1) = omega (arith, lt, twice) in
    ap (λ k. pos ((n + 2 ^ (w - 1)) % k) -ℤ pos (2 ^ (w - 1))) (sym twice) ∙ elim (cases_lt n (2 ^ (w - 1))) [
      | inl low ↦ turned_low n (2 ^ (w - 1)) low ∙ sym (number_low (Signed w) n low)
      | inr high ↦ turned_high n (2 ^ (w - 1)) high few ∙ ap (λ k. pos n -ℤ pos k) twice ∙ sym (number_high (Signed w) n high)
    ]

-- cut by masks
mask_is : (m w : ℕ) (mask : ℤ) → pos m ≡ mask → mask ≡ pos (2 ^ w - 1) → m ≡ 2 ^ w - 1
mask_is m w mask e is = ap unsigned_abs (e ∙ is)

pub unsigned_cut : (v r : ℤ) (m low w : ℕ) (mask : ℤ) → pos m ≡ mask → ((w : ℕ) → w ≤ 63 → m ≡ 2 ^ w - 1 → low ≡ code w v) → r ≡ pos low → w ≤ 63 → mask ≡ pos (2 ^ w - 1) → r ≡ wrap (Unsigned w) v
unsigned_cut v r m low w mask e of is h same = is ∙ ap pos (of w h (mask_is m w mask e same)) ∙ unsigned_bits w v

pub signed_cut : (v r : ℤ) (m h low w : ℕ) (mask half : ℤ) → pos m ≡ mask → pos h ≡ half → ((w : ℕ) → w ≤ 63 → m ≡ 2 ^ w - 1 → low ≡ code w v) → r ≡ pos (bit_and (low + h) m) -ℤ pos h →
    1 ≤ w → w ≤ 63 → mask ≡ pos (2 ^ w - 1) → half ≡ pos (2 ^ (w - 1)) → r ≡ wrap (Signed w) v
signed_cut v r m h low w mask half e f of is some most same also =
    let mm : m ≡ 2 ^ w - 1 = mask_is m w mask e same in
    let hh : h ≡ 2 ^ (w - 1) = ap unsigned_abs (f ∙ also) in
    let ll : low ≡ code w v = of w most mm in
    is ∙ ap (λ x. pos (bit_and (low + h) x) -ℤ pos h) mm ∙ ap (λ x. pos (bit_and (low + x) (2 ^ w - 1)) -ℤ pos x) hh ∙ ap (λ x. pos (bit_and (x + 2 ^ (w - 1)) (2 ^ w - 1)) -ℤ pos (2 ^ (w - 1))) ll
    ∙ ap (λ x. pos x -ℤ pos (2 ^ (w - 1))) (and_mask (code w v + 2 ^ (w - 1)) w) ∙ signed_turned w (code w v) some (code_below w v)

-- one of two words, by masks
one_of_two_at : (is : Bool) (n : Bool) (a b l r : ℕ) → n ≡ not is → l < 2 ^ 64 → r < 2 ^ 64 → a ≡ (if is then 2 ^ 64 - 1 else 0) → b ≡ (if n then 2 ^ 64 - 1 else 0) → bit_or (bit_and l a) (bit_and r b) ≡ (if is then l else r)
one_of_two_at true true a b l r e _ _ _ _ = absurd (let f : ⊥ = cc in f)
one_of_two_at false false a b l r e _ _ _ _ = absurd (let f : ⊥ = cc in f)
one_of_two_at true false a b l r e p q all none =
    ap (λ x. bit_or (bit_and l x) (bit_and r b)) all ∙ ap (λ x. bit_or (bit_and l (2 ^ 64 - 1)) (bit_and r x)) none
    ∙ ap (λ x. bit_or x (bit_and r 0)) (and_mask l 64 ∙ mod-eq_of_lt p) ∙ ap (λ x. bit_or l x) (and_zero_r r) ∙ or_zero_r l
one_of_two_at false true a b l r e p q none all =
    ap (λ x. bit_or (bit_and l x) (bit_and r b)) none ∙ ap (λ x. bit_or (bit_and l 0) (bit_and r x)) all
    ∙ ap (λ x. bit_or x (bit_and r (2 ^ 64 - 1))) (and_zero_r l) ∙ or_zero_l (bit_and r (2 ^ 64 - 1)) ∙ and_mask r 64 ∙ mod-eq_of_lt q

pub one_of_two : (is : Bool) (a b l r : ℕ) → l < 2 ^ 64 → r < 2 ^ 64 → a ≡ (if is then 2 ^ 64 - 1 else 0) → b ≡ (if not is then 2 ^ 64 - 1 else 0) → bit_or (bit_and l a) (bit_and r b) ≡ (if is then l else r)
one_of_two is a b l r p q all none = one_of_two_at is (not is) a b l r refl p q all none

le_zero : (n m : ℕ) → n < m → n / m ≡ 0
le_zero n m h = div-eq_of_lt h

-- a quotient of less
quotient_less : (n m : ℕ) → 0 < m → m ≤ n → n / m ≡ suc ((n - m) / m)
quotient_less n m some h =
    let d = div-add-mod' (n - m) m in
    let b = mod_below (n - m) m some in
    let s : suc ((n - m) / m) * m ≡ (n - m) / m * m + m = grind arith in
    let e : n ≡ suc ((n - m) / m) * m + (n - m) % m = omega (arith, d, s, h) in
    ap (λ k. k / m) e ∙ div-mul-add (suc ((n - m) / m)) m ((n - m) % m) b

-- the quotient that is rounded toward 0 is the one that is rounded down, where a number below 0 is first raised
pub halved_is : (v r : ℤ) (m : ℕ) → 0 < m → (v <ℤ pos 0 → r ≡ v +ℤ (pos m -ℤ pos 1)) → (pos 0 ≤ℤ v → r ≡ v) → int_div_euclid r (pos m) ≡ int_div v (pos m)
halved_is (pos n) r m some low high = ap (λ (x : ℤ). int_div_euclid x (pos m)) (high (omega (arith, ints)))
halved_is (negsuc n) r m some low high = elim (cases_lt (suc n) m) [
  | inl less ↦
      let is : r ≡ pos (m - 1 - suc n) = low (omega (arith, ints)) ∙ omega (arith, ints, less, some) in
      let down : (m - 1 - suc n) / m ≡ 0 = le_zero (m - 1 - suc n) m (omega (arith, less)) in
      let none : suc n / m ≡ 0 = le_zero (suc n) m less in
      ap (λ (x : ℤ). int_div_euclid x (pos m)) is ∙ ap pos down ∙ sym (ap (λ k. neg_ℤ (pos k)) none)
  | inr more ↦
      let is : r ≡ negsuc (suc n - m) = low (omega (arith, ints)) ∙ omega (arith, ints, more, some) in
      let up : suc n / m ≡ suc ((suc n - m) / m) = quotient_less (suc n) m some more in
      ap (λ (x : ℤ). int_div_euclid x (pos m)) is ∙ sym (ap (λ k. neg_ℤ (pos k)) up)
]

pub halved_by : (v a b r : ℤ) (m : ℕ) → 0 < m → a ≡ v → b ≡ pos (m - 1) → (a <ℤ pos 0 → r ≡ a +ℤ b) → (pos 0 ≤ℤ a → r ≡ a) → int_div_euclid r (pos m) ≡ int_div v (pos m)
halved_by v a b r m some e f low high =
    halved_is a r m some (λ lt. low lt ∙ ap (λ (x : ℤ). a +ℤ x) (f ∙ omega (arith, ints, some))) high ∙ ap (λ (x : ℤ). int_div x (pos m)) e

-- the low bits are few
pub code_small : (w : ℕ) (v : ℤ) → w ≤ 63 → code w v < 9223372036854775808
code_small w v h =
    let most : 2 ^ w ≤ 2 ^ 63 = pow_mono h in
    let b = code_below w v in
    omega (arith, most, b)

-- Masks after operations that wrap.
use Rattle.std.proofs.Common.{◌≡◌, ℕ, zero, suc, ◌/◌, ◌+◌, ◌-◌, ◌*◌, ◌%◌, ◌^◌, ◌<◌, ◌≤◌, Bool, true, false, List, ap, sym, subst, refl, ◌∙◌, arith, nat_lt, not, ◌⊎◌, inl, inr}
use Rattle.std.specs.Prelude.{bit_and, bit_or, if◌then◌else◌}
use Rattle.std.specs.Int.Bits.{and_zero_r, or_zero_l, or_zero_r}
use Rattle.std.proofs.lemmas.Nat.{and_mask, pow-add, mul-mod_first, mul-mod_second}
use Rattle.std.proofs.lemmas.Bool.{ltb-true, cases_lt, lt-ltb}
use Rattle.std.proofs.Math.Nat.{add-mul-mod_self_right, suc-mul, zero-mod, mul-add, mul-one, mul_assoc, mod-add-mod, mod-eq_of_lt, zero-mul}
use Rattle.std.proofs.Math.Pow.{mod-mod-pow, pow_pos, pow-lt, pow_mono}
use Rattle.wiring.specs.declared.right.Operator.{Operator}
use Rattle.wiring.specs.declared.right.Operator.TheVariants.{Add, Subtract, Multiply}
use Rattle.wiring.specs.Rights.{operator_value, repeated}
use Rattle.batch_rows.specs.Rows.{IsWritten}

-- a number that fits
pub whole_is : (n bits : ℕ) → n < 2 ^ bits → n % 2 ^ bits ≡ n
whole_is n bits l = mod-eq_of_lt l

-- a mask that fits
pub mask_fits : (w bits : ℕ) → w ≤ bits → 2 ^ w - 1 < 2 ^ bits
mask_fits w bits narrow =
    let most : 2 ^ w ≤ 2 ^ bits = pow_mono narrow in
    omega (arith, most, pow_pos w)

-- a shorter mask after the bits of a lane
pub wrapped_mask : (n mask w bits : ℕ) → w ≤ bits → mask ≡ 2 ^ w - 1 → bit_and (n % 2 ^ bits) mask ≡ n % 2 ^ w
wrapped_mask n mask w bits narrow is =
    let split : (bits - w) + w ≡ bits = omega (arith, narrow) in
    let inner : n % 2 ^ ((bits - w) + w) ≡ n % 2 ^ bits = ap (λ k. n % 2 ^ k) split in
    ap (λ x. bit_and (n % 2 ^ bits) x) is ∙ and_mask (n % 2 ^ bits) w ∙ ap (λ x. x % 2 ^ w) (sym inner) ∙ mod-mod-pow n (bits - w) w

-- more whole powers below change no remainder
turned : (a b w bits : ℕ) → w ≤ bits → b ≤ a + 2 ^ w → (a + 2 ^ bits - b) % 2 ^ w ≡ (a + 2 ^ w - b) % 2 ^ w
turned a b w bits narrow l =
    let p : ℕ = 2 ^ (bits - w) - 1 in
    let whole : 2 ^ bits ≡ 2 ^ (bits - w) * 2 ^ w = ap (λ k. 2 ^ k) (let split : bits ≡ (bits - w) + w = omega (arith, narrow) in split) ∙ pow-add 2 (bits - w) w in
    let one : 2 ^ (bits - w) ≡ suc p = omega (arith, pow_pos (bits - w)) in
    let product : 2 ^ (bits - w) * 2 ^ w ≡ p * 2 ^ w + 2 ^ w = ap (λ k. k * 2 ^ w) one ∙ suc-mul p (2 ^ w) in
    let sum : a + 2 ^ bits - b ≡ (a + 2 ^ w - b) + p * 2 ^ w = omega (arith, whole, product, l) in
    ap (λ n. n % 2 ^ w) sum ∙ add-mul-mod_self_right (a + 2 ^ w - b) p (2 ^ w)

-- what the operators make in a lane of this many bits, with a mask
abbrev pub masked_sum : (bits mask : ℕ) → ℕ → ℕ → ℕ
masked_sum bits mask a b = bit_and ((a + b) % 2 ^ bits) mask

abbrev pub masked_difference : (bits mask : ℕ) → ℕ → ℕ → ℕ
masked_difference bits mask a b = if nat_lt mask (b - a) then 0 else bit_and ((a + 2 ^ bits - b) % 2 ^ bits) mask

abbrev pub masked_product : (bits mask : ℕ) → ℕ → ℕ → ℕ
masked_product bits mask a b = bit_and (a * b % 2 ^ bits) mask

pub difference_is : (bits mask w a b : ℕ) → w ≤ bits → mask ≡ 2 ^ w - 1 → masked_difference bits mask a b ≡ (a + 2 ^ w - b) % 2 ^ w
difference_is bits mask w a b narrow is = chosen (nat_lt mask (b - a)) refl (cases_lt mask (b - a))
  where
    chosen : (t : Bool) → nat_lt mask (b - a) ≡ t → (mask < b - a) ⊎ (b - a ≤ mask) → (if t then 0 else bit_and ((a + 2 ^ bits - b) % 2 ^ bits) mask) ≡ (a + 2 ^ w - b) % 2 ^ w
    chosen true e h =
        let l : mask < b - a = ltb-true mask (b - a) e in
        let none : a + 2 ^ w - b ≡ 0 = omega (arith, l, is, pow_pos w) in
        sym (ap (λ n. n % 2 ^ w) none ∙ zero-mod (2 ^ w))
    chosen false e (inl l) = absurd (let t : nat_lt mask (b - a) ≡ true = lt-ltb mask (b - a) l in cc)
    chosen false e (inr l) = wrapped_mask (a + 2 ^ bits - b) mask w bits narrow is ∙ turned a b w bits narrow (omega (arith, l, is, pow_pos w))

-- what was written, by another name of each number
written_as : {A : Type 0} (value : A → ℕ) (old new : List A) (f g : ℕ → ℕ) → ((t : ℕ) → f t ≡ g t) → IsWritten value old new f → IsWritten value old new g
written_as value old new f g same row = record { count = row.count; each = λ t l. row.each t l ∙ same t }

module _ {A : Type 0} (value : A → ℕ) (old new : List A) (bits mask w : ℕ) (narrow : w ≤ bits) (is : mask ≡ 2 ^ w - 1) (o : Operator) (a b : ℕ → ℕ) where
  abbrev HasNumbers : (ℕ → ℕ → ℕ) → Type 0
  HasNumbers f = IsWritten value old new (λ t. f (a t) (b t))

  same_numbers : (f g : ℕ → ℕ → ℕ) → ((x y : ℕ) → f x y ≡ g x y) → HasNumbers f → HasNumbers g
  same_numbers f g same row = written_as value old new (λ t. f (a t) (b t)) (λ t. g (a t) (b t)) (λ t. same (a t) (b t)) row

  pub sum_row : o ≡ Add → HasNumbers (masked_sum bits mask) → HasNumbers (operator_value o w)
  sum_row e row = subst (λ (p : Operator). HasNumbers (operator_value p w)) (sym e) (same_numbers (masked_sum bits mask) (operator_value Add w) (λ x y. wrapped_mask (x + y) mask w bits narrow is) row)

  pub difference_row : o ≡ Subtract → HasNumbers (masked_difference bits mask) → HasNumbers (operator_value o w)
  difference_row e row = subst (λ (p : Operator). HasNumbers (operator_value p w)) (sym e) (same_numbers (masked_difference bits mask) (operator_value Subtract w) (λ x y. difference_is bits mask w x y narrow is) row)

  pub product_row : o ≡ Multiply → HasNumbers (masked_product bits mask) → HasNumbers (operator_value o w)
  product_row e row = subst (λ (p : Operator). HasNumbers (operator_value p w)) (sym e) (same_numbers (masked_product bits mask) (operator_value Multiply w) (λ x y. wrapped_mask (x * y) mask w bits narrow is) row)

-- a one, moved up
pub one_shifted : (k n : ℕ) → k < 64 → 1 * 2 ^ k % 2 ^ 64 ≡ n → n ≡ 2 ^ k
one_shifted k n l e =
    let below : 2 ^ k < 2 ^ 64 = pow-lt l in
    let whole : 1 * 2 ^ k % 2 ^ 64 ≡ 2 ^ k = omega (arith, below) in
    sym e ∙ whole

-- a power of two below another one
power_below : (k bits : ℕ) → 2 ^ k < 2 ^ bits → k < bits
power_below k bits l = elim (cases_lt k bits) [
  | inl low ↦ low
  | inr high ↦ (let most : 2 ^ bits ≤ 2 ^ k = pow_mono high in absurd (omega (arith, l, most)))
]

-- a shift down is a quotient
pub shifted_quotient : (x d k bits : ℕ) → d < 2 ^ bits → d ≡ 2 ^ k → x / 2 ^ (k % bits) ≡ x / d
shifted_quotient x d k bits l e =
    let same : k % bits ≡ k = mod-eq_of_lt (power_below k bits (subst (λ n. n < 2 ^ bits) e l)) in
    ap (λ n. x / 2 ^ n) same ∙ ap (λ n. x / n) (sym e)

-- this many bits, from a place on
pub part_is : (x from mask w bits : ℕ) → from < bits → mask ≡ 2 ^ w - 1 → bit_and (x / 2 ^ (from % bits)) mask ≡ x / 2 ^ from % 2 ^ w
part_is x from mask w bits near is =
    let same : from % bits ≡ from = mod-eq_of_lt near in
    ap (λ k. bit_and (x / 2 ^ k) mask) same ∙ ap (λ k. bit_and (x / 2 ^ from) k) is ∙ and_mask (x / 2 ^ from) w

pub above_is : (a b w bits : ℕ) → w < bits → a * 2 ^ w + b < 2 ^ bits → (a * 2 ^ (w % bits) % 2 ^ bits + b) % 2 ^ bits ≡ a * 2 ^ w + b
above_is a b w bits near l =
    let same : w % bits ≡ w = mod-eq_of_lt near in
    let product : a * 2 ^ w % 2 ^ bits ≡ a * 2 ^ w = mod-eq_of_lt (omega (arith, l)) in
    ap (λ k. (a * 2 ^ k % 2 ^ bits + b) % 2 ^ bits) same ∙ ap (λ k. (k + b) % 2 ^ bits) product ∙ mod-eq_of_lt l

none_above : (a b p : ℕ) → a * p + b < p → b ≡ a * p + b
none_above zero b p l =
    let nothing : b ≡ 0 + b = omega arith in
    nothing ∙ ap (λ k. k + b) (sym (zero-mul p))
none_above (suc a) b p l =
    let more : suc a * p ≡ a * p + p = suc-mul a p in
    absurd (omega (arith, l, more))

pub alone_is : (a b w bits : ℕ) → w ≤ bits → bits ≤ w → a * 2 ^ w + b < 2 ^ bits → b ≡ a * 2 ^ w + b
alone_is a b w bits narrow wide l =
    let same : bits ≡ w = omega (arith, narrow, wide) in
    none_above a b (2 ^ w) (subst (λ k. a * 2 ^ w + b < 2 ^ k) same l)

pub shifted_is : (a w : ℕ) → (a * 2 ^ w % 2 ^ 64 + 1) % 2 ^ 64 ≡ (a * 2 ^ w + 1) % 2 ^ 64
shifted_is a w = omega arith

pub shifted_out : (a w : ℕ) → w ≤ 64 → 64 ≤ w → 1 ≡ (a * 2 ^ w + 1) % 2 ^ 64
shifted_out a w narrow wide =
    let same : w ≡ 64 = omega (arith, narrow, wide) in
    let e : 1 ≡ (a * 2 ^ 64 + 1) % 2 ^ 64 = omega arith in
    e ∙ ap (λ k. (a * 2 ^ k + 1) % 2 ^ 64) (sym same)

pub factor_none : (w : ℕ) → 0 ≡ repeated 0 w 1 % 2 ^ 64
factor_none w = omega arith

mod_inside : (r p m : ℕ) → (r % m * p + 1) % m ≡ (r * p + 1) % m
mod_inside r p m = sym (mod-add-mod (r % m * p) m 1) ∙ ap (λ k. (k + 1) % m) (mul-mod_first r p m) ∙ mod-add-mod (r * p) m 1

pub factor_on : (n w all : ℕ) → all ≡ repeated n w 1 % 2 ^ 64 → (all * 2 ^ w + 1) % 2 ^ 64 ≡ repeated (n + 1) w 1 % 2 ^ 64
factor_on n w all e =
    let more : suc n ≡ n + 1 = omega arith in
    let inner : (repeated n w 1 % 2 ^ 64 * 2 ^ w + 1) % 2 ^ 64 ≡ (repeated n w 1 * 2 ^ w + 1) % 2 ^ 64 = mod_inside (repeated n w 1) (2 ^ w) (2 ^ 64) in
    ap (λ k. (k * 2 ^ w + 1) % 2 ^ 64) e ∙ inner ∙ ap (λ k. repeated k w 1 % 2 ^ 64) more

copies_times : (n w a : ℕ) → repeated n w a ≡ a * repeated n w 1
copies_times zero w a = omega arith
copies_times (suc n) w a =
    let e : repeated n w a ≡ a * repeated n w 1 = copies_times n w a in
    let parts : a * (repeated n w 1 * 2 ^ w + 1) ≡ a * (repeated n w 1 * 2 ^ w) + a = mul-add a (repeated n w 1 * 2 ^ w) 1 ∙ ap (λ k. a * (repeated n w 1 * 2 ^ w) + k) (mul-one a) in
    ap (λ k. k * 2 ^ w + a) e ∙ ap (λ k. k + a) (mul_assoc a (repeated n w 1) (2 ^ w)) ∙ sym parts

-- a shorter remainder of a remainder
shorter : (n bits : ℕ) → bits ≤ 64 → n % 2 ^ 64 % 2 ^ bits ≡ n % 2 ^ bits
shorter n bits narrow =
    let split : 64 ≡ (64 - bits) + bits = omega (arith, narrow) in
    ap (λ k. n % 2 ^ k % 2 ^ bits) split ∙ mod-mod-pow n (64 - bits) bits

pub copies_are : (n w a f bits : ℕ) → bits ≤ 64 → f ≡ repeated n w 1 % 2 ^ 64 % 2 ^ bits → repeated n w a < 2 ^ bits → a * f % 2 ^ bits ≡ repeated n w a
copies_are n w a f bits narrow e l =
    ap (λ k. a * k % 2 ^ bits) (e ∙ shorter (repeated n w 1) bits narrow) ∙ mul-mod_second a (repeated n w 1) (2 ^ bits) ∙ ap (λ k. k % 2 ^ bits) (sym (copies_times n w a)) ∙ mod-eq_of_lt l

-- all bits of a lane
all_of : (n bits : ℕ) → n < 2 ^ bits → bit_and n (2 ^ bits - 1) ≡ n
all_of n bits l = and_mask n bits ∙ mod-eq_of_lt l

-- one of two numbers by masks of all bits or none
pub chosen_is : (t : Bool) (m k on off bits : ℕ) → on < 2 ^ bits → off < 2 ^ bits → m ≡ (if t then 2 ^ bits - 1 else 0) → k ≡ (if not t then 2 ^ bits - 1 else 0) → bit_or (bit_and on m) (bit_and off k) ≡ (if t then on else off)
chosen_is true m k on off bits l r is isnt =
    ap (λ x. bit_or (bit_and on x) (bit_and off k)) is
    ∙ ap (λ x. bit_or (bit_and on (2 ^ bits - 1)) (bit_and off x)) isnt
    ∙ ap (λ x. bit_or x (bit_and off 0)) (all_of on bits l)
    ∙ ap (λ x. bit_or on x) (and_zero_r off)
    ∙ or_zero_r on
chosen_is false m k on off bits l r is isnt =
    ap (λ x. bit_or (bit_and on x) (bit_and off k)) is
    ∙ ap (λ x. bit_or (bit_and on 0) (bit_and off x)) isnt
    ∙ ap (λ x. bit_or x (bit_and off (2 ^ bits - 1))) (and_zero_r on)
    ∙ ap (λ x. bit_or 0 x) (all_of off bits r)
    ∙ or_zero_l off

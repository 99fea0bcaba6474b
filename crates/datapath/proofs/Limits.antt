-- Operands that carry the nearest number of a type.
use Rattle.std.proofs.Common.{ℕ, ◌≡◌, ◌+◌, ◌-◌, ◌*◌, ◌/◌, ◌%◌, ◌^◌, ◌<◌, ◌≤◌, Bool, true, false, nat_lt, nat_eq, bit_and, if◌then◌else◌, pos, negsuc, neg_ℤ, ◌+ℤ◌, ◌-ℤ◌, int_lt, unsigned_abs, inl, inr, ap, refl, subst, sym, ◌∙◌, arith}
use Rattle.std.proofs.Math.Nat.{div-eq_of_lt}
use Rattle.std.proofs.lemmas.Bool.{cases_lt}
use Rattle.std.proofs.lemmas.Int.{ints}
use Rattle.std.proofs.lemmas.Nat.{div-mul-add}
use Rattle.dk_base.specs.declared.ty.Ty.{Ty}
use Rattle.dk_base.specs.declared.ty.Ty.TheVariants.{Unsigned, Signed}
use Rattle.dk_base.specs.Types.{IsType, width_of, below, above, least_of, greatest_of}
use Rattle.dk_base.specs.Numbers.{code, number, saturate}
use Rattle.dk_base.proofs.Codes.{half, number_low, number_high}
use Rattle.dk_base.proofs.Compare.{low_test, high_test, never_low, never_high, saturate_code, saturate_in}
use Rattle.datapath.specs.Nets.{IsPartOf, HasWidth, IsWord, bits_of, bit}
use Rattle.wiring.specs.Snapshot.{Snapshot}
use Rattle.datapath.proofs.Growth.{fits_later, part_on}
use Rattle.datapath.proofs.Divided.{at_type, number_unsigned}
use Rattle.datapath.specs.declared.operand.Signal.{Signal}
use Rattle.wiring.specs.Netlist.{Netlist}
use Rattle.datapath.specs.declared.operand.Operand.{Operand}
use Rattle.datapath.specs.Operands.{IsOperand, Carries, worth}
use Rattle.datapath.proofs.Carried.{worth_in, carries}

by_bit : (t : Bool) (p q : ℕ) → (if nat_eq (bit t) 1 then p else q) ≡ (if t then p else q)
by_bit true p q = refl
by_bit false p q = refl

pub not_raised : (a : Netlist) (x : Operand) (ty : Ty) (bits : Signal) → IsOperand a x → HasWidth a bits (width_of ty) → below x.ty ≤ below ty →
    IsWord a bits (width_of ty) (λ nets. if int_lt (worth nets x) (least_of ty) then below ty else bits_of nets bits)
not_raised a x ty bits ox width le = record {
  width = width;
  value = λ later nets grows holds.
      let h = worth_in a later x nets ox grows holds in
      sym (ap (λ t. if t then below ty else bits_of nets bits) (never_low (below x.ty) (below ty) (worth nets x) le h.least));
}

-- the test of an operand that is moved up by half its range
pub low_word : (a b c : Netlist) (x : Operand) (ty : Ty) (up limit low : Signal) (u : ℕ) → IsOperand a x → below ty < below x.ty → IsPartOf a b → IsPartOf b c → ((nets : Snapshot) → bits_of nets limit ≡ below x.ty - below ty) →
    IsWord b up u (λ nets. unsigned_abs (worth nets x +ℤ pos (below x.ty))) → IsWord c low 1 (λ nets. bit (nat_lt (bits_of nets up) (bits_of nets limit))) →
    IsWord c low 1 (λ nets. bit (int_lt (worth nets x) (least_of ty)))
low_word a b c x ty up limit low u ox lt ab bc at_limit offset test = record {
  width = test.width;
  value = λ later nets grows holds.
      let from_b = part_on b c later bc grows in
      let h = worth_in a later x nets ox (part_on a b later ab from_b) holds in
      test.value later nets grows holds ∙ ap (λ n. bit (nat_lt n (bits_of nets limit))) (offset.value later nets from_b holds) ∙
      ap (λ n. bit (nat_lt (unsigned_abs (worth nets x +ℤ pos (below x.ty))) n)) (at_limit nets) ∙ ap bit (low_test (below x.ty) (below ty) (worth nets x) lt h.least);
}

-- a type with numbers below 0 is signed
is_signed : (t : Ty) → 0 < below t → t ≡ Signed (width_of t)
is_signed (Unsigned n) some = absurd (omega (arith, some))
is_signed (Signed n) some = refl

-- the sign of a number by its bits
sign_low : (n b : ℕ) → b < 2 ^ (n - 1) → b / 2 ^ (n - 1) % 2 ^ 1 ≡ 0
sign_low n b low = ap (λ s. s % 2 ^ 1) (div-eq_of_lt low)

sign_high : (n b : ℕ) → 1 ≤ n → b < 2 ^ n → 2 ^ (n - 1) ≤ b → b / 2 ^ (n - 1) % 2 ^ 1 ≡ 1
sign_high n b some fit high =
    let h = half n some in
    let m : b - 2 ^ (n - 1) < 2 ^ (n - 1) = omega (arith, h, fit, high) in
    ap (λ s. s % 2 ^ 1) (ap (λ s. s / 2 ^ (n - 1)) (let e : b ≡ 1 * 2 ^ (n - 1) + (b - 2 ^ (n - 1)) = omega (arith, high) in e) ∙ div-mul-add 1 (2 ^ (n - 1)) (b - 2 ^ (n - 1)) m)

-- a number whose sign is 1
negative : (n b : ℕ) → b < 2 ^ n → 2 ^ (n - 1) ≤ b → number (Signed n) b ≡ negsuc (2 ^ n - b - 1)
negative n b fit high = number_high (Signed n) b high ∙ (let e : pos b -ℤ pos (2 ^ n) ≡ negsuc (2 ^ n - b - 1) = omega (arith, ints, fit) in e)

below_none : (n b l : ℕ) → 1 ≤ n → b < 2 ^ n → l ≡ 0 → b / 2 ^ (n - 1) % 2 ^ 1 ≡ bit (int_lt (number (Signed n) b) (neg_ℤ (pos l)))
below_none n b l some fit none = elim (cases_lt b (2 ^ (n - 1))) [
  | inl low ↦
      let v = number_low (Signed n) b low in
      sign_low n b low ∙ sym (ap (λ z. bit (int_lt z (neg_ℤ (pos l)))) v ∙ ap bit (never_low 0 l (pos b) (omega arith) (omega (arith, ints))))
  | inr high ↦ sign_high n b some fit high ∙ sym (ap (λ z. bit (int_lt z (neg_ℤ (pos l)))) (negative n b fit high) ∙ ap (λ k. bit (int_lt (negsuc (2 ^ n - b - 1)) (neg_ℤ (pos k)))) none)
]

-- the test of the sign
pub sign_word : (a b : Netlist) (x : Operand) (ty : Ty) (s : Signal) (n : ℕ) → IsOperand a x → n ≡ width_of x.ty → below ty ≡ 0 → below ty < below x.ty → IsPartOf a b → IsWord b s 1 (λ nets. bits_of nets x.bits / 2 ^ (n - 1) % 2 ^ 1) →
    IsWord b s 1 (λ nets. bit (int_lt (worth nets x) (least_of ty)))
sign_word a b x ty s n ox e none lt ab word = record {
  width = word.width;
  value = λ later nets grows holds.
      let t = is_signed x.ty (omega (arith, none, lt)) in
      let fit = fits_later a later x.bits (width_of x.ty) nets ox.width (part_on a b later ab grows) holds in
      word.value later nets grows holds ∙ ap (λ m. bits_of nets x.bits / 2 ^ (m - 1) % 2 ^ 1) e ∙ below_none (width_of x.ty) (bits_of nets x.bits) (below ty) ox.ty.some fit none ∙
      ap (λ (u : Ty). bit (int_lt (number u (bits_of nets x.bits)) (least_of ty))) (sym t);
}

-- the least number where the test passes
pub is_raised : (c d : Netlist) (x : Operand) (ty : Ty) (bits low k r : Signal) (w : ℕ) → w ≡ width_of ty → IsPartOf c d → ((nets : Snapshot) → bits_of nets k ≡ below ty) →
    IsWord c low 1 (λ nets. bit (int_lt (worth nets x) (least_of ty))) → IsWord d r w (λ nets. if nat_eq (bits_of nets low) 1 then bits_of nets k else bits_of nets bits) →
    IsWord d r (width_of ty) (λ nets. if int_lt (worth nets x) (least_of ty) then below ty else bits_of nets bits)
is_raised c d x ty bits low k r w e cd at_k test word =
    let W : ℕ → Type 0 = λ n. HasWidth d r n in
    record {
      width = subst W e word.width;
      value = λ later nets grows holds.
          word.value later nets grows holds ∙ ap (λ n. if nat_eq n 1 then bits_of nets k else bits_of nets bits) (test.value later nets (part_on c d later cd grows) holds) ∙ by_bit (int_lt (worth nets x) (least_of ty)) _ _ ∙
          ap (λ n. if int_lt (worth nets x) (least_of ty) then n else bits_of nets bits) (at_k nets);
    }

pub not_lowered : (a : Netlist) (x : Operand) (ty : Ty) (bits : Signal) → IsOperand a x → HasWidth a bits (width_of ty) → above x.ty ≤ above ty →
    IsWord a bits (width_of ty) (λ nets. if int_lt (greatest_of ty) (worth nets x) then above ty - 1 else bits_of nets bits)
not_lowered a x ty bits ox width le = record {
  width = width;
  value = λ later nets grows holds.
      let h = worth_in a later x nets ox grows holds in
      sym (ap (λ t. if t then above ty - 1 else bits_of nets bits) (never_high (above ty) (above x.ty) (worth nets x) le h.greatest));
}

-- a comparison of bits where the sign is 0
above_bits : (g A b : ℕ) → g + 1 ≡ A → nat_lt g b ≡ int_lt (pos A -ℤ pos 1) (pos b)
above_bits g A b e =
    let h = high_test 0 g A (pos b) e (omega (arith, ints)) in
    ap (λ n. nat_lt n b) (let z : g ≡ 0 + g = omega arith in z) ∙ ap (λ n. nat_lt (0 + g) n) (let z : b ≡ unsigned_abs (pos b +ℤ pos 0) = omega (arith, ints) in z) ∙ h

pub high_word : (a b : Netlist) (x : Operand) (ty : Ty) (limit high : Signal) (n g : ℕ) → x.ty ≡ Unsigned n → IsOperand a x → g + 1 ≡ above ty → IsPartOf a b → ((nets : Snapshot) → bits_of nets limit ≡ g) →
    IsWord b high 1 (λ nets. bit (nat_lt (bits_of nets limit) (bits_of nets x.bits))) → IsWord b high 1 (λ nets. bit (int_lt (greatest_of ty) (worth nets x)))
high_word a b x ty limit high n g e ox most ab at_limit test = record {
  width = test.width;
  value = λ later nets grows holds.
      let o = at_type a x (Unsigned n) e ox in
      let fit = fits_later a later x.bits n nets o.width (part_on a b later ab grows) holds in
      test.value later nets grows holds ∙ ap (λ m. bit (nat_lt m (bits_of nets x.bits))) (at_limit nets) ∙ ap bit (above_bits g (above ty) (bits_of nets x.bits) most) ∙
      sym (ap (λ v. bit (int_lt (greatest_of ty) v)) (number_unsigned x n nets e fit));
}

above_signed : (n b g A : ℕ) → 1 ≤ n → b < 2 ^ n → g + 1 ≡ A → bit_and (2 ^ 1 - 1 - b / 2 ^ (n - 1) % 2 ^ 1) (bit (nat_lt g b)) ≡ bit (int_lt (pos A -ℤ pos 1) (number (Signed n) b))
above_signed n b g A some fit most = elim (cases_lt b (2 ^ (n - 1))) [
  | inl low ↦
      ap (λ s. bit_and (2 ^ 1 - 1 - s) (bit (nat_lt g b))) (sign_low n b low) ∙ one_and (nat_lt g b) ∙ ap bit (above_bits g A b most) ∙ sym (ap (λ v. bit (int_lt (pos A -ℤ pos 1) v)) (number_low (Signed n) b low))
  | inr high ↦
      ap (λ s. bit_and (2 ^ 1 - 1 - s) (bit (nat_lt g b))) (sign_high n b some fit high) ∙ zero_and (nat_lt g b) ∙
      sym (ap (λ v. bit (int_lt (pos A -ℤ pos 1) v)) (negative n b fit high) ∙ ap bit (never_high A 0 (negsuc (2 ^ n - b - 1)) (omega arith) (omega (arith, ints))))
]
  where
    one_and : (t : Bool) → bit_and 1 (bit t) ≡ bit t
    one_and true = refl
    one_and false = refl

    zero_and : (t : Bool) → bit_and 0 (bit t) ≡ 0
    zero_and true = refl
    zero_and false = refl

-- of a signed operand
pub high_signed_word : (a b c d f : Netlist) (x : Operand) (ty : Ty) (sign positive limit high test : Signal) (n g : ℕ) → x.ty ≡ Signed n → IsOperand a x → g + 1 ≡ above ty → IsPartOf a b → IsPartOf b c → IsPartOf c d → IsPartOf d f → ((nets : Snapshot) → bits_of nets limit ≡ g) →
    IsWord b sign 1 (λ nets. bits_of nets x.bits / 2 ^ (n - 1) % 2 ^ 1) → IsWord c positive 1 (λ nets. 2 ^ 1 - 1 - bits_of nets sign) → IsWord d high 1 (λ nets. bit (nat_lt (bits_of nets limit) (bits_of nets x.bits))) →
    IsWord f test 1 (λ nets. bit_and (bits_of nets positive) (bits_of nets high)) → IsWord f test 1 (λ nets. bit (int_lt (greatest_of ty) (worth nets x)))
high_signed_word a b c d f x ty sign positive limit high test n g e ox most ab bc cd df at_limit signs positives highs word = record {
  width = word.width;
  value = λ later nets grows holds.
      let o = at_type a x (Signed n) e ox in
      let from_d = part_on d f later df grows in
      let from_c = part_on c d later cd from_d in
      let from_b = part_on b c later bc from_c in
      let fit = fits_later a later x.bits n nets o.width (part_on a b later ab from_b) holds in
      word.value later nets grows holds ∙ ap (λ p. bit_and p (bits_of nets high)) (positives.value later nets from_c holds ∙ ap (λ s. 2 ^ 1 - 1 - s) (signs.value later nets from_b holds)) ∙
      ap (λ h. bit_and (2 ^ 1 - 1 - bits_of nets x.bits / 2 ^ (n - 1) % 2 ^ 1) h) (highs.value later nets from_d holds ∙ ap (λ m. bit (nat_lt m (bits_of nets x.bits))) (at_limit nets)) ∙
      above_signed n (bits_of nets x.bits) g (above ty) o.ty.some fit most ∙ sym (ap (λ t. bit (int_lt (greatest_of ty) (number t (bits_of nets x.bits)))) e);
}

-- the greatest number where the test passes
pub is_lowered : (c d : Netlist) (x : Operand) (ty : Ty) (bits high k r : Signal) (w g : ℕ) → w ≡ width_of ty → g + 1 ≡ above ty → IsPartOf c d → ((nets : Snapshot) → bits_of nets k ≡ g) →
    IsWord c high 1 (λ nets. bit (int_lt (greatest_of ty) (worth nets x))) → IsWord d r w (λ nets. if nat_eq (bits_of nets high) 1 then bits_of nets k else bits_of nets bits) →
    IsWord d r (width_of ty) (λ nets. if int_lt (greatest_of ty) (worth nets x) then above ty - 1 else bits_of nets bits)
is_lowered c d x ty bits high k r w g e most cd at_k test word =
    let W : ℕ → Type 0 = λ n. HasWidth d r n in
    let top : g ≡ above ty - 1 = omega (arith, most) in
    record {
      width = subst W e word.width;
      value = λ later nets grows holds.
          word.value later nets grows holds ∙ ap (λ n. if nat_eq n 1 then bits_of nets k else bits_of nets bits) (test.value later nets (part_on c d later cd grows) holds) ∙ by_bit (int_lt (greatest_of ty) (worth nets x)) _ _ ∙
          ap (λ n. if int_lt (greatest_of ty) (worth nets x) then n else bits_of nets bits) (at_k nets ∙ top);
    }

pub saturated_carries : (b c d : Netlist) (x : Operand) (p q r : Signal) (ty : Ty) (w : ℕ) → w ≡ width_of ty → IsType ty → IsPartOf b c → IsPartOf c d →
    IsWord b p w (λ nets. code w (worth nets x)) →
    IsWord c q (width_of ty) (λ nets. if int_lt (worth nets x) (least_of ty) then below ty else bits_of nets p) →
    IsWord d r (width_of ty) (λ nets. if int_lt (greatest_of ty) (worth nets x) then above ty - 1 else bits_of nets q) →
    Carries d (record { bits = r; ty = ty }) ty (λ nets. saturate ty (worth nets x))
saturated_carries b c d x p q r ty w e ok bc cd bits low word =
    carries d r ty ty (width_of ty) (λ nets. saturate ty (worth nets x)) refl refl ok
    (record {
      width = word.width;
      value = λ later nets grows holds.
          let from_c = part_on c d later cd grows in
          let from_b = part_on b c later bc from_c in
          word.value later nets grows holds ∙ ap (λ n. if int_lt (greatest_of ty) (worth nets x) then above ty - 1 else n) (low.value later nets from_c holds) ∙
          ap (λ n. if int_lt (greatest_of ty) (worth nets x) then above ty - 1 else if int_lt (worth nets x) (least_of ty) then below ty else n) (bits.value later nets from_b holds ∙ ap (λ m. code m (worth nets x)) e) ∙
          saturate_code ty (worth nets x) ok;
    })
    (λ later nets grows holds. saturate_in ty (worth nets x) ok)

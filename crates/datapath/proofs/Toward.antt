-- A signed number divided by a power of two, rounded toward zero, as a shift after a sum.
use Rattle.std.proofs.Common.{ℕ, ℤ, List, suc, if◌then◌else◌, ◌≡◌, ◌+◌, ◌-◌, ◌*◌, ◌/◌, ◌%◌, ◌<◌, ◌≤◌, ◌^◌, pos, negsuc, ◌-ℤ◌, neg_ℤ, int_div, Bool, true, false, ap, refl, sym, subst, ◌∙◌, arith, inl, inr}
use Rattle.std.specs.Int.{int_div_euclid}
use Rattle.std.proofs.Math.Nat.{div-eq-sub-div, div-eq_of_lt}
use Rattle.std.proofs.Math.Pow.{pow_mono}
use Rattle.std.proofs.lemmas.Int.{ints}
use Rattle.std.proofs.lemmas.Bool.{cases_lt}
use Rattle.std.proofs.lemmas.Nat.{pow_pos, div-mul-add, mod-mul-add}
use Rattle.dk_base.specs.declared.ty.Ty.{Ty}
use Rattle.dk_base.specs.declared.ty.Ty.TheVariants.{Signed}
use Rattle.dk_base.specs.Types.{width_of}
use Rattle.dk_base.specs.Numbers.{number}
use Rattle.dk_base.proofs.Codes.{half, mod_same, number_low, number_high}
use Rattle.wiring.specs.Rights.{repeated}
use Rattle.wiring.specs.Netlist.{Netlist}
use Rattle.wiring.specs.Snapshot.{Snapshot}
use Rattle.datapath.specs.declared.operand.Signal.{Signal}
use Rattle.datapath.specs.declared.operand.Operand.{Operand}
use Rattle.datapath.specs.Nets.{IsPartOf, IsWord, HasWidth, bits_of}
use Rattle.datapath.specs.Operands.{IsOperand, Carries, CarriesOver, worth}
use Rattle.datapath.specs.Levels.{is_power, quotient_levels}
use Rattle.datapath.proofs.Growth.{fits_later, part_on}
use Rattle.datapath.proofs.Resized.{copies_zero, copies_one}
use Rattle.datapath.proofs.Shifted.{carries_equal}
use Rattle.datapath.proofs.Divided.{at_type}

-- the quotient of j + 1 by d, made negative, by that of j - (d - 1)
raised : (j d : ℕ) → 0 < d → d ≤ suc j → negsuc ((j - (d - 1)) / d) ≡ neg_ℤ (pos (suc j / d))
raised j d some le =
    let q = div-eq-sub-div some le in
    let r : suc j - d ≡ j - (d - 1) = omega (arith, some, le) in
    let s : suc j / d ≡ suc ((j - (d - 1)) / d) = q ∙ (let e : (suc j - d) / d + 1 ≡ suc ((suc j - d) / d) = omega arith in e) ∙ ap (λ n. suc (n / d)) r in
    sym (ap (λ n. neg_ℤ (pos n)) s)

-- what is added to a number of n bits whose sign is 0 or 1
module _ (n k x : ℕ) (some : 1 ≤ n) (less : k < n) (fit : x < 2 ^ n) where
  abbrev pub added : ℕ
  added = repeated k 1 (x / 2 ^ (n - 1) % 2 ^ 1)

  low_case : x < 2 ^ (n - 1) → int_div_euclid (number (Signed n) ((x + added) % 2 ^ n)) (pos (2 ^ k)) ≡ int_div (number (Signed n) x) (pos (2 ^ k))
  low_case low =
      let d : x / 2 ^ (n - 1) ≡ 0 = div-eq_of_lt low in
      let a : added ≡ 0 = ap (λ s. repeated k 1 (s % 2 ^ 1)) d ∙ copies_zero k in
      let y : (x + added) % 2 ^ n ≡ x = ap (λ s. (x + s) % 2 ^ n) a ∙ ap (λ s. s % 2 ^ n) (let e : x + 0 ≡ x = omega arith in e) ∙ mod_same x (2 ^ n) fit in
      let v = number_low (Signed n) x low in
      ap (λ s. int_div_euclid (number (Signed n) s) (pos (2 ^ k))) y ∙ ap (λ z. int_div_euclid z (pos (2 ^ k))) v ∙ sym (ap (λ z. int_div z (pos (2 ^ k))) v)

  high_case : 2 ^ (n - 1) ≤ x → int_div_euclid (number (Signed n) ((x + added) % 2 ^ n)) (pos (2 ^ k)) ≡ int_div (number (Signed n) x) (pos (2 ^ k))
  high_case high =
      let h = half n some in
      let m : x - 2 ^ (n - 1) < 2 ^ (n - 1) = omega (arith, h, fit, high) in
      let d : x / 2 ^ (n - 1) ≡ 1 = ap (λ s. s / 2 ^ (n - 1)) (let e : x ≡ 1 * 2 ^ (n - 1) + (x - 2 ^ (n - 1)) = omega (arith, high) in e) ∙ div-mul-add 1 (2 ^ (n - 1)) (x - 2 ^ (n - 1)) m in
      let ones = copies_one k in
      let a : added ≡ 2 ^ k - 1 = ap (λ s. repeated k 1 (s % 2 ^ 1)) d ∙ omega (arith, ones) in
      let p = pow_pos k in
      let most : 2 ^ k ≤ 2 ^ (n - 1) = pow_mono (omega (arith, less)) in
      let right : number (Signed n) x ≡ negsuc (2 ^ n - x - 1) = number_high (Signed n) x high ∙ (let e : pos x -ℤ pos (2 ^ n) ≡ negsuc (2 ^ n - x - 1) = omega (arith, ints, fit) in e) in
      ap (λ s. int_div_euclid (number (Signed n) ((x + s) % 2 ^ n)) (pos (2 ^ k))) a ∙
      elim (cases_lt (x + (2 ^ k - 1)) (2 ^ n)) [
        | inl within ↦
            let y : (x + (2 ^ k - 1)) % 2 ^ n ≡ x + (2 ^ k - 1) = mod_same (x + (2 ^ k - 1)) (2 ^ n) within in
            let above : 2 ^ (n - 1) ≤ x + (2 ^ k - 1) = omega (arith, high) in
            let left : number (Signed n) (x + (2 ^ k - 1)) ≡ negsuc (2 ^ n - x - 1 - (2 ^ k - 1)) = number_high (Signed n) (x + (2 ^ k - 1)) above ∙ (let e : pos (x + (2 ^ k - 1)) -ℤ pos (2 ^ n) ≡ negsuc (2 ^ n - x - 1 - (2 ^ k - 1)) = omega (arith, ints, within) in e) in
            ap (λ s. int_div_euclid (number (Signed n) s) (pos (2 ^ k))) y ∙ ap (λ z. int_div_euclid z (pos (2 ^ k))) left ∙
            raised (2 ^ n - x - 1) (2 ^ k) p (let g : 2 ^ k ≤ suc (2 ^ n - x - 1) = omega (arith, within, p, fit) in g) ∙
            sym (ap (λ z. int_div z (pos (2 ^ k))) right)
        | inr beyond ↦
            let over : x + (2 ^ k - 1) - 2 ^ n < 2 ^ k = omega (arith, fit, p) in
            let small : x + (2 ^ k - 1) - 2 ^ n < 2 ^ (n - 1) = omega (arith, over, most) in
            let small' : x + (2 ^ k - 1) - 2 ^ n < 2 ^ n = omega (arith, small, h) in
            let y : (x + (2 ^ k - 1)) % 2 ^ n ≡ x + (2 ^ k - 1) - 2 ^ n = passed (x + (2 ^ k - 1)) (2 ^ n) beyond small' in
            let zero_left : (x + (2 ^ k - 1) - 2 ^ n) / 2 ^ k ≡ 0 = div-eq_of_lt over in
            let zero_right : suc (2 ^ n - x - 1) / 2 ^ k ≡ 0 = div-eq_of_lt (let g : suc (2 ^ n - x - 1) < 2 ^ k = omega (arith, beyond, p, fit) in g) in
            ap (λ s. int_div_euclid (number (Signed n) s) (pos (2 ^ k))) y ∙ ap (λ z. int_div_euclid z (pos (2 ^ k))) (number_low (Signed n) (x + (2 ^ k - 1) - 2 ^ n) small) ∙ ap pos zero_left ∙
            sym (ap (λ z. int_div z (pos (2 ^ k))) right ∙ ap (λ s. neg_ℤ (pos s)) zero_right)
      ]
    where
      passed : (z m : ℕ) → m ≤ z → z - m < m → z % m ≡ z - m
      passed z m le lt = ap (λ s. s % m) (let e : z ≡ 1 * m + (z - m) = omega (arith, le) in e) ∙ mod-mul-add 1 m (z - m) lt

  pub toward_bits : int_div_euclid (number (Signed n) ((x + added) % 2 ^ n)) (pos (2 ^ k)) ≡ int_div (number (Signed n) x) (pos (2 ^ k))
  toward_bits = elim (cases_lt x (2 ^ (n - 1))) [ inl low ↦ low_case low | inr high ↦ high_case high ]

-- a quotient takes an operator at least
pub some_level : (by : ℕ) → 1 ≤ quotient_levels by
some_level by = by_test (is_power by)
  where
    by_test : (t : Bool) → 1 ≤ (if t then 1 else 5)
    by_test true = omega arith
    by_test false = omega arith

-- no number of n bits is so far from 0
far_bits : (n k x : ℕ) → 1 ≤ n → n ≤ k → x < 2 ^ n → int_div (number (Signed n) x) (pos (2 ^ k)) ≡ pos 0
far_bits n k x some le fit =
    let h = half n some in
    let most : 2 ^ n ≤ 2 ^ k = pow_mono le in
    let p = pow_pos (n - 1) in
    elim (cases_lt x (2 ^ (n - 1))) [
      | inl low ↦ ap (λ z. int_div z (pos (2 ^ k))) (number_low (Signed n) x low) ∙ ap pos (div-eq_of_lt (let g : x < 2 ^ k = omega (arith, fit, most) in g))
      | inr high ↦
          let right : number (Signed n) x ≡ negsuc (2 ^ n - x - 1) = number_high (Signed n) x high ∙ (let e : pos x -ℤ pos (2 ^ n) ≡ negsuc (2 ^ n - x - 1) = omega (arith, ints, fit) in e) in
          ap (λ z. int_div z (pos (2 ^ k))) right ∙ ap (λ s. neg_ℤ (pos s)) (div-eq_of_lt (let g : suc (2 ^ n - x - 1) < 2 ^ k = omega (arith, fit, high, h, p, most) in g))
    ]

pub far_carries : (a : Netlist) (x : Operand) (z : Signal) (n k : ℕ) → x.ty ≡ Signed n → n ≤ k → IsOperand a x → HasWidth a z n → ((nets : Snapshot) → bits_of nets z ≡ 0) → Carries a (record { bits = z; ty = x.ty }) x.ty (λ nets. int_div (worth nets x) (pos (2 ^ k)))
far_carries a x z n k e le ox width nothing =
    let o = at_type a x (Signed n) e ox in
    let W : Ty → Type 0 = λ t. HasWidth a z (width_of t) in
    record {
      is = refl;
      operand = record { ty = ox.ty; width = subst W (sym e) width };
      value = λ later nets grows holds.
          let fit = fits_later a later x.bits n nets o.width grows holds in
          ap (λ t. number t (bits_of nets z)) e ∙ ap (number (Signed n)) (nothing nets) ∙ number_low (Signed n) 0 (pow_pos (n - 1)) ∙
          sym (ap (λ t. int_div (number t (bits_of nets x.bits)) (pos (2 ^ k))) e ∙ far_bits n k (bits_of nets x.bits) o.ty.some le fit);
    }

-- the operand of that shift
pub toward_carries : (a b c d f g : Netlist) (x q : Operand) (sign ones missing bits : Signal) (n k : ℕ) → x.ty ≡ Signed n → k < n → IsOperand a x → IsPartOf a b → IsPartOf b c → IsPartOf c d → IsPartOf d f → IsPartOf f g →
    IsWord b sign 1 (λ nets. bits_of nets x.bits / 2 ^ (n - 1) % 2 ^ 1) → IsWord c ones k (λ nets. repeated k 1 (bits_of nets sign)) → IsWord d missing (n - k + k) (λ nets. bits_of nets ones) →
    IsWord f bits n (λ nets. (bits_of nets x.bits + bits_of nets missing) % 2 ^ n) → Carries g q x.ty (λ nets. int_div_euclid (number x.ty (bits_of nets bits)) (pos (2 ^ k))) →
    Carries g q x.ty (λ nets. int_div (worth nets x) (pos (2 ^ k)))
toward_carries a b c d f g x q sign ones missing bits n k e less ox ab bc cd df fg is_sign are_ones is_missing are_bits h =
    let o = at_type a x (Signed n) e ox in
    carries_equal f g x q x.ty _ _ fg (λ later nets grows holds.
    let from_d = part_on d f later df grows in
    let from_c = part_on c d later cd from_d in
    let from_b = part_on b c later bc from_c in
    let fit = fits_later a later x.bits n nets o.width (part_on a b later ab from_b) holds in
    let low = is_missing.value later nets from_d holds ∙ are_ones.value later nets from_c holds ∙ ap (repeated k 1) (is_sign.value later nets from_b holds) in
    ap (λ t. int_div_euclid (number t (bits_of nets bits)) (pos (2 ^ k))) e ∙
    ap (λ v. int_div_euclid (number (Signed n) v) (pos (2 ^ k))) (are_bits.value later nets grows holds ∙ ap (λ m. (bits_of nets x.bits + m) % 2 ^ n) low) ∙
    toward_bits n k (bits_of nets x.bits) o.ty.some less fit ∙
    sym (ap (λ t. int_div (number t (bits_of nets x.bits)) (pos (2 ^ k))) e)) h

pub full_level : (by : ℕ) → is_power by ≡ false → 5 ≤ quotient_levels by
full_level by e =
    let levels : Bool → ℕ = λ t. if t then 1 else 5 in
    let all : quotient_levels by ≡ 5 = ap levels e in
    omega (arith, all)

undivided : (v : ℤ) → int_div v (pos 1) ≡ v
undivided (pos n) = ap pos (let e : n / 1 ≡ n = grind arith in e)
undivided (negsuc n) = ap (λ m. neg_ℤ (pos m)) (let e : suc n / 1 ≡ suc n = grind arith in e)

pub near_carries : (a : Netlist) (x : Operand) (k : ℕ) → k ≡ 0 → IsOperand a x → Carries a x x.ty (λ nets. int_div (worth nets x) (pos (2 ^ k)))
near_carries a x k e h = record {
  is = refl;
  operand = h;
  value = λ m s more is. sym (ap (λ n. int_div (worth s x) (pos (2 ^ n))) e ∙ undivided (worth s x));
}

-- a divisor under another name
pub divided_by : (x : Operand) (by n : ℕ) {a d : Netlist} {i : ℕ} {xs : List Signal} {t : Ty} {r : Operand} → by ≡ n → CarriesOver a d i xs t (λ nets. int_div (worth nets x) (pos n)) r → CarriesOver a d i xs t (λ nets. int_div (worth nets x) (pos by)) r
divided_by x by n {a} {d} {i} {xs} {t} {r} e h = subst (λ k. CarriesOver a d i xs t (λ nets. int_div (worth nets x) (pos k)) r) (sym e) h

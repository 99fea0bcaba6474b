-- Operands in other widths.
use Rattle.std.proofs.Common.{ℕ, zero, suc, ◌≡◌, ◌+◌, ◌-◌, ◌*◌, ◌/◌, ◌%◌, ◌<◌, ◌≤◌, ◌^◌, ap, refl, subst, sym, ◌∙◌, arith, inl, inr}
use Rattle.std.proofs.lemmas.Bool.{cases_lt}
use Rattle.std.proofs.lemmas.Nat.{pow-add, div-mul-add}
use Rattle.dk_base.specs.declared.ty.Ty.{Ty}
use Rattle.dk_base.specs.declared.ty.Ty.TheVariants.{Unsigned, Signed}
use Rattle.dk_base.specs.Types.{IsType, width_of}
use Rattle.dk_base.specs.Numbers.{code, number}
use Rattle.dk_base.proofs.Codes.{half}
use Rattle.dk_base.proofs.Resize.{narrow, wide_unsigned, wide_not_negative, wide_negative}
use Rattle.datapath.specs.Nets.{IsPartOf, HasPart, HasWidth, IsWidened, IsWord, bits_of}
use Rattle.wiring.specs.Sizes.{IsWidth}
use Rattle.wiring.specs.Rights.{repeated}
use Rattle.datapath.proofs.Growth.{fits_later, part_on}
use Rattle.datapath.specs.declared.operand.Signal.{Signal}
use Rattle.wiring.specs.Netlist.{Netlist}
use Rattle.datapath.specs.declared.operand.Operand.{Operand}
use Rattle.datapath.specs.Operands.{IsOperand, worth}

pub copies_zero : (k : ℕ) → repeated k 1 0 ≡ 0
copies_zero zero = refl
copies_zero (suc k) = let e = copies_zero k in omega (arith, e)

pub copies_one : (k : ℕ) → repeated k 1 1 + 1 ≡ 2 ^ k
copies_one zero = refl
copies_one (suc k) =
    let e = copies_one k in
    let p : 2 ^ (k + 1) ≡ 2 ^ k * 2 ^ 1 = pow-add 2 k 1 in
    let r : suc k ≡ k + 1 = omega arith in
    let q : 2 ^ suc k ≡ 2 ^ (k + 1) = ap (λ n. 2 ^ n) r in
    let t : repeated k 1 1 * 2 ^ 1 + 1 + 1 ≡ 2 ^ k * 2 ^ 1 = omega (arith, e) in
    t ∙ sym (q ∙ p)

-- the sign bits of a number of w bits
pub signed_bits : (w n k : ℕ) → 1 ≤ w → n < 2 ^ w → code (k + w) (number (Signed w) n) ≡ repeated k 1 (n / 2 ^ (w - 1) % 2 ^ 1) * 2 ^ w + n
signed_bits w n k some h =
    let q = half w some in
    elim (cases_lt n (2 ^ (w - 1))) [
      | inl low ↦
          let d : n / 2 ^ (w - 1) ≡ 0 = ap (λ x. x / 2 ^ (w - 1)) (let e : n ≡ 0 * 2 ^ (w - 1) + n = grind arith in e) ∙ div-mul-add 0 (2 ^ (w - 1)) n low in
          let s : repeated k 1 (n / 2 ^ (w - 1) % 2 ^ 1) ≡ 0 = ap (λ x. repeated k 1 (x % 2 ^ 1)) d ∙ copies_zero k in
          let z : 0 * 2 ^ w + n ≡ n = grind arith in
          wide_not_negative w n (k + w) some low (omega arith) ∙ sym (ap (λ x. x * 2 ^ w + n) s ∙ z)
      | inr high ↦
          let m : n - 2 ^ (w - 1) < 2 ^ (w - 1) = omega (arith, q) in
          let d : n / 2 ^ (w - 1) ≡ 1 = ap (λ x. x / 2 ^ (w - 1)) (let e : n ≡ 1 * 2 ^ (w - 1) + (n - 2 ^ (w - 1)) = omega arith in e) ∙ div-mul-add 1 (2 ^ (w - 1)) (n - 2 ^ (w - 1)) m in
          let o = copies_one k in
          let s : repeated k 1 (n / 2 ^ (w - 1) % 2 ^ 1) ≡ 2 ^ k - 1 = ap (λ x. repeated k 1 (x % 2 ^ 1)) d ∙ omega (arith, o) in
          wide_negative w n k some high h ∙ sym (ap (λ x. x * 2 ^ w + n) s)
    ]

-- what is where x's type is known
of_type : (b : Netlist) (x : Operand) (t : Ty) (r : Signal) (m : ℕ) → x.ty ≡ t → IsWord b r m (λ nets. code m (number t (bits_of nets x.bits))) → IsWord b r m (λ nets. code m (worth nets x))
of_type b x t r m e word = record {
  width = word.width;
  value = λ later nets grows holds. word.value later nets grows holds ∙ ap (λ u. code m (number u (bits_of nets x.bits))) (sym e);
}

width_at : (b : Netlist) (x : Operand) (t : Ty) → x.ty ≡ t → IsOperand b x → HasWidth b x.bits (width_of t)
width_at b x t e h = let P : Ty → Type 0 = λ u. HasWidth b x.bits (width_of u) in subst P e h.width

pub narrow_word : (a b : Netlist) (x : Operand) (r : Signal) (t : Ty) (m : ℕ) → x.ty ≡ t → IsOperand a x → m ≤ width_of t → IsPartOf a b →
    IsWord b r m (λ nets. bits_of nets x.bits / 2 ^ 0 % 2 ^ m) → IsWord b r m (λ nets. code m (worth nets x))
narrow_word a b x r t m e h le more word = of_type b x t r m e (record {
  width = word.width;
  value = λ later nets grows holds.
      let f = fits_later a later x.bits (width_of t) nets (width_at a x t e h) (part_on a b later more grows) holds in
      let d : bits_of nets x.bits / 2 ^ 0 ≡ bits_of nets x.bits = grind arith in
      word.value later nets grows holds ∙ ap (λ v. v % 2 ^ m) d ∙ sym (narrow t _ m f le);
})

pub zeros_word : (a b : Netlist) (x : Operand) (r : Signal) (w m : ℕ) → x.ty ≡ Unsigned w → IsOperand a x → w < m → IsPartOf a b →
    IsWord b r (m - w + w) (λ nets. bits_of nets x.bits) → IsWord b r m (λ nets. code m (worth nets x))
zeros_word a b x r w m e h le more word =
    let k : m - w + w ≡ m = omega arith in
    let le' : w ≤ m = omega arith in
    let P : ℕ → Type 0 = λ n. HasWidth b r n in
    of_type b x (Unsigned w) r m e (record {
      width = subst P k word.width;
      value = λ later nets grows holds.
          let f = fits_later a later x.bits w nets (width_at a x (Unsigned w) e h) (part_on a b later more grows) holds in
          word.value later nets grows holds ∙ sym (wide_unsigned w _ m f le');
    })

pub signs_word : (a b : Netlist) (x : Operand) (r : Signal) (w m : ℕ) → x.ty ≡ Signed w → IsOperand a x → w < m → IsPartOf a b →
    IsWord b r (m - w + w) (λ nets. repeated (m - w) 1 (bits_of nets x.bits / 2 ^ (w - 1) % 2 ^ 1) * 2 ^ w + bits_of nets x.bits) → IsWord b r m (λ nets. code m (worth nets x))
signs_word a b x r w m e h le more word =
    let k : m - w + w ≡ m = omega arith in
    let P : ℕ → Type 0 = λ n. HasWidth b r n in
    let Q : Ty → Type 0 = λ t. 1 ≤ width_of t in
    let some : 1 ≤ w = subst Q e h.ty.some in
    of_type b x (Signed w) r m e (record {
      width = subst P k word.width;
      value = λ later nets grows holds.
          let f = fits_later a later x.bits w nets (width_at a x (Signed w) e h) (part_on a b later more grows) holds in
          word.value later nets grows holds ∙ sym (signed_bits w _ (m - w) some f) ∙ ap (λ n. code n (number (Signed w) (bits_of nets x.bits))) k;
    })

-- what the calls need
pub narrow_part : (b : Netlist) (x : Operand) (t : Ty) (m : ℕ) → x.ty ≡ t → IsOperand b x → IsWidth m → m ≤ width_of t → HasPart b (width_of t) x.bits 0 m
narrow_part b x t m e h wide le =
    let ok : IsType t = subst IsType e h.ty in
    record { width = (ok.some, ok.most); some = wide.0; inside = omega (arith, le); x = width_at b x t e h }

pub widened : (b : Netlist) (x : Operand) (t : Ty) (m : ℕ) → x.ty ≡ t → IsOperand b x → IsWidth m → width_of t < m → IsWidened b (m - width_of t) (width_of t) x.bits
widened b x t m e h wide less =
    let ok : IsType t = subst IsType e h.ty in
    let most = wide.1 in
    record { high = omega (arith, less); low = ok.some; most = omega (arith, less, most); x = width_at b x t e h }

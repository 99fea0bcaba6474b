-- Operands that carry shifted numbers.
use Rattle.std.proofs.Common.{ℕ, ◌≡◌, ◌+◌, ◌-◌, ◌*◌, ◌/◌, ◌%◌, ◌<◌, ◌≤◌, ◌^◌, min, ℤ, pos, ◌*ℤ◌, ap, refl, subst, sym, ◌∙◌, arith, inl, inr}
use Rattle.std.specs.Int.{int_div_euclid}
use Rattle.std.proofs.lemmas.Bool.{cases_lt}
use Rattle.std.proofs.lemmas.Nat.{pow_pos}
use Rattle.dk_base.specs.declared.ty.Ty.{Ty}
use Rattle.dk_base.specs.declared.ty.Ty.TheVariants.{Unsigned, Signed}
use Rattle.dk_base.specs.Types.{IsType, IsIn, width_of, shifted_type, narrowed_type}
use Rattle.dk_base.specs.Numbers.{code, number}
use Rattle.dk_base.proofs.Codes.{number_low}
use Rattle.dk_base.proofs.Ranges.{in_wider}
use Rattle.dk_base.proofs.Scale.{code_scale, shifted_in, high_bits_of, narrowed_within, all_shifted_out, sign_is_left, shifted_by_none, times_one}
use Rattle.wiring.specs.Sizes.{IsWidth}
use Rattle.datapath.proofs.Composed.{type_is}
use Rattle.datapath.specs.Nets.{AreJoined, HasPart, IsPartOf, HasWidth, IsWord, InEachFit, bits_of}
use Rattle.wiring.specs.Snapshot.{Snapshot}
use Rattle.datapath.proofs.Growth.{fits_later, part_on, has_width_of}
use Rattle.datapath.specs.declared.operand.Signal.{Signal}
use Rattle.wiring.specs.Netlist.{Netlist}
use Rattle.datapath.specs.declared.operand.Operand.{Operand}
use Rattle.datapath.specs.Operands.{IsOperand, Carries, worth}
use Rattle.datapath.proofs.Carried.{worth_in, carries}

shifted_width : (t : Ty) (k : ℕ) → width_of (shifted_type t k) ≡ width_of t + k
shifted_width (Unsigned n) k = refl
shifted_width (Signed n) k = refl

narrowed_width : (t : Ty) (k : ℕ) → width_of (narrowed_type t k) ≡ width_of t - k
narrowed_width (Unsigned n) k = refl
narrowed_width (Signed n) k = refl

pub shift_carries : (a b : Netlist) (x : Operand) (z r : Signal) (ty : Ty) (w k : ℕ) → ty ≡ shifted_type x.ty k → w ≡ width_of x.ty → IsType (shifted_type x.ty k) → IsOperand a x → IsPartOf a b →
    ((nets : Snapshot) → bits_of nets z ≡ 0) → IsWord b r (w + k) (λ nets. bits_of nets x.bits * 2 ^ k + bits_of nets z) →
    Carries b (record { bits = r; ty = ty }) (shifted_type x.ty k) (λ nets. worth nets x *ℤ pos (2 ^ k))
shift_carries a b x z r ty w k e j ok ox ab nothing word =
    let m : w + k ≡ width_of x.ty + k = ap (λ n. n + k) j in
    let g : w + k ≡ width_of ty = m ∙ sym (shifted_width x.ty k) ∙ sym (ap width_of e) in
    carries b r (shifted_type x.ty k) ty (w + k) (λ nets. worth nets x *ℤ pos (2 ^ k)) e g ok
    (record {
      width = word.width;
      value = λ later nets grows holds.
          let f = fits_later a later x.bits (width_of x.ty) nets ox.width (part_on a b later ab grows) holds in
          let o : bits_of nets x.bits * 2 ^ k + 0 ≡ bits_of nets x.bits * 2 ^ k = omega arith in
          word.value later nets grows holds ∙ ap (λ n. bits_of nets x.bits * 2 ^ k + n) (nothing nets) ∙ o ∙ code_scale x.ty k (bits_of nets x.bits) f ∙ ap (λ n. code n (worth nets x *ℤ pos (2 ^ k))) (sym m);
    })
    (λ later nets grows holds. shifted_in x.ty k (worth nets x) ox.ty (worth_in a later x nets ox (part_on a b later ab grows) holds))

pub high_carries : (a b : Netlist) (x : Operand) (r : Signal) (ty : Ty) (w k : ℕ) → ty ≡ narrowed_type x.ty k → w ≡ width_of x.ty → k < width_of x.ty → IsOperand a x → IsPartOf a b →
    IsWord b r (w - k) (λ nets. bits_of nets x.bits / 2 ^ k % 2 ^ (w - k)) →
    Carries b (record { bits = r; ty = ty }) (narrowed_type x.ty k) (λ nets. int_div_euclid (worth nets x) (pos (2 ^ k)))
high_carries a b x r ty w k e j lt ox ab word =
    let m : w - k ≡ width_of x.ty - k = ap (λ n. n - k) j in
    let g : w - k ≡ width_of (narrowed_type x.ty k) = m ∙ sym (narrowed_width x.ty k) in
    let W : ℕ → Type 0 = λ n. HasWidth b r n in
    let O : Ty → Type 0 = λ u. IsOperand b (record { bits = r; ty = u }) in
    let n = narrowed_width x.ty k in
    let t = ox.ty.most in
    record {
      is = e;
      operand = subst O (sym e) (record { ty = record { some = omega (arith, n, lt); most = omega (arith, n, t) }; width = subst W g word.width });
      value = λ later nets grows holds.
          let f = fits_later a later x.bits (width_of x.ty) nets ox.width (part_on a b later ab grows) holds in
          ap (λ u. number u (bits_of nets r)) e ∙ ap (number (narrowed_type x.ty k)) (word.value later nets grows holds ∙ ap (λ i. bits_of nets x.bits / 2 ^ k % 2 ^ i) m) ∙ high_bits_of x.ty k (bits_of nets x.bits) lt f;
    }

pub within_carries : (a b c : Netlist) (x high : Operand) (r : Signal) (w k : ℕ) → w ≡ width_of x.ty → IsOperand a x → IsPartOf a b → IsPartOf b c →
    Carries b high (narrowed_type x.ty k) (λ nets. int_div_euclid (worth nets x) (pos (2 ^ k))) → IsWord c r w (λ nets. code w (worth nets high)) →
    Carries c (record { bits = r; ty = x.ty }) x.ty (λ nets. int_div_euclid (worth nets x) (pos (2 ^ k)))
within_carries a b c x high r w k j ox ab bc inner word =
    carries c r x.ty x.ty w (λ nets. int_div_euclid (worth nets x) (pos (2 ^ k))) refl j ox.ty
    (record {
      width = word.width;
      value = λ later nets grows holds. word.value later nets grows holds ∙ ap (code w) (inner.value later nets (part_on b c later bc grows) holds);
    })
    (λ later nets grows holds.
    let from_b = part_on b c later bc grows in
    let h = worth_in b later high nets inner.operand from_b holds in
    let T : Ty → Type 0 = λ t. IsIn t (worth nets high) in
    let V : ℤ → Type 0 = λ v. IsIn (narrowed_type x.ty k) v in
    in_wider (narrowed_type x.ty k) x.ty _ (narrowed_within x.ty k) (subst V (inner.value later nets from_b holds) (subst T inner.is h)))

-- a value that is the same in each valuation
pub carries_equal : (a b : Netlist) (x r : Operand) (t : Ty) (f g : Snapshot → ℤ) → IsPartOf a b → InEachFit a (λ nets. f nets ≡ g nets) → Carries b r t f → Carries b r t g
carries_equal a b x r t f g ab same h = record {
  is = h.is;
  operand = h.operand;
  value = λ later nets grows holds. h.value later nets grows holds ∙ same later nets (part_on a b later ab grows) holds;
}

pub out_carries : (a : Netlist) (x : Operand) (z : Signal) (n k : ℕ) → x.ty ≡ Unsigned n → n ≤ k → IsOperand a x → HasWidth a z n → ((nets : Snapshot) → bits_of nets z ≡ 0) →
    Carries a (record { bits = z; ty = x.ty }) x.ty (λ nets. int_div_euclid (worth nets x) (pos (2 ^ k)))
out_carries a x z n k e le ox width nothing =
    let W : ℕ → Type 0 = λ m. HasWidth a z m in
    record {
      is = refl;
      operand = record { ty = ox.ty; width = subst W (sym (ap width_of e)) width };
      value = λ later nets grows holds.
          let T : Ty → Type 0 = λ t. IsIn t (worth nets x) in
          let h = subst T e (worth_in a later x nets ox grows holds) in
          ap (λ u. number u (bits_of nets z)) e ∙ ap (number (Unsigned n)) (nothing nets) ∙ number_low (Unsigned n) 0 (pow_pos n) ∙ sym (all_shifted_out n k (worth nets x) le h);
    }

pub sign_carries : (a b : Netlist) (x r : Operand) (n k m : ℕ) → x.ty ≡ Signed n → m ≡ min k (n - 1) → IsOperand a x → IsPartOf a b →
    Carries b r x.ty (λ nets. int_div_euclid (worth nets x) (pos (2 ^ m))) → Carries b r x.ty (λ nets. int_div_euclid (worth nets x) (pos (2 ^ k)))
sign_carries a b x r n k m e j ox ab h =
    carries_equal a b x r x.ty _ _ ab (λ later nets grows holds.
    let T : Ty → Type 0 = λ t. IsIn t (worth nets x) in
    let v = subst T e (worth_in a later x nets ox grows holds) in
    elim (cases_lt k (n - 1)) [
      | inl low ↦ ap (λ i. int_div_euclid (worth nets x) (pos (2 ^ i))) (let q : m ≡ k = omega (arith, j, low) in q)
      | inr high ↦ ap (λ i. int_div_euclid (worth nets x) (pos (2 ^ i))) (let q : m ≡ n - 1 = omega (arith, j, high) in q) ∙ sym (sign_is_left n k (worth nets x) high v)
    ]) h

pub unshifted_carries : (a : Netlist) (x : Operand) (k : ℕ) → k ≡ 0 → IsOperand a x → Carries a x (shifted_type x.ty k) (λ nets. worth nets x *ℤ pos (2 ^ k))
unshifted_carries a x k e ox = record {
  is = sym (shifted_by_none x.ty) ∙ sym (ap (shifted_type x.ty) e);
  operand = ox;
  value = λ later nets grows holds. sym (times_one (worth nets x)) ∙ sym (ap (λ n. worth nets x *ℤ pos (2 ^ n)) e);
}

-- what the calls need
pub high_part : (b : Netlist) (x : Operand) (w k : ℕ) → w ≡ width_of x.ty → k < width_of x.ty → IsOperand b x → HasPart b w x.bits k (w - k)
high_part b x w k e less h = record { width = type_is x.ty w e h.ty; some = omega (arith, e, less); inside = omega (arith, e, less); x = has_width_of e h.width }

pub shift_width : (x : Operand) (k : ℕ) → 1 ≤ k → IsType (shifted_type x.ty k) → IsWidth k
shift_width x k some ok = let most = ok.most in let wide = shifted_width x.ty k in (some, omega (arith, most, wide))

pub shift_join : (b : Netlist) (x : Operand) (z : Signal) (w k : ℕ) → w ≡ width_of x.ty → 1 ≤ k → IsType (shifted_type x.ty k) → IsOperand b x → HasWidth b z k → AreJoined b w x.bits k z
shift_join b x z w k e some ok h zeros =
    let most = ok.most in
    let wide = shifted_width x.ty k in
    record { some = some; most = omega (arith, e, most, wide); x = has_width_of e h.width; y = zeros }

-- Operands that carry absolute values and quotients.
use Rattle.std.proofs.Common.{ℕ, ◌≡◌, ◌+◌, ◌-◌, ◌*◌, ◌/◌, ◌%◌, ◌<◌, ◌≤◌, ◌^◌, nat_eq, if◌then◌else◌, ℤ, pos, int_div, unsigned_abs, ap, refl, subst, sym, ◌∙◌, arith}
use Rattle.std.proofs.lemmas.Nat.{pow_pos, div-mul-add}
use Rattle.dk_base.specs.declared.ty.Ty.{Ty}
use Rattle.dk_base.specs.declared.ty.Ty.TheVariants.{Unsigned, Signed}
use Rattle.dk_base.specs.Types.{IsType, width_of, magnitude_type}
use Rattle.dk_base.specs.Numbers.{number}
use Rattle.dk_base.proofs.Codes.{number_low}
use Rattle.dk_base.proofs.Signs.{magnitude_bits, quotient_bits, quotient_le}
use Rattle.datapath.specs.Nets.{IsPartOf, HasWidth, IsWord, bits_of}
use Rattle.wiring.specs.Snapshot.{Snapshot}
use Rattle.datapath.proofs.Growth.{fits_later, part_on}
use Rattle.datapath.specs.declared.operand.Signal.{Signal}
use Rattle.wiring.specs.Netlist.{Netlist}
use Rattle.datapath.specs.declared.operand.Operand.{Operand}
use Rattle.datapath.specs.Operands.{IsOperand, Carries, worth}

pub turned_word : (b c : Netlist) (s x z m r : Signal) (w : ℕ) → IsPartOf b c → ((nets : Snapshot) → bits_of nets z ≡ 0) →
    IsWord b m w (λ nets. (bits_of nets z + 2 ^ w - bits_of nets x) % 2 ^ w) → IsWord c r w (λ nets. if nat_eq (bits_of nets s) 1 then bits_of nets m else bits_of nets x) →
    IsWord c r w (λ nets. if nat_eq (bits_of nets s) 1 then (0 + 2 ^ w - bits_of nets x) % 2 ^ w else bits_of nets x)
turned_word b c s x z m r w bc nothing minus word = record {
  width = word.width;
  value = λ later nets grows holds.
      word.value later nets grows holds ∙
      ap (λ n. if nat_eq (bits_of nets s) 1 then n else bits_of nets x) (minus.value later nets (part_on b c later bc grows) holds ∙ ap (λ n. (n + 2 ^ w - bits_of nets x) % 2 ^ w) (nothing nets));
}

pub at_type : (b : Netlist) (x : Operand) (t : Ty) → x.ty ≡ t → IsOperand b x → IsOperand b (record { bits = x.bits; ty = t })
at_type b x t e h =
    let W : Ty → Type 0 = λ u. HasWidth b x.bits (width_of u) in
    let T : Ty → Type 0 = λ u. IsType u in
    record { ty = subst T e h.ty; width = subst W e h.width }

pub magnitude_carries : (a b c : Netlist) (x : Operand) (s r : Signal) (n : ℕ) → x.ty ≡ Signed n → IsOperand a x → IsPartOf a b → IsPartOf b c →
    IsWord b s 1 (λ nets. bits_of nets x.bits / 2 ^ (n - 1) % 2 ^ 1) →
    IsWord c r n (λ nets. if nat_eq (bits_of nets s) 1 then (0 + 2 ^ n - bits_of nets x.bits) % 2 ^ n else bits_of nets x.bits) →
    Carries c (record { bits = r; ty = Unsigned n }) (Unsigned n) (λ nets. pos (unsigned_abs (worth nets x)))
magnitude_carries a b c x s r n e ox ab bc sign word =
    let o = at_type a x (Signed n) e ox in
    record {
      is = refl;
      operand = record { ty = record { some = o.ty.some; most = o.ty.most }; width = word.width };
      value = λ later nets grows holds.
          let from_b = part_on b c later bc grows in
          let f = fits_later a later x.bits n nets o.width (part_on a b later ab from_b) holds in
          ap (number (Unsigned n)) (word.value later nets grows holds ∙ ap (λ t. if nat_eq t 1 then (0 + 2 ^ n - bits_of nets x.bits) % 2 ^ n else bits_of nets x.bits) (sign.value later nets from_b holds)) ∙
          magnitude_bits n (bits_of nets x.bits) o.ty.some f ∙ sym (ap (λ t. pos (unsigned_abs (number t (bits_of nets x.bits)))) e);
    }

pub number_unsigned : (x : Operand) (n : ℕ) (nets : Snapshot) → x.ty ≡ Unsigned n → bits_of nets x.bits < 2 ^ n → worth nets x ≡ pos (bits_of nets x.bits)
number_unsigned x n nets e h = ap (λ t. number t (bits_of nets x.bits)) e ∙ number_low (Unsigned n) (bits_of nets x.bits) h

nothing_left : (x k : ℕ) → x < k → x / k ≡ 0
nothing_left x k h = ap (λ z. z / k) (let e : x ≡ 0 * k + x = grind arith in e) ∙ div-mul-add 0 k x h

pub zero_quotient_carries : (a : Netlist) (x : Operand) (z : Signal) (n k : ℕ) → x.ty ≡ Unsigned n → IsOperand a x → HasWidth a z n → ((nets : Snapshot) → bits_of nets z ≡ 0) → 2 ^ n ≤ k →
    Carries a (record { bits = z; ty = Unsigned n }) (Unsigned n) (λ nets. int_div (worth nets x) (pos k))
zero_quotient_carries a x z n k e ox width nothing big =
    let o = at_type a x (Unsigned n) e ox in
    record {
      is = refl;
      operand = record { ty = record { some = o.ty.some; most = o.ty.most }; width = width };
      value = λ later nets grows holds.
          let f = fits_later a later x.bits n nets o.width grows holds in
          ap (number (Unsigned n)) (nothing nets) ∙ number_low (Unsigned n) 0 (pow_pos n) ∙
          sym (ap (λ v. int_div v (pos k)) (number_unsigned x n nets e f) ∙ ap pos (nothing_left (bits_of nets x.bits) k (omega (arith, f, big))));
    }

pub unsigned_quotient_carries : (a b : Netlist) (x : Operand) (d r : Signal) (n k : ℕ) → x.ty ≡ Unsigned n → IsOperand a x → IsPartOf a b → ((nets : Snapshot) → bits_of nets d ≡ k) →
    IsWord b r n (λ nets. bits_of nets x.bits / bits_of nets d) → Carries b (record { bits = r; ty = Unsigned n }) (Unsigned n) (λ nets. int_div (worth nets x) (pos k))
unsigned_quotient_carries a b x d r n k e ox ab at_d word =
    let o = at_type a x (Unsigned n) e ox in
    record {
      is = refl;
      operand = record { ty = record { some = o.ty.some; most = o.ty.most }; width = word.width };
      value = λ later nets grows holds.
          let f = fits_later a later x.bits n nets o.width (part_on a b later ab grows) holds in
          let q = quotient_le (bits_of nets x.bits) k in
          let l : bits_of nets x.bits / k < 2 ^ n = omega (arith, q, f) in
          ap (number (Unsigned n)) (word.value later nets grows holds ∙ ap (λ y. bits_of nets x.bits / y) (at_d nets)) ∙ number_low (Unsigned n) (bits_of nets x.bits / k) l ∙
          sym (ap (λ v. int_div v (pos k)) (number_unsigned x n nets e f));
    }

pub same_carries : (b : Netlist) (r : Operand) (t u : Ty) (f : Snapshot → ℤ) → u ≡ t → Carries b r t f → Carries b r u f
same_carries b r t u f e h = record { is = h.is ∙ sym e; operand = h.operand; value = h.value }

pub signed_quotient_carries : (a b c d g : Netlist) (x size q : Operand) (s r : Signal) (n k : ℕ) → x.ty ≡ Signed n → IsOperand a x → IsPartOf a b → IsPartOf b c → IsPartOf c d → IsPartOf d g →
    Carries b size (Unsigned n) (λ nets. pos (unsigned_abs (worth nets x))) → Carries c q (Unsigned n) (λ nets. int_div (worth nets size) (pos k)) →
    IsWord d s 1 (λ nets. bits_of nets x.bits / 2 ^ (n - 1) % 2 ^ 1) →
    IsWord g r n (λ nets. if nat_eq (bits_of nets s) 1 then (0 + 2 ^ n - bits_of nets q.bits) % 2 ^ n else bits_of nets q.bits) →
    Carries g (record { bits = r; ty = x.ty }) x.ty (λ nets. int_div (worth nets x) (pos k))
signed_quotient_carries a b c d g x size q s r n k e ox ab bc cd dg sizes quotients sign word =
    let o = at_type a x (Signed n) e ox in
    let W : Ty → Type 0 = λ t. HasWidth g r (width_of t) in
    record {
      is = refl;
      operand = record { ty = ox.ty; width = subst W (sym e) word.width };
      value = λ later nets grows holds.
          let from_d = part_on d g later dg grows in
          let from_c = part_on c d later cd from_d in
          let from_b = part_on b c later bc from_c in
          let f = fits_later a later x.bits n nets o.width (part_on a b later ab from_b) holds in
          let qf = fits_later c later q.bits n nets (at_type c q (Unsigned n) quotients.is quotients.operand).width from_c holds in
          let size_is = sizes.value later nets from_b holds ∙ ap (λ t. pos (unsigned_abs (number t (bits_of nets x.bits)))) e in
          let q_is : pos (bits_of nets q.bits) ≡ pos (unsigned_abs (number (Signed n) (bits_of nets x.bits)) / k) =
          sym (number_unsigned q n nets quotients.is qf) ∙ quotients.value later nets from_c holds ∙ ap (λ v. int_div v (pos k)) size_is in
          ap (λ t. number t (bits_of nets r)) e ∙
          ap (number (Signed n)) (word.value later nets grows holds ∙ ap (λ t. if nat_eq t 1 then (0 + 2 ^ n - bits_of nets q.bits) % 2 ^ n else bits_of nets q.bits) (sign.value later nets from_d holds)) ∙
          quotient_bits n (bits_of nets x.bits) (bits_of nets q.bits) k o.ty f q_is ∙ sym (ap (λ t. int_div (number t (bits_of nets x.bits)) (pos k)) e);
    }

pub unsigned_magnitude_carries : (a : Netlist) (x : Operand) (n : ℕ) → x.ty ≡ Unsigned n → IsOperand a x → Carries a x (magnitude_type x.ty) (λ nets. pos (unsigned_abs (worth nets x)))
unsigned_magnitude_carries a x n e ox =
    let o = at_type a x (Unsigned n) e ox in
    record {
      is = e ∙ sym (ap magnitude_type e);
      operand = ox;
      value = λ later nets grows holds.
          let w = number_unsigned x n nets e (fits_later a later x.bits n nets o.width grows holds) in
          w ∙ sym (ap (λ v. pos (unsigned_abs v)) w);
    }

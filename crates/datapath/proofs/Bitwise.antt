-- Operands that carry operators on bits.
use Rattle.std.proofs.Common.{ℕ, List, ◌≡◌, ◌-◌, ◌<◌, ◌≤◌, ◌^◌, max, Bool, true, false, IsTrue, not, ◌||◌, pos, ◌-ℤ◌, unsigned_abs, ap, refl, sym, ◌∙◌, arith}
use Rattle.std.proofs.Math.Pow.{pow_mono}
use Rattle.std.proofs.lemmas.Int.{ints}
use Rattle.dk_base.specs.declared.ty.Ty.{Ty}
use Rattle.dk_base.specs.declared.ty.Ty.TheVariants.{Unsigned, Signed}
use Rattle.dk_base.specs.Types.{width_of, is_signed, common_type}
use Rattle.dk_base.specs.Numbers.{code}
use Rattle.dk_base.proofs.Codes.{number_low, code_pos}
use Rattle.datapath.specs.Nets.{IsPartOf, IsWord, IsWordOver, bits_of}
use Rattle.wiring.specs.Sizes.{IsWidth}
use Rattle.wiring.specs.Snapshot.{Snapshot}
use Rattle.datapath.proofs.Growth.{fits_later, part_on}
use Rattle.datapath.specs.declared.operand.Signal.{Signal}
use Rattle.wiring.specs.Netlist.{Netlist}
use Rattle.datapath.specs.declared.operand.Operand.{Operand}
use Rattle.datapath.specs.Operands.{AreUnsigned, IsOperand, Carries, CarriesOver, worth}
use Rattle.datapath.proofs.Composed.{carries_over}
use Rattle.datapath.proofs.Divided.{at_type, number_unsigned, same_carries}

code_unsigned : (x : Operand) (n w : ℕ) (nets : Snapshot) → x.ty ≡ Unsigned n → n ≤ w → bits_of nets x.bits < 2 ^ n → code w (worth nets x) ≡ unsigned_abs (worth nets x)
code_unsigned x n w nets e le h =
    let v = number_unsigned x n nets e h in
    let p : 2 ^ n ≤ 2 ^ w = pow_mono le in
    ap (code w) v ∙ code_pos w (bits_of nets x.bits) (omega (arith, p, h)) ∙ sym (ap unsigned_abs v)

bitwise_carries : (F : ℕ → ℕ → ℕ) → (a d : Netlist) (x y : Operand) (r : Signal) (n m w : ℕ) → w ≡ max n m → x.ty ≡ Unsigned n → y.ty ≡ Unsigned m → IsOperand a x → IsOperand a y → IsPartOf a d → IsWord d r w (λ nets. F (code w (worth nets x)) (code w (worth nets y))) →
    Carries d (record { bits = r; ty = Unsigned w }) (Unsigned (max n m)) (λ nets. pos (F (unsigned_abs (worth nets x)) (unsigned_abs (worth nets y))))
bitwise_carries F a d x y r n m w k ex ey ox oy ad word =
    let u = at_type a x (Unsigned n) ex ox in
    let v = at_type a y (Unsigned m) ey oy in
    let some = u.ty.some in let most = u.ty.most in let also = v.ty.most in
    record {
      is = ap Unsigned k;
      operand = record { ty = record { some = omega (arith, k, some); most = omega (arith, k, most, also) }; width = word.width };
      value = λ later nets grows holds.
          let from_a = part_on a d later ad grows in
          let f = fits_later a later x.bits n nets u.width from_a holds in
          let g = fits_later a later y.bits m nets v.width from_a holds in
          let l = code_unsigned x n w nets ex (omega (arith, k)) f in
          let t = code_unsigned y m w nets ey (omega (arith, k)) g in
          number_low (Unsigned w) (bits_of nets r) (fits_later d later r w nets word.width grows holds) ∙
          ap pos (word.value later nets grows holds ∙ ap (λ z. F z (code w (worth nets y))) l ∙ ap (λ z. F (unsigned_abs (worth nets x)) z) t);
    }

pub negated_carries : (a b : Netlist) (x : Operand) (r : Signal) → x.ty ≡ Unsigned 1 → IsOperand a x → IsPartOf a b → IsWord b r 1 (λ nets. 2 ^ 1 - 1 - bits_of nets x.bits) →
    Carries b (record { bits = r; ty = Unsigned 1 }) (Unsigned 1) (λ nets. pos 1 -ℤ worth nets x)
negated_carries a b x r e ox ab word =
    let u = at_type a x (Unsigned 1) e ox in
    record {
      is = refl;
      operand = record { ty = record { some = u.ty.some; most = u.ty.most }; width = word.width };
      value = λ later nets grows holds.
          let f = fits_later a later x.bits 1 nets u.width (part_on a b later ab grows) holds in
          let v = number_unsigned x 1 nets e f in
          let w = word.value later nets grows holds in
          number_low (Unsigned 1) (bits_of nets r) (fits_later b later r 1 nets word.width grows holds) ∙ omega (arith, ints, f, v, w);
    }

unsigned_is : (t : Ty) → is_signed t ≡ false → t ≡ Unsigned (width_of t)
unsigned_is (Unsigned n) e = refl
unsigned_is (Signed n) e = absurd (let f : ⊥ = cc in f)

both_unsigned : (a b : Bool) → IsTrue (not (a || b)) → (a ≡ false) × (b ≡ false)
both_unsigned false false h = (refl, refl)
both_unsigned false true h = absurd (let f : ⊥ = cc in f)
both_unsigned true b h = absurd (let f : ⊥ = cc in f)

-- an operator on the bits of two operands that are not signed
pub bitwise_common : (F : ℕ → ℕ → ℕ) (x y : Operand) {a d : Netlist} {k : ℕ} {xs : List Signal} {r : Signal} {w : ℕ} → w ≡ max (width_of x.ty) (width_of y.ty) → AreUnsigned a x y →
    IsWordOver a d k xs w (λ nets. F (code w (worth nets x)) (code w (worth nets y))) r → CarriesOver a d k xs (common_type x.ty y.ty) (λ nets. pos (F (unsigned_abs (worth nets x)) (unsigned_abs (worth nets y)))) (record { bits = r; ty = Unsigned w })
bitwise_common F x y {a} {d} {k} {xs} {r} {w} wide both h =
    let u = both_unsigned (is_signed x.ty) (is_signed y.ty) both.unsigned in
    let e = unsigned_is x.ty u.0 in
    let f = unsigned_is y.ty u.1 in
    let t : common_type x.ty y.ty ≡ Unsigned (max (width_of x.ty) (width_of y.ty)) = ap (λ i. common_type i y.ty) e ∙ ap (λ i. common_type (Unsigned (width_of x.ty)) i) f in
    carries_over h (same_carries d (record { bits = r; ty = Unsigned w }) (Unsigned (max (width_of x.ty) (width_of y.ty))) (common_type x.ty y.ty) _ t (bitwise_carries F a d x y r (width_of x.ty) (width_of y.ty) w wide e f both.x both.y h.grows.includes h.word))

-- the greater of two widths is a width
pub greater_width : (b : Netlist) (x y : Operand) (w : ℕ) → w ≡ max (width_of x.ty) (width_of y.ty) → IsOperand b x → IsOperand b y → IsWidth w
greater_width b x y w k ox oy =
    let some = ox.ty.some in let most = ox.ty.most in let also = oy.ty.most in
    (omega (arith, k, some), omega (arith, k, most, also))

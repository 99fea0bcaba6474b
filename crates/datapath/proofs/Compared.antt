-- Operands that carry comparisons and choices.
use Rattle.std.proofs.Common.{ℕ, List, zero, suc, ◌≡◌, ◌+◌, ◌-◌, ◌%◌, ◌<◌, ◌^◌, Bool, true, false, nat_lt, nat_eq, if◌then◌else◌, ℤ, pos, negsuc, ◌+ℤ◌, ◌-ℤ◌, not, int_lt, unsigned_abs, ap, refl, subst, sym, ◌∙◌, arith, inl, inr}
use Rattle.std.specs.Ordering.{int_eq}
use Rattle.std.specs.Int.{int_min, int_max}
use Rattle.std.proofs.lemmas.Bool.{cases_eq}
use Rattle.dk_base.specs.declared.ty.Ty.{Ty}
use Rattle.dk_base.specs.declared.ty.Ty.TheVariants.{Unsigned, Signed}
use Rattle.dk_base.specs.Types.{IsType, IsIn, IsWithin, width_of, below, common_type}
use Rattle.dk_base.specs.Numbers.{code, number}
use Rattle.dk_base.proofs.Codes.{number_low}
use Rattle.dk_base.proofs.Ranges.{in_wider, common_left, common_right}
use Rattle.dk_base.proofs.Compare.{offset_unsigned, offset_signed, less_by_offset, equal_by_code}
use Rattle.datapath.specs.Nets.{IsPartOf, IsWord, IsWordOver, bits_of, bit}
use Rattle.wiring.specs.Snapshot.{Snapshot}
use Rattle.datapath.proofs.Growth.{fits_later, part_on}
use Rattle.datapath.specs.declared.operand.Signal.{Signal}
use Rattle.wiring.specs.Netlist.{Netlist}
use Rattle.datapath.specs.declared.operand.Operand.{Operand}
use Rattle.datapath.specs.Operands.{IsOperand, Carries, CarriesOver, worth}
use Rattle.datapath.proofs.Composed.{carries_over}
use Rattle.dk_base.specs.Operators.{truth, select_value as chosen}
use Rattle.datapath.proofs.Carried.{worth_in, carries}

pub offset_unsigned_word : (a b : Netlist) (x : Operand) (r : Signal) (ty : Ty) (w : ℕ) → ty ≡ Unsigned w → IsType ty → IsWithin x.ty ty → IsOperand a x → IsPartOf a b →
    IsWord b r w (λ nets. code w (worth nets x)) → IsWord b r (width_of ty) (λ nets. unsigned_abs (worth nets x +ℤ pos (below ty)))
offset_unsigned_word a b x r ty w e ok within ox ab word =
    let P : Ty → Type 0 = λ t. IsWord b r (width_of t) (λ nets. unsigned_abs (worth nets x +ℤ pos (below t))) in
    let Q : Ty → Type 0 = λ t. IsType t in
    let R : Ty → Type 0 = λ t. IsWithin x.ty t in
    let here : IsWord b r w (λ nets. unsigned_abs (worth nets x +ℤ pos 0)) = record {
      width = word.width;
      value = λ later nets grows holds.
          word.value later nets grows holds ∙ offset_unsigned w (worth nets x) (subst Q e ok) (in_wider x.ty (Unsigned w) (worth nets x) (subst R e within) (worth_in a later x nets ox (part_on a b later ab grows) holds));
    } in
    subst P (sym e) here

pub offset_signed_word : (a b c : Netlist) (x : Operand) (p h r : Signal) (ty : Ty) (w : ℕ) → ty ≡ Signed w → IsType ty → IsWithin x.ty ty → IsOperand a x → IsPartOf a b → IsPartOf b c →
    ((nets : Snapshot) → bits_of nets h ≡ 2 ^ (w - 1)) →
    IsWord b p w (λ nets. code w (worth nets x)) → IsWord c r w (λ nets. (bits_of nets p + bits_of nets h) % 2 ^ w) → IsWord c r (width_of ty) (λ nets. unsigned_abs (worth nets x +ℤ pos (below ty)))
offset_signed_word a b c x p h r ty w e ok within ox ab bc halves bits word =
    let P : Ty → Type 0 = λ t. IsWord c r (width_of t) (λ nets. unsigned_abs (worth nets x +ℤ pos (below t))) in
    let Q : Ty → Type 0 = λ t. IsType t in
    let R : Ty → Type 0 = λ t. IsWithin x.ty t in
    let here : IsWord c r w (λ nets. unsigned_abs (worth nets x +ℤ pos (2 ^ (w - 1)))) = record {
      width = word.width;
      value = λ later nets grows holds.
          let from_b = part_on b c later bc grows in
          word.value later nets grows holds ∙ ap (λ n. (n + bits_of nets h) % 2 ^ w) (bits.value later nets from_b holds) ∙ ap (λ n. (code w (worth nets x) + n) % 2 ^ w) (halves nets) ∙
          offset_signed w (worth nets x) (subst Q e ok) (in_wider x.ty (Signed w) (worth nets x) (subst R e within) (worth_in a later x nets ox (part_on a b later ab from_b) holds));
    } in
    subst P (sym e) here

pub within_left : (a b c : Ty) → c ≡ common_type a b → IsWithin a c
within_left a b c e = let P : Ty → Type 0 = λ t. IsWithin a t in subst P (sym e) (common_left a b)

pub within_right : (a b c : Ty) → c ≡ common_type a b → IsWithin b c
within_right a b c e = let P : Ty → Type 0 = λ t. IsWithin b t in subst P (sym e) (common_right a b)

bit_is_type : IsType (Unsigned 1)
bit_is_type = record { some = omega arith; most = omega arith }

truth_of_bit : (t : Bool) → number (Unsigned 1) (bit t) ≡ truth t
truth_of_bit true = number_low (Unsigned 1) 1 (omega arith)
truth_of_bit false = number_low (Unsigned 1) 0 (omega arith)

-- an atom of one bit that says whether something holds
pub bit_carries : (b : Netlist) (r : Signal) (f : Snapshot → Bool) → IsWord b r 1 (λ nets. bit (f nets)) → Carries b (record { bits = r; ty = Unsigned 1 }) (Unsigned 1) (λ nets. truth (f nets))
bit_carries b r f word = record {
  is = refl;
  operand = record { ty = bit_is_type; width = word.width };
  value = λ later nets grows holds. ap (number (Unsigned 1)) (word.value later nets grows holds) ∙ truth_of_bit (f nets);
}

pub less_carries : (x y : Operand) (ty : Ty) {a d : Netlist} {k : ℕ} {xs : List Signal} {r : Signal} → ty ≡ common_type x.ty y.ty → IsOperand a x → IsOperand a y →
    IsWordOver a d k xs 1 (λ nets. bit (nat_lt (unsigned_abs (worth nets x +ℤ pos (below ty))) (unsigned_abs (worth nets y +ℤ pos (below ty))))) r →
    CarriesOver a d k xs (Unsigned 1) (λ nets. truth (int_lt (worth nets x) (worth nets y))) (record { bits = r; ty = Unsigned 1 })
less_carries x y ty {a} {d} {k} {xs} {r} e ox oy h =
    carries_over h (bit_carries d r (λ nets. int_lt (worth nets x) (worth nets y)) (record {
      width = h.word.width;
      value = λ later nets grows holds.
          let from_a = part_on a d later h.grows.includes grows in
          let hx = in_wider x.ty ty (worth nets x) (within_left x.ty y.ty ty e) (worth_in a later x nets ox from_a holds) in
          let hy = in_wider y.ty ty (worth nets y) (within_right x.ty y.ty ty e) (worth_in a later y nets oy from_a holds) in
          h.word.value later nets grows holds ∙ ap bit (less_by_offset (below ty) (worth nets x) (worth nets y) hx.least hy.least);
    }))

pub equal_carries : (x y : Operand) (ty : Ty) (w : ℕ) {a d : Netlist} {k : ℕ} {xs : List Signal} {r : Signal} → ty ≡ common_type x.ty y.ty → w ≡ width_of ty → IsType (common_type x.ty y.ty) → IsOperand a x → IsOperand a y →
    IsWordOver a d k xs 1 (λ nets. bit (nat_eq (code w (worth nets x)) (code w (worth nets y)))) r →
    CarriesOver a d k xs (Unsigned 1) (λ nets. truth (int_eq (worth nets x) (worth nets y))) (record { bits = r; ty = Unsigned 1 })
equal_carries x y ty w {a} {d} {k} {xs} {r} e is ok ox oy h =
    carries_over h (bit_carries d r (λ nets. int_eq (worth nets x) (worth nets y)) (record {
      width = h.word.width;
      value = λ later nets grows holds.
          let from_a = part_on a d later h.grows.includes grows in
          let hx = in_wider x.ty ty (worth nets x) (within_left x.ty y.ty ty e) (worth_in a later x nets ox from_a holds) in
          let hy = in_wider y.ty ty (worth nets y) (within_right x.ty y.ty ty e) (worth_in a later y nets oy from_a holds) in
          let Q : Ty → Type 0 = λ t. IsType t in
          h.word.value later nets grows holds ∙ ap (λ n. bit (nat_eq (code n (worth nets x)) (code n (worth nets y)))) is ∙
          ap bit (equal_by_code ty (worth nets x) (worth nets y) (subst Q (sym e) ok) hx hy);
    }))

two : (n w : ℕ) (v u : ℤ) → n < 2 ^ 1 → (if nat_eq n 1 then code w v else code w u) ≡ code w (chosen (pos n) v u)
two n w v u h = elim (cases_eq n 1) [
  | inl one ↦ ap (λ k. if nat_eq k 1 then code w v else code w u) one ∙ sym (ap (λ k. code w (chosen (pos k) v u)) one)
  | inr other ↦
      let none : n ≡ 0 = omega (arith, other, h) in
      ap (λ k. if nat_eq k 1 then code w v else code w u) none ∙ sym (ap (λ k. code w (chosen (pos k) v u)) none)
]

chosen_in : (t : Ty) (c v u : ℤ) → IsIn t v → IsIn t u → IsIn t (chosen c v u)
chosen_in t (pos (suc n)) v u h g = h
chosen_in t (pos zero) v u h g = g
chosen_in t (negsuc n) v u h g = g

-- a bit chooses as its number does
choose_bits : (t : Ty) (n w : ℕ) (v u : ℤ) → t ≡ Unsigned 1 → n < 2 ^ width_of t → (if nat_eq n 1 then code w v else code w u) ≡ code w (chosen (number t n) v u)
choose_bits t n w v u e h =
    let one : number t n ≡ pos n = ap (λ k. number k n) e ∙ number_low (Unsigned 1) n (let d : n < 2 ^ 1 = let P : Ty → Type 0 = λ k. n < 2 ^ width_of k in subst P e h in d) in
    let d : n < 2 ^ 1 = let P : Ty → Type 0 = λ k. n < 2 ^ width_of k in subst P e h in
    two n w v u d ∙ sym (ap (λ z. code w (chosen z v u)) one)

pub choice_carries : (a b c d : Netlist) (o x y : Operand) (p q r : Signal) (ty : Ty) (w : ℕ) → o.ty ≡ Unsigned 1 → ty ≡ common_type x.ty y.ty → w ≡ width_of ty → IsType (common_type x.ty y.ty) →
    IsOperand a o → IsOperand a x → IsOperand a y → IsPartOf a b → IsPartOf b c → IsPartOf c d →
    IsWord b p w (λ nets. code w (worth nets x)) → IsWord c q w (λ nets. code w (worth nets y)) →
    IsWord d r w (λ nets. if nat_eq (bits_of nets o.bits) 1 then bits_of nets p else bits_of nets q) →
    Carries d (record { bits = r; ty = ty }) (common_type x.ty y.ty) (λ nets. chosen (worth nets o) (worth nets x) (worth nets y))
choice_carries a b c d o x y p q r ty w one e k ok oo ox oy ab bc cd left right word =
    carries d r (common_type x.ty y.ty) ty w (λ nets. chosen (worth nets o) (worth nets x) (worth nets y)) e k ok
    (record {
      width = word.width;
      value = λ later nets grows holds.
          let from_c = part_on c d later cd grows in
          let from_b = part_on b c later bc from_c in
          let from_a = part_on a b later ab from_b in
          word.value later nets grows holds ∙ ap (λ n. if nat_eq (bits_of nets o.bits) 1 then n else bits_of nets q) (left.value later nets from_b holds) ∙
          ap (λ n. if nat_eq (bits_of nets o.bits) 1 then code w (worth nets x) else n) (right.value later nets from_c holds) ∙
          choose_bits o.ty (bits_of nets o.bits) w (worth nets x) (worth nets y) one (fits_later a later o.bits (width_of o.ty) nets oo.width from_a holds);
    })
    (λ later nets grows holds.
    let from_a = part_on a b later ab (part_on b c later bc (part_on c d later cd grows)) in
    chosen_in (common_type x.ty y.ty) (worth nets o) (worth nets x) (worth nets y)
    (in_wider x.ty _ (worth nets x) (common_left x.ty y.ty) (worth_in a later x nets ox from_a holds)) (in_wider y.ty _ (worth nets y) (common_right x.ty y.ty) (worth_in a later y nets oy from_a holds)))

turned_truth : (t : Bool) → pos 1 -ℤ truth t ≡ truth (not t)
turned_truth true = refl
turned_truth false = refl

-- the other bit says that something does not hold
pub opposite_carries : (a b : Netlist) (x r : Operand) (f : Snapshot → Bool) → IsPartOf a b → Carries a x (Unsigned 1) (λ s. truth (f s)) → Carries b r (Unsigned 1) (λ s. pos 1 -ℤ worth s x) → Carries b r (Unsigned 1) (λ s. truth (not (f s)))
opposite_carries a b x r f ab inner h = record {
  is = h.is;
  operand = h.operand;
  value = λ m s more holds. h.value m s more holds ∙ ap (λ v. pos 1 -ℤ v) (inner.value m s (part_on a b m ab more) holds) ∙ turned_truth (f s);
}

picked : (t : Bool) (v u : ℤ) → chosen (truth t) v u ≡ (if t then v else u)
picked true v u = refl
picked false v u = refl

greater_is : (v u : ℤ) → chosen (truth (int_lt u v)) v u ≡ int_max v u
greater_is v u = picked (int_lt u v) v u

lesser_is : (v u : ℤ) → chosen (truth (int_lt u v)) u v ≡ int_min v u
lesser_is v u = picked (int_lt u v) u v

pub greater_carries : (a b : Netlist) (w x y r : Operand) (t : Ty) → IsPartOf a b → Carries a w (Unsigned 1) (λ s. truth (int_lt (worth s y) (worth s x))) → Carries b r t (λ s. chosen (worth s w) (worth s x) (worth s y)) →
    Carries b r t (λ s. int_max (worth s x) (worth s y))
greater_carries a b w x y r t ab test h = record {
  is = h.is;
  operand = h.operand;
  value = λ m s more holds. h.value m s more holds ∙ ap (λ v. chosen v (worth s x) (worth s y)) (test.value m s (part_on a b m ab more) holds) ∙ greater_is (worth s x) (worth s y);
}

pub lesser_carries : (a b : Netlist) (w x y r : Operand) (t : Ty) → IsPartOf a b → Carries a w (Unsigned 1) (λ s. truth (int_lt (worth s y) (worth s x))) → Carries b r t (λ s. chosen (worth s w) (worth s y) (worth s x)) →
    Carries b r t (λ s. int_min (worth s x) (worth s y))
lesser_carries a b w x y r t ab test h = record {
  is = h.is;
  operand = h.operand;
  value = λ m s more holds. h.value m s more holds ∙ ap (λ v. chosen v (worth s y) (worth s x)) (test.value m s (part_on a b m ab more) holds) ∙ lesser_is (worth s x) (worth s y);
}

-- Operands that carry the values of operators.
use Rattle.std.proofs.Common.{ℕ, List, ◌≡◌, ◌+◌, ◌-◌, ◌%◌, ◌^◌, ◌<◌, ◌≤◌, ℤ, pos, ◌-ℤ◌, ap, refl, subst, sym, ◌∙◌, arith}
use Rattle.dk_base.specs.declared.ty.Ty.{Ty}
use Rattle.dk_base.specs.Types.{IsType, IsIn, width_of}
use Rattle.dk_base.specs.Numbers.{code, number, wrap}
use Rattle.dk_base.specs.declared.ty.Ty.TheVariants.{Unsigned, Signed}
use Rattle.dk_base.proofs.Codes.{number_low, number_is, number_in, code_pos, code_subtract}
use Rattle.dk_base.proofs.Congruence.{code_below}
use Rattle.std.proofs.Math.Pow.{pow_mono}
use Rattle.dk_base.proofs.Ranges.{negation_in}
use Rattle.std.proofs.lemmas.Nat.{pow_pos}
use Rattle.datapath.specs.Nets.{IsValuation, IsPartOf, Grows, HasWidth, IsWord, IsWordOver, InEachFit, bits_of}
use Rattle.wiring.specs.Snapshot.{Snapshot}
use Rattle.wiring.specs.Sizes.{IsWidth}
use Rattle.datapath.proofs.Growth.{fits_later, width_more, width_later, part_on}
use Rattle.datapath.specs.declared.operand.Signal.{Signal}
use Rattle.wiring.specs.Netlist.{Netlist}
use Rattle.datapath.specs.declared.operand.Signal.TheVariants as signal
use Rattle.datapath.specs.declared.operand.Operand.{Operand}
use Rattle.datapath.specs.Operands.{IsOperand, Carries, CarriesOver, worth}
use Rattle.datapath.proofs.Composed.{carries_over}

pub operand_more : (a b : Netlist) (x : Operand) → IsPartOf a b → IsOperand a x → IsOperand b x
operand_more a b x grows h = record { ty = h.ty; width = width_more a b x.bits (width_of x.ty) grows h.width }

pub operand_later : (a b : Netlist) (x : Operand) → Grows a b → IsOperand a x → IsOperand b x
operand_later a b x grows h = operand_more a b x grows.includes h

pub ruleset later = (operand_later, width_later)

pub worth_in : (a later : Netlist) (x : Operand) (nets : Snapshot) → IsOperand a x → IsPartOf a later → IsValuation later nets → IsIn x.ty (worth nets x)
worth_in a later x nets h grows holds = number_in x.ty _ h.ty (fits_later a later x.bits (width_of x.ty) nets h.width grows holds)

-- an atom whose bits are those of a number in range
pub carries : (b : Netlist) (r : Signal) (t ty : Ty) (w : ℕ) (f : Snapshot → ℤ) → ty ≡ t → w ≡ width_of ty → IsType t →
    IsWord b r w (λ nets. code w (f nets)) → InEachFit b (λ nets. IsIn t (f nets)) → Carries b (record { bits = r; ty = ty }) t f
carries b r t ty w f e d ok word inside =
    let k : w ≡ width_of t = d ∙ ap width_of e in
    let W : ℕ → Type 0 = λ n. HasWidth b r n in
    let O : Ty → Type 0 = λ u. IsOperand b (record { bits = r; ty = u }) in
    record {
      is = e;
      operand = subst O (sym e) (record { ty = ok; width = subst W k word.width });
      value = λ later nets grows holds.
          ap (λ u. number u (bits_of nets r)) e ∙
          number_is t (f nets) _ ok (inside later nets grows holds) (word.value later nets grows holds ∙ ap (λ n. code n (f nets)) k);
    }

-- an operator on the bits of two operands
pub binary_carries : (F : (w p q : ℕ) → ℕ) (G : ℤ → ℤ → ℤ) → ((w : ℕ) (v u : ℤ) → code w (G v u) ≡ F w (code w v) (code w u)) → (x y : Operand) {a d : Netlist} {k : ℕ} {xs : List Signal} {r : Signal} {t ty : Ty} {w : ℕ} →
    ((v u : ℤ) → IsIn x.ty v → IsIn y.ty u → IsIn t (G v u)) → ty ≡ t → w ≡ width_of ty → IsType t → IsOperand a x → IsOperand a y → IsWordOver a d k xs w (λ nets. F w (code w (worth nets x)) (code w (worth nets y))) r →
    CarriesOver a d k xs t (λ nets. G (worth nets x) (worth nets y)) (record { bits = r; ty = ty })
binary_carries F G law x y {a} {d} {k} {xs} {r} {t} {ty} {w} range e is ok ox oy h =
    carries_over h (carries d r t ty w (λ nets. G (worth nets x) (worth nets y)) e is ok
    (record { width = h.word.width; value = λ later nets grows holds. h.word.value later nets grows holds ∙ sym (law w (worth nets x) (worth nets y)) })
    (λ later nets grows holds.
    let from_a = part_on a d later h.grows.includes grows in
    range (worth nets x) (worth nets y) (worth_in a later x nets ox from_a holds) (worth_in a later y nets oy from_a holds)))

-- nothing less a number
pub negation_carries : (a b d : Netlist) (x : Operand) (z q r : Signal) (w n : ℕ) → n ≡ width_of x.ty → w ≡ n + 1 →
    IsType (Signed (width_of x.ty + 1)) → IsOperand a x → IsPartOf a b → IsPartOf b d → ((nets : Snapshot) → bits_of nets z ≡ 0) →
    IsWord b q w (λ nets. code w (worth nets x)) → IsWord d r w (λ nets. (bits_of nets z + 2 ^ w - bits_of nets q) % 2 ^ w) →
    Carries d (record { bits = r; ty = Signed (n + 1) }) (Signed (width_of x.ty + 1)) (λ nets. pos 0 -ℤ worth nets x)
negation_carries a b d x z q r w n k j ok ox ab bd nothing right word =
    carries d r (Signed (width_of x.ty + 1)) (Signed (n + 1)) w (λ nets. pos 0 -ℤ worth nets x) (ap (λ m. Signed (m + 1)) k) j ok
    (record {
      width = word.width;
      value = λ later nets grows holds.
          let zero_code : code w (pos 0) ≡ 0 = code_pos w 0 (pow_pos w) in
          word.value later nets grows holds ∙ ap (λ m. (m + 2 ^ w - bits_of nets q) % 2 ^ w) (nothing nets ∙ sym zero_code) ∙
          ap (λ m. (code w (pos 0) + 2 ^ w - m) % 2 ^ w) (right.value later nets (part_on b d later bd grows) holds) ∙ sym (code_subtract w (pos 0) (worth nets x));
    })
    (λ later nets grows holds. negation_in x.ty (worth nets x) ox.ty (worth_in a later x nets ox (part_on a b later ab (part_on b d later bd grows)) holds))

-- a constant of the bits of a number in range
pub literal_carries : (b : Netlist) (v : ℤ) (t : Ty) (w n : ℕ) {x : Signal} → w ≡ width_of t → n ≡ code w v → x ≡ signal.Constant w n → HasWidth b x w → IsType t → IsIn t v → Carries b (record { bits = x; ty = t }) t (λ s. v)
literal_carries b v t w n {x} e k is width ok inside =
    let W : ℕ → Type 0 = λ m. HasWidth b x m in
    record {
      is = refl;
      operand = record { ty = ok; width = subst W e width };
      value = λ m s more holds. number_is t v (bits_of s x) ok inside (ap (bits_of s) is ∙ k ∙ ap (λ i. code i v) e);
    }

-- the bits of a number, by the unsigned type of the same width
pub wrapped_code : (t : Ty) (w : ℕ) (v : ℤ) → w ≡ width_of t → wrap (Unsigned w) v ≡ pos (code (width_of t) v)
wrapped_code t w v e = number_low (Unsigned w) (code w v) (code_below w v) ∙ ap (λ i. pos (code i v)) e

pub code_small : (t : Ty) (v : ℤ) → IsType t → code (width_of t) v < 2 ^ 64
code_small t v ok =
    let b = code_below (width_of t) v in
    let p : 2 ^ width_of t ≤ 2 ^ 64 = pow_mono ok.most in
    omega (arith, b, p)

pub negated_width : (x : Operand) (n : ℕ) → n ≡ width_of x.ty → IsType (Signed (width_of x.ty + 1)) → IsWidth (n + 1)
negated_width x n e ok = subst (λ w. IsWidth (w + 1)) (sym e) (ok.some, ok.most)

-- the bits of a number in another type
pub cast_carries : (x : Operand) (ty : Ty) {a d : Netlist} {k : ℕ} {xs : List Signal} {r : Signal} {w : ℕ} → w ≡ width_of ty → IsType ty → IsWordOver a d k xs w (λ nets. code w (worth nets x)) r →
    CarriesOver a d k xs ty (λ nets. wrap ty (worth nets x)) (record { bits = r; ty = ty })
cast_carries x ty {a} {d} {k} {xs} {r} {w} e ok h =
    let W : ℕ → Type 0 = λ n. HasWidth d r n in
    carries_over h (record {
      is = refl;
      operand = record { ty = ok; width = subst W e h.word.width };
      value = λ later nets grows holds. ap (number ty) (h.word.value later nets grows holds ∙ ap (λ n. code n (worth nets x)) e);
    })

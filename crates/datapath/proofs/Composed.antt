-- What calls make, one after another.
use Rattle.std.proofs.Common.{ℕ, ◌≡◌, ◌+◌, ◌-◌, ◌≤◌, List, [], ◌∷◌, ℤ, ap, refl, subst, sym, ◌∙◌, arith}
use Rattle.dk_base.specs.declared.ty.Ty.{Ty}
use Rattle.dk_base.specs.Types.{IsType, width_of, common_type}
use Rattle.dk_base.proofs.Ranges.{common_turned}
use Rattle.wiring.specs.Netlist.{Netlist}
use Rattle.wiring.specs.Sizes.{IsWidth}
use Rattle.wiring.specs.Snapshot.{Snapshot}
use Rattle.datapath.specs.declared.operand.Operand.{Operand}
use Rattle.datapath.specs.declared.operand.Signal.{Signal}
use Rattle.datapath.specs.Nets.{AreChosen, HasPart, HasWidth, IsKnownWord, IsPartOf, IsWordOver, bits_of}
use Rattle.datapath.specs.Operands.{Carries, CarriesOver, IsOperand}
use Rattle.datapath.proofs.Growth.{part_on, then_grows, grows_itself, has_width_of, width_more}
use Rattle.datapath.proofs.Over.{nothing_over, over_deeper, two_over}

-- a constant is made of anything
pub known_over : {b : Netlist} {k : ℕ} {xs : List Signal} {w : ℕ} {f : Snapshot → ℕ} {r : Signal} → IsKnownWord b w f r → IsWordOver b b k xs w f r
known_over {b} {k} {xs} h = record { grows = grows_itself b; word = h.word; made = nothing_over h.made; folds = λ g. (h.known, refl) }

-- a word, read in a type
pub carries_over : {a d : Netlist} {k : ℕ} {xs : List Signal} {w : ℕ} {f : Snapshot → ℕ} {r : Signal} {t ty : Ty} {g : Snapshot → ℤ} → IsWordOver a d k xs w f r → Carries d (record { bits = r; ty = ty }) t g →
    CarriesOver a d k xs t g (record { bits = r; ty = ty })
carries_over {a} {d} {k} {xs} {w} {f} {r} h value = record { grows = h.grows; value = value; made = h.made; folds = h.folds }

-- an operator of two words, each made of one thing with at most j operators on a path
pub two_words : (F : ℕ → ℕ → ℕ) (j : ℕ) {a b c d : Netlist} {i : ℕ} {x y p q r : Signal} {w v u : ℕ} {f g : Snapshot → ℕ} → IsWordOver a b j (x ∷ []) w f p → IsWordOver b c j (y ∷ []) v g q →
    IsWordOver c d i (p ∷ (q ∷ [])) u (λ s. F (bits_of s p) (bits_of s q)) r → IsWordOver a d (i + j) (x ∷ (y ∷ [])) u (λ s. F (f s) (g s)) r
two_words F j {a} {b} {c} {d} {i} {x} {y} {p} {q} {r} {w} {v} {u} {f} {g} left right all = record {
  grows = then_grows (then_grows left.grows right.grows) all.grows;
  word = record {
    width = all.word.width;
    value = λ m s more is.
        let from_c = part_on c d m all.grows.includes more in
        let from_b = part_on b c m right.grows.includes from_c in
        all.word.value m s more is ∙ ap (λ n. F n (bits_of s q)) (left.word.value m s from_b is) ∙ ap (λ n. F (f s) n) (right.word.value m s from_c is);
  };
  made = two_over j right.grows.includes all.grows.includes left.made right.made all.made;
  folds = λ h.
      let one = left.folds (h.0, tt) in
      let other = right.folds (h.1.0, tt) in
      let both = all.folds (one.0, (other.0, tt)) in
      (both.0, both.1 ∙ other.1 ∙ one.1);
}

-- the width of a type is a width
pub width_is : (t ty : Ty) (w : ℕ) → ty ≡ t → w ≡ width_of ty → IsType t → IsWidth w
width_is t ty w e k ok = subst IsWidth (sym (k ∙ ap width_of e)) (ok.some, ok.most)

pub type_width : (t u : Ty) → t ≡ u → IsType t → IsWidth (width_of u)
type_width t u e ok = subst (λ v. IsWidth (width_of v)) e (ok.some, ok.most)

pub type_is : (t : Ty) (w : ℕ) → w ≡ width_of t → IsType t → IsWidth w
type_is t w e ok = subst IsWidth (sym e) (ok.some, ok.most)

pub as_type : (t u : Ty) → t ≡ u → IsType u → IsType t
as_type t u e ok = subst IsType (sym e) ok

pub common_turned_type : (a b : Ty) → IsType (common_type a b) → IsType (common_type b a)
common_turned_type a b ok = subst IsType (common_turned a b) ok

-- the same operand in other terms
pub typed_carries : {a d : Netlist} {k : ℕ} {xs : List Signal} {t u : Ty} {f : Snapshot → ℤ} {r : Operand} → u ≡ t → CarriesOver a d k xs t f r → CarriesOver a d k xs u f r
typed_carries {a} {d} {k} {xs} {t} {u} {f} {r} e h = record { grows = h.grows; value = record { is = h.value.is ∙ sym e; operand = h.value.operand; value = h.value.value }; made = h.made; folds = h.folds }

pub deeper_carries : {a d : Netlist} {i j : ℕ} {xs : List Signal} {t : Ty} {f : Snapshot → ℤ} {r : Operand} → i ≤ j → CarriesOver a d i xs t f r → CarriesOver a d j xs t f r
deeper_carries {a} {d} {i} {j} {xs} {t} {f} {r} le h = record { grows = h.grows; value = h.value; made = over_deeper le h.made; folds = h.folds }

-- the highest bit of an operand
pub top_part : (b : Netlist) (x : Operand) (w : ℕ) → w ≡ width_of x.ty → IsOperand b x → HasPart b w x.bits (w - 1) 1
top_part b x w e h =
    let ok = type_is x.ty w e h.ty in
    let some = ok.0 in
    record { width = ok; some = omega arith; inside = omega (arith, some); x = has_width_of e h.width }

-- a bit and an operand of a type, twice
pub sign_chosen : (a b : Netlist) (x : Operand) (t : Ty) (s : Signal) → x.ty ≡ t → IsOperand a x → IsPartOf a b → HasWidth b s 1 → AreChosen b (width_of t) s x.bits x.bits
sign_chosen a b x t s e h ab bit =
    let width = width_more a b x.bits (width_of t) ab (subst (λ u. HasWidth a x.bits (width_of u)) e h.width) in
    record { width = type_width x.ty t e h.ty; c = bit; x = width; y = width }

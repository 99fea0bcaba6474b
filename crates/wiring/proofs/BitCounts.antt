-- A netlist has one number of buffer bits.
use Rattle.std.proofs.Common.{◌≡◌, ℕ, ◌+◌, ◌<◌, Bool, true, false, List, length, get_or, refl, ap, sym, ◌∙◌, arith}
use Rattle.std.specs.Prelude.{IsTrue}
use Rattle.std.proofs.lemmas.List.{ext_get_or}
use Rattle.wiring.specs.Netlist.{Netlist}
use Rattle.wiring.specs.BufferBits.{IsBufferBits, array_bits, chosen_bits}

same_test : (x y : Bool) → (IsTrue x → IsTrue y) → (IsTrue y → IsTrue x) → x ≡ y
same_test true true f g = refl
same_test false false f g = refl
same_test true false f g = absurd (let e : false ≡ true = f refl in cc)
same_test false true f g = absurd (let e : false ≡ true = g refl in cc)

pub same_count : (m : Netlist) (a b : ℕ) → IsBufferBits m a → IsBufferBits m b → a ≡ b
same_count m a b x y =
    let fed : x.fed ≡ y.fed = ext_get_or false x.fed y.fed (x.size ∙ sym y.size) (λ r l. same_fed r (omega (arith, l, x.size))) in
    x.bits ∙ ap (λ (f : List Bool). array_bits m.arrays + chosen_bits m.regs f) fed ∙ sym y.bits
  where
    same_fed : (r : ℕ) → r < length m.regs → get_or x.fed r false ≡ get_or y.fed r false
    same_fed r l = same_test (get_or x.fed r false) (get_or y.fed r false) (λ t. (y.each r l).1 ((x.each r l).0 t)) (λ t. (x.each r l).1 ((y.each r l).0 t))

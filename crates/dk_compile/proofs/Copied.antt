-- The copies that a din reaches have at most the bits of one word of each long array.
use Rattle.std.proofs.Common.{◌≡◌, ◌≢◌, ℕ, zero, suc, ◌+◌, ◌<◌, ◌≤◌, Bool, true, false, List, [], ◌∷◌, length, map, set, filter, cond, nat_le, Contains, refl, sym, ap, ◌∙◌, arith, Some}
use Rattle.std.specs.Prelude.{IsTrue, if◌then◌else◌, slice_index, slice_index_or}
use Rattle.wiring.specs.declared.netlist.Shape.{Shape}
use Rattle.wiring.specs.Netlist.{Netlist}
use Rattle.wiring.specs.BufferBits.{chosen_bits}
use Rattle.module_pass.specs.Words.{word_bits}
use Rattle.line_buffer.specs.Indices.{is_long}
use Rattle.line_buffer.specs.Chains.{AreCopies}
use Rattle.circuit.specs.Modules.{AddsCopies}

abbrev total : List ℕ → ℕ
total [] = 0
total (x ∷ xs) = x + total xs

abbrev chosen : List Bool → ℕ → Bool
chosen fed r = slice_index_or fed r false

-- where none is chosen there are no bits
none_chosen : (regs : List ℕ) (fed : List Bool) → ((r : ℕ) → r < length regs → IsTrue (chosen fed r) → ⊥) → chosen_bits regs fed ≡ 0
none_chosen [] fed none = refl
none_chosen (w ∷ regs) [] none = refl
none_chosen (w ∷ regs) (true ∷ fed) none = absurd (none 0 (omega arith) refl)
none_chosen (w ∷ regs) (false ∷ fed) none = let rest = none_chosen regs fed (λ r low is. none (suc r) (omega (arith, low)) is) in let e : 0 + chosen_bits regs fed ≡ 0 = omega (arith, rest) in e

-- one less is chosen
unset : (regs : List ℕ) (fed : List Bool) (c : ℕ) → chosen_bits regs fed ≤ slice_index regs c + chosen_bits regs (set fed c false)
unset [] fed c = omega arith
unset (w ∷ regs) [] zero = omega arith
unset (w ∷ regs) [] (suc c) = omega arith
unset (w ∷ regs) (true ∷ fed) zero = let e : w + chosen_bits regs fed ≤ w + (0 + chosen_bits regs fed) = omega arith in e
unset (w ∷ regs) (false ∷ fed) zero = let e : 0 + chosen_bits regs fed ≤ w + (0 + chosen_bits regs fed) = omega arith in e
unset (w ∷ regs) (b ∷ fed) (suc c) =
    let rest = unset regs fed c in
    let e : (if b then w else 0) + chosen_bits regs fed ≤ slice_index regs c + ((if b then w else 0) + chosen_bits regs (set fed c false)) = omega (arith, rest) in
    e

-- what is chosen afterwards was chosen, and is another one
still_chosen : (fed : List Bool) (c r : ℕ) → IsTrue (chosen (set fed c false) r) → IsTrue (chosen fed r) × (r ≢ c)
still_chosen [] zero r is = absurd (nothing r is)
  where
    nothing : (r : ℕ) → IsTrue (chosen [] r) → ⊥
    nothing r is = let f : ⊥ = cc in f
still_chosen [] (suc c) r is = absurd (nothing r is)
  where
    nothing : (r : ℕ) → IsTrue (chosen [] r) → ⊥
    nothing r is = let f : ⊥ = cc in f
still_chosen (b ∷ fed) zero zero is = absurd (let f : false ≡ true = is in let g : ⊥ = cc in g)
still_chosen (b ∷ fed) zero (suc r) is = (is, λ e. omega (arith, e))
still_chosen (b ∷ fed) (suc c) zero is = (is, λ e. omega (arith, e))
still_chosen (b ∷ fed) (suc c) (suc r) is = let rest = still_chosen fed c r is in (rest.0, λ e. rest.1 (omega (arith, e)))

later_in : (c : ℕ) (copies : List ℕ) (r : ℕ) → Contains (c ∷ copies) r → r ≢ c → Contains copies r
later_in c copies r (zero, low, is) other = absurd (other (sym is))
later_in c copies r (suc k, low, is) other = (k, omega (arith, low), is)

chosen_within : (regs : List ℕ) (fed : List Bool) (copies : List ℕ) → ((r : ℕ) → r < length regs → IsTrue (chosen fed r) → Contains copies r) → chosen_bits regs fed ≤ total (map (λ r. slice_index regs r) copies)
chosen_within regs fed [] among = let none = none_chosen regs fed (λ r low is. nothing (among r low is)) in omega (arith, none)
  where
    nothing : {r : ℕ} → Contains [] r → ⊥
    nothing (k, low, is) = omega (arith, low)
chosen_within regs fed (c ∷ copies) among =
    let rest = chosen_within regs (set fed c false) copies (λ r low is. let was = still_chosen fed c r is in later_in c copies r (among r low was.0) was.1) in
    let here = unset regs fed c in
    let e : chosen_bits regs fed ≤ slice_index regs c + total (map (λ r. slice_index regs r) copies) = omega (arith, rest, here) in
    e

-- the widths of the long arrays
long_words : (least : ℕ) (arrays : List Shape) → total (map (λ (s : Shape). s.width) (filter (λ (s : Shape). is_long (Some least) s.depth) arrays)) ≡ word_bits least arrays
long_words least [] = refl
long_words least (s ∷ arrays) = by (nat_le least s.depth) (long_words least arrays)
  where
    others : List Shape
    others = filter (λ (s : Shape). is_long (Some least) s.depth) arrays

    by : (b : Bool) → total (map (λ (s : Shape). s.width) others) ≡ word_bits least arrays → total (map (λ (s : Shape). s.width) (cond b (s ∷ others) others)) ≡ (if b then s.width else 0) + word_bits least arrays
    by true rest = ap (λ (n : ℕ). s.width + n) rest
    by false rest = rest ∙ (let e : word_bits least arrays ≡ 0 + word_bits least arrays = omega arith in e)

pub copies_within : (m : Netlist) (n least : ℕ) (copies : List ℕ) (k : ℕ) → AreCopies (is_long (Some least)) m copies m.arrays → AddsCopies m n copies k → k ≤ n + word_bits least m.arrays
copies_within m n least copies k widths adds =
    let most = chosen_within m.regs adds.fed copies (λ r low is. ((adds.each r low).0 is).0) in
    let are : total (map (λ r. slice_index m.regs r) copies) ≡ word_bits least m.arrays = ap total widths ∙ long_words least m.arrays in
    let bits = adds.bits in
    omega (arith, most, are, bits)

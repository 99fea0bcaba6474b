-- A right side keeps its meaning under other names of its nets.
use Rattle.std.proofs.Common.{◌≡◌, ℕ, ◌+◌, ◌-◌, ◌/◌, ◌%◌, ◌^◌, ◌≤◌, List, [], ◌∷◌, ◌++◌, refl, ap, lit<}
use Rattle.std.specs.Prelude.{Contains, All}
use Rattle.std.proofs.lemmas.List.Elements.{Contains-append_left, Contains-append_right, All-contains}
use Rattle.wiring.proofs.Lists.{All-left, All-right}
use Rattle.wiring.specs.declared.right.Atom.{Atom}
use Rattle.wiring.specs.declared.right.Atom.TheVariants as atom
use Rattle.wiring.specs.declared.right.Operator.{Operator}
use Rattle.wiring.specs.declared.right.Operator.TheVariants.{Add, Subtract, Multiply, Divide, Less, Equal, And, Or, Xor}
use Rattle.wiring.specs.declared.right.Right.{Right}
use Rattle.wiring.specs.declared.right.Right.TheVariants.{Copy, Not, Binary, Choose, Join, Repeat, Bit, Slice, Word}
use Rattle.wiring.specs.Rights.{nets_of, constants_of, atom_nets, atom_constants, atom_value, atom_width, right_value}
use Rattle.wiring.specs.Rules.{WidthsAgree, DivisorIsConstant, DividesByDivisor, IsDivisor}
use Rattle.wiring.specs.Sizes.{IsConstant}
use Rattle.cycle_sim.specs.Slots.{rename, rename_atom, IsNarrow}

module _ {N M : Type 0} (f : N → M) (v w : N → ℕ) (v' w' : M → ℕ) where
  -- the names denote the same values and widths
  abbrev pub Same : List N → Type 0
  Same ns = (n : N) → Contains ns n → (v' (f n) ≡ v n) × (w' (f n) ≡ w n)

  left : (ns ms : List N) → Same (ns ++ ms) → Same ns
  left ns ms h n c = h n (Contains-append_left ns ms n c)

  right : (ns ms : List N) → Same (ns ++ ms) → Same ms
  right ns ms h n c = h n (Contains-append_right ns ms n c)

  one : (n : N) → Same (n ∷ []) → (v' (f n) ≡ v n) × (w' (f n) ≡ w n)
  one n h = h n (0, lit< tt, refl)

  value_renamed : (a : Atom N) → Same (atom_nets a) → atom_value v' (rename_atom f a) ≡ atom_value v a
  value_renamed (atom.Net n) h = (one n h).0
  value_renamed (atom.Constant c) h = refl

  width_renamed : (a : Atom N) → Same (atom_nets a) → atom_width w' (rename_atom f a) ≡ atom_width w a
  width_renamed (atom.Net n) h = (one n h).1
  width_renamed (atom.Constant c) h = refl

  pub right_renamed : {A : Type 0} (word : A → ℕ → ℕ) (r : Right N A) → Same (nets_of r) → right_value w' word v' (rename f r) ≡ right_value w word v r
  right_renamed word (Copy a) h = value_renamed a h
  right_renamed word (Not a) h = rw (value_renamed a h, width_renamed a h)
  right_renamed word (Binary o a b) h =
      let ha = left (atom_nets a) (atom_nets b) h in
      let hb = right (atom_nets a) (atom_nets b) h in
      rw (value_renamed a ha, width_renamed a ha, value_renamed b hb)
  right_renamed word (Choose c a b) h =
      let hc = left (atom_nets c) (atom_nets a) (left (atom_nets c ++ atom_nets a) (atom_nets b) h) in
      let ha = right (atom_nets c) (atom_nets a) (left (atom_nets c ++ atom_nets a) (atom_nets b) h) in
      let hb = right (atom_nets c ++ atom_nets a) (atom_nets b) h in
      rw (value_renamed c hc, value_renamed a ha, value_renamed b hb)
  right_renamed word (Join a b) h =
      let ha = left (atom_nets a) (atom_nets b) h in
      let hb = right (atom_nets a) (atom_nets b) h in
      rw (value_renamed a ha, width_renamed b hb, value_renamed b hb)
  right_renamed word (Repeat n a) h = rw (value_renamed a h, width_renamed a h)
  right_renamed word (Bit n k) h = ap (λ x. x / 2 ^ k % 2) (one n h).0
  right_renamed word (Slice n m l) h = ap (λ x. x / 2 ^ l % 2 ^ (m - l + 1)) (one n h).0
  right_renamed word (Word m i) h = ap (λ x. word m x) (value_renamed i h)

  pub agree_renamed : {A : Type 0} (ww ww' : A → ℕ) (r : Right N A) → Same (nets_of r) → WidthsAgree w ww r → WidthsAgree w' ww' (rename f r)
  agree_renamed ww ww' (Copy a) h g = tt
  agree_renamed ww ww' (Not a) h g = tt
  agree_renamed ww ww' (Binary o a b) h g =
      let ha = left (atom_nets a) (atom_nets b) h in
      let hb = right (atom_nets a) (atom_nets b) h in
      rw (width_renamed a ha, width_renamed b hb) g
  agree_renamed ww ww' (Choose c a b) h g =
      let hc = left (atom_nets c) (atom_nets a) (left (atom_nets c ++ atom_nets a) (atom_nets b) h) in
      let ha = right (atom_nets c) (atom_nets a) (left (atom_nets c ++ atom_nets a) (atom_nets b) h) in
      let hb = right (atom_nets c ++ atom_nets a) (atom_nets b) h in
      rw (width_renamed c hc, width_renamed a ha, width_renamed b hb) g
  agree_renamed ww ww' (Join a b) h g = tt
  agree_renamed ww ww' (Repeat n a) h g = g
  agree_renamed ww ww' (Bit n k) h g = rw (one n h).1 g
  agree_renamed ww ww' (Slice n m l) h g = rw (one n h).1 g
  agree_renamed ww ww' (Word m i) h g = tt

  narrow_atom : (a : Atom N) → Same (atom_nets a) → ((n : N) → Contains (atom_nets a) n → w n ≤ 64) → All IsConstant (atom_constants a) → atom_width w' (rename_atom f a) ≤ 64
  narrow_atom (atom.Net n) h g cs = rw (one n h).1 (g n (0, lit< tt, refl))
  narrow_atom (atom.Constant c) h g cs = (All-contains IsConstant (c ∷ []) c cs (0, lit< tt, refl)).width.1

  pub narrow_renamed : {A : Type 0} (r : Right N A) → Same (nets_of r) → ((n : N) → Contains (nets_of r) n → w n ≤ 64) → All IsConstant (constants_of r) → IsNarrow w' (rename f r)
  narrow_renamed (Copy a) h g cs = tt
  narrow_renamed (Not a) h g cs = narrow_atom a h g cs
  narrow_renamed (Binary o a b) h g cs = narrow_atom a (left (atom_nets a) (atom_nets b) h) (λ n c. g n (Contains-append_left (atom_nets a) (atom_nets b) n c)) (All-left IsConstant (atom_constants a) (atom_constants b) cs)
  narrow_renamed (Choose c a b) h g cs = tt
  narrow_renamed (Join a b) h g cs = narrow_atom b (right (atom_nets a) (atom_nets b) h) (λ n c. g n (Contains-append_right (atom_nets a) (atom_nets b) n c)) (All-right IsConstant (atom_constants a) (atom_constants b) cs)
  narrow_renamed (Repeat n a) h g cs = narrow_atom a h g cs
  narrow_renamed (Bit n k) h g cs = rw (one n h).1 (g n (0, lit< tt, refl))
  narrow_renamed (Slice n m l) h g cs = rw (one n h).1 (g n (0, lit< tt, refl))
  narrow_renamed (Word m i) h g cs = tt

module _ {N M : Type 0} (f : N → M) where
  constants_atom : (a : Atom N) → atom_constants (rename_atom f a) ≡ atom_constants a
  constants_atom (atom.Net n) = refl
  constants_atom (atom.Constant c) = refl

  pub constants_renamed : {A : Type 0} (r : Right N A) → constants_of (rename f r) ≡ constants_of r
  constants_renamed (Copy a) = constants_atom a
  constants_renamed (Not a) = constants_atom a
  constants_renamed (Binary o a b) = rw (constants_atom a, constants_atom b)
  constants_renamed (Choose c a b) = rw (constants_atom c, constants_atom a, constants_atom b)
  constants_renamed (Join a b) = rw (constants_atom a, constants_atom b)
  constants_renamed (Repeat n a) = constants_atom a
  constants_renamed (Bit n k) = refl
  constants_renamed (Slice n m l) = refl
  constants_renamed (Word m i) = constants_atom i

  divisor_atom : (a : Atom N) → IsDivisor a → IsDivisor (rename_atom f a)
  divisor_atom (atom.Net n) d = absurd d
  divisor_atom (atom.Constant c) d = d

  divides : (o : Operator) (b : Atom N) → DividesByDivisor o b → DividesByDivisor o (rename_atom f b)
  divides Divide b d = divisor_atom b d
  divides Add b d = tt
  divides Subtract b d = tt
  divides Multiply b d = tt
  divides Less b d = tt
  divides Equal b d = tt
  divides And b d = tt
  divides Or b d = tt
  divides Xor b d = tt

  pub divisor_renamed : {A : Type 0} (r : Right N A) → DivisorIsConstant r → DivisorIsConstant (rename f r)
  divisor_renamed (Copy a) d = tt
  divisor_renamed (Not a) d = tt
  divisor_renamed (Binary o a b) d = divides o b d
  divisor_renamed (Choose c a b) d = tt
  divisor_renamed (Join a b) d = tt
  divisor_renamed (Repeat n a) d = tt
  divisor_renamed (Bit n k) d = tt
  divisor_renamed (Slice n m l) d = tt
  divisor_renamed (Word m i) d = tt

-- A right side depends on the nets that it reads, and on nothing else.
use Rattle.std.proofs.Common.{◌≡◌, ℕ, ◌+◌, ◌-◌, ◌/◌, ◌%◌, ◌^◌, List, [], ◌∷◌, ◌++◌, refl, ap, lit<}
use Rattle.std.specs.Prelude.{Contains}
use Rattle.std.proofs.lemmas.List.Elements.{Contains-append_left, Contains-append_right}
use Rattle.wiring.specs.declared.right.Atom.{Atom}
use Rattle.wiring.specs.declared.right.Atom.TheVariants as atom
use Rattle.wiring.specs.declared.right.Right.{Right}
use Rattle.wiring.specs.declared.right.Right.TheVariants.{Copy, Not, Binary, Choose, Join, Repeat, Bit, Slice, Word}
use Rattle.wiring.specs.Rights.{nets_of, atom_nets, atom_value, atom_width, right_value, repeated}

module _ {N : Type 0} (v w : N → ℕ) where
  -- the two agree on these nets
  abbrev pub Agree : List N → Type 0
  Agree ns = (n : N) → Contains ns n → v n ≡ w n

  pub agree_left : (ns ms : List N) → Agree (ns ++ ms) → Agree ns
  agree_left ns ms h n c = h n (Contains-append_left ns ms n c)

  pub agree_right : (ns ms : List N) → Agree (ns ++ ms) → Agree ms
  agree_right ns ms h n c = h n (Contains-append_right ns ms n c)

  pub agree_one : (n : N) → Agree (n ∷ []) → v n ≡ w n
  agree_one n h = h n (0, lit< tt, refl)

  pub atom_local : (a : Atom N) → Agree (atom_nets a) → atom_value v a ≡ atom_value w a
  atom_local (atom.Net n) h = agree_one n h
  atom_local (atom.Constant c) h = refl

  pub right_local : {A : Type 0} (width : N → ℕ) (word : A → ℕ → ℕ) (r : Right N A) → Agree (nets_of r) → right_value width word v r ≡ right_value width word w r
  right_local width word (Copy a) h = atom_local a h
  right_local width word (Not a) h = ap (λ x. 2 ^ atom_width width a - 1 - x) (atom_local a h)
  right_local width word (Binary o a b) h =
      let ea = atom_local a (agree_left (atom_nets a) (atom_nets b) h) in
      let eb = atom_local b (agree_right (atom_nets a) (atom_nets b) h) in
      rw (ea, eb)
  right_local width word (Choose c a b) h =
      let front = agree_left (atom_nets c ++ atom_nets a) (atom_nets b) h in
      let ec = atom_local c (agree_left (atom_nets c) (atom_nets a) front) in
      let ea = atom_local a (agree_right (atom_nets c) (atom_nets a) front) in
      let eb = atom_local b (agree_right (atom_nets c ++ atom_nets a) (atom_nets b) h) in
      rw (ec, ea, eb)
  right_local width word (Join a b) h =
      let ea = atom_local a (agree_left (atom_nets a) (atom_nets b) h) in
      let eb = atom_local b (agree_right (atom_nets a) (atom_nets b) h) in
      rw (ea, eb)
  right_local width word (Repeat n a) h = ap (λ x. repeated n (atom_width width a) x) (atom_local a h)
  right_local width word (Bit n k) h = ap (λ x. x / 2 ^ k % 2) (agree_one n h)
  right_local width word (Slice n m l) h = ap (λ x. x / 2 ^ l % 2 ^ (m - l + 1)) (agree_one n h)
  right_local width word (Word m i) h = ap (λ x. word m x) (atom_local i h)

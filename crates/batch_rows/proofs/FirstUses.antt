-- The first uses of slots.
use Rattle.std.proofs.Common.{◌≡◌, ℕ, ◌+◌, ◌<◌, ◌≤◌, ◌⊎◌, inl, inr, List, [], ◌++◌, length, ap, sym, subst, ◌∙◌, arith, Some}
use Rattle.std.specs.Prelude.{All, Contains, slice_get, slice_index}
use Rattle.std.proofs.lemmas.List.Elements.{All-contains, All-nil, All-cons, All-append}
use Rattle.std.proofs.lemmas.Option.{same_Some}
use Rattle.std.proofs.lemmas.Bool.{cases_lt}
use Rattle.wiring.specs.declared.right.Atom.{Atom}
use Rattle.wiring.specs.declared.right.Atom.TheVariants as atom
use Rattle.wiring.specs.declared.right.Right.{Right}
use Rattle.wiring.specs.declared.right.Right.TheVariants.{Copy, Not, Binary, Choose, Join, Repeat, Bit, Slice, Word}
use Rattle.wiring.specs.Rights.{atom_nets, nets_of}
use Rattle.batch_rows.specs.declared.code.Instruction.{Instruction}
use Rattle.batch_rows.specs.Uses.{LastNo, AtomUsed, RightUsed, AreFirstUsesOf}

abbrev IsUsed : List ℕ → ℕ → ℕ → Type 0
IsUsed uses number n = slice_index uses n ≤ number

atom_all : (uses : List ℕ) (number : ℕ) (a : Atom ℕ) → AtomUsed uses number a → All (IsUsed uses number) (atom_nets a)
atom_all uses number (atom.Net n) h = All-cons (IsUsed uses number) n [] h (All-nil (IsUsed uses number))
atom_all uses number (atom.Constant c) h = All-nil (IsUsed uses number)

right_all : (uses : List ℕ) (number : ℕ) (r : Right ℕ ℕ) → RightUsed uses number r → All (IsUsed uses number) (nets_of r)
right_all uses number (Copy a) h = atom_all uses number a h
right_all uses number (Not a) h = atom_all uses number a h
right_all uses number (Binary o a b) h = All-append (IsUsed uses number) (atom_nets a) (atom_nets b) (atom_all uses number a h.0) (atom_all uses number b h.1)
right_all uses number (Choose c a b) h = All-append (IsUsed uses number) (atom_nets c ++ atom_nets a) (atom_nets b) (All-append (IsUsed uses number) (atom_nets c) (atom_nets a) (atom_all uses number c h.0) (atom_all uses number a h.1)) (atom_all uses number b h.2)
right_all uses number (Join a b) h = All-append (IsUsed uses number) (atom_nets a) (atom_nets b) (atom_all uses number a h.0) (atom_all uses number b h.1)
right_all uses number (Repeat n a) h = atom_all uses number a h
right_all uses number (Bit v k) h = All-cons (IsUsed uses number) v [] h (All-nil (IsUsed uses number))
right_all uses number (Slice v m l) h = All-cons (IsUsed uses number) v [] h (All-nil (IsUsed uses number))
right_all uses number (Word m i) h = atom_all uses number i h

used_at : (uses : List ℕ) (number : ℕ) (r : Right ℕ ℕ) (n : ℕ) → RightUsed uses number r → Contains (nets_of r) n → slice_index uses n ≤ number
used_at uses number r n h c = All-contains (IsUsed uses number) (nets_of r) n (right_all uses number r h) c

slot_later : (old new : List ℕ) (number n : ℕ) → LastNo old new → slice_index old n ≤ number → slice_index new n ≤ number
slot_later old new number n last h = omega (arith, last n, h)

atom_later : (old new : List ℕ) (number : ℕ) → LastNo old new → (a : Atom ℕ) → AtomUsed old number a → AtomUsed new number a
atom_later old new number last (atom.Net n) h = slot_later old new number n last h
atom_later old new number last (atom.Constant c) h = tt

pub right_later : (old new : List ℕ) (number : ℕ) (r : Right ℕ ℕ) → LastNo old new → RightUsed old number r → RightUsed new number r
right_later old new number (Copy a) last h = atom_later old new number last a h
right_later old new number (Not a) last h = atom_later old new number last a h
right_later old new number (Binary o a b) last h = (atom_later old new number last a h.0, atom_later old new number last b h.1)
right_later old new number (Choose c a b) last h = (atom_later old new number last c h.0, atom_later old new number last a h.1, atom_later old new number last b h.2)
right_later old new number (Join a b) last h = (atom_later old new number last a h.0, atom_later old new number last b h.1)
right_later old new number (Repeat n a) last h = atom_later old new number last a h
right_later old new number (Bit v k) last h = slot_later old new number v last h
right_later old new number (Slice v m l) last h = slot_later old new number v last h
right_later old new number (Word m i) last h = atom_later old new number last i h

pub uses_none : (code : List Instruction) (uses : List ℕ) → AreFirstUsesOf 0 code uses
uses_none code uses = record {
  reads = λ p n i l at c. absurd (omega (arith, l));
  writes = λ p i l at. absurd (omega (arith, l));
}

module _ (old new : List ℕ) (k : ℕ) (code : List Instruction) (before : AreFirstUsesOf k code old) (i : Instruction) (at : slice_get code k ≡ Some i)
    (last : LastNo old new) (right : RightUsed new k i.right) (target : slice_index new i.target ≤ k) where
  it_is : (p : ℕ) (j : Instruction) → p < k + 1 → k ≤ p → slice_get code p ≡ Some j → i ≡ j
  it_is p j l m there = same_Some i j (sym at ∙ ap (λ n. slice_get code n) (let e : k ≡ p = omega (arith, l, m) in e) ∙ there)

  pub uses_on : AreFirstUsesOf (k + 1) code new
  uses_on = record {
    reads = λ p n j l there c. reads_at p n j l there c (cases_lt p k);
    writes = λ p j l there. writes_at p j l there (cases_lt p k);
  }
    where
      reads_at : (p n : ℕ) (j : Instruction) → p < k + 1 → slice_get code p ≡ Some j → Contains (nets_of j.right) n → (p < k) ⊎ (k ≤ p) → slice_index new n ≤ p
      reads_at p n j l there c (inl m) = omega (arith, last n, before.reads p n j m there c)
      reads_at p n j l there c (inr m) =
          let h : slice_index new n ≤ k = used_at new k i.right n right (subst (λ (x : Instruction). Contains (nets_of x.right) n) (sym (it_is p j l m there)) c) in
          omega (arith, h, m)

      writes_at : (p : ℕ) (j : Instruction) → p < k + 1 → slice_get code p ≡ Some j → (p < k) ⊎ (k ≤ p) → slice_index new j.target ≤ p
      writes_at p j l there (inl m) = omega (arith, last j.target, before.writes p j m there)
      writes_at p j l there (inr m) =
          let h : slice_index new j.target ≤ k = subst (λ (x : Instruction). slice_index new x.target ≤ k) (it_is p j l m there) target in
          omega (arith, h, m)

pub uses_all : (code : List Instruction) (uses : List ℕ) (k : ℕ) → length code ≤ k → AreFirstUsesOf k code uses → AreFirstUsesOf (length code) code uses
uses_all code uses k whole h = record {
  reads = λ p n i l at c. h.reads p n i (omega (arith, l, whole)) at c;
  writes = λ p i l at. h.writes p i (omega (arith, l, whole)) at;
}

-- Marks of what instructions read and write.
use Rattle.std.proofs.Common.{◌≡◌, ℕ, ◌+◌, ◌<◌, ◌≤◌, ◌⊎◌, inl, inr, Bool, true, false, List, [], ◌++◌, ap, sym, subst, ◌∙◌, arith, Some}
use Rattle.std.specs.Prelude.{All, Contains, slice_get, slice_index_or}
use Rattle.std.proofs.lemmas.List.Elements.{All-contains, All-nil, All-cons, All-append}
use Rattle.std.proofs.lemmas.Option.{same_Some, slice_get_within}
use Rattle.std.proofs.lemmas.Bool.{cases_lt}
use Rattle.wiring.specs.declared.right.Atom.{Atom}
use Rattle.wiring.specs.declared.right.Atom.TheVariants as atom
use Rattle.wiring.specs.declared.right.Right.{Right}
use Rattle.wiring.specs.declared.right.Right.TheVariants.{Copy, Not, Binary, Choose, Join, Repeat, Bit, Slice, Word}
use Rattle.wiring.specs.Rights.{atom_nets, nets_of}
use Rattle.batch_rows.specs.declared.code.Instruction.{Instruction}
use Rattle.batch_rows.specs.Code.{IsOrdered}
use Rattle.batch_rows.specs.Seen.{IsSeen, AtomSeen, RightSeen, Keeps, IsOrderedUpTo}

atom_all : (seen : List Bool) (a : Atom ℕ) → AtomSeen seen a → All (IsSeen seen) (atom_nets a)
atom_all seen (atom.Net n) h = All-cons (IsSeen seen) n [] h (All-nil (IsSeen seen))
atom_all seen (atom.Constant c) h = All-nil (IsSeen seen)

right_all : (seen : List Bool) (r : Right ℕ ℕ) → RightSeen seen r → All (IsSeen seen) (nets_of r)
right_all seen (Copy a) h = atom_all seen a h
right_all seen (Not a) h = atom_all seen a h
right_all seen (Binary o a b) h = All-append (IsSeen seen) (atom_nets a) (atom_nets b) (atom_all seen a h.0) (atom_all seen b h.1)
right_all seen (Choose c a b) h = All-append (IsSeen seen) (atom_nets c ++ atom_nets a) (atom_nets b) (All-append (IsSeen seen) (atom_nets c) (atom_nets a) (atom_all seen c h.0) (atom_all seen a h.1)) (atom_all seen b h.2)
right_all seen (Join a b) h = All-append (IsSeen seen) (atom_nets a) (atom_nets b) (atom_all seen a h.0) (atom_all seen b h.1)
right_all seen (Repeat n a) h = atom_all seen a h
right_all seen (Bit v k) h = All-cons (IsSeen seen) v [] h (All-nil (IsSeen seen))
right_all seen (Slice v m l) h = All-cons (IsSeen seen) v [] h (All-nil (IsSeen seen))
right_all seen (Word m i) h = atom_all seen i h

read_seen : (seen : List Bool) (r : Right ℕ ℕ) (n : ℕ) → RightSeen seen r → Contains (nets_of r) n → IsSeen seen n
read_seen seen r n h c = All-contains (IsSeen seen) (nets_of r) n (right_all seen r h) c

atom_keeps : (old new : List Bool) → Keeps old new → (a : Atom ℕ) → AtomSeen old a → AtomSeen new a
atom_keeps old new keeps (atom.Net n) h = keeps n h
atom_keeps old new keeps (atom.Constant c) h = tt

right_keeps : (old new : List Bool) → Keeps old new → (r : Right ℕ ℕ) → RightSeen old r → RightSeen new r
right_keeps old new keeps (Copy a) h = atom_keeps old new keeps a h
right_keeps old new keeps (Not a) h = atom_keeps old new keeps a h
right_keeps old new keeps (Binary o a b) h = (atom_keeps old new keeps a h.0, atom_keeps old new keeps b h.1)
right_keeps old new keeps (Choose c a b) h = (atom_keeps old new keeps c h.0, atom_keeps old new keeps a h.1, atom_keeps old new keeps b h.2)
right_keeps old new keeps (Join a b) h = (atom_keeps old new keeps a h.0, atom_keeps old new keeps b h.1)
right_keeps old new keeps (Repeat n a) h = atom_keeps old new keeps a h
right_keeps old new keeps (Bit v k) h = keeps v h
right_keeps old new keeps (Slice v m l) h = keeps v h
right_keeps old new keeps (Word m i) h = atom_keeps old new keeps i h

pub not_seen : (old mid : List Bool) (n : ℕ) → Keeps old mid → slice_index_or mid n false ≡ false → IsSeen old n → ⊥
not_seen old mid n keeps none h = let e : slice_index_or mid n false ≡ true = keeps n h in let f : ⊥ = cc in f

pub not_read : (mid : List Bool) (r : Right ℕ ℕ) (n : ℕ) → RightSeen mid r → slice_index_or mid n false ≡ false → Contains (nets_of r) n → ⊥
not_read mid r n h none c = let e : slice_index_or mid n false ≡ true = read_seen mid r n h c in let f : ⊥ = cc in f

module _ (old new : List Bool) (k : ℕ) (code : List Instruction) (before : IsOrderedUpTo old k code) (i : Instruction) (at : slice_get code k ≡ Some i)
    (keeps : Keeps old new) (right : RightSeen new i.right) (target : IsSeen new i.target) (fresh : IsSeen old i.target → ⊥) (apart : Contains (nets_of i.right) i.target → ⊥) where
  it_is : (p : ℕ) (j : Instruction) → p < k + 1 → k ≤ p → slice_get code p ≡ Some j → i ≡ j
  it_is p j l m there = same_Some i j (sym at ∙ ap (λ n. slice_get code n) (let e : k ≡ p = omega (arith, l, m) in e) ∙ there)

  pub ordered_on : IsOrderedUpTo new (k + 1) code
  ordered_on = record {
    read = λ p j l there. read_at p j l there (cases_lt p k);
    written = λ p j l there. written_at p j l there (cases_lt p k);
    reads = λ p q j h l m there then'. reads_at p q j h l m there then' (cases_lt q k) (cases_lt p k);
    writes = λ p q j h l m there then'. writes_at p q j h l m there then' (cases_lt q k);
  }
    where
      read_at : (p : ℕ) (j : Instruction) → p < k + 1 → slice_get code p ≡ Some j → (p < k) ⊎ (k ≤ p) → RightSeen new j.right
      read_at p j l there (inl m) = right_keeps old new keeps j.right (before.read p j m there)
      read_at p j l there (inr m) = subst (λ (x : Instruction). RightSeen new x.right) (it_is p j l m there) right

      written_at : (p : ℕ) (j : Instruction) → p < k + 1 → slice_get code p ≡ Some j → (p < k) ⊎ (k ≤ p) → IsSeen new j.target
      written_at p j l there (inl m) = keeps j.target (before.written p j m there)
      written_at p j l there (inr m) = subst (λ (x : Instruction). IsSeen new x.target) (it_is p j l m there) target

      reads_at : (p q : ℕ) (j h : Instruction) → p ≤ q → q < k + 1 → slice_get code p ≡ Some j → slice_get code q ≡ Some h → (q < k) ⊎ (k ≤ q) → (p < k) ⊎ (k ≤ p) → Contains (nets_of j.right) h.target → ⊥
      reads_at p q j h l m there then' (inl a) b c = before.reads p q j h l a there then' c
      reads_at p q j h l m there then' (inr a) (inl b) c =
          fresh (subst (λ (x : Instruction). IsSeen old x.target) (sym (it_is q h m a then')) (read_seen old j.right h.target (before.read p j b there) c))
      reads_at p q j h l m there then' (inr a) (inr b) c =
          apart (subst (λ (x : Instruction). Contains (nets_of x.right) i.target) (sym (it_is p j (omega (arith, l, m)) b there)) (subst (λ (x : Instruction). Contains (nets_of j.right) x.target) (sym (it_is q h m a then')) c))

      writes_at : (p q : ℕ) (j h : Instruction) → p < q → q < k + 1 → slice_get code p ≡ Some j → slice_get code q ≡ Some h → (q < k) ⊎ (k ≤ q) → j.target ≡ h.target → ⊥
      writes_at p q j h l m there then' (inl a) e = before.writes p q j h l a there then' e
      writes_at p q j h l m there then' (inr a) e =
          fresh (subst (λ (x : Instruction). IsSeen old x.target) (sym (it_is q h m a then')) (subst (λ (n : ℕ). IsSeen old n) e (before.written p j (omega (arith, l, m)) there)))

pub ordered_all : (seen : List Bool) (k : ℕ) (code : List Instruction) → Rattle.std.specs.Prelude.length code ≤ k → IsOrderedUpTo seen k code → IsOrdered code
ordered_all seen k code whole h = record {
  reads = λ p q i j l at there. h.reads p q i j l (omega (arith, slice_get_within code q j there, whole)) at there;
  writes = λ p q i j l at there. h.writes p q i j l (omega (arith, slice_get_within code q j there, whole)) at there;
}

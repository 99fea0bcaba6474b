-- Packing adds no operator to a path.
use Rattle.std.proofs.Common.{◌≡◌, ℕ, zero, suc, ◌+◌, ◌<◌, ◌≤◌, Bool, List, ◌++◌, length, Some, refl, sym, subst, inl, inr, arith}
use Rattle.std.specs.Prelude.{IsTrue, Contains, slice_get}
use Rattle.std.proofs.lemmas.List.Elements.{All-contains, Contains-append_cases}
use Rattle.wiring.specs.declared.right.Atom.{Atom}
use Rattle.wiring.specs.declared.right.Atom.TheVariants as atom
use Rattle.wiring.specs.declared.right.Right.{Right}
use Rattle.wiring.specs.declared.right.Right.TheVariants.{Copy, Not, Binary, Choose, Join, Repeat, Bit, Slice, Word}
use Rattle.wiring.specs.declared.netlist.Net.{Net}
use Rattle.wiring.specs.declared.netlist.Holder.{Holder}
use Rattle.wiring.specs.declared.netlist.Holder.TheVariants.{OfNet, OfArray}
use Rattle.wiring.specs.declared.netlist.Assign.{Assign}
use Rattle.wiring.specs.Netlist.{Netlist}
use Rattle.wiring.specs.BufferBits.{atom_reads, right_reads}
use Rattle.net_build.specs.Depth.{operators, IsWithin, by_itself, by_assign}
use Rattle.array_packing.specs.declared.slots.Slot.{Slot}
use Rattle.array_packing.specs.Packing.{IsPacked, IsAssigned, IsReadAt, as_word, as_slice, assign}

-- what an atom reads is a net
abbrev AreNets : List Holder → Type 0
AreNets hs = (g : Holder) → Contains hs g → (x : Net) × (g ≡ OfNet x)

atom_nets : (a : Atom Net) → AreNets (atom_reads a)
atom_nets (atom.Net n) g (zero, lt, e) = (n, sym e)
atom_nets (atom.Net n) g (suc k, lt, e) = absurd (let f : ⊥ = omega (arith, lt) in f)
atom_nets (atom.Constant c) g (k, lt, e) = absurd (let f : ⊥ = omega (arith, lt) in f)

both_nets : (xs ys : List Holder) → AreNets xs → AreNets ys → AreNets (xs ++ ys)
both_nets xs ys one other g has = elim (Contains-append_cases xs ys g has) as (λ _. (x : Net) × (g ≡ OfNet x)) [ inl h ↦ one g h | inr h ↦ other g h ]

module _ (new old : Netlist) (slots : List Slot) (is : IsPacked new old slots) (base wide : Holder → Bool)
    (nets : (x : Net) → IsTrue (base (OfNet x)) → IsTrue (wide (OfNet x))) (arrays : (x : ℕ) (k : Slot) → slice_get slots x ≡ Some k → IsTrue (base (OfArray x)) → IsTrue (wide (OfArray k.array))) where
  -- an array that is made of the base is in it
  in_base : (n x : ℕ) → IsWithin old base n (OfArray x) → IsTrue (base (OfArray x))
  in_base n x (by_itself h) = h
  in_base n x (by_assign a k at e less reads) = absurd (let f : ⊥ = cc in f)

  -- an assign that reads only nets is there as it was
  plain : (t : Net) (r : Right Net ℕ) (n k : ℕ) → AreNets (right_reads r) → Contains new.assigns (assign t r) → operators r + k ≤ n → ((x : Net) → Contains (right_reads r) (OfNet x) → IsWithin new wide k (OfNet x)) → IsWithin new wide n (OfNet t)
  plain t r n k only has less each = by_assign (assign t r) k has refl less (λ g c. of_net g c (only g c))
    where
      of_net : (g : Holder) → Contains (right_reads r) g → (x : Net) × (g ≡ OfNet x) → IsWithin new wide k g
      of_net g c (x, e) = subst (IsWithin new wide k) (sym e) (each x (subst (Contains (right_reads r)) e c))

  -- a word is read at the same index
  word : (t : Net) (x : ℕ) (i : Atom Net) (s : Slot) (k : ℕ) → slice_get slots x ≡ Some s → IsTrue (base (OfArray x)) → ((y : Net) → Contains (atom_reads i) (OfNet y) → IsWithin new wide k (OfNet y)) → (g : Holder) → Contains (right_reads (Word s.array i)) g → IsWithin new wide k g
  word t x i s k at has each g (zero, lt, e) = subst (IsWithin new wide k) e (by_itself (arrays x s at has))
  word t x i s k at has each g (suc j, lt, e) = of_net (atom_nets i g (j, (let h : j < length (atom_reads i) = omega (arith, lt) in h), e))
    where
      of_net : (y : Net) × (g ≡ OfNet y) → IsWithin new wide k g
      of_net (y, f) = subst (IsWithin new wide k) (sym f) (each y (subst (Contains (atom_reads i)) f (j, (let h : j < length (atom_reads i) = omega (arith, lt) in h), e)))

  read_at : (t : Net) (x : ℕ) (i : Atom Net) (s : Slot) (n k : ℕ) → slice_get slots x ≡ Some s → IsReadAt new s i t → IsTrue (base (OfArray x)) → 0 + k ≤ n → ((y : Net) → Contains (atom_reads i) (OfNet y) → IsWithin new wide k (OfNet y)) → IsWithin new wide n (OfNet t)
  read_at t x i s n k at (as_word low whole has) in_it less each = by_assign (assign t (Word s.array i)) k has refl less (word t x i s k at in_it each)
  read_at t x i s n k at (as_slice p top low bits of_word has) in_it less each = by_assign (assign t (Slice p top s.low)) k has refl less slice
    where
      slice : (g : Holder) → Contains (right_reads (Slice p top s.low)) g → IsWithin new wide k g
      slice g (zero, lt, e) = subst (IsWithin new wide k) e (by_assign (assign p (Word s.array i)) k of_word refl (let h : 0 + k ≤ k = omega arith in h) (word p x i s k at in_it each))
      slice g (suc j, lt, e) = absurd (let f : ⊥ = omega (arith, lt) in f)

  assigned : (t : Net) (r : Right Net ℕ) (n k : ℕ) → IsAssigned new slots t r → operators r + k ≤ n → ((x : Net) → Contains (right_reads r) (OfNet x) → IsWithin new wide k (OfNet x)) → ((x : ℕ) → Contains (right_reads r) (OfArray x) → IsTrue (base (OfArray x))) → IsWithin new wide n (OfNet t)
  assigned t (Copy a) n k has less each of_array = plain t (Copy a) n k (atom_nets a) has less each
  assigned t (Not a) n k has less each of_array = plain t (Not a) n k (atom_nets a) has less each
  assigned t (Binary o a b) n k has less each of_array = plain t (Binary o a b) n k (both_nets (atom_reads a) (atom_reads b) (atom_nets a) (atom_nets b)) has less each
  assigned t (Choose c a b) n k has less each of_array = plain t (Choose c a b) n k (both_nets (atom_reads c ++ atom_reads a) (atom_reads b) (both_nets (atom_reads c) (atom_reads a) (atom_nets c) (atom_nets a)) (atom_nets b)) has less each
  assigned t (Join a b) n k has less each of_array = plain t (Join a b) n k (both_nets (atom_reads a) (atom_reads b) (atom_nets a) (atom_nets b)) has less each
  assigned t (Repeat m a) n k has less each of_array = plain t (Repeat m a) n k (atom_nets a) has less each
  assigned t (Bit x i) n k has less each of_array = plain t (Bit x i) n k (atom_nets (atom.Net x)) has less each
  assigned t (Slice x top low) n k has less each of_array = plain t (Slice x top low) n k (atom_nets (atom.Net x)) has less each
  assigned t (Word x i) n k (s, at, read) less each of_array =
      read_at t x i s n k at read (of_array x (0, (let h : 0 < length (right_reads (Word x i)) = omega arith in h), refl)) less
      (λ y (j, lt, e). each y (suc j, (let h : suc j < length (right_reads (Word x i)) = omega (arith, lt) in h), e))

  pub packed_within : (n : ℕ) (t : Net) → IsWithin old base n (OfNet t) → IsWithin new wide n (OfNet t)
  packed_within n t (by_itself h) = by_itself (nets t h)
  packed_within n t (by_assign a k at e less reads) =
      subst (IsWithin new wide n) e
      (assigned a.target a.right n k (All-contains (λ (x : Assign). IsAssigned new slots x.target x.right) old.assigns a is.assigns at) less (λ x c. packed_within k x (reads (OfNet x) c)) (λ x c. in_base k x (reads (OfArray x) c)))

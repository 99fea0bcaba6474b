-- Which arrays the assigns of a growing netlist read.
use Rattle.std.proofs.Common.{◌≡◌, ◌⊎◌, ℕ, zero, suc, ◌≤◌, ◌==◌, Bool, List, [], ◌∷◌, ◌++◌, ◌||◌, length, Some, refl, sym, ap, subst, ◌∙◌, inl, inr, arith}
use Rattle.std.specs.Prelude.{slice_get, Contains, IsTrue, false}
use Rattle.std.proofs.lemmas.Option.{slice_get_within, slice_get_cases, same_Some}
use Rattle.std.proofs.lemmas.List.Elements.{Contains-append_cases}
use Rattle.wiring.specs.declared.right.Atom.{Atom}
use Rattle.wiring.specs.declared.right.Atom.TheVariants as atom
use Rattle.wiring.specs.declared.right.Right.{Right}
use Rattle.wiring.specs.declared.right.Right.TheVariants.{Copy, Not, Binary, Choose, Join, Repeat, Bit, Slice, Word}
use Rattle.wiring.specs.declared.netlist.Net.{Net}
use Rattle.wiring.specs.declared.netlist.Net.TheVariants.{Wire}
use Rattle.wiring.specs.declared.netlist.Holder.TheVariants.{OfNet, OfArray}
use Rattle.wiring.specs.declared.netlist.Assign.{Assign}
use Rattle.wiring.specs.Netlist.{Netlist}
use Rattle.wiring.specs.BufferBits.{atom_reads, right_reads}
use Rattle.wiring.specs.Snapshot.{right_accesses}
use Rattle.net_build.specs.Includes.{Includes}
use Rattle.net_build.specs.Draft.{with_wire, with_outputs, output_assign, output_assigns}
use Rattle.net_build.specs.Control.{AddsReads, AddsNoReads, reads_array}
use Rattle.net_build.proofs.Parts.{at_Begins}
use Rattle.net_build.proofs.Drafts.{append_at}
use Rattle.wiring.proofs.Search.{at_push}

-- no assign more reads nothing
pub reads_none : (new old : Netlist) (arrays : ℕ → Bool) → new.assigns ≡ old.assigns → AddsReads new old arrays
reads_none new old arrays e = record { each = λ k a low at x c. absurd (omega (arith, low, slice_get_within new.assigns k a at, ap length e)) }

abbrev ReadsIn : (ℕ → Bool) → Right Net ℕ → Type 0
ReadsIn arrays r = (x : ℕ) → Contains (right_reads r) (OfArray x) → IsTrue (arrays x)

pub reads_op : (old new : Netlist) (r : Right Net ℕ) (arrays : ℕ → Bool) → (new ≡ old) ⊎ (new ≡ with_wire old r) → ReadsIn arrays r → AddsReads new old arrays
reads_op old new r arrays (inl e) reads = reads_none new old arrays (ap (λ (n : Netlist). n.assigns) e)
reads_op old new r arrays (inr e) reads = subst (λ (n : Netlist). AddsReads n old arrays) (sym e) (record { each = each })
  where
    each : (k : ℕ) (a : Assign) → length old.assigns ≤ k → slice_get (with_wire old r).assigns k ≡ Some a → (x : ℕ) → Contains (right_reads a.right) (OfArray x) → IsTrue (arrays x)
    each k a low at x c =
        elim (at_push old.assigns (record { target = Wire (length old.wires); right = r }) a k at) as (λ _. IsTrue (arrays x)) [
          | inl h ↦ absurd (omega (arith, low, slice_get_within old.assigns k a h))
          | inr h ↦ reads x (subst (λ (z : Assign). Contains (right_reads z.right) (OfArray x)) (sym h.1) c)
        ]

pub reads_joined : (c b a : Netlist) (arrays : ℕ → Bool) → Includes c b → AddsReads c b arrays → AddsReads b a arrays → AddsReads c a arrays
reads_joined c b a arrays f later earlier = record {
  each = λ k z low at x h. elim (slice_get_cases b.assigns k).1 as (λ _. IsTrue (arrays x)) [
    | inl y ↦ (let same : y.0 ≡ z = same_Some y.0 z (sym (at_Begins b.assigns c.assigns k y.0 f.assigns y.2) ∙ at) in earlier.each k z low (subst (λ (w : Assign). slice_get b.assigns k ≡ Some w) same y.2) x h)
    | inr past ↦ later.each k z past.0 at x h
  ];
}

-- only a read of a word reads an array
atom_nets_alone : (a : Atom Net) (x : ℕ) → Contains (atom_reads a) (OfArray x) → ⊥
atom_nets_alone (atom.Net n) x (zero, l, e) = (let f : OfNet n ≡ OfArray x = e in cc)
atom_nets_alone (atom.Net n) x (suc k, l, e) = absurd (omega (arith, l))
atom_nets_alone (atom.Constant c) x (k, l, e) = absurd (omega (arith, l))

two_alone : (a b : Atom Net) (x : ℕ) → Contains (atom_reads a ++ atom_reads b) (OfArray x) → ⊥
two_alone a b x c = elim (Contains-append_cases (atom_reads a) (atom_reads b) (OfArray x) c) as (λ _. ⊥) [ inl h ↦ atom_nets_alone a x h | inr h ↦ atom_nets_alone b x h ]

pub nets_alone : (r : Right Net ℕ) → right_accesses r ≡ [] → (x : ℕ) → Contains (right_reads r) (OfArray x) → ⊥
nets_alone (Copy a) e x c = atom_nets_alone a x c
nets_alone (Not a) e x c = atom_nets_alone a x c
nets_alone (Binary o a b) e x c = two_alone a b x c
nets_alone (Choose i a b) e x c = elim (Contains-append_cases (atom_reads i ++ atom_reads a) (atom_reads b) (OfArray x) c) as (λ _. ⊥) [ inl h ↦ two_alone i a x h | inr h ↦ atom_nets_alone b x h ]
nets_alone (Join a b) e x c = two_alone a b x c
nets_alone (Repeat n a) e x c = atom_nets_alone a x c
nets_alone (Bit v k) e x c = atom_nets_alone (atom.Net v) x c
nets_alone (Slice v h l) e x c = atom_nets_alone (atom.Net v) x c
nets_alone (Word m i) e x c = cc

pub reads_nets : (old new : Netlist) (r : Right Net ℕ) (arrays : ℕ → Bool) → (new ≡ old) ⊎ (new ≡ with_wire old r) → right_accesses r ≡ [] → AddsReads new old arrays
reads_nets old new r arrays ok e = reads_op old new r arrays ok (λ x c. absurd (nets_alone r e x c))

pub reads_word : (old new : Netlist) (m : ℕ) (i : Atom Net) (arrays : ℕ → Bool) → (new ≡ old) ⊎ (new ≡ with_wire old (Word m i)) → IsTrue (arrays m) → AddsReads new old arrays
reads_word old new m i arrays ok is = reads_op old new (Word m i) arrays ok by
  where
    by : (x : ℕ) → Contains (OfArray m ∷ atom_reads i) (OfArray x) → IsTrue (arrays x)
    by x (zero, l, e) = subst (λ (y : ℕ). IsTrue (arrays y)) (let f : OfArray m ≡ OfArray x = e in let g : m ≡ x = cc in g) is
    by x (suc k, l, e) = absurd (atom_nets_alone i x (k, omega (arith, l), e))

-- a right side reads the arrays that it reads
abbrev Own : Right Net ℕ → Type 0
Own r = ReadsIn (reads_array r) r

reads_own : (r : Right Net ℕ) → Own r
reads_own (Copy a) x c = absurd (nets_alone (Copy a) refl x c)
reads_own (Not a) x c = absurd (nets_alone (Not a) refl x c)
reads_own (Binary o a b) x c = absurd (nets_alone (Binary o a b) refl x c)
reads_own (Choose i a b) x c = absurd (nets_alone (Choose i a b) refl x c)
reads_own (Join a b) x c = absurd (nets_alone (Join a b) refl x c)
reads_own (Repeat n a) x c = absurd (nets_alone (Repeat n a) refl x c)
reads_own (Bit v k) x c = absurd (nets_alone (Bit v k) refl x c)
reads_own (Slice v h l) x c = absurd (nets_alone (Slice v h l) refl x c)
reads_own (Word m i) x (zero, l, e) = itself m x (let f : OfArray m ≡ OfArray x = e in let g : m ≡ x = cc in g)
  where
    itself : (m x : ℕ) → m ≡ x → IsTrue ((m == x) || false)
    itself m x e = grind arith
reads_own (Word m i) x (suc k, l, e) = absurd (atom_nets_alone i x (k, omega (arith, l), e))

pub op_reads : (old self new : Netlist) (r : Right Net ℕ) → old ≡ self → (new ≡ old) ⊎ (new ≡ with_wire old r) → AddsReads new self (reads_array r)
op_reads old self new r same ok = subst (λ (n : Netlist). AddsReads new n (reads_array r)) same (reads_op old new r (reads_array r) ok (reads_own r))

-- no output reads an array
pub outputs_read : (b : Netlist) (sources : List Net) → AddsNoReads (with_outputs b sources) b
outputs_read b sources = record { each = each }
  where
    copies : (k : ℕ) (ns : List Net) (i : ℕ) (a : Assign) → slice_get (output_assigns k ns) i ≡ Some a → right_accesses a.right ≡ []
    copies k [] i a e = cc
    copies k (n ∷ ns) zero a e = ap (λ (z : Assign). right_accesses z.right) (sym (same_Some (output_assign k n) a e))
    copies k (n ∷ ns) (suc i) a e = copies (suc k) ns i a e

    each : (k : ℕ) (a : Assign) → length b.assigns ≤ k → slice_get (with_outputs b sources).assigns k ≡ Some a → (x : ℕ) → Contains (right_reads a.right) (OfArray x) → IsTrue false
    each k a low at x c =
        elim (append_at b.assigns (output_assigns 0 sources) k a at) as (λ _. IsTrue false) [
          | inl h ↦ absurd (omega (arith, low, slice_get_within b.assigns k a h))
          | inr h ↦ absurd (nets_alone a.right (copies 0 sources h.0 a h.2) x c)
        ]

pub reads_weaker : (new old : Netlist) (arrays wider : ℕ → Bool) → ((x : ℕ) → IsTrue (arrays x) → IsTrue (wider x)) → AddsReads new old arrays → AddsReads new old wider
reads_weaker new old arrays wider up is = record { each = λ k a low at x c. up x (is.each k a low at x c) }

pub none_reads : (new old : Netlist) (arrays : ℕ → Bool) → AddsNoReads new old → AddsReads new old arrays
none_reads new old arrays is = reads_weaker new old (λ x. false) arrays (λ x h. (let g : IsTrue false = h in cc)) is

-- At which indices an array is read and put, as a netlist grows.
use Rattle.std.proofs.Common.{◌≡◌, ◌≢◌, ℕ, zero, suc, ◌+◌, ◌≤◌, ◌==◌, Bool, true, false, List, [], ◌∷◌, ◌++◌, length, Some, refl, sym, ap, subst, ◌∙◌, inl, inr, arith, append-nil, append_assoc}
use Rattle.std.specs.Prelude.{slice_get, Contains, IsTrue, if◌then◌else◌}
use Rattle.std.proofs.lemmas.Bool.{cases_eq}
use Rattle.std.proofs.lemmas.Option.{slice_get_within}
use Rattle.wiring.specs.declared.right.Atom.{Atom}
use Rattle.wiring.specs.declared.right.Right.{Right}
use Rattle.wiring.specs.declared.right.Right.TheVariants.{Copy, Not, Binary, Choose, Join, Repeat, Bit, Slice, Word}
use Rattle.wiring.specs.declared.netlist.Net.{Net}
use Rattle.wiring.specs.declared.netlist.Net.TheVariants.{Wire}
use Rattle.wiring.specs.declared.netlist.Holder.TheVariants.{OfArray}
use Rattle.wiring.specs.declared.netlist.Assign.{Assign}
use Rattle.wiring.specs.declared.netlist.Update.{Update}
use Rattle.wiring.specs.declared.netlist.Update.TheVariants.{Set, Put}
use Rattle.wiring.specs.BufferBits.{right_reads}
use Rattle.wiring.specs.Netlist.{Netlist, update_target}
use Rattle.wiring.specs.Rules.{AssignIsSound, ArrayIsDeclared}
use Rattle.wiring.specs.Snapshot.{right_accesses, update_accesses, accesses_of}
use Rattle.wiring.proofs.Lists.{All-at}
use Rattle.net_build.specs.Includes.{Includes}
use Rattle.net_build.specs.Draft.{IsDraft, IsFree, HasUpdate, UpdatesDiffer, with_wire, with_update}
use Rattle.net_build.specs.Control.{AddsReads}
use Rattle.net_build.proofs.Drafts.{append_behind}
use Rattle.net_build.proofs.Parts.{at_Begins}
use Rattle.net_build.specs.Indices.{indices_of, read_indices, put_indices}

yes_eq : (a b : ℕ) → a ≡ b → (a == b) ≡ true
yes_eq a b h = grind arith

no_eq : (a b : ℕ) → a ≢ b → (a == b) ≡ false
no_eq a b h = grind arith

indices-append : (x : ℕ) (xs ys : List (ℕ × Atom Net)) → indices_of x (xs ++ ys) ≡ indices_of x xs ++ indices_of x ys
indices-append x [] ys = refl
indices-append x (a ∷ xs) ys = by (a.0 == x) (indices-append x xs ys)
  where
    by : (h : Bool) → indices_of x (xs ++ ys) ≡ indices_of x xs ++ indices_of x ys → (if h then a.1 ∷ indices_of x (xs ++ ys) else indices_of x (xs ++ ys)) ≡ (if h then a.1 ∷ indices_of x xs else indices_of x xs) ++ indices_of x ys
    by true e = ap (λ (l : List (Atom Net)). a.1 ∷ l) e
    by false e = e

of-append : {X : Type 0} (f : X → List (ℕ × Atom Net)) (xs ys : List X) → accesses_of f (xs ++ ys) ≡ accesses_of f xs ++ accesses_of f ys
of-append f [] ys = refl
of-append f (x ∷ xs) ys = ap (λ l. f x ++ l) (of-append f xs ys) ∙ sym (append_assoc (f x) (accesses_of f xs) (accesses_of f ys))

-- elements that have no access to the array
none_of : {X : Type 0} (f : X → List (ℕ × Atom Net)) (x : ℕ) (xs : List X) → ((k : ℕ) (y : X) → slice_get xs k ≡ Some y → indices_of x (f y) ≡ []) → indices_of x (accesses_of f xs) ≡ []
none_of f x [] none = refl
none_of f x (y ∷ xs) none = indices-append x (f y) (accesses_of f xs) ∙ ap (λ (l : List (Atom Net)). l ++ indices_of x (accesses_of f xs)) (none 0 y refl) ∙ none_of f x xs (λ k z at. none (suc k) z at)

-- a right side that does not read the array
not_read : (x : ℕ) (r : Right Net ℕ) → (Contains (right_reads r) (OfArray x) → ⊥) → indices_of x (right_accesses r) ≡ []
not_read x (Copy a) h = refl
not_read x (Not a) h = refl
not_read x (Binary o a b) h = refl
not_read x (Choose c a b) h = refl
not_read x (Join a b) h = refl
not_read x (Repeat n a) h = refl
not_read x (Bit v k) h = refl
not_read x (Slice v m l) h = refl
not_read x (Word m i) h =
    elim (cases_eq m x) as (λ _. (if m == x then i ∷ [] else []) ≡ []) [
      | inl same ↦ absurd (h (zero, omega arith, ap (λ (y : ℕ). OfArray y) same))
      | inr other ↦ ap (λ (b : Bool). if b then i ∷ [] else []) (no_eq m x other)
    ]

abbrev right_of : Assign → List (ℕ × Atom Net)
right_of a = right_accesses a.right

never : IsTrue false → ⊥
never h = cc

-- further assigns that do not read it
pub reads_last : (new old : Netlist) (arrays : ℕ → Bool) (x : ℕ) → Includes new old → AddsReads new old arrays → arrays x ≡ false → read_indices new x ≡ read_indices old x
reads_last new old arrays x f adds apart =
    let rest : List Assign = f.assigns.0 in
    let none : indices_of x (accesses_of right_of rest) ≡ [] =
    none_of right_of x rest (λ k a at. not_read x a.right (λ c. never (subst IsTrue apart (adds.each (length old.assigns + k) a (omega arith) (subst (λ (l : List Assign). slice_get l (length old.assigns + k) ≡ Some a) (sym f.assigns.1) (append_behind old.assigns rest k a at)) x c)))) in
    ap (λ (l : List Assign). indices_of x (accesses_of right_of l)) f.assigns.1
    ∙ ap (indices_of x) (of-append right_of old.assigns rest)
    ∙ indices-append x (accesses_of right_of old.assigns) (accesses_of right_of rest)
    ∙ ap (λ (l : List (Atom Net)). read_indices old x ++ l) none
    ∙ append-nil (read_indices old x)

-- no assign of a draft reads an array that it has not
pub unread : (b : Netlist) (x : ℕ) → IsDraft b → length b.arrays ≤ x → read_indices b x ≡ []
unread b x draft past = none_of right_of x b.assigns (λ k a at. not_declared a.right (All-at (AssignIsSound b) b.assigns k a draft.sound at).right.array)
  where
    not_declared : (r : Right Net ℕ) → ArrayIsDeclared b r → indices_of x (right_accesses r) ≡ []
    not_declared (Copy a) h = refl
    not_declared (Not a) h = refl
    not_declared (Binary o a c) h = refl
    not_declared (Choose i a c) h = refl
    not_declared (Join a c) h = refl
    not_declared (Repeat n a) h = refl
    not_declared (Bit v k) h = refl
    not_declared (Slice v m l) h = refl
    not_declared (Word m i) h = ap (λ (t : Bool). if t then i ∷ [] else []) (no_eq m x (λ e. omega (arith, h, e, past)))

-- one read more
pub read_more : (b : Netlist) (x : ℕ) (i : Atom Net) → read_indices (with_wire b (Word x i)) x ≡ read_indices b x ++ i ∷ []
read_more b x i =
    let a : Assign = record { target = Wire (length b.wires); right = Word x i } in
    ap (indices_of x) (of-append right_of b.assigns (a ∷ []))
    ∙ indices-append x (accesses_of right_of b.assigns) (accesses_of right_of (a ∷ []))
    ∙ ap (λ (t : Bool). read_indices b x ++ (if t then i ∷ [] else [])) (yes_eq x x refl)

-- no update puts a free array
pub unput : (b : Netlist) (x : ℕ) → IsFree b (OfArray x) → put_indices b x ≡ []
unput b x free = none_of update_accesses x b.updates (λ k u at. apart u (free k u at))
  where
    apart : (u : Update) → update_target u ≢ OfArray x → indices_of x (update_accesses u) ≡ []
    apart (Set r a) h = refl
    apart (Put y i a) h = ap (λ (t : Bool). if t then i ∷ [] else []) (no_eq y x (λ e. h (ap (λ (z : ℕ). OfArray z) e)))

-- one put more
pub put_more : (b : Netlist) (x : ℕ) (i a : Atom Net) → put_indices (with_update b (Put x i a)) x ≡ put_indices b x ++ i ∷ []
put_more b x i a =
    ap (indices_of x) (of-append update_accesses b.updates (Put x i a ∷ []))
    ∙ indices-append x (accesses_of update_accesses b.updates) (accesses_of update_accesses (Put x i a ∷ []))
    ∙ ap (λ (t : Bool). put_indices b x ++ (if t then i ∷ [] else [])) (yes_eq x x refl)

-- further updates that do not put it
pub puts_behind : (new old : Netlist) (x : ℕ) → Includes new old → ((k : ℕ) (u : Update) → length old.updates ≤ k → slice_get new.updates k ≡ Some u → update_target u ≢ OfArray x) → put_indices new x ≡ put_indices old x
puts_behind new old x f apart =
    let rest : List Update = f.updates.0 in
    let none : indices_of x (accesses_of update_accesses rest) ≡ [] =
    none_of update_accesses x rest (λ k u at. other u (apart (length old.updates + k) u (omega arith) (subst (λ (l : List Update). slice_get l (length old.updates + k) ≡ Some u) (sym f.updates.1) (append_behind old.updates rest k u at)))) in
    ap (λ (l : List Update). indices_of x (accesses_of update_accesses l)) f.updates.1
    ∙ ap (indices_of x) (of-append update_accesses old.updates rest)
    ∙ indices-append x (accesses_of update_accesses old.updates) (accesses_of update_accesses rest)
    ∙ ap (λ (l : List (Atom Net)). put_indices old x ++ l) none
    ∙ append-nil (put_indices old x)
  where
    other : (u : Update) → update_target u ≢ OfArray x → indices_of x (update_accesses u) ≡ []
    other (Set r a) h = refl
    other (Put y i a) h = ap (λ (t : Bool). if t then i ∷ [] else []) (no_eq y x (λ e. h (ap (λ (z : ℕ). OfArray z) e)))

-- where it has its update, no further one puts it
pub puts_last : (new old : Netlist) (x : ℕ) → Includes new old → UpdatesDiffer new.updates → HasUpdate old (OfArray x) → put_indices new x ≡ put_indices old x
puts_last new old x f differ has =
    let early : slice_get new.updates has.0 ≡ Some has.1 = at_Begins old.updates new.updates has.0 has.1 f.updates has.2 in
    puts_behind new old x f (λ k u low at is. let same : has.0 ≡ k = differ has.0 k has.1 u early at (has.3 ∙ sym is) in omega (arith, same, low, slice_get_within old.updates has.0 has.1 has.2))

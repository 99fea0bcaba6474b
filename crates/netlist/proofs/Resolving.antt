-- Statements by what their names denote.
use Rattle.std.proofs.Common.{◌≡◌, ℕ, suc, ◌+◌, ◌<◌, ◌≤◌, ◌&&◌, append_assoc, Bool, true, false, List, [], ◌∷◌, ◌++◌, length, take, refl, ap, subst, sym, ◌∙◌, inl, inr, arith, Option, Some, None}
use Rattle.std.specs.Prelude.{slice_get, is_some, IsSome, All}
use Rattle.std.specs.Option.{option_to_list}
use Rattle.std.proofs.lemmas.Bool.{cases_lt}
use Rattle.std.proofs.lemmas.List.Elements.{All-nil, All-cons}
use Rattle.std.proofs.lemmas.Option.{slice_get_within, same_Some}
use Rattle.wiring.specs.declared.right.Atom.{Atom}
use Rattle.wiring.specs.declared.right.Atom.TheVariants as atom
use Rattle.wiring.specs.declared.right.Right.{Right}
use Rattle.wiring.specs.declared.right.Right.TheVariants.{Copy, Not, Binary, Choose, Join, Repeat, Bit, Slice, Word}
use Rattle.wiring.specs.declared.netlist.Net.{Net}
use Rattle.wiring.specs.declared.netlist.Assign.{Assign}
use Rattle.wiring.specs.declared.netlist.Update.{Update}
use Rattle.wiring.specs.declared.netlist.Update.TheVariants.{Set, Put}
use Rattle.wiring.specs.Rights.{nets_of, atom_nets}
use Rattle.wiring.proofs.Lists.{All-from_at, at_one}
use Rattle.wiring.proofs.Tabled.{take_step}
use Rattle.netlist.specs.declared.parts.NamedAssign.{NamedAssign}
use Rattle.netlist.specs.declared.parts.NamedUpdate.{NamedUpdate}
use Rattle.netlist.specs.declared.parts.NamedUpdate.TheVariants.{Set as NamedSet, Put as NamedPut}
use Rattle.netlist.specs.Scopes.{Meaning, Entry, stands_for, as_net, as_array, net_named, array_named, atom_named, right_named, assign_named, update_named, reg_of_net, collected}
use Rattle.netlist.specs.Faults.{AllKnown, array_names, assign_names, update_names}
use Rattle.netlist.specs.Statements.{all_known, IsOfDrivenSort}
use Rattle.netlist.proofs.Scoped.{one_part, two_parts, three_parts}

module _ (scope : List Entry) where
  abbrev Known : List (List ℕ) → Type 0
  Known names = all_known scope names ≡ true

  known_all : (names : List (List ℕ)) → Known names → AllKnown scope names
  known_all [] e = All-nil (λ (n : List ℕ). IsSome (stands_for scope n))
  known_all (n ∷ names) e = by (is_some (stands_for scope n)) refl e (λ f. known_all names f)
    where
      by : (t : Bool) → is_some (stands_for scope n) ≡ t → (t && all_known scope names) ≡ true → (Known names → AllKnown scope names) → AllKnown scope (n ∷ names)
      by true is f later = All-cons (λ (n : List ℕ). IsSome (stands_for scope n)) n names is (later f)
      by false is f later = absurd (let g : false ≡ true = f in cc)

  all_of_known : (names : List (List ℕ)) → AllKnown scope names → Known names
  all_of_known [] h = refl
  all_of_known (n ∷ names) h =
      ap (λ (t : Bool). t && all_known scope names) (h 0 n (omega arith)) ∙ all_of_known names (λ k d l. h (suc k) d (omega (arith, l)))

  known_append : (xs ys : List (List ℕ)) → Known xs → Known ys → Known (xs ++ ys)
  known_append [] ys e f = f
  known_append (n ∷ xs) ys e f = by (is_some (stands_for scope n)) e (λ g. known_append xs ys g f)
    where
      by : (t : Bool) → (t && all_known scope xs) ≡ true → (Known xs → Known (xs ++ ys)) → (t && all_known scope (xs ++ ys)) ≡ true
      by true g later = later g
      by false g later = absurd (let h : false ≡ true = g in cc)

  net_known : (o : Option Meaning) (n : Net) → as_net o ≡ Some n → is_some o ≡ true
  net_known None n e = absurd (let g : None ≡ Some n = e in cc)
  net_known (Some x) n e = refl

  array_known : (o : Option Meaning) (x : ℕ) → as_array o ≡ Some x → is_some o ≡ true
  array_known None x e = absurd (let g : None ≡ Some x = e in cc)
  array_known (Some y) x e = refl

  one_known : (name : List ℕ) → is_some (stands_for scope name) ≡ true → Known (name ∷ [])
  one_known name e = ap (λ (t : Bool). t && true) e

  named_net : (name : List ℕ) (n : Net) → net_named scope name ≡ Some n → Known (name ∷ [])
  named_net name n e = one_known name (net_known (stands_for scope name) n e)

  named_array : (name : List ℕ) (x : ℕ) → array_named scope name ≡ Some x → Known (name ∷ [])
  named_array name x e = one_known name (array_known (stands_for scope name) x e)

  named_atom : (a : Atom (List ℕ)) (b : Atom Net) → atom_named scope a ≡ Some b → Known (atom_nets a)
  named_atom (atom.Net name) b e = let r = one_part (λ (n : Net). atom.Net n) (net_named scope name) b e in named_net name r.0 r.1
  named_atom (atom.Constant c) b e = refl

  named_right : (r : Right (List ℕ) (List ℕ)) (q : Right Net ℕ) → right_named scope r ≡ Some q → Known (array_names r ++ nets_of r)
  named_right (Copy a) q e = let s = one_part (λ (x : Atom Net). Copy x) (atom_named scope a) q e in named_atom a s.0 s.1
  named_right (Not a) q e = let s = one_part (λ (x : Atom Net). Not x) (atom_named scope a) q e in named_atom a s.0 s.1
  named_right (Binary o a b) q e =
      let s = two_parts (λ (x y : Atom Net). Binary o x y) (atom_named scope a) (atom_named scope b) q e in
      known_append (atom_nets a) (atom_nets b) (named_atom a s.0 s.2) (named_atom b s.1 s.3)
  named_right (Choose c a b) q e =
      let s = three_parts (λ (x y z : Atom Net). Choose x y z) (atom_named scope c) (atom_named scope a) (atom_named scope b) q e in
      known_append (atom_nets c ++ atom_nets a) (atom_nets b) (known_append (atom_nets c) (atom_nets a) (named_atom c s.0 s.3) (named_atom a s.1 s.4)) (named_atom b s.2 s.5)
  named_right (Join a b) q e =
      let s = two_parts (λ (x y : Atom Net). Join x y) (atom_named scope a) (atom_named scope b) q e in
      known_append (atom_nets a) (atom_nets b) (named_atom a s.0 s.2) (named_atom b s.1 s.3)
  named_right (Repeat n a) q e = let s = one_part (λ (x : Atom Net). Repeat n x) (atom_named scope a) q e in named_atom a s.0 s.1
  named_right (Bit v k) q e = let s = one_part (λ (n : Net). Bit n k) (net_named scope v) q e in named_net v s.0 s.1
  named_right (Slice v h l) q e = let s = one_part (λ (n : Net). Slice n h l) (net_named scope v) q e in named_net v s.0 s.1
  named_right (Word x i) q e =
      let s = two_parts (λ (y : ℕ) (z : Atom Net). Word y z) (array_named scope x) (atom_named scope i) q e in
      known_append (x ∷ []) (atom_nets i) (named_array x s.0 s.2) (named_atom i s.1 s.3)

  -- an assign that denotes one has known names
  pub assign_known : (a : NamedAssign) (b : Assign) → assign_named scope a ≡ Some b → AllKnown scope (assign_names a)
  assign_known a b e =
      let s = two_parts (λ (t : Net) (q : Right Net ℕ). let x : Assign = record { target = t; right = q } in x) (net_named scope a.target) (right_named scope a.right) b e in
      known_all (assign_names a) (known_append (a.target ∷ []) (array_names a.right ++ nets_of a.right) (named_net a.target s.0 s.2) (named_right a.right s.1 s.3))

  -- where the target of the one assign is of another sort, no assign is right
  pub sort_is_wrong : (a : NamedAssign) (b : Assign) → assign_named scope a ≡ Some b → (IsOfDrivenSort b.target → ⊥) → AllKnown scope (assign_names a) × ((c : Assign) → assign_named scope a ≡ Some c → IsOfDrivenSort c.target → ⊥)
  sort_is_wrong a b e wrong = (assign_known a b e, λ c f driven. wrong (subst (λ (x : Assign). IsOfDrivenSort x.target) (same_Some c b (sym f ∙ e)) driven))

  reg_net : (o : Option Net) (x : ℕ) → reg_of_net o ≡ Some x → (n : Net) × (o ≡ Some n)
  reg_net None x e = absurd (let g : None ≡ Some x = e in cc)
  reg_net (Some n) x e = (n, refl)

  pub update_known : (u : NamedUpdate) (v : Update) → update_named scope u ≡ Some v → AllKnown scope (update_names u)
  update_known (NamedSet r a) v e =
      let s = two_parts (λ (x : ℕ) (y : Atom Net). Set x y) (reg_of_net (net_named scope r)) (atom_named scope a) v e in
      let n = reg_net (net_named scope r) s.0 s.2 in
      known_all (r ∷ atom_nets a) (known_append (r ∷ []) (atom_nets a) (named_net r n.0 n.1) (named_atom a s.1 s.3))
  update_known (NamedPut m i a) v e =
      let s = three_parts (λ (x : ℕ) (y z : Atom Net). Put x y z) (array_named scope m) (atom_named scope i) (atom_named scope a) v e in
      known_all (m ∷ (atom_nets i ++ atom_nets a)) (known_append (m ∷ []) (atom_nets i ++ atom_nets a) (named_array m s.0 s.3) (known_append (atom_nets i) (atom_nets a) (named_atom i s.1 s.4) (named_atom a s.2 s.5)))

pub collected-append : {X Y : Type 0} (f : X → Option Y) (xs : List X) (x : X) → collected f (xs ++ x ∷ []) ≡ collected f xs ++ option_to_list (f x)
collected-append f [] x = step (f x)
  where
    step : {Y : Type 0} (o : Option Y) → option_to_list o ++ [] ≡ option_to_list o
    step None = refl
    step (Some y) = refl
collected-append f (z ∷ xs) x = ap (λ l. option_to_list (f z) ++ l) (collected-append f xs x) ∙ sym (append_assoc (option_to_list (f z)) (collected f xs) (option_to_list (f x)))

-- one item more
pub collected_step : {X Y : Type 0} (f : X → Option Y) (xs : List X) (k : ℕ) (x : X) (old new : List Y) → slice_get xs k ≡ Some x → old ≡ collected f (take k xs) → new ≡ old ++ option_to_list (f x) → new ≡ collected f (take (k + 1) xs)
collected_step f xs k x old new at is more =
    more ∙ ap (λ l. l ++ option_to_list (f x)) is ∙ sym (ap (λ l. collected f l) (take_step xs k x at) ∙ collected-append f (take k xs) x)

-- what holds of each before k
abbrev pub Before : {X : Type 0} → (X → Type 0) → List X → ℕ → Type 0
Before {X} P xs k = (j : ℕ) (x : X) → j < k → slice_get xs j ≡ Some x → P x

pub before_step : {X : Type 0} (P : X → Type 0) (xs : List X) (k : ℕ) (x : X) → slice_get xs k ≡ Some x → P x → Before P xs k → Before P xs (k + 1)
before_step P xs k x at here before j y l at_j =
    elim (cases_lt j k) as (λ _. P y) [
      | inl less ↦ before j y less at_j
      | inr up ↦ let e : j ≡ k = omega (arith, l, up) in subst P (at_one xs k x y at (subst (λ (n : ℕ). slice_get xs n ≡ Some y) e at_j)) here
    ]

pub before_end : {X : Type 0} (P : X → Type 0) (xs : List X) (k : ℕ) → length xs ≤ k → Before P xs k → All P xs
before_end P xs k l before = All-from_at P xs (λ j x at. before j x (omega (arith, l, slice_get_within xs j x at)) at)

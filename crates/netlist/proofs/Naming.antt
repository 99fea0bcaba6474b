-- The map of names as a scope.
use Rattle.std.proofs.Common.{◌≡◌, ℕ, zero, suc, ◌<◌, ◌&&◌, Bool, true, false, cond, nat_eq, List, [], ◌∷◌, ◌++◌, length, refl, ap, subst, sym, ◌∙◌, inl, inr, arith, Option, Some, None}
use Rattle.std.specs.Prelude.{slice_get, is_some, if◌then◌else◌}
use Rattle.std.specs.Borrow.{Bor}
use Rattle.std.specs.Cmp.Lexicographic.{pointwise}
use Rattle.std.specs.Map.{lookup}
use Rattle.std.specs.Option.{option_map}
use Rattle.std.proofs.lemmas.Bool.{eq-eqb}
use Rattle.std.proofs.lemmas.Bool.Decides.{eqb_tells}
use Rattle.std.proofs.lemmas.List.{map-append}
use Rattle.std.proofs.lemmas.Option.{slice_get_within, same_Some, none-some}
use Rattle.indexmap.specs.IndexMap.{insert_entry}
use Rattle.indexmap.proofs.MapLemmas.{insert_entry-absent, absent_from_lookup}
use Rattle.std.specs.Str.{bytes_eq}
use Rattle.std.proofs.lemmas.Slice.Eq.{bytes_eq-Decides}
use Rattle.wiring.proofs.Search.{at_push, last_push}
use Rattle.wiring.proofs.Lists.{slice_get-append}
use Rattle.netlist.specs.declared.scope.Stands.{Stands}
use Rattle.netlist.specs.declared.fault.Declared.{Declared}
use Rattle.netlist.specs.declared.fault.NetFault.TheVariants.{Duplicate}
use Rattle.netlist.specs.Names.{AreDistinct}
use Rattle.netlist.specs.Scopes.{Meaning, Entry, stands_for}
use Rattle.netlist.specs.Entries.{meaning_of, entries_in, names_in, IsTaken}

abbrev Entries : Type 0
Entries = List (Bor (List ℕ) × Stands)

eq_flip : (a b : ℕ) → nat_eq a b ≡ nat_eq b a
eq_flip a b =
    elim (eqb_tells a b) as (λ _. nat_eq a b ≡ nat_eq b a) [
      | inl p ↦ p.0 ∙ sym (eq-eqb b a (sym p.1))
      | inr p ↦ elim (eqb_tells b a) as (λ _. nat_eq a b ≡ nat_eq b a) [
        | inl q ↦ absurd (p.1 (sym q.1))
        | inr q ↦ p.0 ∙ sym q.0
      ]
    ]

same_flip : (a b : List ℕ) → pointwise nat_eq a b ≡ bytes_eq b a
same_flip [] [] = refl
same_flip [] (y ∷ b) = refl
same_flip (x ∷ a) [] = refl
same_flip (x ∷ a) (y ∷ b) = ap (λ (t : Bool). t && pointwise nat_eq a b) (eq_flip x y) ∙ ap (λ (t : Bool). nat_eq y x && t) (same_flip a b)

pub codes_same : (a : List ℕ) → bytes_eq a a ≡ true
codes_same a = (bytes_eq-Decides a a).1 refl

pub same_equal : (a b : List ℕ) → bytes_eq a b ≡ true → a ≡ b
same_equal a b e = (bytes_eq-Decides a b).0 e

-- what the map has for a name is what the scope has
pub found : (es : Entries) (name : List ℕ) → option_map meaning_of (lookup (λ (k : Bor (List ℕ)). pointwise nat_eq name k.now) es) ≡ stands_for (entries_in es) name
found [] name = refl
found (e ∷ es) name =
    step (pointwise nat_eq name e.0.now) e.1 (lookup (λ (k : Bor (List ℕ)). pointwise nat_eq name k.now) es)
    ∙ ap (λ (t : Bool). if t then Some (meaning_of e.1) else option_map meaning_of (lookup (λ (k : Bor (List ℕ)). pointwise nat_eq name k.now) es)) (same_flip name e.0.now)
    ∙ ap (λ (o : Option Meaning). if bytes_eq e.0.now name then Some (meaning_of e.1) else o) (found es name)
  where
    step : (t : Bool) (s : Stands) (o : Option Stands) → option_map meaning_of (cond t (Some s) o) ≡ (if t then Some (meaning_of s) else option_map meaning_of o)
    step true s o = refl
    step false s o = refl

-- a name that is there has a place
pub place_of : (scope : List Entry) (name : List ℕ) (x : Meaning) → stands_for scope name ≡ Some x → (j : ℕ) × (slice_get (names_in scope) j ≡ Some name)
place_of [] name x e = absurd (let f : None ≡ Some x = e in cc)
place_of (b ∷ scope) name x e = by (bytes_eq b.name name) refl e (λ f. place_of scope name x f)
  where
    by : (t : Bool) → bytes_eq b.name name ≡ t → (if t then Some b.meaning else stands_for scope name) ≡ Some x → (stands_for scope name ≡ Some x → (j : ℕ) × (slice_get (names_in scope) j ≡ Some name)) → (j : ℕ) × (slice_get (names_in (b ∷ scope)) j ≡ Some name)
    by true is f later = (zero, ap (λ (n : List ℕ). Some n) (same_equal b.name name is))
    by false is f later = let r = later f in (suc r.0, r.1)

pub no_place : (scope : List Entry) (name : List ℕ) (j : ℕ) → stands_for scope name ≡ None → slice_get (names_in scope) j ≡ Some name → ⊥
no_place [] name j e at = omega (arith, slice_get_within {A = List ℕ} [] j name at)
no_place (b ∷ scope) name j e at = by (bytes_eq b.name name) refl e j at (λ f k h. no_place scope name k f h)
  where
    by : (t : Bool) → bytes_eq b.name name ≡ t → (if t then Some b.meaning else stands_for scope name) ≡ None → (j : ℕ) → slice_get (names_in (b ∷ scope)) j ≡ Some name → (stands_for scope name ≡ None → (k : ℕ) → slice_get (names_in scope) k ≡ Some name → ⊥) → ⊥
    by true is f j at later = none-some b.meaning (sym f)
    by false is f zero at later =
        let g : b.name ≡ name = same_Some b.name name at in
        let h : false ≡ true = sym is ∙ ap (λ (n : List ℕ). bytes_eq n name) g ∙ codes_same name in
        cc
    by false is f (suc k) at later = later f k at

distinct_more : (xs : List (List ℕ)) (name : List ℕ) → AreDistinct xs → ((j : ℕ) → slice_get xs j ≡ Some name → ⊥) → AreDistinct (xs ++ name ∷ [])
distinct_more xs name differ new i j x at_i at_j =
    elim (at_push xs name x i at_i) as (λ _. i ≡ j) [
      | inl hi ↦ elim (at_push xs name x j at_j) as (λ _. i ≡ j) [
        | inl hj ↦ differ i j x hi hj
        | inr hj ↦ absurd (new i (hi ∙ ap (λ (n : List ℕ). Some n) (sym hj.1)))
      ]
      | inr hi ↦ elim (at_push xs name x j at_j) as (λ _. i ≡ j) [
        | inl hj ↦ absurd (new j (hj ∙ ap (λ (n : List ℕ). Some n) (sym hi.1)))
        | inr hj ↦ hi.0 ∙ sym hj.0
      ]
    ]

module _ (scope : List Entry) (es : Entries) (name : List ℕ) (view : entries_in es ≡ scope) where
  abbrev here : Option Stands
  here = lookup (λ (k : Bor (List ℕ)). pointwise nat_eq name k.now) es

  found_in : option_map meaning_of here ≡ stands_for scope name
  found_in = found es name ∙ ap (λ (s : List Entry). stands_for s name) view

  pub copied_named : (o : Option Stands) → o ≡ here → option_map meaning_of o ≡ stands_for scope name
  copied_named o e = ap (λ (x : Option Stands). option_map meaning_of x) e ∙ found_in

  none_of : (o : Option Stands) → is_some o ≡ false → None ≡ option_map meaning_of o
  none_of None e = refl
  none_of (Some s) e = absurd (let f : true ≡ false = e in cc)

  some_of : (o : Option Stands) → is_some o ≡ true → (s : Stands) × (Some (meaning_of s) ≡ option_map meaning_of o)
  some_of None e = absurd (let f : false ≡ true = e in cc)
  some_of (Some s) e = (s, refl)

  none_here : (o : Option Stands) → is_some o ≡ false → None ≡ o
  none_here None e = refl
  none_here (Some s) e = absurd (let f : true ≡ false = e in cc)

  none_in : is_some here ≡ false → stands_for scope name ≡ None
  none_in e = sym (none_of here e ∙ found_in)

  -- the name is there already
  pub taken : (declared : Declared) → AreDistinct (names_in (entries_in es)) → is_some here ≡ true → IsTaken scope name declared (Duplicate declared)
  taken declared distinct e =
      let differ : AreDistinct (names_in scope) = subst (λ (s : List Entry). AreDistinct (names_in s)) view distinct in
      let some = some_of here e in
      let earlier = place_of scope name (meaning_of some.0) (sym (some.1 ∙ found_in)) in
      let size : length (names_in scope) ≡ length scope = names_length scope in (
        refl,
        record {
          before = λ i j x y li lj at_i at_j same.
              differ i j y (subst (λ (n : List ℕ). slice_get (names_in scope) i ≡ Some n) same (front i x (omega (arith, li, size)) at_i)) (front j y (omega (arith, lj, size)) at_j);
          earlier = earlier.0;
          first = name;
          second = name;
          order = omega (arith, slice_get_within (names_in scope) earlier.0 name earlier.1, size);
          first_at = slice_get-append (names_in scope) (name ∷ []) earlier.0 name earlier.1;
          second_at = subst (λ (n : ℕ). slice_get (names_in scope ++ name ∷ []) n ≡ Some name) size (last_push (names_in scope) name);
          same = refl;
        },
      )
    where
      names_length : (s : List Entry) → length (names_in s) ≡ length s
      names_length [] = refl
      names_length (b ∷ s) = ap suc (names_length s)

      front : (i : ℕ) (x : List ℕ) → i < length (names_in scope) → slice_get (names_in scope ++ name ∷ []) i ≡ Some x → slice_get (names_in scope) i ≡ Some x
      front i x l at =
          elim (at_push (names_in scope) name x i at) as (λ _. slice_get (names_in scope) i ≡ Some x) [
            | inl h ↦ h
            | inr h ↦ absurd (omega (arith, h.0, l))
          ]

  module _ (key : Bor (List ℕ)) (stands : Stands) (same : key.now ≡ name) (fs : Entries) (new : is_some here ≡ false) (insertion : fs ≡ insert_entry (λ (a b : Bor (List ℕ)). pointwise nat_eq a.now b.now) es key stands) where
    absent : lookup (λ (k : Bor (List ℕ)). pointwise nat_eq key.now k.now) es ≡ None
    absent = ap (λ (n : List ℕ). lookup (λ (k : Bor (List ℕ)). pointwise nat_eq n k.now) es) same ∙ sym (none_here here new)

    pub added : entries_in fs ≡ scope ++ (record { name = name; meaning = meaning_of stands }) ∷ []
    added =
        ap entries_in (insertion ∙ insert_entry-absent (λ (a b : Bor (List ℕ)). pointwise nat_eq a.now b.now) key stands es (absent_from_lookup (λ (k : Bor (List ℕ)). pointwise nat_eq key.now k.now) es absent))
        ∙ map-append (λ (e : Bor (List ℕ) × Stands). let x : Entry = record { name = e.0.now; meaning = meaning_of e.1 } in x) es ((key, stands) ∷ [])
        ∙ ap (λ (s : List Entry). s ++ (record { name = key.now; meaning = meaning_of stands }) ∷ []) view
        ∙ ap (λ (n : List ℕ). scope ++ (record { name = n; meaning = meaning_of stands }) ∷ []) same

    pub still_distinct : AreDistinct (names_in (entries_in es)) → AreDistinct (names_in (entries_in fs))
    still_distinct distinct =
        let differ : AreDistinct (names_in scope) = subst (λ (s : List Entry). AreDistinct (names_in s)) view distinct in
        let whole : names_in (entries_in fs) ≡ names_in scope ++ name ∷ [] = ap names_in added ∙ map-append (λ (e : Entry). e.name) scope (record { name = name; meaning = meaning_of stands } ∷ []) in
        subst AreDistinct (sym whole) (distinct_more (names_in scope) name differ (λ j at. no_place scope name j (none_in new) at))

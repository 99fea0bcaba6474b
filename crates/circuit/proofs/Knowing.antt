-- Reads that are known by their keys.
use Rattle.std.proofs.Common.{◌≡◌, ◌⊎◌, ℕ, Bool, true, false, ◌&&◌, cond, nat_eq, map, List, [], ◌∷◌, refl, sym, ap, subst, ◌∙◌, inl, inr, arith, true≢false, Option, Some, None}
use Rattle.std.specs.Prelude.{Contains, IfSome, if◌then◌else◌}
use Rattle.std.specs.Map.{lookup}
use Rattle.std.specs.Cmp.Lexicographic.{pointwise}
use Rattle.std.proofs.lemmas.Bool.{and_parts, eqb-true}
use Rattle.std.proofs.lemmas.Bool.Decides.{Decides-int_eq}
use Rattle.std.proofs.Math.Bool.{beq}
use Rattle.std.specs.Ordering.{int_eq}
use Rattle.std.proofs.lemmas.Option.{same_Some}
use Rattle.std.proofs.lemmas.List.Elements.{Contains-get_or, Contains-append_right, Contains-append_cases, Contains-push_cases}
use Rattle.indexmap.specs.IndexMap.{insert_entry}
use Rattle.circuit.specs.declared.known.ReadKey.{ReadKey}
use Rattle.circuit.specs.declared.known.StepKey.{StepKey}
use Rattle.circuit.specs.contracts.known.ReadKeyPartialEq as keys
use Rattle.circuit.specs.contracts.known.StepKeyPartialEq as steps
use Rattle.circuit.specs.Leaves.{LeafRead}
use Rattle.circuit.specs.Known.{step_of, leaf_of, PlacedRead, placed_at, placed_in, IsAdded}

abbrev Entries : Type 0
Entries = List (ReadKey × ℕ)

first : {X : Type 0} (x : X) (xs : List X) → Contains (x ∷ xs) x
first x xs = Contains-get_or (x ∷ xs) 0 x (omega arith)

later : {X : Type 0} (y : X) (xs : List X) (x : X) → Contains xs x → Contains (y ∷ xs) x
later y xs x has = Contains-append_right (y ∷ []) xs x has

either : {X : Type 0} (y : X) (xs : List X) (x : X) → Contains (y ∷ xs) x → (y ≡ x) ⊎ Contains xs x
either y xs x has = elim (Contains-append_cases (y ∷ []) xs x has) as (λ _. (y ≡ x) ⊎ Contains xs x) [
  | inl one ↦ elim (Contains-push_cases [] y x one) as (λ _. (y ≡ x) ⊎ Contains xs x) [
    | inl (k, lt, e) ↦ absurd (let f : ⊥ = omega (arith, lt) in f)
    | inr e ↦ inl e
  ]
  | inr rest ↦ inr rest
]

-- where keys that the map takes for equal are of equal reads
module _ (eq : ReadKey → ReadKey → Bool) (same : (x y : ReadKey) → eq x y ≡ true → leaf_of x ≡ leaf_of y) where
  -- what the map has for a key is the place of the key's read
  pub found : (es : Entries) (key : ReadKey) (place : ℕ) → lookup (eq key) es ≡ Some place → Contains (placed_in es) (placed_at (leaf_of key) place)
  found [] key place is = absurd (let f : None ≡ Some place = is in cc)
  found (e ∷ es) key place is = by (eq key e.0) refl (λ at. found es key place at) is
    where
      by : (t : Bool) → eq key e.0 ≡ t → (lookup (eq key) es ≡ Some place → Contains (placed_in es) (placed_at (leaf_of key) place)) → cond t (Some e.1) (lookup (eq key) es) ≡ Some place → Contains (placed_in (e ∷ es)) (placed_at (leaf_of key) place)
      by true test rest at =
          subst (Contains (placed_in (e ∷ es))) (ap (λ l. placed_at l e.1) (sym (same key e.0 test)) ∙ ap (λ n. placed_at (leaf_of key) n) (same_Some e.1 place at)) (first (placed_at (leaf_of e.0) e.1) (placed_in es))
      by false test rest at = later (placed_at (leaf_of e.0) e.1) (placed_in es) (placed_at (leaf_of key) place) (rest at)

  abbrev IsOldOr : (es : Entries) (key : ReadKey) (place : ℕ) (r : PlacedRead) → Type 0
  IsOldOr es key place r = Contains (placed_in es) r ⊎ (r ≡ placed_at (leaf_of key) place)

  -- after a place is inserted the map has no other new one
  pub inserted : (es : Entries) (key : ReadKey) (place : ℕ) (r : PlacedRead) → Contains (placed_in (insert_entry eq es key place)) r → IsOldOr es key place r
  inserted [] key place r has = elim (either (placed_at (leaf_of key) place) [] r has) as (λ _. IsOldOr [] key place r) [
    | inl e ↦ inr (sym e)
    | inr rest ↦ inl rest
  ]
  inserted (e ∷ es) key place r has = by (eq key e.0) refl (λ rest. inserted es key place r rest) has
    where
      by : (t : Bool) → eq key e.0 ≡ t → (Contains (placed_in (insert_entry eq es key place)) r → IsOldOr es key place r) → Contains (placed_in (if t then (e.0, place) ∷ es else e ∷ insert_entry eq es key place)) r → IsOldOr (e ∷ es) key place r
      by true test further at = elim (either (placed_at (leaf_of e.0) place) (placed_in es) r at) as (λ _. IsOldOr (e ∷ es) key place r) [
        | inl one ↦ inr (sym one ∙ ap (λ l. placed_at l place) (sym (same key e.0 test)))
        | inr rest ↦ inl (later (placed_at (leaf_of e.0) e.1) (placed_in es) r rest)
      ]
      by false test further at = elim (either (placed_at (leaf_of e.0) e.1) (placed_in (insert_entry eq es key place)) r at) as (λ _. IsOldOr (e ∷ es) key place r) [
        | inl one ↦ inl (subst (Contains (placed_in (e ∷ es))) one (first (placed_at (leaf_of e.0) e.1) (placed_in es)))
        | inr rest ↦ elim (further rest) as (λ _. IsOldOr (e ∷ es) key place r) [
          | inl old ↦ inl (later (placed_at (leaf_of e.0) e.1) (placed_in es) r old)
          | inr new ↦ inr new
        ]
      ]

-- what `==` answers at flags
abbrev same_flag : Bool → Bool → Bool
same_flag a b = beq a b

flag_is : (a b : Bool) → same_flag a b ≡ true → a ≡ b
flag_is true true e = refl
flag_is false false e = refl
flag_is true false e = absurd (true≢false (sym e))
flag_is false true e = absurd (true≢false (sym e))

same_step : (x y : StepKey) → steps.TheImpl.eq-value.it x y ≡ true → step_of x ≡ step_of y
same_step x y e =
    let (clamped, offsets) = and_parts (same_flag x.clamped y.clamped) (int_eq x.dx y.dx && int_eq x.dy y.dy) e in
    let (across, down) = and_parts (int_eq x.dx y.dx) (int_eq x.dy y.dy) offsets in
    ap (λ c. step_of (record { clamped = c; dx = x.dx; dy = x.dy })) (flag_is x.clamped y.clamped clamped)
    ∙ ap (λ d. step_of (record { clamped = y.clamped; dx = d; dy = x.dy })) ((Decides-int_eq x.dx y.dx).0 across)
    ∙ ap (λ d. step_of (record { clamped = y.clamped; dx = y.dx; dy = d })) ((Decides-int_eq x.dy y.dy).0 down)

same_steps : (xs ys : List StepKey) → pointwise steps.TheImpl.eq-value.it xs ys ≡ true → map step_of xs ≡ map step_of ys
same_steps [] [] e = refl
same_steps [] (y ∷ ys) e = absurd (true≢false (sym e))
same_steps (x ∷ xs) [] e = absurd (true≢false (sym e))
same_steps (x ∷ xs) (y ∷ ys) e =
    let (here, rest) = and_parts (steps.TheImpl.eq-value.it x y) (pointwise steps.TheImpl.eq-value.it xs ys) e in
    ap (λ s. s ∷ map step_of xs) (same_step x y here) ∙ ap (λ ss. step_of y ∷ ss) (same_steps xs ys rest)

-- keys that the map takes for equal are of equal reads
pub same_read : (x y : ReadKey) → keys.TheImpl.eq-value.it x y ≡ true → leaf_of x ≡ leaf_of y
same_read x y e =
    let (image, steps) = and_parts (nat_eq x.image y.image) (pointwise steps.TheImpl.eq-value.it x.steps.items y.steps.items) e in
    ap (λ g. let l : LeafRead = record { image = g; steps = map step_of x.steps.items } in l) (eqb-true x.image y.image image) ∙ ap (λ ss. let l : LeafRead = record { image = y.image; steps = ss } in l) (same_steps x.steps.items y.steps.items steps)

pub found_some : (known : List PlacedRead) (es : Entries) → placed_in es ≡ known → (key : ReadKey) (o : Option ℕ) → o ≡ lookup (keys.TheImpl.eq-value.it key) es → IfSome o (λ place. Contains known (placed_at (leaf_of key) place))
found_some known es view key None is = tt
found_some known es view key (Some place) is = subst (λ ks. Contains ks (placed_at (leaf_of key) place)) view (found keys.TheImpl.eq-value.it same_read es key place (sym is))

pub added : (known : List PlacedRead) (es : Entries) → placed_in es ≡ known → (key : ReadKey) (place : ℕ) (fs : Entries) → fs ≡ insert_entry keys.TheImpl.eq-value.it es key place → IsAdded (placed_in fs) known (placed_at (leaf_of key) place)
added known es view key place fs is r has = subst (λ ks. Contains ks r ⊎ (r ≡ placed_at (leaf_of key) place)) view (inserted keys.TheImpl.eq-value.it same_read es key place r (subst (λ xs. Contains (placed_in xs) r) is has))

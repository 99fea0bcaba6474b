-- The images of a typed program have the names of its tree, and no two of them the same.
use Rattle.std.proofs.Common.{◌≡◌, ◌≢◌, ◌∙◌, ℕ, ◌-◌, ◌<◌, ◌≤◌, Bool, true, List, [], ◌∷◌, ◌++◌, length, map, get_or, slice_index_or, None, refl, sym, ap, subst, append_assoc, append-nil, length-append, lt-ltb, not, arith, inl, inr}
use Rattle.std.specs.Prelude.{position}
use Rattle.std.specs.List.{AllByRecursion, position_or_len}
use Rattle.std.proofs.lemmas.Bool.{cases_lt}
use Rattle.std.proofs.lemmas.List.{map-append, length-map, get_or-map, get_or_append_left, get_or-append_right}
use Rattle.std.proofs.lemmas.List.Sums.{prefix_len_passes}
use Rattle.dk_base.specs.declared.ty.Ty.TheVariants.{Unsigned}
use Rattle.dk_parser.specs.declared.tree.Input.{Input}
use Rattle.dk_parser.specs.Programs.{Source}
use Rattle.dk_parser.specs.Programs as P
use Rattle.dk_types.specs.declared.typed.TypedInput.{TypedInput}
use Rattle.dk_types.specs.Typed.{Definition, Typing}
use Rattle.std.specs.Str.{bytes_eq}
use Rattle.std.proofs.lemmas.Slice.Eq.{bytes_eq-Decides}
use Rattle.dk_types.specs.Scopes.{Scope, Named, IsUnknown, definition_named, inputs_scope, scope_of}
use Rattle.dk_types.specs.Sequences.{Each, none, next}
use Rattle.dk_types.specs.Types.{IsInput, IsDefinition, IsTyping}
use Rattle.source_words.specs.Words.{is_name}
use Rattle.report_text.specs.Reports.{AreDistinct}
use Rattle.source_names.proofs.Treed.{IsNamed, AreNamed}

abbrev pub input_names : List TypedInput → List (List ℕ)
input_names is = map (λ (i : TypedInput). i.name.text) is

abbrev pub definition_names : List Definition → List (List ℕ)
definition_names ds = map (λ (d : Definition). d.name.text) ds

abbrev pub all_names : List TypedInput → List Definition → List (List ℕ)
all_names is ds = input_names is ++ definition_names ds

same_self : (t : List ℕ) → bytes_eq t t ≡ true
same_self t = (bytes_eq-Decides t t).1 refl

not_true : (b : Bool) → b ≡ true → not b ≡ true → ⊥
not_true b e h = let x : ⊥ = cc in x

all_fail : (p : Named → Bool) (xs : List Named) → position p xs ≡ None → length xs ≤ position_or_len p xs
all_fail p xs e = elim (cases_lt (position_or_len p xs) (length xs)) [
  | inl lt ↦ absurd (let t = lt-ltb (position_or_len p xs) (length xs) lt in let f : ⊥ = cc in f)
  | inr le ↦ le
]

-- a name that no image has is not one of the scope's
unknown_differs : (scope : Scope) (name : List ℕ) → IsUnknown scope name → (k : ℕ) → k < length scope → slice_index_or (map (λ (i : Named). i.name) scope) k [] ≢ name
unknown_differs scope name h k lt same =
    let d : Named = record { name = []; ty = Unsigned 1 } in
    let past = all_fail (λ i. bytes_eq name i.name) scope h in
    let other = prefix_len_passes (λ (i : Named). not (bytes_eq name i.name)) scope k d (omega (arith, past)) in
    let is : (get_or scope k d).name ≡ name = sym (get_or-map (λ (i : Named). i.name) scope k d [] lt) ∙ same in
    not_true (bytes_eq name (get_or scope k d).name) (ap (bytes_eq name) is ∙ same_self name) other

AreDistinct-snoc : (xs : List (List ℕ)) (n : List ℕ) → AreDistinct xs → ((k : ℕ) → k < length xs → slice_index_or xs k [] ≢ n) → AreDistinct (xs ++ n ∷ [])
AreDistinct-snoc xs n apart new i j lt below same =
    let size = length-append xs (n ∷ []) in
    let i_in : i < length xs = omega (arith, size) in
    let at_i : slice_index_or (xs ++ n ∷ []) i [] ≡ slice_index_or xs i [] = get_or_append_left xs (n ∷ []) [] i i_in in
    elim (cases_lt j (length xs)) [
      | inl inside ↦ apart i j lt inside (sym at_i ∙ (same ∙ get_or_append_left xs (n ∷ []) [] j inside))
      | inr last ↦ new i i_in (sym at_i ∙ (same ∙ at_last j last below))
    ]
  where
    at_last : (j : ℕ) → length xs ≤ j → j < length (xs ++ n ∷ []) → slice_index_or (xs ++ n ∷ []) j [] ≡ n
    at_last j le below =
        get_or-append_right xs (n ∷ []) (length xs) j [] refl le
        ∙ ap (λ k. slice_index_or (n ∷ []) k []) (let e : j - length xs ≡ 0 = omega (arith, length-append xs (n ∷ [])) in e)

scope_inputs : (is : List TypedInput) → map (λ (i : Named). i.name) (inputs_scope is) ≡ input_names is
scope_inputs [] = refl
scope_inputs (i ∷ is) = ap (λ more. i.name.text ∷ more) (scope_inputs is)

scope_definitions : (ds : List Definition) → map (λ (i : Named). i.name) (map definition_named ds) ≡ definition_names ds
scope_definitions [] = refl
scope_definitions (d ∷ ds) = ap (λ more. d.name.text ∷ more) (scope_definitions ds)

scope_names : (is : List TypedInput) (ds : List Definition) → map (λ (i : Named). i.name) (scope_of is ds) ≡ all_names is ds
scope_names is ds =
    map-append (λ (i : Named). i.name) (inputs_scope is) (map definition_named ds)
    ∙ (ap (λ xs. xs ++ map (λ (i : Named). i.name) (map definition_named ds)) (scope_inputs is) ∙ ap (λ ys. input_names is ++ ys) (scope_definitions ds))

-- a list of names with one more, which is unknown in the scope that they make
more : (scope : Scope) (names : List (List ℕ)) (n : List ℕ) → map (λ (i : Named). i.name) scope ≡ names → IsUnknown scope n → AreDistinct names → AreDistinct (names ++ n ∷ [])
more scope names n are new apart =
    AreDistinct-snoc names n apart (λ k lt same.
    let size = length-map scope (λ (i : Named). i.name) in
    let long : k < length scope = omega (arith, size, ap (λ (xs : List (List ℕ)). length xs) are) in
    unknown_differs scope n new k long (ap (λ xs. slice_index_or xs k []) are ∙ same))

inputs_distinct : {is more' : List Input} {os made : List TypedInput} → Each IsInput is os more' made → AreDistinct (input_names os) → AreDistinct (input_names (os ++ made))
inputs_distinct {os = os} none apart = subst (λ xs. AreDistinct (input_names xs)) (sym (append-nil os)) apart
inputs_distinct (next {os = os} {made = made} {i = i} {o = o} rule rest) apart =
    let named : o.name.text ≡ i.name.text = ap (λ (t : TypedInput). t.name.text) rule.is in
    let longer : input_names (os ++ o ∷ []) ≡ input_names os ++ (i.name.text ∷ []) =
    map-append (λ (t : TypedInput). t.name.text) os (o ∷ []) ∙ ap (λ n. input_names os ++ (n ∷ [])) named in
    subst (λ xs. AreDistinct (input_names xs)) (append_assoc os (o ∷ []) made)
    (inputs_distinct rest (subst AreDistinct (sym longer) (more (inputs_scope os) (input_names os) i.name.text (scope_inputs os) rule.new apart)))

definitions_distinct : (inputs : List TypedInput) {is more' : List P.Definition} {os made : List Definition} → Each (IsDefinition inputs) is os more' made → AreDistinct (all_names inputs os) → AreDistinct (all_names inputs (os ++ made))
definitions_distinct inputs {os = os} none apart = subst (λ xs. AreDistinct (all_names inputs xs)) (sym (append-nil os)) apart
definitions_distinct inputs (next {os = os} {made = made} {i = i} {o = o} rule rest) apart =
    let named : o.name.text ≡ i.name.text = ap (λ (t : Definition). t.name.text) rule.is in
    let longer : all_names inputs (os ++ o ∷ []) ≡ all_names inputs os ++ (i.name.text ∷ []) =
    ap (λ xs. input_names inputs ++ xs) (map-append (λ (t : Definition). t.name.text) os (o ∷ []))
    ∙ (sym (append_assoc (input_names inputs) (definition_names os) (o.name.text ∷ []))
    ∙ ap (λ n. all_names inputs os ++ (n ∷ [])) named) in
    subst (λ xs. AreDistinct (all_names inputs xs)) (append_assoc os (o ∷ []) made)
    (definitions_distinct inputs rest (subst AreDistinct (sym longer) (more (scope_of inputs os) (all_names inputs os) i.name.text (scope_names inputs os) rule.new apart)))

no_names : AreDistinct []
no_names i j lt below same = absurd (omega arith)

pub names_distinct : (tree : Source) (p : Typing) → IsTyping tree p → AreDistinct (all_names p.inputs p.definitions)
names_distinct tree p is =
    definitions_distinct p.inputs is.definitions (subst AreDistinct (sym (append-nil (input_names p.inputs))) (inputs_distinct is.inputs no_names))

-- each image's name is one of the source language
inputs_named : {is xs : List Input} {os ys : List TypedInput} → Each IsInput is os xs ys → AllByRecursion (λ (i : Input). IsNamed i.name) xs → AllByRecursion (λ n. is_name n ≡ true) (input_names ys)
inputs_named none all = tt
inputs_named (next rule rest) all = (subst (λ n. is_name n ≡ true) (sym (ap (λ (t : TypedInput). t.name.text) rule.is)) all.0, inputs_named rest all.1)

definitions_named : (inputs : List TypedInput) {is xs : List P.Definition} {os ys : List Definition} → Each (IsDefinition inputs) is os xs ys
    → AllByRecursion (λ (d : P.Definition). IsNamed d.name) xs → AllByRecursion (λ n. is_name n ≡ true) (definition_names ys)
definitions_named inputs none all = tt
definitions_named inputs (next rule rest) all = (subst (λ n. is_name n ≡ true) (sym (ap (λ (t : Definition). t.name.text) rule.is)) all.0, definitions_named inputs rest all.1)

both : (xs ys : List (List ℕ)) → AllByRecursion (λ n. is_name n ≡ true) xs → AllByRecursion (λ n. is_name n ≡ true) ys → AllByRecursion (λ n. is_name n ≡ true) (xs ++ ys)
both [] ys a b = b
both (x ∷ xs) ys a b = (a.0, both xs ys a.1 b)

pub names_are : (tree : Source) (p : Typing) → AreNamed tree → IsTyping tree p → AllByRecursion (λ n. is_name n ≡ true) (all_names p.inputs p.definitions)
names_are tree p named is = both (input_names p.inputs) (definition_names p.definitions) (inputs_named is.inputs named.inputs) (definitions_named p.inputs is.definitions named.definitions)

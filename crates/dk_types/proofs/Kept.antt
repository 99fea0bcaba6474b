-- A program that has a typing keeps what the type promises.
use Rattle.std.proofs.Common.{◌≡◌, ℕ, zero, suc, ◌+◌, ◌<◌, ◌≤◌, Bool, true, false, List, [], ◌∷◌, ◌++◌, length, map, get_or, position, Option, Some, None, refl, sym, ap, ◌∙◌, subst, arith, inl, inr, lt-ltb, length-append, append_assoc, append-nil}
use Rattle.std.specs.Cmp.Lexicographic.{same_text}
use Rattle.std.specs.List.{position_or_len}
use Rattle.std.proofs.Math.Seq.{get_or-append_seam}
use Rattle.std.proofs.lemmas.Bool.{cases_lt}
use Rattle.std.proofs.lemmas.Cmp.{nat_list_eq_equiv}
use Rattle.std.proofs.lemmas.List.Quantifiers.{position-Some}
use Rattle.std.proofs.lemmas.List.Sums.{fails_before_first}
use Rattle.std.proofs.lemmas.List.{map-append}
use Rattle.std.proofs.lemmas.Int.{ints}
use Rattle.dk_base.specs.declared.ty.Ty.{Ty}
use Rattle.dk_base.specs.Frames.{Size, IsFrame}
use Rattle.dk_base.specs.Stencils.{IsDistinct}
use Rattle.dk_parser.specs.declared.tree.Offset.{Offset}
use Rattle.dk_parser.specs.declared.tree.Name.{Name}
use Rattle.dk_parser.specs.declared.tree.Input.{Input}
use Rattle.dk_parser.specs.Tree.{Tree}
use Rattle.dk_parser.specs.Programs.{Source}
use Rattle.dk_parser.specs.Programs as P
use Rattle.dk_types.specs.declared.typed.TypedInput.{TypedInput}
use Rattle.dk_types.specs.Typed.{Typed, type_of, Definition, Typing, image_type, input_types}
use Rattle.dk_types.specs.Scopes.{Named, Scope, image_of, types_in, inputs_scope, scope_of, definition_named, name_among}
use Rattle.std.specs.Str.{bytes_eq}
use Rattle.dk_types.specs.Offsets.{amount_of, offset_of, signed}
use Rattle.dk_types.specs.Sequences.{Each, none, next}
use Rattle.dk_base.specs.Types.{IsPort}
use Rattle.dk_types.specs.Types.{HasType, Takes, IsInput, IsDefinition, IsOutput, IsTyping}
use Rattle.dk_types.specs.Types as H
use Rattle.dk_types.specs.Kept.{IsNear, IsWell, AreWell, ArePorts, AreOutputsOf, IsTyped}

signed_near : (b : Bool) (n : ℕ) → n ≤ 64 → IsNear (signed b n)
signed_near false n h = record { least = omega (arith, ints); most = omega (arith, ints) }
signed_near true zero h = record { least = omega (arith, ints); most = omega (arith, ints) }
signed_near true (suc n) h = record { least = omega (arith, ints); most = omega (arith, ints) }

near : (x : Option Offset) → amount_of x ≤ 64 → IsNear (offset_of x)
near None h = record { least = omega (arith, ints); most = omega (arith, ints) }
near (Some o) h = signed_near o.negative o.amount.value h

pub well : {scope : Scope} {e : Tree} {t : Typed} → HasType scope e t → IsWell (types_in scope) t
well (H.literal h) = (h, refl)
well (H.read {r = r} i x y) = record { image = i.type; near_in_x = near r.x x; near_in_y = near r.y y }
well (H.unary h k) = (well h, k)
well (H.binary h g k) = (well h, well g, k)
well (H.scale h k) = (well h, k)
well (H.cast h k) = (well h, k)
well (H.saturate h k) = (well h, k)
well (H.select h g i k) = (well h, well g, well i, k)

-- counts
pub inputs_few : {is : List Input} {os : List TypedInput} {xs : List Input} {ys : List TypedInput} → Each IsInput is os xs ys → length os ≤ 8 → length os + length ys ≤ 8
inputs_few none h = omega arith
inputs_few (next {os = os} {o = o} r g) h = let l = length-append os (o ∷ []) in let few = r.few in let k = inputs_few g (omega arith) in omega arith

definitions_few : {inputs : List TypedInput} {is : List P.Definition} {os : List Definition} {xs : List P.Definition} {ys : List Definition}
    → Each (IsDefinition inputs) is os xs ys → length os ≤ 256 → length os + length ys ≤ 256
definitions_few none h = omega arith
definitions_few (next {os = os} {o = o} r g) h = let l = length-append os (o ∷ []) in let few = r.few in let k = definitions_few g (omega arith) in omega arith

outputs_few : {scope : Scope} {is : List Name} {os : List ℕ} {xs : List Name} {ys : List ℕ} → Each (IsOutput scope) is os xs ys → length is ≤ 8 → length is + length ys ≤ 8
outputs_few none h = omega arith
outputs_few (next {is = is} {i = i} r g) h = let l = length-append is (i ∷ []) in let few = r.few in let k = outputs_few g (omega arith) in omega arith

-- inputs and outputs
ports : {is : List Input} {os : List TypedInput} {xs : List Input} {ys : List TypedInput} → Each IsInput is os xs ys → ArePorts ys
ports none = tt
ports (next r g) = let R : Ty → Type 0 = λ t. IsPort t in (subst R (sym (ap (λ (t : TypedInput). t.ty) r.is)) r.port, ports g)

outputs_of : {scope : Scope} {is : List Name} {os : List ℕ} {xs : List Name} {ys : List ℕ} → Each (IsOutput scope) is os xs ys → AreOutputsOf (types_in scope) ys
outputs_of none = tt
outputs_of (next r g) = (record { ty = r.ty; image = r.image.type; port = r.port }, outputs_of g)

-- where no place is found, there is none
all_fail : {A : Type 0} (p : A → Bool) (xs : List A) → position p xs ≡ None → length xs ≤ position_or_len p xs
all_fail p xs e = elim (cases_lt (position_or_len p xs) (length xs)) [
  | inl lt ↦ absurd (let t = lt-ltb (position_or_len p xs) (length xs) lt in let f : ⊥ = cc in f)
  | inr ge ↦ ge
]

-- a new name is not the same as one of those before it
apart : (start rest : List Name) (n : Name) (name : List ℕ) → name_among (start ++ n ∷ rest) name ≡ None → bytes_eq name n.text ≡ false
apart start rest n name e =
    let long = all_fail (λ (m : Name). bytes_eq name m.text) (start ++ n ∷ rest) e in
    let l = length-append start (n ∷ rest) in
    ap (λ (m : Name). bytes_eq name m.text) (sym (get_or-append_seam start n rest n))
    ∙ fails_before_first (λ (m : Name). bytes_eq name m.text) (start ++ n ∷ rest) (length start) n (omega (arith, long, l))

-- names of one image are equal
one_name : (scope : Scope) (a b : List ℕ) (g : ℕ) (t : Ty) → image_of scope a ≡ Some g → image_of scope b ≡ Some g → bytes_eq b a ≡ true
one_name scope a b g t here there =
    let d : Named = record { name = a; ty = t } in
    let left = same_text a (get_or scope g d).name (sym (position-Some (λ (i : Named). bytes_eq a i.name) scope g d here).1) in
    let right = same_text b (get_or scope g d).name (sym (position-Some (λ (i : Named). bytes_eq b i.name) scope g d there).1) in
    ap (λ z. bytes_eq z a) (right ∙ sym left) ∙ nat_list_eq_equiv.refl a

-- later outputs are other images
differ : {scope : Scope} {is : List Name} {os : List ℕ} {xs : List Name} {ys : List ℕ} → Each (IsOutput scope) is os xs ys → (start rest : List Name) (n : Name) → is ≡ start ++ n ∷ rest
    → (g : ℕ) (t : Ty) → image_of scope n.text ≡ Some g → (j : ℕ) → j < length ys → g ≡ get_or ys j 0 → ⊥
differ none start rest n e g t image j lt same = omega arith
differ {scope} (next {i = i} {o = o} r h) start rest n e g t image zero lt same =
    let new = apart start rest n i.text (ap (λ l. name_among l i.text) (sym e) ∙ r.new) in
    let one = one_name scope n.text i.text g t image (r.image.number ∙ ap Some (sym same)) in
    let f : ⊥ = cc in f
differ {scope} (next {is = is} {i = i} r h) start rest n e g t image (suc j) lt same =
    differ h start (rest ++ i ∷ []) n (ap (λ l. l ++ i ∷ []) e ∙ append_assoc start (n ∷ rest) (i ∷ [])) g t image j (omega (arith, lt)) same

outputs_distinct : {scope : Scope} {is : List Name} {os : List ℕ} {xs : List Name} {ys : List ℕ} → Each (IsOutput scope) is os xs ys → IsDistinct ys
outputs_distinct none i j lt within same = omega arith
outputs_distinct (next {is = is} {i = n} {o = o} r h) zero zero lt within same = omega arith
outputs_distinct (next {is = is} {i = n} {o = o} r h) zero (suc j) lt within same = differ h is [] n refl o r.ty r.image.number j (omega (arith, within)) same
outputs_distinct (next r h) (suc i) zero lt within same = omega arith
outputs_distinct (next r h) (suc i) (suc j) lt within same = outputs_distinct h i j (omega (arith, lt)) (omega (arith, within)) same

-- types of scopes
types_inputs : (is : List TypedInput) → types_in (inputs_scope is) ≡ input_types is
types_inputs [] = refl
types_inputs (i ∷ is) = ap (λ l. i.ty ∷ l) (types_inputs is)

types_definitions : (ds : List Definition) → types_in (map definition_named ds) ≡ map image_type ds
types_definitions [] = refl
types_definitions (d ∷ ds) = ap (λ l. image_type d ∷ l) (types_definitions ds)

pub types_scope : (is : List TypedInput) (ds : List Definition) → types_in (scope_of is ds) ≡ input_types is ++ map image_type ds
types_scope is ds =
    map-append (λ (i : Named). i.ty) (inputs_scope is) (map definition_named ds)
    ∙ (ap (λ l. l ++ types_in (map definition_named ds)) (types_inputs is) ∙ ap (λ l. input_types is ++ l) (types_definitions ds))

one_type_more : (is : List TypedInput) (ds : List Definition) (d : Definition) → input_types is ++ map image_type (ds ++ d ∷ []) ≡ (input_types is ++ map image_type ds) ++ image_type d ∷ []
one_type_more is ds d = ap (λ l. input_types is ++ l) (map-append image_type ds (d ∷ [])) ∙ sym (append_assoc (input_types is) (map image_type ds) (image_type d ∷ []))

bodies : {inputs : List TypedInput} {is : List P.Definition} {os : List Definition} {xs : List P.Definition} {ys : List Definition}
    → Each (IsDefinition inputs) is os xs ys → AreWell (input_types inputs ++ map image_type os) ys
bodies none = tt
bodies {inputs} (next {os = os} {made = made} {o = o} r g) =
    let W : List Ty → Type 0 = λ l. IsWell l r.body in
    let B : Definition → Type 0 = λ d. IsWell (input_types inputs ++ map image_type os) d.body in
    let T : Definition → Type 0 = λ d. Takes d.declared (type_of d.body) in
    let R : List Ty → Type 0 = λ l. AreWell l made in
    (subst B (sym r.is) (subst W (types_scope inputs os) (well r.typed)), subst T (sym r.is) r.fits, subst R (one_type_more inputs os o) (bodies g))

framed : (p : Source) (s : Size) → H.IsSide p.width.value → H.IsSide p.height.value → s ≡ record { width = p.width.value; height = p.height.value } → IsFrame s.width s.height
framed p s w h e =
    let R : Size → Type 0 = λ z. IsFrame z.width z.height in
    subst R (sym e) (record { some_columns = w.some; most_columns = w.most; some_rows = h.some; most_rows = h.most })

pub typed_is_kept : (p : Source) (t : Typing) → IsTyping p t → IsTyped t
typed_is_kept p t h =
    let B : List Ty → Type 0 = λ l. AreWell l t.definitions in
    let O : List Ty → Type 0 = λ l. AreOutputsOf l t.outputs in
    let i = inputs_few h.inputs (omega arith) in
    let d = definitions_few h.definitions (omega arith) in
    let o = outputs_few h.outputs (omega arith) in
    record {
      frame = framed p t.size h.width h.height h.size;
      few_inputs = omega arith;
      few_definitions = omega arith;
      few_outputs = omega arith;
      inputs = ports h.inputs;
      bodies = subst B (append-nil (input_types t.inputs)) (bodies h.definitions);
      outputs = subst O (types_scope t.inputs t.definitions) (outputs_of h.outputs);
      distinct = outputs_distinct h.outputs;
    }

-- Each program whose numbers are those of tokens has a typing or a first fault.
use Rattle.std.proofs.Common.{◌≡◌, ℕ, ◌<◌, ◌≤◌, Bool, true, false, not, ◌&&◌, ◌||◌, nat_eq, nat_le, List, [], ◌∷◌, ◌++◌, length, Option, Some, None, get_or, if◌then◌else◌, refl, sym, ap, ◌∙◌, arith, ◌⊎◌, inl, inr}
use Rattle.std.specs.List.{All, AllByRecursion}
use Rattle.std.proofs.lemmas.Bool.{cases_lt}
use Rattle.std.proofs.lemmas.List.{length-map}
use Rattle.std.proofs.lemmas.List.Elements.{recursion_from_All}
use Rattle.std.proofs.lemmas.List.Quantifiers.{position-Some}
use Rattle.std.proofs.lemmas.Option.{slice_get-get_or}
use Rattle.dk_base.specs.declared.span.Span.{Span}
use Rattle.dk_base.specs.declared.ty.Ty.{Ty}
use Rattle.dk_base.specs.declared.ty.Ty.TheVariants.{Unsigned}
use Rattle.dk_base.specs.declared.operator.Unary.{Unary}
use Rattle.dk_base.specs.declared.operator.Unary.TheVariants.{Negate, Not, Abs}
use Rattle.dk_base.specs.declared.operator.Binary.{Binary}
use Rattle.dk_base.specs.declared.operator.Scaling.{Scaling}
use Rattle.dk_base.specs.declared.operator.Scaling.TheVariants.{ShiftLeft, ShiftRight, Divide}
use Rattle.dk_base.specs.Types.{width_of, is_signed, is_bit, common_type, negation_type, shifted_type}
use Rattle.dk_base.specs.Operators.{limited, unary_type, is_bitwise, are_operands, binary_type, scaling_type}
use Rattle.dk_parser.specs.declared.tree.Literal.{Literal}
use Rattle.dk_parser.specs.declared.tree.Name.{Name}
use Rattle.dk_parser.specs.declared.tree.Input.{Input}
use Rattle.dk_parser.specs.declared.tree.Offset.{Offset}
use Rattle.dk_parser.specs.declared.tree.ImageRead.{ImageRead}
use Rattle.dk_parser.specs.Tree.{Tree}
use Rattle.dk_parser.specs.Tree as T
use Rattle.dk_parser.specs.Tree.{ConvertsToTypes}
use Rattle.dk_parser.specs.Programs.{Source, AllConvertToTypes}
use Rattle.dk_parser.specs.Programs as P
use Rattle.dk_types.specs.declared.fault.TypeFault.{TypeFault}
use Rattle.dk_types.specs.declared.typed.TypedInput.{TypedInput}
use Rattle.dk_types.specs.Typed.{Typed, type_of, Definition, Typing}
use Rattle.dk_types.specs.Scopes.{Named, Scope, IsImage, image_of, types_in, inputs_scope, scope_of, name_among}
use Rattle.std.specs.Str.{bytes_eq}
use Rattle.dk_types.specs.Sequences.{Each, First, none, next, here, later}
use Rattle.dk_types.specs.Offsets.{amount_of}
use Rattle.dk_types.specs.Types.{HasType, declared_type, IsInput, IsDefinition, IsOutput, IsTyping, HasNumbers}
use Rattle.dk_types.specs.Types as H
use Rattle.dk_types.specs.Faults.{Faulty, InputFault, DefinitionFault, OutputFault, IsFirstFault}
use Rattle.dk_types.specs.Faults as F
use Rattle.dk_types.proofs.Programs.{port_test, port_is, is_a_port, takes_test, takes_is, is_taken, side_test, side_is, is_a_side}

-- what keeps the rule, or a fault
abbrev pub Judged : {O : Type 0} → (O → Type 0) → (TypeFault → Type 0) → Type 0
Judged {O} Rule Fault = ((o : O) × Rule o) ⊎ ((f : TypeFault) × Fault f)

-- tests
either_way : (b : Bool) → (b ≡ true) ⊎ (b ≡ false)
either_way true = inl refl
either_way false = inr refl

some_or_none : {A : Type 0} (o : Option A) → ((x : A) × (o ≡ Some x)) ⊎ (o ≡ None)
some_or_none (Some x) = inl (x, refl)
some_or_none None = inr refl

never : {P : Type 0} → true ≡ false → P
never e = absurd (let fails : ⊥ = cc in fails)

refuted : {Q : Type 0} (b : Bool) → (Q → b ≡ true) → b ≡ false → ¬ Q
refuted b holds e q = never (sym (holds q) ∙ e)

none_by_test : {A : Type 0} (b : Bool) (o : Option A) → (if b then o else None) ≡ None → (b ≡ false) ⊎ ((b ≡ true) × (o ≡ None))
none_by_test true o h = inr (refl, h)
none_by_test false o h = inl refl

no_some : {A P : Type 0} (x : A) → Some x ≡ None → P
no_some x h = absurd (let fails : ⊥ = cc in fails)

wide : (t : Ty) → limited t ≡ None → 64 < width_of t
wide t h = by (nat_le (width_of t) 64) refl h
  where
    by : (b : Bool) → nat_le (width_of t) 64 ≡ b → (if b then Some t else None) ≡ None → 64 < width_of t
    by true e g = no_some t g
    by false e g = grind (arith, e)

-- reads
image_there : (scope : Scope) (name : List ℕ) (g : ℕ) → image_of scope name ≡ Some g → (t : Ty) × IsImage scope name g t
image_there scope name g is =
    let d : Named = record { name = []; ty = Unsigned 1 } in
    let within = (position-Some (λ (i : Named). bytes_eq name i.name) scope g d is).0 in
    let same : length (types_in scope) ≡ length scope = length-map scope _ in
    let less : g < length (types_in scope) = omega (arith, within, same) in
    (get_or (types_in scope) g (Unsigned 1), record { number = is; type = slice_get-get_or (types_in scope) g (Unsigned 1) less })

near_or_far : (x : Option Offset) → (amount_of x ≤ 64) ⊎ ((o : Offset) × (x ≡ Some o) × (64 < o.amount.value))
near_or_far None = inl (omega arith)
near_or_far (Some o) = elim (cases_lt 64 o.amount.value) [ inl more ↦ inr (o, refl, more) | inr less ↦ inl (omega (arith, less)) ]

read_judged : (scope : Scope) (s : Span) (r : ImageRead) → Judged (HasType scope (T.read s r)) (Faulty scope (T.read s r))
read_judged scope s r = elim (some_or_none (image_of scope r.name.text)) [
  | inr nothing ↦ inr (_, F.unknown nothing)
  | inl some ↦
      let there = image_there scope r.name.text some.0 some.1 in
      elim (near_or_far r.x) [
        | inr far ↦ inr (_, F.far_in_x there.1 far.1 far.2)
        | inl x ↦ elim (near_or_far r.y) [ inr far ↦ inr (_, F.far_in_y there.1 x far.1 far.2) | inl y ↦ inl (_, H.read there.1 x y) ]
      ]
]

-- operators
unary_refused : (scope : Scope) (s : Span) (o : Unary) (a : Tree) (e : Typed) → HasType scope a e → unary_type o (type_of e) ≡ None → (f : TypeFault) × Faulty scope (T.unary s o a) f
unary_refused scope s Negate a e h nothing = (_, F.wide_negation h (wide (negation_type (type_of e)) nothing))
unary_refused scope s Not a e h nothing = elim (none_by_test (is_bit (type_of e)) (Some (type_of e)) nothing) [ inl fails ↦ (_, F.not_a_bit h fails) | inr holds ↦ no_some (type_of e) holds.1 ]
unary_refused scope s Abs a e h nothing = no_some _ nothing

binary_refused : (scope : Scope) (s : Span) (o : Binary) (a b : Tree) (e f : Typed) → HasType scope a e → HasType scope b f → binary_type o (type_of e) (type_of f) ≡ None →
    (g : TypeFault) × Faulty scope (T.binary s o a b) g
binary_refused scope s o a b e f h k nothing = by (is_bitwise o) (is_signed (type_of e)) (is_signed (type_of f)) refl refl refl
  where
    taken : (p x y : Bool) → is_bitwise o ≡ p → is_signed (type_of e) ≡ x → is_signed (type_of f) ≡ y → not (p && (x || y)) ≡ true → are_operands o (type_of e) (type_of f) ≡ true
    taken p x y is left right holds = ap (λ q. not (q && (is_signed (type_of e) || is_signed (type_of f)))) is ∙ ap (λ q. not (p && (q || is_signed (type_of f)))) left ∙ ap (λ q. not (p && (x || q))) right ∙ holds

    by : (p x y : Bool) → is_bitwise o ≡ p → is_signed (type_of e) ≡ x → is_signed (type_of f) ≡ y → (g : TypeFault) × Faulty scope (T.binary s o a b) g
    by true true y is left right = (_, F.signed_left h k is left)
    by true false true is left right = (_, F.signed_right h k is left right)
    by true false false is left right = (_, F.wide_result h k (taken true false false is left right refl) nothing)
    by false x y is left right = (_, F.wide_result h k (taken false x y is left right refl) nothing)

scale_refused : (scope : Scope) (s : Span) (o : Scaling) (a : Tree) (k : Literal) (e : Typed) → HasType scope a e → scaling_type o (type_of e) k.value ≡ None → (f : TypeFault) × Faulty scope (T.scale s o a k) f
scale_refused scope s ShiftLeft a k e h nothing = elim (none_by_test (nat_le k.value 63) (limited (shifted_type (type_of e) k.value)) nothing) [
  | inl fails ↦ (_, F.far_shift h (λ (d : ShiftLeft ≡ Divide). let other : ⊥ = cc in other) (let far : 63 < k.value = grind (arith, fails) in far))
  | inr holds ↦ let test = holds.0 in (_, F.wide_shift h (let near : k.value ≤ 63 = grind (arith, test) in near) (wide (shifted_type (type_of e) k.value) holds.1))
]
scale_refused scope s ShiftRight a k e h nothing = elim (none_by_test (nat_le k.value 63) (Some (type_of e)) nothing) [
  | inl fails ↦ (_, F.far_shift h (λ (d : ShiftRight ≡ Divide). let other : ⊥ = cc in other) (let far : 63 < k.value = grind (arith, fails) in far))
  | inr holds ↦ no_some (type_of e) holds.1
]
scale_refused scope s Divide a k e h nothing = by (nat_eq k.value 0) refl nothing
  where
    by : (b : Bool) → nat_eq k.value 0 ≡ b → (if b then None else Some (type_of e)) ≡ None → (f : TypeFault) × Faulty scope (T.scale s Divide a k) f
    by true is g = (_, F.zero_divisor h (let zero : k.value ≡ 0 = grind (arith, is) in zero))
    by false is g = no_some (type_of e) g

select_judged : (scope : Scope) (s : Span) (c a b : Tree) (d e f : Typed) → HasType scope c d → HasType scope a e → HasType scope b f → Judged (HasType scope (T.select s c a b)) (Faulty scope (T.select s c a b))
select_judged scope s c a b d e f h k l = elim (either_way (is_bit (type_of d))) [
  | inr fails ↦ inr (_, F.condition h k l fails)
  | inl holds ↦ elim (some_or_none (limited (common_type (type_of e) (type_of f)))) [
    | inl some ↦ inl (_, H.select {t = some.0} h k l (ap (λ q. if q then limited (common_type (type_of e) (type_of f)) else None) holds ∙ some.1))
    | inr nothing ↦ inr (_, F.wide_choice h k l holds (wide (common_type (type_of e) (type_of f)) nothing))
  ]
]

-- each expression has its types or a first fault
pub expression : (scope : Scope) (e : Tree) → HasNumbers e → ConvertsToTypes e → Judged (HasType scope e) (Faulty scope e)
expression scope (T.number s v) h k = inl (_, H.literal h)
expression scope (T.read s r) h k = read_judged scope s r
expression scope (T.unary s o a) h k = elim (expression scope a h k) [
  | inr bad ↦ inr (bad.0, F.in_unary bad.1)
  | inl good ↦ elim (some_or_none (unary_type o (type_of good.0))) [ inl some ↦ inl (_, H.unary good.1 some.1) | inr nothing ↦ inr (unary_refused scope s o a good.0 good.1 nothing) ]
]
expression scope (T.binary s o a b) h k = elim (expression scope a h.0 k.0) [
  | inr bad ↦ inr (bad.0, F.in_left bad.1)
  | inl left ↦ elim (expression scope b h.1 k.1) [
    | inr bad ↦ inr (bad.0, F.in_right left.1 bad.1)
    | inl right ↦ elim (some_or_none (binary_type o (type_of left.0) (type_of right.0))) [
      | inl some ↦ inl (_, H.binary left.1 right.1 some.1)
      | inr nothing ↦ inr (binary_refused scope s o a b left.0 right.0 left.1 right.1 nothing)
    ]
  ]
]
expression scope (T.scale s o a k) h l = elim (expression scope a h l) [
  | inr bad ↦ inr (bad.0, F.in_scale bad.1)
  | inl good ↦ elim (some_or_none (scaling_type o (type_of good.0) k.value)) [ inl some ↦ inl (_, H.scale good.1 some.1) | inr nothing ↦ inr (scale_refused scope s o a k good.0 good.1 nothing) ]
]
expression scope (T.cast s a w) h k = elim (expression scope a h k.1) [ inr bad ↦ inr (bad.0, F.in_cast bad.1) | inl good ↦ inl (_, H.cast good.1 k.0) ]
expression scope (T.sat s a w) h k = elim (expression scope a h k.1) [ inr bad ↦ inr (bad.0, F.in_saturate bad.1) | inl good ↦ inl (_, H.saturate good.1 k.0) ]
expression scope (T.select s c a b) h k = elim (expression scope c h.0 k.0) [
  | inr bad ↦ inr (bad.0, F.in_condition bad.1)
  | inl first ↦ elim (expression scope a h.1 k.1) [
    | inr bad ↦ inr (bad.0, F.in_first first.1 bad.1)
    | inl left ↦ elim (expression scope b h.2 k.2) [
      | inr bad ↦ inr (bad.0, F.in_second first.1 left.1 bad.1)
      | inl right ↦ select_judged scope s c a b first.0 left.0 right.0 first.1 left.1 right.1
    ]
  ]
]

-- items one after another, each of which has Q
each_judged : {I O : Type 0} (Q : I → Type 0) (Rule : List I → List O → I → O → Type 0) (Fault : List I → List O → I → TypeFault → Type 0) →
    ((is : List I) (os : List O) (i : I) → Q i → Judged (Rule is os i) (Fault is os i)) → (is : List I) (os : List O) (xs : List I) → AllByRecursion Q xs → Judged (Each Rule is os xs) (First Rule Fault is os xs)
each_judged Q Rule Fault judge is os [] all = inl ([], none)
each_judged Q Rule Fault judge is os (x ∷ xs) all = elim (judge is os x all.0) [
  | inr bad ↦ inr (bad.0, here bad.1)
  | inl good ↦ elim (each_judged Q Rule Fault judge (is ++ x ∷ []) (os ++ good.0 ∷ []) xs all.1) [
    | inl rest ↦ inl (good.0 ∷ rest.0, next good.1 rest.1)
    | inr bad ↦ inr (bad.0, later good.1 bad.1)
  ]
]

abbrev Any : {I : Type 0} → I → Type 0
Any i = Unit {0}

any : {I : Type 0} (xs : List I) → AllByRecursion Any xs
any [] = tt
any (x ∷ xs) = (tt, any xs)

input : (is : List Input) (done : List TypedInput) (i : Input) → Any i → Judged (IsInput is done i) (InputFault is done i)
input is done i _ = elim (cases_lt (length done) 8) [
  | inr many ↦ inr (_, InputFault.ninth (omega (arith, many)))
  | inl few ↦ elim (some_or_none (image_of (inputs_scope done) i.name.text)) [
    | inl some ↦ inr (_, InputFault.again few some.1)
    | inr fresh ↦ elim (either_way (port_test i.ty.ty)) [
      | inl port ↦ inl (_, record { few = few; new = fresh; port = is_a_port i.ty.ty port; is = refl })
      | inr fails ↦ inr (_, InputFault.no_port few fresh (refuted (port_test i.ty.ty) (port_is i.ty.ty) fails))
    ]
  ]
]

-- what the body of a text's definition has
abbrev IsWritten : P.Definition → Type 0
IsWritten d = HasNumbers d.body × ConvertsToTypes d.body

definition : (inputs : List TypedInput) (ds : List P.Definition) (done : List Definition) (d : P.Definition) → IsWritten d → Judged (IsDefinition inputs ds done d) (DefinitionFault inputs ds done d)
definition inputs ds done d written = elim (cases_lt (length done) 256) [
  | inr many ↦ inr (_, DefinitionFault.too_many (omega (arith, many)))
  | inl few ↦ elim (some_or_none (image_of (scope_of inputs done) d.name.text)) [
    | inl some ↦ inr (_, DefinitionFault.again few some.1)
    | inr fresh ↦ elim (expression (scope_of inputs done) d.body written.0 written.1) [
      | inr bad ↦ inr (bad.0, DefinitionFault.in_body few fresh bad.1)
      | inl good ↦ elim (either_way (takes_test (declared_type d.declared) (type_of good.0))) [
        | inl fits ↦ inl (_, record { few = few; new = fresh; body = good.0; typed = good.1; fits = is_taken (declared_type d.declared) (type_of good.0) fits; is = refl })
        | inr fails ↦ inr (_, DefinitionFault.not_taken few fresh good.1 (refuted (takes_test (declared_type d.declared) (type_of good.0)) (takes_is (declared_type d.declared) (type_of good.0)) fails))
      ]
    ]
  ]
]

output : (scope : Scope) (before : List Name) (done : List ℕ) (n : Name) → Any n → Judged (IsOutput scope before done n) (OutputFault scope before done n)
output scope before done n _ = elim (cases_lt (length before) 8) [
  | inr many ↦ inr (_, OutputFault.ninth (omega (arith, many)))
  | inl few ↦ elim (some_or_none (name_among before n.text)) [
    | inl some ↦ inr (_, OutputFault.again few some.1)
    | inr fresh ↦ elim (some_or_none (image_of scope n.text)) [
      | inr nothing ↦ inr (_, OutputFault.unknown few fresh nothing)
      | inl some ↦
          let there = image_there scope n.text some.0 some.1 in
          elim (either_way (port_test there.0)) [
            | inl port ↦ inl (some.0, record { few = few; new = fresh; ty = there.0; image = there.1; port = is_a_port there.0 port })
            | inr fails ↦ inr (_, OutputFault.no_port few fresh there.1 (refuted (port_test there.0) (port_is there.0) fails))
          ]
    ]
  ]
]

-- each program has a typing or a first fault
pub program : (p : Source) → All (λ (d : P.Definition). HasNumbers d.body) p.definitions → AllConvertToTypes p → ((t : Typing) × IsTyping p t) ⊎ ((f : TypeFault) × IsFirstFault p f)
program p numbers types = elim (either_way (side_test p.width.value)) [
  | inr fails ↦ inr (_, F.width (refuted (side_test p.width.value) (side_is p.width.value) fails))
  | inl holds ↦
      let width = is_a_side p.width.value holds in
      elim (either_way (side_test p.height.value)) [
        | inr fails ↦ inr (_, F.height width (refuted (side_test p.height.value) (side_is p.height.value) fails))
        | inl also ↦
            let height = is_a_side p.height.value also in
            elim (each_judged Any IsInput InputFault input [] [] p.inputs (any p.inputs)) [
              | inr bad ↦ inr (bad.0, F.input width height bad.1)
              | inl is ↦ elim (each_judged IsWritten (IsDefinition is.0) (DefinitionFault is.0) (definition is.0) [] [] p.definitions (recursion_from_All IsWritten p.definitions (λ k d lt. (numbers k d lt, types k d lt)))) [
                | inr bad ↦ inr (bad.0, F.definition width height is.1 bad.1)
                | inl ds ↦ elim (each_judged Any (IsOutput (scope_of is.0 ds.0)) (OutputFault (scope_of is.0 ds.0)) (output (scope_of is.0 ds.0)) [] [] p.outputs (any p.outputs)) [
                  | inr bad ↦ inr (bad.0, F.output width height is.1 ds.1 bad.1)
                  | inl os ↦ inl (
                    record { size = record { width = p.width.value; height = p.height.value }; inputs = is.0; definitions = ds.0; outputs = os.0 },
                    record { width = width; height = height; size = refl; inputs = is.1; definitions = ds.1; outputs = os.1 },
                  )
                ]
              ]
            ]
      ]
]

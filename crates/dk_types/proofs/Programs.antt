-- The one answer for each program.
use Rattle.std.proofs.Common.{◌≡◌, ℕ, ◌<◌, ◌≤◌, Bool, true, false, ◌&&◌, nat_lt, nat_le, List, [], ◌∷◌, ◌++◌, length, Option, Some, None, Ok, Err, refl, sym, ap, arith}
use Rattle.dk_base.specs.declared.ty.Ty.{Ty}
use Rattle.dk_base.specs.declared.ty.Ty.TheVariants.{Unsigned, Signed}
use Rattle.dk_base.specs.Frames.{Size}
use Rattle.dk_base.specs.Types.{converts}
use Rattle.dk_parser.specs.declared.tree.Name.{Name}
use Rattle.dk_parser.specs.declared.tree.Input.{Input}
use Rattle.dk_parser.specs.Tree.{span_of}
use Rattle.dk_parser.specs.Programs.{Source}
use Rattle.dk_parser.specs.Programs as P
use Rattle.dk_types.specs.declared.fault.TypeFault.{TypeFault}
use Rattle.dk_types.specs.declared.fault.TypeFaultKind.TheVariants.{SizeRange, InputType, TooManyInputs, TooManyOutputs, TooManyImages, DuplicateName, UnknownImage, NotConvertible, OutputType}
use Rattle.dk_types.specs.declared.typed.TypedInput.{TypedInput}
use Rattle.dk_types.specs.Typed.{Typed, type_of, Definition, Typing}
use Rattle.dk_types.specs.Scopes.{Scope, image_of, types_in, inputs_scope, scope_of, name_among}
use Rattle.dk_types.specs.Sequences.{Each, First, none, next, here, later}
use Rattle.dk_base.specs.Types.{IsPort}
use Rattle.dk_types.specs.Types.{IsSide, Takes, declared_type, IsInput, IsDefinition, IsOutput, IsTyping}
use Rattle.dk_types.specs.Faults.{at, InputFault, DefinitionFault, OutputFault, IsFirstFault}
use Rattle.dk_types.specs.Faults as F
use Rattle.dk_types.proofs.Answers.{Answer, answer, is_type, type_is, is_a_type, typed_answer, faulty_answer, true_or_false}
use Rattle.std.specs.Prelude.{slice_get}

-- sequences
abbrev with_first : {O : Type 0} → O → Answer (List O) → Answer (List O)
with_first o (Err f) = Err f
with_first o (Ok os) = Ok (o ∷ os)

abbrev chained : {O : Type 0} → Answer O → (O → Answer (List O)) → Answer (List O)
chained (Err f) k = Err f
chained (Ok o) k = with_first o (k o)

abbrev pub answers : {I O : Type 0} → (List I → List O → I → Answer O) → List I → List O → List I → Answer (List O)
answers A is os [] = Ok []
answers A is os (i ∷ more) = chained (A is os i) (λ o. answers A (is ++ i ∷ []) (os ++ o ∷ []) more)

module _ {I O : Type 0} (A : List I → List O → I → Answer O) (Rule : List I → List O → I → O → Type 0)
    (rules : (is : List I) (os : List O) (i : I) (o : O) → Rule is os i o → A is os i ≡ Ok o) where
  pub each_answer : {is : List I} {os : List O} {xs : List I} {ys : List O} → Each Rule is os xs ys → answers A is os xs ≡ Ok ys
  each_answer none = refl
  each_answer (next {is = is} {os = os} {i = i} {o = o} r h) = rw (rules is os i o r, each_answer h) refl

  module _ (Fault : List I → List O → I → TypeFault → Type 0)
      (faults : (is : List I) (os : List O) (i : I) (f : TypeFault) → Fault is os i f → A is os i ≡ Err f) where
    pub first_answer : {is : List I} {os : List O} {xs : List I} {f : TypeFault} → First Rule Fault is os xs f → answers A is os xs ≡ Err f
    first_answer (here {is = is} {os = os} {i = i} {f = f} r) = rw (faults is os i f r) refl
    first_answer (later {is = is} {os = os} {i = i} {o = o} r h) = rw (rules is os i o r, first_answer h) refl

-- tests
abbrev pub port_test : Ty → Bool
port_test (Unsigned n) = nat_le 1 n && nat_le n 16
port_test (Signed n) = false

both : (a b : Bool) → (a && b) ≡ true → (a ≡ true) × (b ≡ true)
both true b h = (refl, h)
both false b h = true_or_false (sym h)

pub port_is : (t : Ty) → IsPort t → port_test t ≡ true
port_is (Unsigned n) h =
    let a : nat_le 1 n ≡ true = grind (arith, h.0) in
    let b : nat_le n 16 ≡ true = grind (arith, h.1) in
    rw (a, b) refl
port_is (Signed n) h = absurd h

pub is_a_port : (t : Ty) → port_test t ≡ true → IsPort t
is_a_port (Unsigned n) h =
    let p = both (nat_le 1 n) (nat_le n 16) h in
    let a = p.0 in let b = p.1 in
    (grind (arith, a), grind (arith, b))
is_a_port (Signed n) h = true_or_false (sym h)

pub not_port : (t : Ty) → ¬ IsPort t → port_test t ≡ false
not_port t n = by (port_test t) refl
  where
    by : (b : Bool) → port_test t ≡ b → port_test t ≡ false
    by true e = absurd (n (is_a_port t e))
    by false e = e

abbrev pub takes_test : Option Ty → Ty → Bool
takes_test None body = true
takes_test (Some u) body = is_type u && converts body u

pub takes_is : (u : Option Ty) (t : Ty) → Takes u t → takes_test u t ≡ true
takes_is None t h = refl
takes_is (Some u) t h = rw (type_is u h.is_type, h.fits) refl

pub is_taken : (u : Option Ty) (t : Ty) → takes_test u t ≡ true → Takes u t
is_taken None t h = tt
is_taken (Some u) t h = let p = both (is_type u) (converts t u) h in record { is_type = is_a_type u p.0; fits = p.1 }

not_taken : (u : Option Ty) (t : Ty) → ¬ Takes u t → takes_test u t ≡ false
not_taken u t n = by (takes_test u t) refl
  where
    by : (b : Bool) → takes_test u t ≡ b → takes_test u t ≡ false
    by true e = absurd (n (is_taken u t e))
    by false e = e

abbrev pub side_test : ℕ → Bool
side_test n = nat_le 1 n && nat_le n 4096

pub side_is : (n : ℕ) → IsSide n → side_test n ≡ true
side_is n h =
    let a : nat_le 1 n ≡ true = grind (arith, h.some) in
    let b : nat_le n 4096 ≡ true = grind (arith, h.most) in
    rw (a, b) refl

pub is_a_side : (n : ℕ) → side_test n ≡ true → IsSide n
is_a_side n h =
    let p = both (nat_le 1 n) (nat_le n 4096) h in
    let a = p.0 in let b = p.1 in
    record { some = grind (arith, a); most = grind (arith, b) }

not_side : (n : ℕ) → ¬ IsSide n → side_test n ≡ false
not_side n refused = by (side_test n) refl
  where
    by : (b : Bool) → side_test n ≡ b → side_test n ≡ false
    by true e = absurd (refused (is_a_side n e))
    by false e = e

few : (n m : ℕ) → n < m → nat_lt n m ≡ true
few n m h = grind arith

many : (n m : ℕ) → m ≤ n → nat_lt n m ≡ false
many n m h = grind arith

-- inputs
abbrev input_port : Input → Bool → Answer TypedInput
input_port i true = Ok (record { name = i.name; ty = i.ty.ty })
input_port i false = Err (at i.ty.span InputType)

abbrev input_name : Input → Option ℕ → Answer TypedInput
input_name i (Some g) = Err (at i.name.span DuplicateName)
input_name i None = input_port i (port_test i.ty.ty)

abbrev input_place : List TypedInput → Input → Bool → Answer TypedInput
input_place done i true = input_name i (image_of (inputs_scope done) i.name.text)
input_place done i false = Err (at i.name.span TooManyInputs)

abbrev input_answer : List Input → List TypedInput → Input → Answer TypedInput
input_answer is done i = input_place done i (nat_lt (length done) 8)

input_rules : (is : List Input) (done : List TypedInput) (i : Input) (t : TypedInput) → IsInput is done i t → input_answer is done i ≡ Ok t
input_rules is done i t h = rw (few (length done) 8 h.few, h.new, port_is i.ty.ty h.port) (ap Ok (sym h.is))

input_faults : (is : List Input) (done : List TypedInput) (i : Input) (f : TypeFault) → InputFault is done i f → input_answer is done i ≡ Err f
input_faults is done i _ (InputFault.ninth m) = rw (many (length done) 8 m) refl
input_faults is done i _ (InputFault.again m g) = rw (few (length done) 8 m, g) refl
input_faults is done i _ (InputFault.no_port m g p) = rw (few (length done) 8 m, g, not_port i.ty.ty p) refl

-- definitions
abbrev made : P.Definition → Typed → Definition
made d e = record { inline = d.inline; name = d.name; declared = declared_type d.declared; body = e }

abbrev definition_type : P.Definition → Typed → Bool → Answer Definition
definition_type d e true = Ok (made d e)
definition_type d e false = Err (at (span_of d.body) NotConvertible)

abbrev definition_body : P.Definition → Answer Typed → Answer Definition
definition_body d (Err f) = Err f
definition_body d (Ok e) = definition_type d e (takes_test (declared_type d.declared) (type_of e))

abbrev definition_name : Scope → P.Definition → Option ℕ → Answer Definition
definition_name scope d (Some g) = Err (at d.name.span DuplicateName)
definition_name scope d None = definition_body d (answer scope d.body)

abbrev definition_place : Scope → P.Definition → Bool → Answer Definition
definition_place scope d true = definition_name scope d (image_of scope d.name.text)
definition_place scope d false = Err (at d.name.span TooManyImages)

abbrev definition_answer : List TypedInput → List P.Definition → List Definition → P.Definition → Answer Definition
definition_answer inputs ds done d = definition_place (scope_of inputs done) d (nat_lt (length done) 256)

definition_rules : (inputs : List TypedInput) (ds : List P.Definition) (done : List Definition) (d : P.Definition) (t : Definition)
    → IsDefinition inputs ds done d t → definition_answer inputs ds done d ≡ Ok t
definition_rules inputs ds done d t h =
    rw (few (length done) 256 h.few, h.new, typed_answer h.typed, takes_is (declared_type d.declared) (type_of h.body) h.fits) (ap Ok (sym h.is))

definition_faults : (inputs : List TypedInput) (ds : List P.Definition) (done : List Definition) (d : P.Definition) (f : TypeFault)
    → DefinitionFault inputs ds done d f → definition_answer inputs ds done d ≡ Err f
definition_faults inputs ds done d _ (DefinitionFault.too_many m) = rw (many (length done) 256 m) refl
definition_faults inputs ds done d _ (DefinitionFault.again m g) = rw (few (length done) 256 m, g) refl
definition_faults inputs ds done d _ (DefinitionFault.in_body m g h) = rw (few (length done) 256 m, g, faulty_answer h) refl
definition_faults inputs ds done d _ (DefinitionFault.not_taken {e = e} m g h n) =
    rw (few (length done) 256 m, g, typed_answer h, not_taken (declared_type d.declared) (type_of e) n) refl

-- outputs
abbrev output_port : Name → ℕ → Bool → Answer ℕ
output_port n g true = Ok g
output_port n g false = Err (at n.span OutputType)

abbrev output_type : Name → ℕ → Option Ty → Answer ℕ
output_type n g None = Err (at n.span UnknownImage)
output_type n g (Some t) = output_port n g (port_test t)

abbrev output_image : Scope → Name → Option ℕ → Answer ℕ
output_image scope n None = Err (at n.span UnknownImage)
output_image scope n (Some g) = output_type n g (slice_get (types_in scope) g)

abbrev output_name : Scope → Name → Option ℕ → Answer ℕ
output_name scope n (Some k) = Err (at n.span DuplicateName)
output_name scope n None = output_image scope n (image_of scope n.text)

abbrev output_place : Scope → List Name → Name → Bool → Answer ℕ
output_place scope before n true = output_name scope n (name_among before n.text)
output_place scope before n false = Err (at n.span TooManyOutputs)

abbrev output_answer : Scope → List Name → List ℕ → Name → Answer ℕ
output_answer scope before done n = output_place scope before n (nat_lt (length before) 8)

output_rules : (scope : Scope) (before : List Name) (done : List ℕ) (n : Name) (g : ℕ) → IsOutput scope before done n g → output_answer scope before done n ≡ Ok g
output_rules scope before done n g h =
    rw (few (length before) 8 h.few, h.new, h.image.number, h.image.type, port_is h.ty h.port) refl

output_faults : (scope : Scope) (before : List Name) (done : List ℕ) (n : Name) (f : TypeFault) → OutputFault scope before done n f → output_answer scope before done n ≡ Err f
output_faults scope before done n _ (OutputFault.ninth m) = rw (many (length before) 8 m) refl
output_faults scope before done n _ (OutputFault.again m g) = rw (few (length before) 8 m, g) refl
output_faults scope before done n _ (OutputFault.unknown m g u) = rw (few (length before) 8 m, g, u) refl
output_faults scope before done n _ (OutputFault.no_port {t = t} m g i p) =
    rw (few (length before) 8 m, g, i.number, i.type, not_port t p) refl

-- programs
abbrev with_outputs : Size → List TypedInput → List Definition → Answer (List ℕ) → Answer Typing
with_outputs size is ds (Err f) = Err f
with_outputs size is ds (Ok os) = Ok (record { size = size; inputs = is; definitions = ds; outputs = os })

abbrev with_definitions : Size → Source → List TypedInput → Answer (List Definition) → Answer Typing
with_definitions size p is (Err f) = Err f
with_definitions size p is (Ok ds) = with_outputs size is ds (answers (output_answer (scope_of is ds)) [] [] p.outputs)

abbrev with_inputs : Size → Source → Answer (List TypedInput) → Answer Typing
with_inputs size p (Err f) = Err f
with_inputs size p (Ok is) = with_definitions size p is (answers (definition_answer is) [] [] p.definitions)

abbrev with_sides : Source → (width height : Bool) → Answer Typing
with_sides p false height = Err (at p.width.span SizeRange)
with_sides p true false = Err (at p.height.span SizeRange)
with_sides p true true = with_inputs (record { width = p.width.value; height = p.height.value }) p (answers input_answer [] [] p.inputs)

abbrev program_answer : Source → Answer Typing
program_answer p = with_sides p (side_test p.width.value) (side_test p.height.value)

typing_answer : (p : Source) (t : Typing) → IsTyping p t → program_answer p ≡ Ok t
typing_answer p t h =
    rw (
      side_is p.width.value h.width,
      side_is p.height.value h.height,
      each_answer input_answer IsInput input_rules h.inputs,
      each_answer (definition_answer t.inputs) (IsDefinition t.inputs) (definition_rules t.inputs) h.definitions,
      each_answer (output_answer (scope_of t.inputs t.definitions)) (IsOutput (scope_of t.inputs t.definitions)) (output_rules (scope_of t.inputs t.definitions)) h.outputs,
    )
    (ap (λ (s : Size). Ok (record { size = s; inputs = t.inputs; definitions = t.definitions; outputs = t.outputs })) (sym h.size))

fault_answer : (p : Source) (f : TypeFault) → IsFirstFault p f → program_answer p ≡ Err f
fault_answer p _ (F.width w) = rw (not_side p.width.value w) refl
fault_answer p _ (F.height w h) = rw (side_is p.width.value w, not_side p.height.value h) refl
fault_answer p _ (F.input w h i) =
    rw (side_is p.width.value w, side_is p.height.value h, first_answer input_answer IsInput input_rules InputFault input_faults i) refl
fault_answer p _ (F.definition {is = is} w h i d) =
    rw (
      side_is p.width.value w,
      side_is p.height.value h,
      each_answer input_answer IsInput input_rules i,
      first_answer (definition_answer is) (IsDefinition is) (definition_rules is) (DefinitionFault is) (definition_faults is) d,
    ) refl
fault_answer p _ (F.output {is = is} {ds = ds} w h i d o) =
    rw (
      side_is p.width.value w,
      side_is p.height.value h,
      each_answer input_answer IsInput input_rules i,
      each_answer (definition_answer is) (IsDefinition is) (definition_rules is) d,
      first_answer (output_answer (scope_of is ds)) (IsOutput (scope_of is ds)) (output_rules (scope_of is ds)) (OutputFault (scope_of is ds)) (output_faults (scope_of is ds)) o,
    ) refl

-- the laws
pub one_type : (p : Source) (t u : Typing) → IsTyping p t → IsTyping p u → t ≡ u
one_type p t u h g = let a = typing_answer p t h in let b = typing_answer p u g in cc

pub one_fault : (p : Source) (f g : TypeFault) → IsFirstFault p f → IsFirstFault p g → f ≡ g
one_fault p f g h k = let a = fault_answer p f h in let b = fault_answer p g k in cc

pub never_both : (p : Source) (t : Typing) (f : TypeFault) → IsTyping p t → IsFirstFault p f → ⊥
never_both p t f h k = let a = typing_answer p t h in let b = fault_answer p f k in cc

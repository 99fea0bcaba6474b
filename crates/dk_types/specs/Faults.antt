-- The first fault of an expression and of a program.
use Rattle.std.specs.Prelude.{◌≡◌, ◌≢◌, ℕ, ◌≤◌, ◌<◌, List, [], Some, None, true, false, length}
use Rattle.dk_base.specs.declared.TheConstants.{MAX_INPUTS, MAX_DEFINITIONS, MAX_OUTPUTS, MAX_OFFSET, MAX_WIDTH, MAX_SHIFT}
use Rattle.dk_base.specs.declared.span.Span.{Span}
use Rattle.dk_base.specs.declared.ty.Ty.{Ty}
use Rattle.dk_base.specs.declared.operator.Unary.{Unary}
use Rattle.dk_base.specs.declared.operator.Unary.TheVariants.{Negate, Not}
use Rattle.dk_base.specs.declared.operator.Binary.{Binary}
use Rattle.dk_base.specs.declared.operator.Scaling.{Scaling}
use Rattle.dk_base.specs.declared.operator.Scaling.TheVariants.{ShiftLeft, Divide}
use Rattle.dk_base.specs.Types.{width_of, is_signed, is_bit, common_type, negation_type, shifted_type}
use Rattle.dk_base.specs.Operators.{is_bitwise, are_operands, binary_type}
use Rattle.dk_parser.specs.declared.tree.Literal.{Literal}
use Rattle.dk_parser.specs.declared.tree.TypeWord.{TypeWord}
use Rattle.dk_parser.specs.declared.tree.Name.{Name}
use Rattle.dk_parser.specs.declared.tree.Input.{Input}
use Rattle.dk_parser.specs.declared.tree.Offset.{Offset}
use Rattle.dk_parser.specs.declared.tree.ImageRead.{ImageRead}
use Rattle.dk_parser.specs.Tree.{Tree, span_of}
use Rattle.dk_parser.specs.Tree as T
use Rattle.dk_parser.specs.Programs.{Source}
use Rattle.dk_parser.specs.Programs as P
use Rattle.dk_types.specs.declared.fault.TypeFault.{TypeFault}
use Rattle.dk_types.specs.declared.fault.TypeFaultKind.{TypeFaultKind}
use Rattle.dk_types.specs.declared.fault.TypeFaultKind.TheVariants.{SizeRange, InputType, TooManyInputs, TooManyOutputs, TooManyImages, DuplicateName, UnknownImage, OffsetRange, WidthTooGreat, NotOneBit, SignedBits, ZeroDivisor, ShiftRange, NotConvertible, OutputType}
use Rattle.dk_types.specs.declared.fault.TypeError.{TypeError}
use Rattle.dk_types.specs.declared.fault.TypeError.TheVariants.{Fault, OutOfMemory}
use Rattle.dk_types.specs.declared.typed.TypedInput.{TypedInput}
use Rattle.dk_types.specs.Typed.{Typed, type_of, Definition}
use Rattle.dk_types.specs.Scopes.{Scope, IsImage, IsUnknown, image_of, inputs_scope, scope_of, name_among}
use Rattle.dk_types.specs.Sequences.{First}
use Rattle.dk_types.specs.Offsets.{amount_of}
use Rattle.dk_base.specs.Types.{IsPort}
use Rattle.dk_types.specs.Types.{HasType, IsSide, Takes, declared_type, IsInput, IsDefinition, IsOutput, AreInputs, AreDefinitions}

-- a fault of this kind here
abbrev pub at : Span → TypeFaultKind → TypeFault
at s k = record { span = s; kind = k }

-- Faulty scope e f: f is the first fault of the expression e. The parts before it have types.
-- Operands are judged from left to right before their operator.
pub data Faulty (scope : Scope) : Tree → TypeFault → Type 0 where
  -- a read: its name, then x, then y
  unknown : {s : Span} {r : ImageRead} → IsUnknown scope r.name.text → Faulty scope (T.read s r) (at r.name.span UnknownImage)
  far_in_x : {s : Span} {r : ImageRead} {g : ℕ} {t : Ty} {o : Offset}
      → IsImage scope r.name.text g t → r.x ≡ Some o → MAX_OFFSET < o.amount.value
      → Faulty scope (T.read s r) (at o.amount.span OffsetRange)
  far_in_y : {s : Span} {r : ImageRead} {g : ℕ} {t : Ty} {o : Offset}
      → IsImage scope r.name.text g t → amount_of r.x ≤ MAX_OFFSET → r.y ≡ Some o → MAX_OFFSET < o.amount.value
      → Faulty scope (T.read s r) (at o.amount.span OffsetRange)
  -- an operator of one operand
  in_unary : {s : Span} {o : Unary} {a : Tree} {f : TypeFault} → Faulty scope a f → Faulty scope (T.unary s o a) f
  not_a_bit : {s : Span} {a : Tree} {e : Typed} → HasType scope a e → is_bit (type_of e) ≡ false → Faulty scope (T.unary s Not a) (at (span_of a) NotOneBit)
  wide_negation : {s : Span} {a : Tree} {e : Typed}
      → HasType scope a e → MAX_WIDTH < width_of (negation_type (type_of e)) → Faulty scope (T.unary s Negate a) (at s WidthTooGreat)
  -- an operator of two operands
  in_left : {s : Span} {o : Binary} {a b : Tree} {f : TypeFault} → Faulty scope a f → Faulty scope (T.binary s o a b) f
  in_right : {s : Span} {o : Binary} {a b : Tree} {e : Typed} {f : TypeFault}
      → HasType scope a e → Faulty scope b f → Faulty scope (T.binary s o a b) f
  signed_left : {s : Span} {o : Binary} {a b : Tree} {e f : Typed}
      → HasType scope a e → HasType scope b f → is_bitwise o ≡ true → is_signed (type_of e) ≡ true
      → Faulty scope (T.binary s o a b) (at (span_of a) SignedBits)
  signed_right : {s : Span} {o : Binary} {a b : Tree} {e f : Typed}
      → HasType scope a e → HasType scope b f → is_bitwise o ≡ true → is_signed (type_of e) ≡ false → is_signed (type_of f) ≡ true
      → Faulty scope (T.binary s o a b) (at (span_of b) SignedBits)
  wide_result : {s : Span} {o : Binary} {a b : Tree} {e f : Typed}
      → HasType scope a e → HasType scope b f → are_operands o (type_of e) (type_of f) ≡ true
      → binary_type o (type_of e) (type_of f) ≡ None
      → Faulty scope (T.binary s o a b) (at s WidthTooGreat)
  -- a division or a shift by a number
  in_scale : {s : Span} {o : Scaling} {a : Tree} {k : Literal} {f : TypeFault} → Faulty scope a f → Faulty scope (T.scale s o a k) f
  zero_divisor : {s : Span} {a : Tree} {k : Literal} {e : Typed}
      → HasType scope a e → k.value ≡ 0 → Faulty scope (T.scale s Divide a k) (at k.span ZeroDivisor)
  far_shift : {s : Span} {o : Scaling} {a : Tree} {k : Literal} {e : Typed}
      → HasType scope a e → o ≢ Divide → MAX_SHIFT < k.value → Faulty scope (T.scale s o a k) (at k.span ShiftRange)
  wide_shift : {s : Span} {a : Tree} {k : Literal} {e : Typed}
      → HasType scope a e → k.value ≤ MAX_SHIFT → MAX_WIDTH < width_of (shifted_type (type_of e) k.value)
      → Faulty scope (T.scale s ShiftLeft a k) (at s WidthTooGreat)
  -- a conversion
  in_cast : {s : Span} {a : Tree} {w : TypeWord} {f : TypeFault} → Faulty scope a f → Faulty scope (T.cast s a w) f
  in_saturate : {s : Span} {a : Tree} {w : TypeWord} {f : TypeFault} → Faulty scope a f → Faulty scope (T.sat s a w) f
  -- a choice
  in_condition : {s : Span} {c a b : Tree} {f : TypeFault} → Faulty scope c f → Faulty scope (T.select s c a b) f
  in_first : {s : Span} {c a b : Tree} {d : Typed} {f : TypeFault}
      → HasType scope c d → Faulty scope a f → Faulty scope (T.select s c a b) f
  in_second : {s : Span} {c a b : Tree} {d e : Typed} {f : TypeFault}
      → HasType scope c d → HasType scope a e → Faulty scope b f → Faulty scope (T.select s c a b) f
  condition : {s : Span} {c a b : Tree} {d e f : Typed}
      → HasType scope c d → HasType scope a e → HasType scope b f → is_bit (type_of d) ≡ false
      → Faulty scope (T.select s c a b) (at (span_of c) NotOneBit)
  wide_choice : {s : Span} {c a b : Tree} {d e f : Typed}
      → HasType scope c d → HasType scope a e → HasType scope b f → is_bit (type_of d) ≡ true
      → MAX_WIDTH < width_of (common_type (type_of e) (type_of f))
      → Faulty scope (T.select s c a b) (at s WidthTooGreat)

-- The fault of an input, after these: its place in the list, then its name, then its type.
pub data InputFault (before : List Input) (done : List TypedInput) (i : Input) : TypeFault → Type 0 where
  ninth : MAX_INPUTS ≤ length done → InputFault before done i (at i.name.span TooManyInputs)
  again : {g : ℕ} → length done < MAX_INPUTS → image_of (inputs_scope done) i.name.text ≡ Some g → InputFault before done i (at i.name.span DuplicateName)
  no_port : length done < MAX_INPUTS → IsUnknown (inputs_scope done) i.name.text → ¬ IsPort i.ty.ty → InputFault before done i (at i.ty.span InputType)

-- The fault of a definition, after the inputs and these definitions: its place in the list, then its name, then its body, then its declared type.
pub data DefinitionFault (inputs : List TypedInput) (before : List P.Definition) (done : List Definition) (d : P.Definition) : TypeFault → Type 0 where
  too_many : MAX_DEFINITIONS ≤ length done → DefinitionFault inputs before done d (at d.name.span TooManyImages)
  again : {g : ℕ} → length done < MAX_DEFINITIONS → image_of (scope_of inputs done) d.name.text ≡ Some g → DefinitionFault inputs before done d (at d.name.span DuplicateName)
  in_body : {f : TypeFault} → length done < MAX_DEFINITIONS → IsUnknown (scope_of inputs done) d.name.text → Faulty (scope_of inputs done) d.body f → DefinitionFault inputs before done d f
  not_taken : {e : Typed} → length done < MAX_DEFINITIONS → IsUnknown (scope_of inputs done) d.name.text
      → HasType (scope_of inputs done) d.body e → ¬ Takes (declared_type d.declared) (type_of e)
      → DefinitionFault inputs before done d (at (span_of d.body) NotConvertible)

-- The fault of an output, after these: its place in the list, then its name, then its type.
pub data OutputFault (scope : Scope) (before : List Name) (done : List ℕ) (n : Name) : TypeFault → Type 0 where
  ninth : MAX_OUTPUTS ≤ length before → OutputFault scope before done n (at n.span TooManyOutputs)
  again : {k : ℕ} → length before < MAX_OUTPUTS → name_among before n.text ≡ Some k → OutputFault scope before done n (at n.span DuplicateName)
  unknown : length before < MAX_OUTPUTS → name_among before n.text ≡ None → IsUnknown scope n.text → OutputFault scope before done n (at n.span UnknownImage)
  no_port : {g : ℕ} {t : Ty} → length before < MAX_OUTPUTS → name_among before n.text ≡ None → IsImage scope n.text g t → ¬ IsPort t
      → OutputFault scope before done n (at n.span OutputType)

-- the first fault among inputs, among definitions and among outputs
abbrev pub FaultyInputs : List Input → TypeFault → Type 0
FaultyInputs is f = First IsInput InputFault [] [] is f

abbrev pub FaultyDefinitions : List TypedInput → List P.Definition → TypeFault → Type 0
FaultyDefinitions inputs ds f = First (IsDefinition inputs) (DefinitionFault inputs) [] [] ds f

abbrev pub FaultyOutputs : Scope → List Name → TypeFault → Type 0
FaultyOutputs scope ns f = First (IsOutput scope) (OutputFault scope) [] [] ns f

-- IsFirstFault p f: f is the first fault of the program p: the size, the inputs, the definitions, the outputs.
pub data IsFirstFault (p : Source) : TypeFault → Type 0 where
  width : ¬ IsSide p.width.value → IsFirstFault p (at p.width.span SizeRange)
  height : IsSide p.width.value → ¬ IsSide p.height.value → IsFirstFault p (at p.height.span SizeRange)
  input : {f : TypeFault} → IsSide p.width.value → IsSide p.height.value → FaultyInputs p.inputs f → IsFirstFault p f
  definition : {f : TypeFault} {is : List TypedInput} → IsSide p.width.value → IsSide p.height.value
      → AreInputs p.inputs is → FaultyDefinitions is p.definitions f → IsFirstFault p f
  output : {f : TypeFault} {is : List TypedInput} {ds : List Definition} → IsSide p.width.value → IsSide p.height.value
      → AreInputs p.inputs is → AreDefinitions is p.definitions ds → FaultyOutputs (scope_of is ds) p.outputs f → IsFirstFault p f

-- the reported fault is one of F, or the error is out of memory
abbrev pub Stops : (TypeFault → Type 0) → TypeError → Type 0
Stops F (Fault f) = F f
Stops F OutOfMemory = Unit {0}

-- Which expressions and programs have types.
use Rattle.std.specs.Prelude.{◌≡◌, ℕ, ◌≤◌, ◌<◌, ◌^◌, List, [], Option, Some, None, true, length}
use Rattle.dk_base.specs.declared.TheConstants.{MAX_SIDE, MAX_INPUTS, MAX_DEFINITIONS, MAX_OUTPUTS, MAX_OFFSET}
use Rattle.dk_base.specs.declared.span.Span.{Span}
use Rattle.dk_base.specs.declared.ty.Ty.{Ty}
use Rattle.dk_base.specs.declared.operator.Conversion.TheVariants.{Cast, Saturate}
use Rattle.dk_base.specs.declared.operator.Unary.{Unary}
use Rattle.dk_base.specs.declared.operator.Binary.{Binary}
use Rattle.dk_base.specs.declared.operator.Scaling.{Scaling}
use Rattle.dk_base.specs.Types.{IsType, IsPort, converts}
use Rattle.dk_base.specs.Operators.{literal_type, unary_type, binary_type, scaling_type, select_type}
use Rattle.dk_parser.specs.declared.tree.Literal.{Literal}
use Rattle.dk_parser.specs.declared.tree.TypeWord.{TypeWord}
use Rattle.dk_parser.specs.declared.tree.Name.{Name}
use Rattle.dk_parser.specs.declared.tree.Input.{Input}
use Rattle.dk_parser.specs.declared.tree.ImageRead.{ImageRead}
use Rattle.dk_parser.specs.Tree.{Tree}
use Rattle.dk_parser.specs.Tree as T
use Rattle.dk_parser.specs.Programs.{Source}
use Rattle.dk_parser.specs.Programs as P
use Rattle.dk_types.specs.declared.typed.TypedInput.{TypedInput}
use Rattle.dk_types.specs.Typed.{Typed, constant, fetch, single, double, scaled, converted, chosen, type_of, Definition, Typing}
use Rattle.dk_types.specs.Scopes.{Scope, IsImage, IsUnknown, inputs_scope, scope_of, name_among}
use Rattle.dk_types.specs.Sequences.{Each}
use Rattle.dk_types.specs.Offsets.{amount_of, offset_of}

-- HasType scope e t: where the images of the scope may be read, the expression e is t, each part of it with its type.
pub data HasType (scope : Scope) : Tree → Typed → Type 0 where
  -- a literal has the least unsigned type that holds it
  literal : {s : Span} {v : ℕ} → v < 2 ^ 64 → HasType scope (T.number s v) (constant (literal_type v) v)
  -- a read has the type of its image, and each of its offsets is at most 64 in size
  read : {s : Span} {r : ImageRead} {g : ℕ} {t : Ty}
      → IsImage scope r.name.text g t → amount_of r.x ≤ MAX_OFFSET → amount_of r.y ≤ MAX_OFFSET
      → HasType scope (T.read s r) (fetch t (record { image = g; dx = offset_of r.x; dy = offset_of r.y; clamped = r.clamped }))
  unary : {s : Span} {o : Unary} {a : Tree} {e : Typed} {t : Ty}
      → HasType scope a e → unary_type o (type_of e) ≡ Some t
      → HasType scope (T.unary s o a) (single t o e)
  binary : {s : Span} {o : Binary} {a b : Tree} {e f : Typed} {t : Ty}
      → HasType scope a e → HasType scope b f → binary_type o (type_of e) (type_of f) ≡ Some t
      → HasType scope (T.binary s o a b) (double t o e f)
  scale : {s : Span} {o : Scaling} {a : Tree} {k : Literal} {e : Typed} {t : Ty}
      → HasType scope a e → scaling_type o (type_of e) k.value ≡ Some t
      → HasType scope (T.scale s o a k) (scaled t o e k.value)
  cast : {s : Span} {a : Tree} {w : TypeWord} {e : Typed}
      → HasType scope a e → IsType w.ty → HasType scope (T.cast s a w) (converted w.ty Cast e)
  saturate : {s : Span} {a : Tree} {w : TypeWord} {e : Typed}
      → HasType scope a e → IsType w.ty → HasType scope (T.sat s a w) (converted w.ty Saturate e)
  select : {s : Span} {c a b : Tree} {d e f : Typed} {t : Ty}
      → HasType scope c d → HasType scope a e → HasType scope b f → select_type (type_of d) (type_of e) (type_of f) ≡ Some t
      → HasType scope (T.select s c a b) (chosen t d e f)

-- Each number of the expression is below 2 ^ 64, as those of a text's tokens are.
abbrev pub HasNumbers : Tree → Type 0
HasNumbers (T.number s v) = v < 2 ^ 64
HasNumbers (T.read s r) = Unit {0}
HasNumbers (T.unary s o a) = HasNumbers a
HasNumbers (T.binary s o a b) = HasNumbers a × HasNumbers b
HasNumbers (T.scale s o a k) = HasNumbers a
HasNumbers (T.cast s a w) = HasNumbers a
HasNumbers (T.sat s a w) = HasNumbers a
HasNumbers (T.select s c a b) = HasNumbers c × HasNumbers a × HasNumbers b

-- 1 to 4,096 pixels
pub record IsSide (n : ℕ) : Type 0 where
  pub some : 1 ≤ n
  pub most : n ≤ MAX_SIDE

-- an image that is declared so takes a body of the type
pub record IsTaken (body declared : Ty) : Type 0 where
  pub is_type : IsType declared
  pub fits : converts body declared ≡ true

abbrev pub Takes : Option Ty → Ty → Type 0
Takes None body = Unit {0}
Takes (Some u) body = IsTaken body u

abbrev pub declared_type : Option TypeWord → Option Ty
declared_type None = None
declared_type (Some w) = Some w.ty

-- an input, after these
pub record IsInput (before : List Input) (done : List TypedInput) (i : Input) (t : TypedInput) : Type 0 where
  pub few : length done < MAX_INPUTS
  pub new : IsUnknown (inputs_scope done) i.name.text
  pub port : IsPort i.ty.ty
  pub is : t ≡ record { name = i.name; ty = i.ty.ty }

-- a definition, after the inputs and these definitions
pub record IsDefinition (inputs : List TypedInput) (before : List P.Definition) (done : List Definition) (d : P.Definition) (t : Definition) : Type 0 where
  pub few : length done < MAX_DEFINITIONS
  pub new : IsUnknown (scope_of inputs done) d.name.text
  pub body : Typed
  pub typed : HasType (scope_of inputs done) d.body body
  pub fits : Takes (declared_type d.declared) (type_of body)
  pub is : t ≡ record { inline = d.inline; name = d.name; declared = declared_type d.declared; body = body }

-- an output, after these
pub record IsOutput (scope : Scope) (before : List Name) (done : List ℕ) (n : Name) (g : ℕ) : Type 0 where
  pub few : length before < MAX_OUTPUTS
  pub new : name_among before n.text ≡ None
  pub ty : Ty
  pub image : IsImage scope n.text g ty
  pub port : IsPort ty

abbrev pub AreInputs : List Input → List TypedInput → Type 0
AreInputs is ts = Each IsInput [] [] is ts

abbrev pub AreDefinitions : List TypedInput → List P.Definition → List Definition → Type 0
AreDefinitions inputs ds ts = Each (IsDefinition inputs) [] [] ds ts

abbrev pub AreOutputs : Scope → List Name → List ℕ → Type 0
AreOutputs scope ns gs = Each (IsOutput scope) [] [] ns gs

-- the program has this typing
pub record IsTyping (p : Source) (t : Typing) : Type 0 where
  pub width : IsSide p.width.value
  pub height : IsSide p.height.value
  pub size : t.size ≡ record { width = p.width.value; height = p.height.value }
  pub inputs : AreInputs p.inputs t.inputs
  pub definitions : AreDefinitions t.inputs p.definitions t.definitions
  pub outputs : AreOutputs (scope_of t.inputs t.definitions) p.outputs t.outputs

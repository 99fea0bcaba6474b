-- Typed programs, without where they lie in memory.
use Rattle.std.specs.Prelude.{ℕ, Bool, List, ◌++◌, map, Option, Some, None}
use Rattle.dk_base.specs.declared.ty.Ty.{Ty}
use Rattle.dk_base.specs.declared.operator.Unary.{Unary}
use Rattle.dk_base.specs.declared.operator.Binary.{Binary}
use Rattle.dk_base.specs.declared.operator.Scaling.{Scaling}
use Rattle.dk_base.specs.declared.operator.Conversion.{Conversion}
use Rattle.dk_base.specs.declared.frame.FrameSize.{FrameSize}
use Rattle.dk_base.specs.Frames.{Size}
use Rattle.dk_base.specs.FrameSizes.{size_of}
use Rattle.dk_parser.specs.declared.tree.Name.{Name}
use Rattle.dk_types.specs.declared.typed.TypedRead.{TypedRead}
use Rattle.dk_types.specs.declared.typed.TypedInput.{TypedInput}
use Rattle.dk_types.specs.declared.typed.TypedDefinition.{TypedDefinition}
use Rattle.dk_types.specs.declared.typed.TypedExpr.{TypedExpr}
use Rattle.dk_types.specs.declared.typed.TypedNode.{TypedNode, Number, Read, Unary', Binary', Scale', Convert', Select'}

-- an expression, each part with its type
pub data Typed : Type 0 where
  constant : Ty → ℕ → Typed
  fetch : Ty → TypedRead → Typed
  single : Ty → Unary → Typed → Typed
  double : Ty → Binary → Typed → Typed → Typed
  scaled : Ty → Scaling → Typed → ℕ → Typed
  converted : Ty → Conversion → Typed → Typed
  chosen : Ty → Typed → Typed → Typed → Typed

abbrev pub type_of : Typed → Ty
type_of (constant t v) = t
type_of (fetch t r) = t
type_of (single t o a) = t
type_of (double t o a b) = t
type_of (scaled t o a k) = t
type_of (converted t o a) = t
type_of (chosen t c a b) = t

abbrev pub typed_at : Ty → TypedNode → Typed
typed_at t (Number v) = constant t v
typed_at t (Read r) = fetch t r
typed_at t (Unary' o p u a) = single t o (typed_at u a)
typed_at t (Binary' o p u a q w b) = double t o (typed_at u a) (typed_at w b)
typed_at t (Scale' o p u a k) = scaled t o (typed_at u a) k
typed_at t (Convert' o p u a) = converted t o (typed_at u a)
typed_at t (Select' p u c q w a r z b) = chosen t (typed_at u c) (typed_at w a) (typed_at z b)

-- what a typed expression of the program is
abbrev pub typed_of : TypedExpr → Typed
typed_of e = typed_at e.ty e.node

-- a definition
pub record Definition : Type 0 where
  pub inline : Bool
  pub name : Name
  pub declared : Option Ty
  pub body : Typed

-- A typed program: the size of its frame, its inputs and its definitions, each with a type, and the numbers of the images that are outputs. The inputs are the images 0, 1 and so on, the definitions are numbered on.
pub record Typing : Type 0 where
  pub size : Size
  pub inputs : List TypedInput
  pub definitions : List Definition
  pub outputs : List ℕ

abbrev pub definition_of : TypedDefinition → Definition
definition_of d = record { inline = d.inline; name = d.name; declared = d.declared; body = typed_of d.body }

abbrev pub definitions_as : List TypedDefinition → List Definition
definitions_as ds = map definition_of ds

-- the parts of a typed program, with their trees in memory
pub record TypedProgram : Type 0 where
  pub size : Size
  pub inputs : List TypedInput
  pub definitions : List TypedDefinition
  pub outputs : List ℕ

abbrev pub parts_of : FrameSize → List TypedInput → List TypedDefinition → List ℕ → TypedProgram
parts_of size is ds os = record { size = size_of size; inputs = is; definitions = ds; outputs = os }

-- what they are as a program
abbrev pub typing_of : TypedProgram → Typing
typing_of p = record { size = p.size; inputs = p.inputs; definitions = definitions_as p.definitions; outputs = p.outputs }

-- the type of an image: the declared one, or else that of its body
abbrev pub declared_or : Option Ty → Ty → Ty
declared_or None t = t
declared_or (Some u) t = u

abbrev pub image_type : Definition → Ty
image_type d = declared_or d.declared (type_of d.body)

-- the types of the images, in order
abbrev pub input_types : List TypedInput → List Ty
input_types is = map (λ i. i.ty) is

-- the types of all images of a program, in the order of their numbers: the inputs first
abbrev pub types_of : Typing → List Ty
types_of p = input_types p.inputs ++ map image_type p.definitions

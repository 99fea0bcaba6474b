-- Scopes: the images that may be read at a place of the text, by their names.
use Rattle.std.specs.Prelude.{◌≡◌, ℕ, List, ◌++◌, map, slice_get, position, Option, Some, None}
use Rattle.std.specs.Str.{bytes_eq}
use Rattle.dk_base.specs.declared.ty.Ty.{Ty}
use Rattle.dk_parser.specs.declared.tree.Name.{Name}
use Rattle.dk_types.specs.declared.typed.TypedInput.{TypedInput}
use Rattle.dk_types.specs.Typed.{Definition, image_type}

-- an image, by its name
pub record Named : Type 0 where
  pub name : List ℕ
  pub ty : Ty

-- images in the order of the text, inputs first
abbrev pub Scope : Type 0
Scope = List Named

-- the number of the first image with this name
abbrev pub image_of : Scope → List ℕ → Option ℕ
image_of scope name = position (λ i. bytes_eq name i.name) scope

abbrev pub types_in : Scope → List Ty
types_in scope = map (λ i. i.ty) scope

-- the name is that of image g, which has the type t
pub record IsImage (scope : Scope) (name : List ℕ) (g : ℕ) (t : Ty) : Type 0 where
  pub number : image_of scope name ≡ Some g
  pub type : slice_get (types_in scope) g ≡ Some t

-- no image has the name
abbrev pub IsUnknown : Scope → List ℕ → Type 0
IsUnknown scope name = image_of scope name ≡ None

abbrev pub input_named : TypedInput → Named
input_named i = record { name = i.name.text; ty = i.ty }

abbrev pub definition_named : Definition → Named
definition_named d = record { name = d.name.text; ty = image_type d }

-- the images that inputs make, and those that inputs and definitions make
abbrev pub inputs_scope : List TypedInput → Scope
inputs_scope is = map input_named is

abbrev pub scope_of : List TypedInput → List Definition → Scope
scope_of is ds = inputs_scope is ++ map definition_named ds

-- the name is among these
abbrev pub name_among : List Name → List ℕ → Option ℕ
name_among names name = position (λ n. bytes_eq name n.text) names

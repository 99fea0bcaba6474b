-- What each typed program keeps.
use Rattle.std.specs.Prelude.{◌≡◌, ℕ, ◌≤◌, ◌<◌, ◌^◌, ℤ, pos, ◌≤ℤ◌, neg_ℤ, List, [], ◌∷◌, ◌++◌, length, slice_get, Some}
use Rattle.dk_base.specs.declared.TheConstants.{MAX_OFFSET, MAX_INPUTS, MAX_DEFINITIONS, MAX_OUTPUTS}
use Rattle.dk_base.specs.declared.ty.Ty.{Ty}
use Rattle.dk_base.specs.Types.{IsType}
use Rattle.dk_base.specs.Operators.{literal_type, unary_type, binary_type, scaling_type, select_type}
use Rattle.dk_base.specs.Frames.{IsFrame}
use Rattle.dk_base.specs.Stencils.{IsDistinct}
use Rattle.dk_types.specs.declared.typed.TypedRead.{TypedRead}
use Rattle.dk_types.specs.declared.typed.TypedInput.{TypedInput}
use Rattle.dk_types.specs.Typed.{Typed, constant, fetch, single, double, scaled, converted, chosen, type_of, Definition, Typing, image_type, input_types, types_of}
use Rattle.dk_base.specs.Types.{IsPort}
use Rattle.dk_types.specs.Types.{Takes}

-- -64 to 64
pub record IsNear (v : ℤ) : Type 0 where
  pub least : neg_ℤ (pos MAX_OFFSET) ≤ℤ v
  pub most : v ≤ℤ pos MAX_OFFSET

-- the image is among those with these types, and has this one
pub record IsReadOf (types : List Ty) (t : Ty) (r : TypedRead) : Type 0 where
  pub image : slice_get types r.image ≡ Some t
  pub near_in_x : IsNear r.dx
  pub near_in_y : IsNear r.dy

-- Each part of the expression has the type that its form gives it, where images with these types may be read.
abbrev pub IsWell : List Ty → Typed → Type 0
IsWell types (constant t v) = (v < 2 ^ 64) × (t ≡ literal_type v)
IsWell types (fetch t r) = IsReadOf types t r
IsWell types (single t o a) = IsWell types a × (unary_type o (type_of a) ≡ Some t)
IsWell types (double t o a b) = IsWell types a × IsWell types b × (binary_type o (type_of a) (type_of b) ≡ Some t)
IsWell types (scaled t o a k) = IsWell types a × (scaling_type o (type_of a) k ≡ Some t)
IsWell types (converted t o a) = IsWell types a × IsType t
IsWell types (chosen t c a b) = IsWell types c × IsWell types a × IsWell types b × (select_type (type_of c) (type_of a) (type_of b) ≡ Some t)

-- Each definition reads only what comes before it, and its declared type takes its body.
abbrev pub AreWell : List Ty → List Definition → Type 0
AreWell types [] = Unit {0}
AreWell types (d ∷ ds) = IsWell types d.body × Takes d.declared (type_of d.body) × AreWell (types ++ image_type d ∷ []) ds

abbrev pub ArePorts : List TypedInput → Type 0
ArePorts [] = Unit {0}
ArePorts (i ∷ is) = IsPort i.ty × ArePorts is

-- an image with a port's type
pub record IsOutputOf (types : List Ty) (g : ℕ) : Type 0 where
  pub ty : Ty
  pub image : slice_get types g ≡ Some ty
  pub port : IsPort ty

abbrev pub AreOutputsOf : List Ty → List ℕ → Type 0
AreOutputsOf types [] = Unit {0}
AreOutputsOf types (g ∷ gs) = IsOutputOf types g × AreOutputsOf types gs

pub record IsTyped (p : Typing) : Type 0 where
  pub frame : IsFrame p.size.width p.size.height
  pub few_inputs : length p.inputs ≤ MAX_INPUTS
  pub few_definitions : length p.definitions ≤ MAX_DEFINITIONS
  pub few_outputs : length p.outputs ≤ MAX_OUTPUTS
  pub inputs : ArePorts p.inputs
  pub bodies : AreWell (input_types p.inputs) p.definitions
  pub outputs : AreOutputsOf (types_of p) p.outputs
  pub distinct : IsDistinct p.outputs

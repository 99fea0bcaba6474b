-- The images that a map of names keeps.
use Rattle.std.specs.Prelude.{◌≡◌, ℕ, ◌≤◌, List, length, slice_get, map, Some}
use Rattle.std.specs.Borrow.{Bor}
use Rattle.dk_base.specs.declared.TheConstants.{MAX_KEPT_IMAGES}
use Rattle.dk_base.specs.declared.ty.Ty.{Ty}
use Rattle.dk_base.specs.Types.{IsType}
use Rattle.dk_types.specs.Scopes.{Scope, IsImage, types_in}

-- the entries of a map, each a slice and a type, as images
abbrev pub named_in : List (Bor (List ℕ) × Ty) → Scope
named_in es = map (λ e. record { name = e.0.now; ty = e.1 }) es

-- at most 264 images, each with a type of 1 to 64 bits
pub record IsFull (scope : Scope) : Type 0 where
  pub few : length scope ≤ MAX_KEPT_IMAGES
  pub typed : (g : ℕ) (t : Ty) → slice_get (types_in scope) g ≡ Some t → IsType t

pub record IsFound (scope : Scope) (name : List ℕ) (g : ℕ) (t : Ty) : Type 0 where
  pub image : IsImage scope name g t
  pub is_type : IsType t

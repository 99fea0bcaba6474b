-- When a program with other bodies means the same.
use Rattle.std.specs.Prelude.{◌≡◌, ◌↔◌, ℕ, ◌≤◌, ℤ, List, [], ◌∷◌, ◌++◌, Some, map, slice_get}
use Rattle.dk_base.specs.declared.ty.Ty.{Ty}
use Rattle.dk_base.specs.Types.{IsIn}
use Rattle.dk_base.specs.Frames.{Size, Picture}
use Rattle.pointwise_ir.specs.declared.program.Definition.{Definition}
use Rattle.pointwise_ir.specs.Trees.{Tree, tree_of, depth_of, AreNear}
use Rattle.pointwise_ir.specs.Typing.{HasType}
use Rattle.pointwise_ir.specs.Programs.{Program}
use Rattle.dk_base.specs.Frames.{picture_at}
use Rattle.pointwise_ir.specs.Meaning.{value}
use Rattle.pointwise_ir.specs.Reads.{Reads}

-- the values of each image are in its type
abbrev pub AreInTypes : List Ty → List Picture → Type 0
AreInTypes types known = (g : ℕ) (t : Ty) → slice_get types g ≡ Some t → (x y : ℤ) → IsIn t (picture_at known g x y)

-- b may replace a, which has the type t over images of these types: it has that type, is no deeper, has the same value at each point, and reads the same pixels
pub record IsRewriting (size : Size) (types : List Ty) (t : Ty) (a b : Tree) : Type 0 where
  pub typed : HasType types b t
  pub depth : depth_of b ≤ depth_of a
  pub offsets : AreNear b
  pub values : (known : List Picture) → AreInTypes types known → (x y : ℤ) → value size known b x y ≡ value size known a x y
  pub reads : (x y : ℤ) (g : ℕ) (u v : ℤ) → Reads size b x y g u v ↔ Reads size a x y g u v

-- d' is d with a body that may replace d's
pub record IsRewritten (size : Size) (earlier : List Ty) (d d' : Definition) : Type 0 where
  pub name : d'.name ≡ d.name
  pub ty : d'.ty ≡ d.ty
  pub body : IsRewriting size earlier d.ty (tree_of d.body) (tree_of d'.body)

-- images over those of the types ts, one after another
abbrev pub AreRewritten : Size → List Ty → List Definition → List Definition → Type 0
AreRewritten size ts [] [] = Unit {0}
AreRewritten size ts [] (d' ∷ new) = ⊥
AreRewritten size ts (d ∷ old) [] = ⊥
AreRewritten size ts (d ∷ old) (d' ∷ new) = IsRewritten size ts d d' × AreRewritten size (ts ++ d.ty ∷ []) old new

-- the same program, but for bodies that may replace the old ones
pub record IsSameBut (old new : Program) : Type 0 where
  pub size : new.size ≡ old.size
  pub inputs : new.inputs ≡ old.inputs
  pub outputs : new.outputs ≡ old.outputs
  pub images : AreRewritten old.size (map (λ i. i.ty) old.inputs) old.images new.images

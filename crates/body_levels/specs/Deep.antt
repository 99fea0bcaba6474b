-- Bodies of many levels, and programs whose bodies have fewer.
use Rattle.std.specs.Prelude.{◌≡◌, ℕ, ◌<◌, ◌≤◌, max, Bool, nat_lt, IsTrue, List, Some, slice_get}
use Rattle.pointwise_ir.specs.declared.program.Definition.{Definition}
use Rattle.pointwise_ir.specs.Trees.{tree_of}
use Rattle.pointwise_ir.specs.Programs.{Program}
use Rattle.body_levels.specs.Levels.{level_of}

-- the levels of an image's body
abbrev pub image_levels : Definition → ℕ
image_levels d = level_of (tree_of d.body)

-- the body has more than `most` levels
abbrev pub is_deep : (most : ℕ) → Definition → Bool
is_deep most d = nat_lt most (image_levels d)

-- the program has an image of this name whose body has at most this many levels
pub record HasWithin (p : Program) (name : List ℕ) (most : ℕ) : Type 0 where
  pub place : ℕ
  pub image : Definition
  pub there : slice_get p.images place ≡ Some image
  pub same : image.name ≡ name
  pub within : image_levels image ≤ most

-- the image of this number has fewer levels in the new program than in the old one, where it has more than `most`
pub record HasFewer (most : ℕ) (old new : Program) (k : ℕ) : Type 0 where
  pub image : Definition
  pub there : slice_get old.images k ≡ Some image
  pub deep : IsTrue (is_deep most image)
  pub fewer : (n : ℕ) × (n < image_levels image) × HasWithin new image.name n

-- Each image of the old program is one of the new program, by its name, with no more levels than there or than `most`; and of one that had more than `most` the body has fewer.
pub record IsShallower (most : ℕ) (old new : Program) : Type 0 where
  pub none_deeper : (k : ℕ) (d : Definition) → slice_get old.images k ≡ Some d → HasWithin new d.name (max most (image_levels d))
  pub some_fewer : (k : ℕ) × HasFewer most old new k

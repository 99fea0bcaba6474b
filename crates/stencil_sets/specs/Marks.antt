-- Used by private functions only.
-- Which images are kept, by marks.
use Rattle.std.specs.Prelude.{◌≡◌, ℕ, ℤ, ◌+◌, ◌<◌, ◌≤◌, ◌⊎◌, Bool, true, List, length, slice_get, Some}
use Rattle.pointwise_ir.specs.Trees.{Tree}
use Rattle.pointwise_ir.specs.Programs.{Program, bodies_of}
use Rattle.pointwise_ir.specs.Reads.{Kept}
use Rattle.pointwise_ir.specs.Stencils.{AreImages}
use Rattle.dk_base.specs.declared.stencils.Image.{Image}
use Rattle.dk_base.specs.Stencils.{AreKeptImages}
use Rattle.stencil_sets.specs.Paths.{ReadsAt}

abbrev pub IsMarked : List Bool → ℕ → Type 0
IsMarked kept g = slice_get kept g ≡ Some true

-- the images that are kept, and no others, are marked
pub record AreMarks (p : Program) (kept : List Bool) : Type 0 where
  pub one_each : length kept ≡ length p.inputs + length p.images
  pub sound : (g : ℕ) → IsMarked kept g → Kept p g
  pub complete : (g : ℕ) → Kept p g → IsMarked kept g

-- The kept images of a program, with their widths.
pub record AreKeptOf (p : Program) (xs : List Image) : Type 0 where
  -- they are the images that are kept
  pub images : AreImages p xs
  -- they have the form of kept images, of which the first are the inputs
  pub form : AreKeptImages (length p.inputs) xs

-- The outputs and the kept images of a program, with their widths.
pub record AreOutputsAndKept (p : Program) (numbers : List ℕ) (xs : List Image) : Type 0 where
  -- the outputs
  pub outputs : numbers ≡ p.outputs
  -- the kept images
  pub kept : AreKeptOf p xs

-- A mark for each image, and only images that are kept are marked.
pub record AreSoundMarks (p : Program) (marks : List Bool) : Type 0 where
  -- there is one for each
  pub one_each : length marks ≡ length p.inputs + length p.images
  -- those that are marked are kept
  pub sound : (g : ℕ) → IsMarked marks g → Kept p g

-- A mark for each image, and none is marked.
pub record AreBlankMarks (p : Program) (marks : List Bool) : Type 0 where
  -- there is one for each
  pub one_each : length marks ≡ length p.inputs + length p.images
  -- none is marked
  pub none : (g : ℕ) → IsMarked marks g → ⊥

-- these are marked too, where they are there, and no others
pub record MarksMore (old new : List Bool) (P : ℕ → Type 0) : Type 0 where
  pub length_stays : length new ≡ length old
  pub stay : (g : ℕ) → IsMarked old g → IsMarked new g
  pub marked : (g : ℕ) → g < length old → P g → IsMarked new g
  pub only : (g : ℕ) → IsMarked new g → IsMarked old g ⊎ P g

-- all images that the outputs need, from the last on
pub record MarkedSoFar (p : Program) (first now : List Bool) (k : ℕ) : Type 0 where
  pub one_each : length now ≡ length p.inputs + length p.images
  pub within : k ≤ length p.images
  pub stay : (g : ℕ) → IsMarked first g → IsMarked now g
  pub sound : (g : ℕ) → IsMarked now g → Kept p g
  pub closed : (j : ℕ) (e : Tree) → k ≤ j → slice_get (bodies_of p) j ≡ Some e → IsMarked now (length p.inputs + j) → (g : ℕ) (dx dy : ℤ) → ReadsAt p.size e g dx dy → IsMarked now g

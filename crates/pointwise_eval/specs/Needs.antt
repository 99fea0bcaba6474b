-- Until when the outputs need each image.
use Rattle.std.specs.Prelude.{◌≡◌, ◌≢◌, ℕ, ◌+◌, ◌^◌, ◌<◌, ◌≤◌, List, length, slice_index, slice_get, Some}
use Rattle.std.specs.List.{All}
use Rattle.pointwise_ir.specs.Trees.{Tree, EachImage}
use Rattle.pointwise_ir.specs.Programs.{Program, IsBody}

-- Image g is needed after the first n images: it is an output, or a later image that is needed reads it. Given is for each image how many images there are before it is not needed any more.
abbrev pub IsNeeded : List ℕ → (n g : ℕ) → Type 0
IsNeeded until n g = n < slice_index until g

-- Notes of which none is taken back: each image is needed for at least as long as it was.
abbrev pub KeepsNeeds : (old new : List ℕ) → Type 0
KeepsNeeds old new = (n g : ℕ) → IsNeeded old n g → IsNeeded new n g

-- A note on an image that is there, behind `behind` images.
pub record IsNote (count image behind : ℕ) : Type 0 where
  -- the image is there
  pub there : image < count
  -- there are not too many images
  pub few : behind < 2 ^ 62

-- An image is noted as needed after the first `behind`.
pub record Notes (old new : List ℕ) (behind image : ℕ) : Type 0 where
  -- it is needed
  pub needed : IsNeeded new behind image
  -- no note is taken back
  pub kept : KeepsNeeds old new
  -- the notes of the others stay
  pub others : (g : ℕ) → g ≢ image → slice_get new g ≡ slice_get old g

-- The images that an expression reads are noted as needed after the first `behind`.
pub record NotesReads (old new : List ℕ) (behind : ℕ) (e : Tree) : Type 0 where
  -- they are needed
  pub reads : EachImage (IsNeeded new behind) e
  -- no note is taken back
  pub kept : KeepsNeeds old new
  -- the notes of images after all that it reads stay
  pub others : (n : ℕ) → EachImage (λ g. g < n) e → (g : ℕ) → n ≤ g → slice_get new g ≡ slice_get old g

-- Of the images with these bodies, after the inputs: where one is needed after itself, what it reads is needed up to it.
pub record NotesBodies (old new : List ℕ) (inputs : ℕ) (bodies : List Tree) : Type 0 where
  -- no note is taken back
  pub kept : KeepsNeeds old new
  -- what it reads is needed
  pub closed : (k : ℕ) (e : Tree) → slice_get bodies k ≡ Some e → IsNeeded new (inputs + k + 1) (inputs + k)
      → EachImage (IsNeeded new (inputs + k)) e

-- the number of all images, inputs among them
abbrev pub image_count : Program → ℕ
image_count p = length p.inputs + length p.images

-- The outputs are needed after all images. Where an image is needed after itself, what it reads is needed up to it.
pub record AreNeeds (p : Program) (until : List ℕ) : Type 0 where
  pub one_each : length until ≡ image_count p
  pub outputs : All (IsNeeded until (image_count p)) p.outputs
  pub bodies : (f : ℕ) (e : Tree) → IsBody p f e → IsNeeded until (f + 1) f → EachImage (IsNeeded until f) e

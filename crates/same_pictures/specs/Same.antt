-- When two programs show the same pictures.
use Rattle.std.specs.Prelude.{◌≡◌, ℕ, ◌<◌, ℤ, List, length, slice_get, slice_index}
use Rattle.dk_base.specs.Frames.{Picture, picture_at}
use Rattle.pointwise_ir.specs.Programs.{Program, names_of, types_of}
use Rattle.pointwise_ir.specs.Meaning.{pictures, IsRound}

-- on each round image h of the new program has the picture of image g of the old one
abbrev pub HaveSamePicture : (old new : Program) → (g h : ℕ) → Type 0
HaveSamePicture old new g h = (round : List Picture) → IsRound old round → (x y : ℤ) → picture_at (pictures old round) g x y ≡ picture_at (pictures new round) h x y

-- The new program has the old one's size, inputs and outputs, with their names and types, and on each round the same picture of each output.
pub record HaveSamePictures (old new : Program) : Type 0 where
  pub size : new.size ≡ old.size
  pub inputs : new.inputs ≡ old.inputs
  pub count : length new.outputs ≡ length old.outputs
  pub names : (k : ℕ) → k < length old.outputs → slice_get (names_of new) (slice_index new.outputs k) ≡ slice_get (names_of old) (slice_index old.outputs k)
  pub types : (k : ℕ) → k < length old.outputs → slice_get (types_of new) (slice_index new.outputs k) ≡ slice_get (types_of old) (slice_index old.outputs k)
  pub pictures : (k : ℕ) → k < length old.outputs → HaveSamePicture old new (slice_index old.outputs k) (slice_index new.outputs k)

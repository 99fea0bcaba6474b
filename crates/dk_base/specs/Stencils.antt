-- Kept images and their live reads.
use Rattle.std.specs.Prelude.{◌≡◌, ℕ, ℤ, pos, neg_ℤ, ◌<◌, ◌≤◌, ◌<ℤ◌, ◌≤ℤ◌, ◌==◌, List, length, map, slice_index, slice_index_or}
use Rattle.std.specs.List.{All, position_or_len}
use Rattle.dk_base.specs.declared.stencils.Image.{Image}
use Rattle.dk_base.specs.declared.stencils.LiveRead.{LiveRead}
use Rattle.dk_base.specs.declared.TheConstants.{MAX_INPUTS, MAX_OUTPUTS, MAX_KEPT_IMAGES, MAX_LIVE_READS, MAX_WIDTH}
use Rattle.dk_base.specs.Frames.{IsFrame}

-- The frame's sides in pixels, how many inputs there are, the images that are outputs, the kept images in order, and their live reads. The inputs are the images 0, 1 and so on.
pub record Stencils : Type 0 where
  pub width : ℕ
  pub height : ℕ
  pub inputs : ℕ
  pub outputs : List ℕ
  pub images : List Image
  pub reads : List LiveRead

-- the numbers of the kept images
abbrev pub numbers : List Image → List ℕ
numbers images = map (λ i. i.number) images

-- the place of an image among the kept ones, or their count where it is not kept
abbrev pub place : List Image → ℕ → ℕ
place images g = position_or_len (λ i. i.number == g) images

abbrev pub IsKept : List Image → ℕ → Type 0
IsKept images g = place images g < length images

-- each image's number is below those of the later ones
abbrev pub Ascends : List Image → Type 0
Ascends images = (i j : ℕ) (d : Image) → i < j → j < length images → (slice_index_or images i d).number < (slice_index_or images j d).number

-- the type of an image's values has 1 to 64 bits
pub record HasWidth (image : Image) : Type 0 where
  pub some : 1 ≤ image.width
  pub most : image.width ≤ MAX_WIDTH

-- the number at k comes before it too
abbrev pub Repeats : List ℕ → ℕ → Type 0
Repeats xs k = (i : ℕ) × (i < k) × (slice_index xs i ≡ slice_index xs k)

-- no number occurs twice
abbrev pub IsDistinct : List ℕ → Type 0
IsDistinct xs = (i j : ℕ) → i < j → j < length xs → slice_index xs i ≡ slice_index xs j → ⊥

-- one read comes before another: by the image that reads, then by the one that is read, then by row, then by column
pub record IsBefore (a b : LiveRead) : Type 0 where
  pub reader : a.f ≤ b.f
  pub source : a.f ≡ b.f → a.g ≤ b.g
  pub rows : a.f ≡ b.f → a.g ≡ b.g → a.dy ≤ℤ b.dy
  pub columns : a.f ≡ b.f → a.g ≡ b.g → a.dy ≡ b.dy → a.dx <ℤ b.dx

-- so no read occurs twice
abbrev pub AreInOrder : List LiveRead → Type 0
AreInOrder reads = (i j : ℕ) (d : LiveRead) → i < j → j < length reads → IsBefore (slice_index_or reads i d) (slice_index_or reads j d)

-- an offset is less than the frame's side to either side
pub record IsOffset (side : ℕ) (offset : ℤ) : Type 0 where
  pub low : neg_ℤ (pos side) <ℤ offset
  pub high : offset <ℤ pos side

-- a read between kept images: of an earlier image, by one that is no input, and not farther than the frame is wide and high
pub record IsRead (width height inputs : ℕ) (images : List Image) (r : LiveRead) : Type 0 where
  pub reader_kept : IsKept images r.f
  pub source_kept : IsKept images r.g
  pub no_input : inputs ≤ r.f
  pub earlier : r.g < r.f
  pub across : IsOffset width r.dx
  pub down : IsOffset height r.dy

-- kept images in order, the inputs first
pub record AreKeptImages (inputs : ℕ) (images : List Image) : Type 0 where
  pub some_inputs : 1 ≤ inputs
  pub most_inputs : inputs ≤ MAX_INPUTS
  pub most_images : length images ≤ MAX_KEPT_IMAGES
  pub inputs_kept : inputs ≤ length images
  pub ascending : Ascends images
  pub inputs_first : (k : ℕ) → k < inputs → slice_index (numbers images) k ≡ k
  pub widths : All HasWidth images

-- kept images that are outputs
pub record AreOutputs (images : List Image) (outputs : List ℕ) : Type 0 where
  pub some_outputs : 1 ≤ length outputs
  pub most_outputs : length outputs ≤ MAX_OUTPUTS
  pub distinct : IsDistinct outputs
  pub outputs_kept : All (IsKept images) outputs

-- live reads between kept images, each once
pub record AreLiveReads (width height inputs : ℕ) (images : List Image) (reads : List LiveRead) : Type 0 where
  pub most_reads : length reads ≤ MAX_LIVE_READS
  pub in_order : AreInOrder reads
  pub between : All (IsRead width height inputs images) reads

pub record IsStencils (s : Stencils) : Type 0 where
  pub frame : IsFrame s.width s.height
  pub images : AreKeptImages s.inputs s.images
  pub outputs : AreOutputs s.images s.outputs
  pub reads : AreLiveReads s.width s.height s.inputs s.images s.reads

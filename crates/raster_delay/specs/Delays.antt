-- Delays of the kept images, by their place in order, and the system of constraints on them.
use Rattle.std.specs.Prelude.{◌≡◌, ◌≢◌, ℕ, ℤ, pos, neg_ℤ, ◌+◌, ◌-◌, ◌*◌, ◌^◌, ◌<◌, ◌≤◌, ◌+ℤ◌, ◌-ℤ◌, ◌*ℤ◌, ◌≤ℤ◌, ◌==◌, if◌then◌else◌, max, unsigned_abs, List, [], ◌∷◌, ◌++◌, length, map, slice_index, slice_index_or, All, sum_by}
use Rattle.std.specs.List.{enumerate_from, range_with_len}
use Rattle.dk_base.specs.declared.TheConstants.{MAX_SIDE, MAX_AGE, MAX_WIDTH, MAX_KEPT_IMAGES, MAX_LIVE_READS}
use Rattle.raster_delay.specs.Network.{Buffer, Holds, constraint_at, demanded}
use Rattle.raster_delay.specs.declared.network.Constraint.{Constraint}
use Rattle.raster_delay.specs.declared.placed.PlacedRead.{PlacedRead}

-- how much later in raster order the pixel that is read comes
abbrev pub offset : ℕ → PlacedRead → ℤ
offset row r = r.dy *ℤ pos row +ℤ r.dx

-- how old a read is: how long before the reader's pixel the pixel that is read came
abbrev pub age_of : ℕ → List ℕ → PlacedRead → ℤ
age_of row d r = pos (slice_index d r.f) -ℤ pos (slice_index d r.g) -ℤ offset row r

-- a delay for each image, 0 for each input, and each age at least so much
pub record AreCausal (row age inputs images : ℕ) (reads : List PlacedRead) (d : List ℕ) : Type 0 where
  pub one_each : length d ≡ images
  pub inputs_at_once : (k : ℕ) → k < inputs → slice_index d k ≡ 0
  pub ages : All (λ r. pos age ≤ℤ age_of row d r) reads

-- the greatest age among the reads that read image g, 0 without any
abbrev pub depth_of : ℕ → List ℕ → List PlacedRead → ℕ → ℕ
depth_of row d [] g = 0
depth_of row d (r ∷ reads) g = if r.g == g then max (unsigned_abs (age_of row d r)) (depth_of row d reads g) else depth_of row d reads g

-- the sum of width times depth
abbrev pub bits_of : ℕ → List ℕ → List PlacedRead → List ℕ → ℕ
bits_of row d reads widths = sum_by (λ x. x.1 * depth_of row d reads x.0) (enumerate_from 0 widths)

-- the node at which image k begins: node 0 for each input, and then one for each other image in order
abbrev pub begin_of : (inputs k : ℕ) → ℕ
begin_of inputs k = k + 1 - inputs

-- how many nodes images begin at
abbrev pub begin_count : (inputs images : ℕ) → ℕ
begin_count inputs images = images + 1 - inputs

-- the node at which image k ends: after the others, one for each image in order
abbrev pub end_of : (inputs images k : ℕ) → ℕ
end_of inputs images k = begin_count inputs images + k

abbrev pub node_count : (inputs images : ℕ) → ℕ
node_count inputs images = begin_count inputs images + images

-- an image ends no earlier than it begins
abbrev pub hold : (inputs images k : ℕ) → Constraint
hold inputs images k = record { source = begin_of inputs k; target = end_of inputs images k; cost = pos 0 }

-- an image begins no earlier than the inputs
abbrev pub start : (inputs k : ℕ) → Constraint
start inputs k = record { source = 0; target = begin_of inputs k; cost = pos 0 }

-- a read's age is at least so much
abbrev pub read : (row age inputs : ℕ) → PlacedRead → Constraint
read row age inputs r = record { source = begin_of inputs r.g; target = begin_of inputs r.f; cost = offset row r +ℤ pos age }

-- a read's age is at most the depth of what is read
abbrev pub keep : (row inputs images : ℕ) → PlacedRead → Constraint
keep row inputs images r = record { source = begin_of inputs r.f; target = end_of inputs images r.g; cost = neg_ℤ (offset row r) }

abbrev pub holds_of : (inputs images : ℕ) → List Constraint
holds_of inputs images = map (hold inputs images) (range_with_len 0 images)

-- for each image that is no input
abbrev pub starts_of : (inputs images : ℕ) → List Constraint
starts_of inputs images = map (start inputs) (range_with_len inputs (images - inputs))

-- all constraints, in the order of their kinds
abbrev pub constraints_of : (row age inputs images : ℕ) → List PlacedRead → List Constraint
constraints_of row age inputs images reads =
    ((holds_of inputs images ++ starts_of inputs images) ++ map (read row age inputs) reads) ++ map (keep row inputs images) reads

-- each image's width is held from its beginning to its end
abbrev pub buffer : (inputs images : ℕ) → ℕ × ℕ → Buffer
buffer inputs images x = record { begin = begin_of inputs x.0; end = end_of inputs images x.0; width = x.1 }

abbrev pub buffers_of : (inputs images : ℕ) → List ℕ → List Buffer
buffers_of inputs images widths = map (buffer inputs images) (enumerate_from 0 widths)

abbrev pub IsNear : ℤ → Type 0
IsNear z = (neg_ℤ (pos (2 ^ 24)) ≤ℤ z) × (z ≤ℤ pos (2 ^ 24))

-- the number of inputs and that of kept images
pub record AreImageCounts (inputs images : ℕ) : Type 0 where
  -- each input is kept
  pub kept : inputs ≤ images
  -- places are of 32 bits
  pub limit : images < 2 ^ 32

-- a read in a frame of `row` columns, between two of the first n images
pub record IsReadAmong (row n : ℕ) (r : PlacedRead) : Type 0 where
  -- the columns are within the limit
  pub row_limit : row ≤ MAX_SIDE
  -- the pixel that is read is at most 2^24 clocks away
  pub near : IsNear (offset row r)
  -- the image that reads is one of them
  pub reader : r.f < n
  -- and so is the image that is read
  pub source : r.g < n

-- images before what reads them, inputs that read nothing, reads in the order of their readers, and numbers within limits
pub record AreReads (row inputs images : ℕ) (reads : List PlacedRead) : Type 0 where
  pub earlier : All (λ r. r.g < r.f) reads
  pub readers : All (λ r. inputs ≤ r.f) reads
  pub among : All (λ r. r.f < images) reads
  pub near : All (λ r. IsNear (offset row r)) reads
  pub in_order : (i j : ℕ) (d : PlacedRead) → i ≤ j → j < length reads → (slice_index_or reads i d).f ≤ (slice_index_or reads j d).f

-- live reads between the kept images of a system
pub record AreReadsOf (row inputs images : ℕ) (reads : List PlacedRead) : Type 0 where
  -- the columns are within the limit
  pub row_limit : row ≤ MAX_SIDE
  -- so are the images
  pub counts : AreImageCounts inputs images
  -- each read is of an earlier image
  pub reads_are : AreReads row inputs images reads

-- numbers within the limits of programs
pub record IsForm (row age inputs images : ℕ) (widths : List ℕ) (reads : List PlacedRead) : Type 0 where
  pub row_limit : row ≤ MAX_SIDE
  pub age_limit : age ≤ MAX_AGE
  pub some_inputs : 1 ≤ inputs
  pub inputs_kept : inputs ≤ images
  pub image_limit : images ≤ MAX_KEPT_IMAGES
  pub count : length reads ≤ MAX_LIVE_READS
  pub one_width_each : length widths ≡ images
  pub bits : All (λ w. w ≤ MAX_WIDTH) widths
  pub reads_are : AreReads row inputs images reads

-- no constraint leads away from where a later one leads
abbrev pub NoReturn : List Constraint → Type 0
NoReturn cs = (i j : ℕ) → i ≤ j → j < length cs → (constraint_at cs i).source ≡ (constraint_at cs j).target → ⊥

abbrev pub IsSmall : Constraint → Type 0
IsSmall c = (neg_ℤ (pos (2 ^ 24 + MAX_AGE)) ≤ℤ c.cost) × (c.cost ≤ℤ pos (2 ^ 24 + MAX_AGE))

-- constraints between nodes below n, few and of small costs, that can be kept in one pass
pub record AreBounded (n : ℕ) (cs : List Constraint) : Type 0 where
  pub sources : All (λ c. c.source < n) cs
  pub targets : All (λ c. c.target < n) cs
  pub costs : All IsSmall cs
  pub no_return : NoReturn cs
  pub count : length cs ≤ 2 ^ 14

-- the number that a constraint needs its target to have, at least, where the others have these numbers
pub record IsNeeded (numbers : List ℕ) (c : Constraint) (number : ℕ) : Type 0 where
  -- it is as much as the constraint demands
  pub enough : demanded numbers c ≤ℤ pos number
  -- and nothing less is
  pub least : (n : ℕ) → demanded numbers c ≤ℤ pos n → number ≤ n
  -- it is not far above the source's number
  pub near : number ≤ slice_index numbers c.source + 2 ^ 25

-- numbers of nodes, raised as far as some constraints need and no further
pub record AreRaised (cs : List Constraint) (old new : List ℕ) : Type 0 where
  -- these constraints hold
  pub holds : All (Holds new) cs
  -- no other numbers that satisfy them and are no less than the old ones are less
  pub least : (d : List ℕ) → All (Holds d) cs → ((v : ℕ) → slice_index old v ≤ slice_index d v) → (v : ℕ) → slice_index new v ≤ slice_index d v
  -- no number is less than it was
  pub more : (v : ℕ) → slice_index old v ≤ slice_index new v
  -- a number changes only at a target
  pub others : (v : ℕ) → ((i : ℕ) → i < length cs → (constraint_at cs i).target ≢ v) → slice_index new v ≡ slice_index old v
  -- none is raised by more than 2^39 above the greatest
  pub near : (m : ℕ) → ((v : ℕ) → slice_index old v ≤ m) → (v : ℕ) → slice_index new v ≤ m + 2 ^ 39

-- the numbers of some nodes, one for each kept image
pub record AreNumbersOf (node : (k : ℕ) → ℕ) (images : ℕ) (all found : List ℕ) : Type 0 where
  -- there is one for each image
  pub length : length found ≡ images
  -- it is that of the image's node
  pub numbers : (k : ℕ) → k < images → slice_index found k ≡ slice_index all (node k)

-- every delay is below 2^34
abbrev pub AreNear : List ℕ → Type 0
AreNear d = (k : ℕ) → slice_index d k < 2 ^ 34

-- a read of a pixel that came before, by delays that are not too great
pub record IsHeldRead (row : ℕ) (d : List ℕ) (r : PlacedRead) : Type 0 where
  -- both its images have a delay
  pub among : IsReadAmong row (length d) r
  -- each delay is below 2^34
  pub small : AreNear d
  -- the pixel came before or comes at once
  pub due : pos 0 ≤ℤ age_of row d r

-- the same of each of some reads
pub record AreHeldReads (row inputs : ℕ) (d : List ℕ) (reads : List PlacedRead) : Type 0 where
  -- the columns are within the limit
  pub row_limit : row ≤ MAX_SIDE
  -- their images have delays
  pub reads_are : AreReads row inputs (length d) reads
  -- each delay is below 2^34
  pub small : AreNear d
  -- each pixel came before or comes at once
  pub due : All (λ r. pos 0 ≤ℤ age_of row d r) reads

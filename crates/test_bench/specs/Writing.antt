-- The pictures that are kept, and their images.
use Rattle.std.specs.Prelude.{◌≡◌, ℕ, ◌+◌, ◌*◌, ◌-◌, ◌^◌, ◌<◌, ◌≤◌, List, [], length, map, take, drop, slice_get, slice_index, slice_index_or, Some}
use Rattle.std.specs.List.{All, flat_map, range_with_len}
use Rattle.dk_base.specs.declared.TheConstants.{MAX_FILE_IMAGES}
use Rattle.dk_base.specs.Frames.{Size, area}
use Rattle.wiring.specs.Rules.{IsPortWidth}
use Rattle.pgm_codec.specs.Images.{Image}
use Rattle.test_bench.specs.declared.picture.Shown.{Shown}
use Rattle.stimulus.specs.Showing.{IsEnough}

-- the picture of this number has shown enough
abbrev pub HasEnough : (pictures : List Shown) → (asked : ℕ) → ℕ → Type 0
HasEnough pictures asked k = (kept : Shown) → slice_get pictures k ≡ Some kept → IsEnough (length pictures) asked kept.count

-- the first picture that has not shown enough has `shown` samples
pub record IsFirstShort (pictures : List Shown) (asked shown : ℕ) : Type 0 where
  pub output : ℕ
  pub kept : Shown
  pub at : slice_get pictures output ≡ Some kept
  pub wrong : ¬ IsEnough (length pictures) asked kept.count
  pub before : (k : ℕ) → k < output → HasEnough pictures asked k
  pub shown_is : shown ≡ kept.count

-- the required samples are there, and each fits the dout of this width
pub record IsWhole (asked bits : ℕ) (kept : Shown) : Type 0 where
  pub samples : asked ≤ length kept.samples.items
  pub width : IsPortWidth bits
  pub values : All (λ s. s ≤ 2 ^ bits - 1) kept.samples.items

-- pictures of whole rounds, the outputs having ports of these widths
pub record AreWhole (size : Size) (ports : List ℕ) (rounds : ℕ) (pictures : List Shown) : Type 0 where
  pub count : length ports ≡ 2 * length pictures
  pub each : (k : ℕ) (kept : Shown) → slice_get pictures k ≡ Some kept → IsWhole (rounds * area size) (slice_index ports (2 * k + 1)) kept

abbrev pub samples_at : List Shown → ℕ → List ℕ
samples_at pictures k = slice_index_or (map (λ (kept : Shown). kept.samples.items) pictures) k []

-- the image of an output in a round
abbrev pub image_kept : Size → (ports : List ℕ) → List Shown → (round output : ℕ) → Image
image_kept size ports pictures round output = record { width = size.width; height = size.height; maxval = 2 ^ slice_index ports (2 * output + 1) - 1; samples = take (area size) (drop (round * area size) (samples_at pictures output)) }

-- those of all outputs
abbrev pub round_kept : Size → (ports : List ℕ) → List Shown → (round : ℕ) → List Image
round_kept size ports pictures round = map (image_kept size ports pictures round) (range_with_len 0 (length pictures))

-- pictures of whole rounds, this round among them
abbrev pub HaveRound : Size → (ports : List ℕ) → List Shown → (round : ℕ) → Type 0
HaveRound size ports pictures round = (rounds : ℕ) × (round < rounds) × (rounds ≤ MAX_FILE_IMAGES) × AreWhole size ports rounds pictures

-- those of this many rounds
abbrev pub rounds_kept : Size → (ports : List ℕ) → List Shown → (rounds : ℕ) → List Image
rounds_kept size ports pictures rounds = flat_map (round_kept size ports pictures) (range_with_len 0 rounds)

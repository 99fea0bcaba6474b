-- The rounds of frames that a bench takes.
use Rattle.std.specs.Prelude.{◌≡◌, ℕ, ◌^◌, ◌<◌, ◌≤◌, List, length, map}
use Rattle.std.specs.List.{All, AllZip}
use Rattle.dk_base.specs.declared.TheConstants.{MAX_FILE_IMAGES}
use Rattle.dk_base.specs.Frames.{Size, area}
use Rattle.dk_frames.specs.declared.frame.Frame.{Frame}
use Rattle.pgm_rounds.specs.declared.round.Round.{Round}
use Rattle.pgm_rounds.specs.Files.{frames_of}
use Rattle.stimulus.specs.Stimulus.{Rounds}

-- the samples of the rounds that were read
abbrev pub rounds_of : List Round → Rounds
rounds_of rounds = map (λ frames. map (λ f. f.samples) frames) (frames_of rounds)

-- a whole frame for a din of this width
pub record IsBenchFrame (size : Size) (width : ℕ) (f : Frame) : Type 0 where
  pub whole : length f.samples ≡ area size
  pub values : All (λ s. s < 2 ^ width) f.samples

-- one frame for each din, the dins having these widths
abbrev pub IsBenchRound : (widths : List ℕ) → Size → Round → Type 0
IsBenchRound widths size round = AllZip (IsBenchFrame size) widths round.frames.items

-- 1 to 65,536 rounds of frames of this size
pub record AreBenchFrames (widths : List ℕ) (size : Size) (rounds : List Round) : Type 0 where
  pub some : 0 < length rounds
  pub most : length rounds ≤ MAX_FILE_IMAGES
  pub each : All (IsBenchRound widths size) rounds

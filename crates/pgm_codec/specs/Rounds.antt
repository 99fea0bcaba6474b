-- The images of a file in rounds.
use Rattle.std.specs.Prelude.{◌≡◌, ℕ, ◌-◌, ◌^◌, ◌≤◌, List, [], ◌∷◌}
use Rattle.std.specs.List.{flat_map, AllByRecursion}
use Rattle.pgm_codec.specs.Images.{Image}

-- The images fit the inputs of a frame, one for each input in order: each has the frame's size, and its maxval is in the input's type, of this many bits without a sign.
abbrev pub FitsInputs : ℕ → ℕ → List ℕ → List Image → Type 0
FitsInputs width height [] [] = Unit {0}
FitsInputs width height (b ∷ bs) (p ∷ ps) = (p.width ≡ width) × (p.height ≡ height) × (p.maxval ≤ 2 ^ b - 1) × FitsInputs width height bs ps
FitsInputs width height _ _ = ⊥

-- The images are these whole rounds, one after another, and each of them fits the inputs.
pub record Fits (width height : ℕ) (inputs : List ℕ) (pictures : List Image) (rounds : List (List Image)) : Type 0 where
  pub joined : pictures ≡ flat_map (λ round. round) rounds
  pub fit : AllByRecursion (FitsInputs width height inputs) rounds

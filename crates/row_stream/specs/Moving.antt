-- What a stream changes of the outside.
use Rattle.std.specs.Prelude.{◌≡◌, ℕ, Bool, List, ◌++◌}
use Rattle.std.specs.Option.{option_map}
use Rattle.dk_desk.specs.Outside.{Outside}
use Rattle.dk_desk.specs.Calls.{IsIfTold, grown, grow_created}

-- Bytes were read from Image, bytes were added to File and clocks were noted, and nothing else changed.
pub record Gains (start : Outside) (written : List ℕ) (notes : List (Bool × ℕ)) (now : Outside) : Type 0 where
  pub only : now ≡ record start { image = record start.image { rest = now.image.rest }; file = record start.file { bytes = now.file.bytes }; files = now.files; notes = now.notes }
  pub grows : IsIfTold now.file.bytes (grown start.file.bytes written)
  pub files : IsIfTold now.files (grow_created start.files start.file.name written)
  pub told : IsIfTold now.notes (option_map (λ before. before ++ notes) start.notes)

-- the same beside a failure, which raised one of the first two counts
abbrev pub GainsBut : Outside → List ℕ → List (Bool × ℕ) → Outside → Type 0
GainsBut start written notes now = Gains start written notes (record now { input_failures = start.input_failures; output_failures = start.output_failures })

-- Guessed rows, as callers see them.
use Rattle.std.specs.Prelude.{◌≡◌, ℕ, List}
use Rattle.lane_rows.specs.declared.row.Row.{Row}
use Rattle.batch_guess.specs.declared.engine.Engine.{Engine}

-- the engine, the rows of all slots and how many places each has, and how many instructions were run over them
pub record Guessed : Type 0 where
  pub engine : Engine
  pub rows : List Row
  pub long : ℕ
  pub done : ℕ

-- the engine is the same, and rows have as many places
abbrev pub KeepsCode : (old new : Guessed) → Type 0
KeepsCode old new = (new.engine ≡ old.engine) × (new.long ≡ old.long)

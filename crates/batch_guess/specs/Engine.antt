-- What is known of a module whose rows are guessed.
use Rattle.std.specs.Prelude.{ℕ}
use Rattle.batch_rows.specs.Code.{CanRun}
use Rattle.batch_rows.specs.Uses.{AreFirstUses}
use Rattle.batch_guess.specs.declared.engine.Engine.{Engine}
use Rattle.batch_guess.specs.declared.table.Table.{Table}
use Rattle.batch_guess.specs.Table.{IsTable}

-- its instructions can be run, and the first uses of its slots are theirs
pub record IsEngine (e : Engine) : Type 0 where
  pub code : CanRun e.code.widths.items e.code.instructions.items e.sizes.items
  pub uses : AreFirstUses e.code.instructions.items e.uses.items

-- the first n instructions were run over a table whose rows have this many places
abbrev pub HasRun : Engine → (long : ℕ) → Table → (done : ℕ) → Type 0
HasRun e long t done = IsTable e.code.widths.items e.code.instructions.items long t done

use Rattle.std.proofs.Common.{◌≡◌, take}
use Rattle.clap.specs.Words.{app_of}
use Rattle.dk_words.specs.Shapes.{program_of}
use Rattle.dk_words.proofs.words.program_with.Given as goal

-- the commands of the first rows are added
abbrev pub invariant-loop-row : goal.invariant-loop-row
invariant-loop-row l = app_of l.command ≡ program_of (take l.row-index l.rows)

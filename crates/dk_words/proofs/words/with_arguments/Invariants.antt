use Rattle.std.proofs.Common.{◌≡◌, map, ◌++◌, take}
use Rattle.clap.specs.Words.{shape_of}
use Rattle.dk_words.specs.Shapes.{rule_of_kind, names_of}
use Rattle.dk_words.proofs.words.with_arguments.Given as goal

-- the first names are added
abbrev pub invariant-loop-name : goal.invariant-loop-name
invariant-loop-name l = shape_of l.command ≡ record (shape_of l.fn.command) { rules = (shape_of l.fn.command).rules ++ map (rule_of_kind l.kind) (names_of (take l.name-index l.names)) }

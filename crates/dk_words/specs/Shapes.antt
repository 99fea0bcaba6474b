-- The table of the commands, as the definitions have them.
use Rattle.std.specs.Prelude.{ℕ, Bool, true, false, List, [], ◌∷◌, map}
use Rattle.std.specs.Borrow.{Bor}
use Rattle.clap.specs.Walk.{Rule}
use Rattle.clap.specs.Simple as clap
use Rattle.dk_words.specs.declared.shapes.Shape.{Shape}
use Rattle.dk_words.specs.declared.shapes.Kind.{Kind}
use Rattle.dk_words.specs.declared.shapes.Kind.TheVariants as kind
use Rattle.dk_words.specs.Words.{positional, option, flag, subcommand, program_alone}

-- the rule of an argument of this kind
abbrev pub rule_of_kind : Kind → List ℕ → Rule
rule_of_kind kind.Word = positional
rule_of_kind kind.Valued = option
rule_of_kind kind.Flag = flag

-- names as their bytes
abbrev pub names_of : List (Bor (List ℕ)) → List (List ℕ)
names_of names = map (λ name. name.now) names

-- the command of a row of the table
abbrev pub command_of_row : Shape → clap.Shape
command_of_row row = subcommand row.name.now (names_of row.words.now) (names_of row.options.now) (names_of row.flags.now)

-- there is no row
abbrev pub has_no_row : List Shape → Bool
has_no_row [] = true
has_no_row (first ∷ rest) = false

-- the program with the commands of these rows, also where there are none
abbrev pub program_of : List Shape → clap.App
program_of rows = record { top = record program_alone { is_leaf = has_no_row rows }; subs = map command_of_row rows }

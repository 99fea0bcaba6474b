-- The command that words name, if its output has the name of no other file.
use Rattle.std.specs.Prelude.{ℕ, Bool, true, not, ◌&&◌, List, Option, None, Some, if◌then◌else◌}
use Rattle.std.specs.Option.{option_and_then}
use Rattle.std.specs.Str.{bytes_eq}
use Rattle.dk_words.specs.Command.{Command, run, eval, compile, sim, trace, plan, check, make, rewrite, explain, nets}
use Rattle.dk_words.specs.Command.{command_of as command_named}

-- the output has the name of no other file
abbrev pub are_distinct : (program image out : List ℕ) → Bool
are_distinct program image out = not (bytes_eq out program) && not (bytes_eq out image)

-- no other file of the command has the name of the one that it writes
abbrev pub is_distinct : Command → Bool
is_distinct (run program image out age) = are_distinct program image out
is_distinct (eval program image out) = are_distinct program image out
is_distinct (compile program out enable age block) = not (bytes_eq out program)
is_distinct (sim verilog clocks image out fill hold) = are_distinct verilog image out
is_distinct (trace verilog clocks image vcd) = are_distinct verilog image vcd
is_distinct (plan program age) = true
is_distinct (nets program enable age block) = true
is_distinct (check program report) = true
is_distinct (make number) = true
is_distinct (rewrite how program out) = not (bytes_eq out program)
is_distinct (explain program) = true

-- the command, if its output has the name of no other file
abbrev pub if_distinct : Command → Option Command
if_distinct command = if is_distinct command then Some command else None

-- the command that these words name, the program's own name first; None if they are refused, a value is not in its range,
-- or the output has the name of another file
abbrev pub command_of : List (List ℕ) → Option Command
command_of words = option_and_then if_distinct (command_named words)

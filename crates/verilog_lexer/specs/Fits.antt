-- How much of a text a lexeme may take.
use Rattle.std.specs.Prelude.{ℕ, ◌<◌, ◌≤◌, Ok, Err}
use Rattle.verilog_text.specs.Lexis.{Lexeme}

-- a token of at least one byte and at most this many, or a fault of at most this many
abbrev pub FitsIn : ℕ → Lexeme → Type 0
FitsIn m (Ok x) = (0 < x.1) × (x.1 ≤ m)
FitsIn m (Err e) = e.1 ≤ m

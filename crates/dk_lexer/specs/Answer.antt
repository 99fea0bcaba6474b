-- What the lexer's functions answer, in the words of the language.
use Rattle.std.specs.Prelude.{◌≡◌, ℕ, ◌+◌, ◌<◌, ◌≤◌, ◌^◌, List, Result, Ok, Err, ⊤}
use Rattle.dk_lexer.specs.declared.token.Token.{Token}
use Rattle.dk_lexer.specs.declared.token.TokenKind.{TokenKind}
use Rattle.dk_lexer.specs.declared.token.TokenKind.TheVariants.{End}
use Rattle.dk_lexer.specs.declared.fault.LexError.{LexError}
use Rattle.dk_lexer.specs.declared.fault.LexError.TheVariants.{Fault, OutOfMemory}
use Rattle.dk_lexer.specs.declared.fault.NoToken.{NoToken}
use Rattle.dk_lexer.specs.declared.fault.NoToken.TheVariants.{Fault as Here, OutOfMemory as NoMemory}
use Rattle.dk_lexer.specs.Lexis.{Lexeme, HasFault}

-- an error is the first fault of the text, or out of memory
abbrev pub Stops : List ℕ → LexError → Type 0
Stops text (Fault fault) = HasFault text fault
Stops text OutOfMemory = ⊤

-- an answer is the lexeme, or out of memory
abbrev pub Answers : Lexeme → Result (TokenKind × ℕ) NoToken → Type 0
Answers l (Ok x) = l ≡ Ok x
Answers l (Err (Here kind n)) = l ≡ Err (kind, n)
Answers l (Err NoMemory) = ⊤

-- a fault is of this many bytes at most
abbrev pub FitsIn : ℕ → NoToken → Type 0
FitsIn m (Here kind n) = n ≤ m
FitsIn m NoMemory = ⊤

-- the end of a text of this length
abbrev pub end_at : ℕ → Token
end_at length = record { span = record { start = length; stop = length }; kind = End }

-- the fault of a token that would begin here
abbrev pub located_at : ℕ → NoToken → LexError
located_at start (Here kind n) = Fault (record { span = record { start = start; stop = start + n }; kind = kind })
located_at start NoMemory = OutOfMemory

-- its end is a number of the machine
abbrev pub Ends : ℕ → NoToken → Type 0
Ends start (Here kind n) = start + n < 2 ^ 64
Ends start NoMemory = ⊤

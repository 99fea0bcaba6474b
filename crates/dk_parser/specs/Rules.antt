-- The rules of a program: its size, one or more inputs, any number of definitions, one or more outputs, and the end of the text.
use Rattle.std.specs.Prelude.{◌≡◌, ℕ, List, ◌∷◌, true, false, decimal}
use Rattle.dk_base.specs.declared.span.Span.{Span}
use Rattle.dk_base.specs.declared.ty.Ty.{Ty}
use Rattle.dk_base.specs.declared.ty.Ty.TheVariants.{Unsigned, Signed}
use Rattle.dk_base.specs.Types.{IsType, width_of}
use Rattle.dk_lexer.specs.declared.token.Token.{Token}
use Rattle.dk_grammar.specs.Reading.{Phrases, Then, Done, Many, Several}
use Rattle.source_words.specs.declared.word.Keyword.TheVariants as word
use Rattle.dk_parser.specs.declared.terminal.Mark.TheVariants as mark
use Rattle.dk_parser.specs.declared.tree.Name.{Name}
use Rattle.dk_parser.specs.declared.tree.Input.{Input}
use Rattle.dk_parser.specs.Words.{Sign, AName, ALiteral}
use Rattle.dk_parser.specs.Grammar.{Tokens}
use Rattle.dk_parser.specs.Programs.{Source, Definition, AnInput, ADefinition}

-- "input" NAME ":" TYPE
abbrev pub InputRule : Phrases Token Input
InputRule = Then (Sign (mark.Reserved word.Input)) (λ _. AnInput)

-- ["inline"] "let" NAME [":" TYPE] "=" "im" "(" "x" "," "y" ")" expr "end"
pub data DefinitionRule : Tokens → Definition → Tokens → Type 0 where
  plain : {ts rest : Tokens} {d : Definition} → Then (Sign (mark.Reserved word.Let)) (λ _. ADefinition false) ts d rest → DefinitionRule ts d rest
  inlined : {ts rest : Tokens} {d : Definition}
      → Then (Sign (mark.Reserved word.Inline)) (λ _. Then (Sign (mark.Reserved word.Let)) (λ _. ADefinition true)) ts d rest → DefinitionRule ts d rest

-- "output" NAME
abbrev pub OutputRule : Phrases Token Name
OutputRule = Then (Sign (mark.Reserved word.Output)) (λ _. AName)

abbrev pub EndRule : Phrases Token Span
EndRule = Sign mark.Finish

-- "size" NUMBER NUMBER input { input } def* output { output } end-of-text
abbrev pub ProgramRule : Phrases Token Source
ProgramRule =
    Then (Sign (mark.Reserved word.Size)) (λ _. Then ALiteral (λ w. Then ALiteral (λ h.
    Then (Several InputRule) (λ is. Then (Many DefinitionRule) (λ ds. Then (Several OutputRule) (λ os. Then EndRule (λ _.
    Done (record { width = w; height = h; inputs = is; definitions = ds; outputs = os }))))))))

-- the letter of a type word
abbrev pub letter : Ty → ℕ
letter (Unsigned n) = 117
letter (Signed n) = 115

-- `u` or `s`, and a number of bits of 1 to 64 in decimal without a leading zero
abbrev pub IsTypeWord : List ℕ → Ty → Type 0
IsTypeWord bytes t = IsType t × (bytes ≡ letter t ∷ decimal (width_of t))

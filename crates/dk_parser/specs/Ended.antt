-- Used by private functions only.
-- Lists of tokens that end.
use Rattle.std.specs.Prelude.{◌≡◌, ◌≢◌, [], ◌∷◌}
use Rattle.dk_parser.specs.declared.terminal.Terminal.TheVariants.{EndOfText}
use Rattle.dk_parser.specs.Terminals.{terminal}
use Rattle.dk_parser.specs.Grammar.{Tokens}

-- the last token is the end of the text, and no other is
abbrev pub Ended : Tokens → Type 0
Ended [] = ⊥
Ended (t ∷ []) = terminal t ≡ EndOfText
Ended (t ∷ u ∷ ts) = (terminal t ≢ EndOfText) × Ended (u ∷ ts)

-- The bytes of the language.
use Rattle.std.specs.Prelude.{ℕ, List, [], ◌∷◌, Bool, not, nat_eq, codes}
use Rattle.dk_lexer.specs.declared.token.Symbol.{Symbol}
use Rattle.dk_lexer.specs.declared.token.Symbol.TheVariants.{ShiftLeft, LessEqual, ShiftRight, GreaterEqual, EqualEqual, NotEqual, Less, Greater, Equal, Bang, Bar, Caret, Ampersand, Plus, Minus, Star, Slash, Open, Close, Comma, Colon}

abbrev pub is_in_line : ℕ → Bool
is_in_line b = not (nat_eq b 10)

-- the symbols, each by its spelling, the longer spellings first
abbrev pub symbols : List (List ℕ × Symbol)
symbols =
    (codes "<<", ShiftLeft) ∷ (codes "<=", LessEqual) ∷ (codes ">>", ShiftRight) ∷ (codes ">=", GreaterEqual) ∷ (codes "==", EqualEqual) ∷ (codes "!=", NotEqual)
    ∷ (codes "<", Less) ∷ (codes ">", Greater) ∷ (codes "=", Equal) ∷ (codes "!", Bang) ∷ (codes "|", Bar) ∷ (codes "^", Caret) ∷ (codes "&", Ampersand)
    ∷ (codes "+", Plus) ∷ (codes "-", Minus) ∷ (codes "*", Star) ∷ (codes "/", Slash) ∷ (codes "(", Open) ∷ (codes ")", Close) ∷ (codes ",", Comma) ∷ (codes ":", Colon) ∷ []

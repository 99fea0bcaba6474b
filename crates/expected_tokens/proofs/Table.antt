-- The samples, and the table of classes.
use Rattle.std.proofs.Common.{◌≡◌, zero, suc, List, [], ◌∷◌, ◌++◌, map, Option, refl, ap, arith}
use Rattle.std.specs.List.{Contains}
use Rattle.source_words.specs.declared.word.Keyword.{Keyword}
use Rattle.source_words.specs.Words.{spelling_of, keywords, type_of_word}
use Rattle.source_words.proofs.Spellings.{spelt, listed}
use Rattle.dk_lexer.specs.declared.token.Symbol.TheVariants as sign
use Rattle.dk_parser.specs.Terminals.{word_terminal, terminal_of}
use Rattle.expected_tokens.specs.declared.class.TokenClass.{TokenClass}
use Rattle.expected_tokens.specs.declared.class.TokenClass.TheVariants as class
use Rattle.expected_tokens.specs.Classes.{class_of, sample_kind, others, classes}

pub sampled : (c : TokenClass) → class_of (terminal_of (sample_kind c)) ≡ c
unfolding terminal_of
sampled (class.Keyword k) = ap (λ (o : Option Keyword). class_of (word_terminal o (type_of_word (spelling_of k)))) (spelt k)
sampled class.Type = refl
sampled class.Name = refl
sampled class.Number = refl
sampled (class.Symbol s) = refl
sampled class.EndOfText = refl

among_keywords : (ks : List Keyword) (k : Keyword) → Contains ks k → Contains (map class.Keyword ks ++ others) (class.Keyword k)
among_keywords [] k (n, low, is) = absurd (omega (arith, low))
among_keywords (l ∷ ks) k (zero, low, is) = (0, omega arith, ap class.Keyword is)
among_keywords (l ∷ ks) k (suc n, low, is) =
    let (m, less, found) = among_keywords ks k (n, omega (arith, low), is) in
    (suc m, omega (arith, less), found)

later : (cs : List TokenClass) {c : TokenClass} → Contains others c → Contains (cs ++ others) c
later [] i = i
later (b ∷ cs) i =
    let (n, low, is) = later cs i in
    (suc n, omega (arith, low), is)

among_others : {c : TokenClass} → Contains others c → Contains classes c
among_others i = later (map class.Keyword keywords) i

pub in_table : (c : TokenClass) → Contains classes c
in_table (class.Keyword k) = among_keywords keywords k (listed k)
in_table class.Type = among_others (0, omega arith, refl)
in_table class.Name = among_others (1, omega arith, refl)
in_table class.Number = among_others (2, omega arith, refl)
in_table (class.Symbol sign.Open) = among_others (3, omega arith, refl)
in_table (class.Symbol sign.Close) = among_others (4, omega arith, refl)
in_table (class.Symbol sign.Comma) = among_others (5, omega arith, refl)
in_table (class.Symbol sign.Colon) = among_others (6, omega arith, refl)
in_table (class.Symbol sign.Equal) = among_others (7, omega arith, refl)
in_table (class.Symbol sign.Plus) = among_others (8, omega arith, refl)
in_table (class.Symbol sign.Minus) = among_others (9, omega arith, refl)
in_table (class.Symbol sign.Star) = among_others (10, omega arith, refl)
in_table (class.Symbol sign.Slash) = among_others (11, omega arith, refl)
in_table (class.Symbol sign.ShiftLeft) = among_others (12, omega arith, refl)
in_table (class.Symbol sign.ShiftRight) = among_others (13, omega arith, refl)
in_table (class.Symbol sign.Less) = among_others (14, omega arith, refl)
in_table (class.Symbol sign.LessEqual) = among_others (15, omega arith, refl)
in_table (class.Symbol sign.Greater) = among_others (16, omega arith, refl)
in_table (class.Symbol sign.GreaterEqual) = among_others (17, omega arith, refl)
in_table (class.Symbol sign.EqualEqual) = among_others (18, omega arith, refl)
in_table (class.Symbol sign.NotEqual) = among_others (19, omega arith, refl)
in_table (class.Symbol sign.Ampersand) = among_others (20, omega arith, refl)
in_table (class.Symbol sign.Caret) = among_others (21, omega arith, refl)
in_table (class.Symbol sign.Bar) = among_others (22, omega arith, refl)
in_table (class.Symbol sign.Bang) = among_others (23, omega arith, refl)
in_table class.EndOfText = among_others (24, omega arith, refl)

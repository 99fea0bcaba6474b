-- What is no `edge` is of a level of precedence above 1.
use Rattle.std.proofs.Common.{◌≢◌, ◌<◌, refl, arith, ap}
use Rattle.dk_lexer.specs.declared.token.Token.{Token}
use Rattle.dk_lexer.specs.declared.token.Symbol.TheVariants.{Star}
use Rattle.source_words.specs.declared.word.Keyword.TheVariants.{Edge}
use Rattle.dk_parser.specs.declared.terminal.Terminal.{Terminal}
use Rattle.dk_parser.specs.declared.terminal.Terminal.TheVariants.{Keyword, Symbol as Sym}
use Rattle.dk_parser.specs.Grammar.{Tokens, binding}
use Rattle.dk_parser.specs.Front.{IsFront, precedence, rank}

other_word : (t : Terminal) → t ≢ Keyword Edge → 1 < precedence (binding t)
other_word (Keyword Edge) n = absurd (n refl)
other_word (Sym Star) n = omega arith
other_word _ n = omega arith

pub not_edge : (ts after : Tokens) (t : Token) (k : Terminal) → IsFront ts t k after → k ≢ Keyword Edge → 1 < rank ts
not_edge ts after t k f n =
    let h = other_word k n in
    let e = ap rank f.whole in
    let g = ap (λ x. precedence (binding x)) f.kind_is in
    omega (arith, h, e, g)

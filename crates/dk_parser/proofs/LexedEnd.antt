-- The lexer's tokens end as the grammar requires.
use Rattle.std.proofs.Common.{◌≡◌, ◌≢◌, [], ◌∷◌, Option, Some, None, refl}
use Rattle.dk_base.specs.declared.ty.Ty.{Ty}
use Rattle.dk_lexer.specs.declared.token.TokenKind.{TokenKind}
use Rattle.dk_lexer.specs.declared.token.TokenKind.TheVariants.{Word, Number, Symbol, End}
use Rattle.dk_lexer.specs.Faithful.{IsEnded}
use Rattle.source_words.specs.declared.word.Keyword.{Keyword}
use Rattle.dk_parser.specs.declared.terminal.Terminal.TheVariants.{EndOfText}
use Rattle.source_words.specs.Words.{keyword_of, type_of_word}
use Rattle.dk_parser.specs.Terminals.{terminal_of, word_terminal}
use Rattle.dk_parser.specs.Grammar.{Tokens}
use Rattle.dk_parser.specs.Ended.{Ended}

word_not : (k : Option Keyword) (o : Option Ty) → word_terminal k o ≢ EndOfText
word_not (Some k) o e = cc (e)
word_not None (Some t) e = cc (e)
word_not None None e = cc (e)

end_only : (k : TokenKind) → terminal_of k ≡ EndOfText → k ≡ End
unfolding terminal_of
end_only (Word t) e = absurd (word_not (keyword_of t) (type_of_word t) e)
end_only (Number v) e = absurd (cc (e))
end_only (Symbol s) e = absurd (cc (e))
end_only End e = refl

end_is : (k : TokenKind) → k ≡ End → terminal_of k ≡ EndOfText
unfolding terminal_of
end_is k e = rw e refl

pub ended_as : (ts : Tokens) → IsEnded ts → Ended ts
ended_as [] h = h
ended_as (t ∷ []) h = end_is t.kind h
ended_as (t ∷ u ∷ ts) h = ((λ e. h.0 (end_only t.kind e)), ended_as (u ∷ ts) h.1)

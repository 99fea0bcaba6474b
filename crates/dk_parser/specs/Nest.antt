-- Unclosed brackets.
use Rattle.std.specs.Prelude.{◌≡◌, ℕ, suc, ◌-◌, ◌≤◌, ◌⊎◌, [], ◌∷◌}
use Rattle.dk_base.specs.declared.TheConstants.{MAX_OPEN_BRACKETS}
use Rattle.dk_base.specs.declared.span.Span.{Span}
use Rattle.dk_lexer.specs.declared.token.Symbol.TheVariants.{Open, Close}
use Rattle.dk_parser.specs.declared.terminal.Terminal.{Terminal}
use Rattle.dk_parser.specs.declared.terminal.Terminal.TheVariants.{Symbol as Sym}
use Rattle.dk_parser.specs.Terminals.{terminal}
use Rattle.dk_parser.specs.Grammar.{Tokens}

-- how many brackets are unclosed after a terminal, after this many before it
abbrev pub unclosed : ℕ → Terminal → ℕ
unclosed n (Sym Open) = suc n
unclosed n (Sym Close) = n - 1
unclosed n _ = n

-- no more than the limit are unclosed anywhere in the tokens, after this many before them
abbrev pub StaysShallow : ℕ → Tokens → Type 0
StaysShallow n [] = n ≤ MAX_OPEN_BRACKETS
StaysShallow n (t ∷ ts) = (n ≤ MAX_OPEN_BRACKETS) × StaysShallow (unclosed n (terminal t)) ts

-- a bracket at this span is the first that is the 129th unclosed one
abbrev pub PassesAt : ℕ → Tokens → Span → Type 0
PassesAt n [] span = ⊥
PassesAt n (t ∷ ts) span =
    ((n ≡ MAX_OPEN_BRACKETS) × (terminal t ≡ Sym Open) × (span ≡ t.span)) ⊎ ((unclosed n (terminal t) ≤ MAX_OPEN_BRACKETS) × PassesAt (unclosed n (terminal t)) ts span)

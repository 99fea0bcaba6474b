-- Brackets, as far as they were counted.
use Rattle.std.proofs.Common.{◌≡◌, ℕ, ◌≤◌, ◌<◌, [], refl, arith}
use Rattle.dk_base.specs.declared.span.Span.{Span}
use Rattle.dk_lexer.specs.declared.token.Symbol.TheVariants.{Open, Close}
use Rattle.dk_parser.specs.declared.terminal.Terminal.{Terminal}
use Rattle.dk_parser.specs.declared.terminal.Terminal.TheVariants.{Symbol as Sym}
use Rattle.dk_parser.specs.Grammar.{Tokens}
use Rattle.dk_parser.specs.Nest.{unclosed, StaysShallow, PassesAt}

pub record Nested (ts : Tokens) (open' : ℕ) (rest : Tokens) : Type 0 where
  pub few : open' ≤ 128
  pub shallow : StaysShallow open' rest → StaysShallow 0 ts
  pub passes : (span : Span) → PassesAt open' rest span → PassesAt 0 ts span

past : (n : ℕ) (k : Terminal) → n ≤ 128 → 128 < unclosed n k → (n ≡ 128) × (k ≡ Sym Open)
past n (Sym Open) few h = (omega arith, refl)
past n (Sym Close) few h = absurd (omega arith)
past n _ few h = absurd (omega arith)

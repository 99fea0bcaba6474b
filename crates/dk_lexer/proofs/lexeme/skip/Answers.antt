use Rattle.std.proofs.Common.{◌≡◌, ◌∷◌, sym, subst}
use Rattle.dk_lexer.specs.Lexis.{Gap, none, white, comment}
use Rattle.dk_lexer.proofs.lexeme.skip.Goals as goal

pub returns-in_default-clause-gap : goal.returns-in_default-clause-gap
returns-in_default-clause-gap c = c.gap.invariant _ none

pub returns-then-first-ne45-clause-gap : goal.returns-then-first-ne45-clause-gap
returns-then-first-ne45-clause-gap c = c.gap.invariant _ none

pub returns-in_default-front-clause-gap : goal.returns-in_default-front-clause-gap
returns-in_default-front-clause-gap c = c.gap.invariant _ none

pub returns-then-second-ne45-clause-gap : goal.returns-then-second-ne45-clause-gap
returns-then-second-ne45-clause-gap c = c.gap.invariant _ none

pub gap-preserved-then-is_white : goal.gap-preserved-then-is_white
gap-preserved-then-is_white c = λ r g. c.gap.invariant r (rw c.in-Some.ensures (white (sym c.if-is_white.ensures) g))

pub gap-preserved : goal.gap-preserved
gap-preserved c = λ r g.
    let whole : c.gap.rest.now ≡ 45 ∷ 45 ∷ c.in-Some-front.line.now = cc (c.in-Some.ensures, c.in-Some-front.ensures) in
    c.gap.invariant r (rw whole (comment (subst (λ x. Gap x r) c.behind_line-rest.ensures g)))

use Rattle.std.proofs.Common.{◌≡◌, ◌∷◌, ◌<◌, length, arith, sym, ap}
use Rattle.verilog_text.specs.Lexis.{none}
use Rattle.verilog_lexer.proofs.Gaps as G
use Rattle.verilog_lexer.proofs.lexeme.skip.Goals as goal

pub returns-in_default-clause-gap : goal.returns-in_default-clause-gap
returns-in_default-clause-gap c = c.gap.invariant _ none

pub returns-then-first-ne47-clause-gap : goal.returns-then-first-ne47-clause-gap
returns-then-first-ne47-clause-gap c = c.gap.invariant _ none

pub returns-in_default-front-clause-gap : goal.returns-in_default-front-clause-gap
returns-in_default-front-clause-gap c = c.gap.invariant _ none

pub returns-then-second-ne42-clause-gap : goal.returns-then-second-ne42-clause-gap
returns-then-second-ne42-clause-gap c = c.gap.invariant _ none

pub returns-in_default-behind_block-clause-gap : goal.returns-in_default-behind_block-clause-gap
returns-in_default-behind_block-clause-gap c = c.gap.invariant _ none

pub gap-preserved-then-is_white : goal.gap-preserved-then-is_white
gap-preserved-then-is_white c = λ r g. c.gap.invariant r (G.gap_white _ _ r _ c.in-Some.ensures (sym c.if-is_white.ensures) g)

pub gap-preserved-then-second-eq47 : goal.gap-preserved-then-second-eq47
gap-preserved-then-second-eq47 c = λ r g.
    let whole : c.gap.rest.now ≡ 47 ∷ 47 ∷ c.in-Some-front.inner.now = cc (c.in-Some.ensures, c.in-Some-front.ensures) in
    c.gap.invariant r (G.gap_line _ _ _ r whole c.behind_line-rest.ensures g)

pub gap-smaller : goal.gap-smaller
gap-smaller c =
    let whole : c.gap.rest.now ≡ 47 ∷ 42 ∷ c.in-Some-front.inner.now = cc (c.in-Some.ensures, c.in-Some-front.ensures) in
    let h : length c.in-Some-behind_block.behind.now < length c.gap.rest.now =
    omega (arith, G.behind_fewer c.in-Some-front.inner.now c.in-Some-behind_block.behind.now c.in-Some-behind_block.ensures, ap (λ x. length x) whole) in
    h

pub gap-preserved : goal.gap-preserved
gap-preserved c = λ r g.
    let whole : c.gap.rest.now ≡ 47 ∷ 42 ∷ c.in-Some-front.inner.now = cc (c.in-Some.ensures, c.in-Some-front.ensures) in
    c.gap.invariant r (G.gap_block _ _ _ r whole c.in-Some-behind_block.ensures g)

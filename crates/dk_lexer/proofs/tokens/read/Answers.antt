use Rattle.std.proofs.Common.{◌<◌, arith, refl, length-drop, ap, length}
use Rattle.dk_lexer.proofs.Lexing as L
use Rattle.dk_lexer.proofs.tokens.read.Goals as goal

pub overflow_sub-start : goal.overflow_sub-start
overflow_sub-start c = omega (arith, c.tokens.invariant.fewer, L.gap_fewer c.skip-bytes.ensures.gap)

pub returns-in_default : goal.returns-in_default
returns-in_default c = L.ended (λ all. all.items) _ _ _ _ _ _ c.tokens.invariant c.skip-bytes.ensures.gap c.in_default.ensures refl c.ended.ensures

pub tokens-smaller : goal.tokens-smaller
tokens-smaller c = let h : length c.split_at.result.1.now < length c.tokens.rest.now = omega (arith, L.gap_fewer c.skip-bytes.ensures.gap, ap (λ x. length x) c.split_at.ensures.back, length-drop c.in-Ok.length c.skip-bytes.result.now, c.in-Ok.ensures.some.0, c.in-Ok.ensures.some.1) in h

pub tokens-preserved : goal.tokens-preserved
tokens-preserved c = rw c.in_ok-push-in-Ok.ensures.items (L.continues_next _ _ _ _ _ _ _ _ _ c.tokens.invariant c.skip-bytes.ensures.gap c.skip-bytes.ensures.solid c.in-Some.ensures c.in-Ok.ensures.answer c.split_at.ensures.back)

pub returns-in-Err : goal.returns-in-Err
returns-in-Err c = rw c.located.ensures (L.stops _ _ _ _ _ _ c.in-Err.refusal _ c.tokens.invariant c.skip-bytes.ensures.gap c.skip-bytes.ensures.solid c.in-Some.ensures refl c.in-Err.ensures.answer)

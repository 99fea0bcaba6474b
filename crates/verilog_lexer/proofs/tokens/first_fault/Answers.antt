use Rattle.std.proofs.Common.{◌<◌, length, refl}
use Rattle.verilog_lexer.proofs.Cuts.{cut_shorter, continues_next, continues_end}
use Rattle.verilog_lexer.proofs.tokens.first_fault.Goals as goal

pub returns-then-is_end : goal.returns-then-is_end
returns-then-is_end c = continues_end c.tokens.invariant c.in-Ok.ensures (c.if-is_end.ensures.yes refl)

pub tokens-smaller : goal.tokens-smaller
tokens-smaller c =
    let h : length c.in-Ok.behind.now < length c.tokens.rest.now = cut_shorter c.in-Ok.ensures (λ e. let t = c.if-is_end.ensures.no e in cc) in
    h

pub tokens-preserved : goal.tokens-preserved
tokens-preserved c = continues_next c.tokens.invariant c.in-Ok.ensures (λ e. let t = c.if-is_end.ensures.no e in cc)

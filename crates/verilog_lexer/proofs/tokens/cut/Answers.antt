use Rattle.std.proofs.Common.{arith, sym}
use Rattle.verilog_lexer.proofs.Gaps.{gap_fewer}
use Rattle.verilog_lexer.proofs.Cuts.{cut_end, cut_token, cut_fault}
use Rattle.verilog_lexer.proofs.tokens.cut.Goals as goal

pub overflow_sub-start : goal.overflow_sub-start
overflow_sub-start c = omega (arith, c.requires, gap_fewer c.skip-bytes.ensures.gap)

pub returns-in_default : goal.returns-in_default
returns-in_default c = rw c.end_of.ensures (cut_end _ _ _ c.skip-bytes.ensures.gap c.in_default.ensures)

pub returns-in-Ok : goal.returns-in-Ok
returns-in-Ok c = cut_token _ _ _ _ _ _ _ _ c.skip-bytes.ensures.gap c.skip-bytes.ensures.solid c.in-Some.ensures (sym c.in-Ok.ensures.answer) c.split_at.ensures.back

pub returns-in-Err : goal.returns-in-Err
returns-in-Err c = cut_fault _ _ _ _ _ _ _ c.skip-bytes.ensures.gap c.skip-bytes.ensures.solid c.in-Some.ensures (sym c.in-Err.ensures.answer)

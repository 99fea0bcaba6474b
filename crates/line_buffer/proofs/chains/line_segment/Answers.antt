use Rattle.net_build.proofs.Failing.{at_err}
use Rattle.line_buffer.proofs.Counted.{counts_of_short}
use Rattle.line_buffer.proofs.Chaining.{line_is_segment}
use Rattle.line_buffer.proofs.chains.line_segment.Goals as goal

pub returns : goal.returns
returns c long short = record {
  turns = c.in_ok-line.ensures.turns;
  segment = line_is_segment c.delay_line.new.b c.args.b.now c.args.width c.args.words long c.args.from c.in_ok-line.line.word short c.in_ok-line.ensures.line.adds c.in_ok-line.ensures.line.delays c.in_ok-line.ensures.line.once c.in_ok-line.ensures.line.made;
  counts = counts_of_short c.delay_line.new.b c.args.b.now c.delay_line.new.turns c.args.turns.now long c.args.width c.args.words short c.in_ok-line.ensures.counts;
  there = c.in_ok-line.ensures.line.word;
  wide = c.in_ok-line.ensures.line.word_width;
}

pub returns-in_err-line : goal.returns-in_err-line
returns-in_err-line c = at_err _ _ _ c.from_residual.result c.from_residual.ensures.1 c.in_err-line.ensures

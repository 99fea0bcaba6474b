use Rattle.std.proofs.Common.{◌∙◌}
use Rattle.net_build.proofs.Parts.{includes_on}
use Rattle.net_build.proofs.Grown.{net_more, width_more}
use Rattle.net_build.proofs.Failing.{at_err}
use Rattle.line_buffer.proofs.Counted.{counts_long}
use Rattle.line_buffer.proofs.Shared.{turns_more}
use Rattle.line_buffer.proofs.Chaining.{block_is_segment}
use Rattle.line_buffer.proofs.chains.block_segment.Goals as goal

pub block_line-requires-clause-feed : goal.block_line-requires-clause-feed
block_line-requires-clause-feed c = record {
  bits = c.requires.feed.bits;
  deep = c.requires.feed.deep;
  there = net_more c.turning_indices.new.b c.args.b.now c.in_ok-at.ensures.adds.includes c.args.from c.requires.feed.there;
  wide = width_more c.turning_indices.new.b c.args.b.now c.in_ok-at.ensures.adds.includes c.args.from c.requires.feed.there.declared ∙ c.requires.feed.wide;
}

pub returns-in_err-at : goal.returns-in_err-at
returns-in_err-at c = at_err _ _ _ c.from_residual.result c.from_residual.ensures.1 c.in_err-at.ensures

pub returns-in_err-net : goal.returns-in_err-net
returns-in_err-net c = at_err _ _ _ c.from_residual-in_err-net.result c.from_residual-in_err-net.ensures.1 (includes_on _ _ _ c.in_ok-at.ensures.adds.includes c.in_err-net.ensures)

pub returns : goal.returns
returns c long at_least = record {
  turns = turns_more c.block_line.new.b c.turning_indices.new.b c.turning_indices.new.turns c.in_ok-net.ensures.adds.includes c.in_ok-at.ensures.turns;
  segment = block_is_segment c.block_line.new.b c.turning_indices.new.b c.args.b.now c.args.width c.args.words long c.args.from c.in_ok-net.net at_least c.in_ok-at.ensures.adds c.in_ok-net.ensures.adds c.in_ok-net.ensures.line (c.in_ok-net.ensures.once long at_least) c.in_ok-net.ensures.copy c.in_ok-net.ensures.wide;
  counts = counts_long c.block_line.new.b c.turning_indices.new.b c.args.b.now c.turning_indices.new.turns c.args.turns.now long c.args.width c.args.words at_least c.in_ok-at.ensures.blocks c.in_ok-at.ensures.lines (c.in_ok-at.ensures.bits c.requires.some) c.in_ok-net.ensures.regs;
  there = c.in_ok-net.ensures.there;
  wide = c.in_ok-net.ensures.wide;
}

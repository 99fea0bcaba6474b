use Rattle.net_build.proofs.Failing.{at_err}
use Rattle.line_buffer.proofs.Indexed.{once_both}
use Rattle.line_buffer.proofs.Chaining.{short_buffer, chain_adds, chain_buffer, chain_fills}
use Rattle.line_buffer.proofs.chains.chain.Goals as goal

pub returns : goal.returns
returns c = record {
  includes = c.in_ok-nets.ensures.includes;
  turns = c.in_ok-nets.ensures.turns;
  adds = chain_adds c.chained.new.b c.args.b.now c.args.image.width c.args.image.net c.args.image.ages.now c.in_ok-nets.nets.items c.in_ok-nets.ensures.chain;
  once = once_both c.chained.new.b c.args.b.now c.in_ok-nets.ensures.chain.once;
  buffer = chain_buffer c.chained.new.b c.args.b.now c.args.image.width c.args.image.net c.args.image.ages.now c.in_ok-nets.nets.items c.in_ok-nets.ensures.chain;
  delay = c.in_ok-nets.ensures.chain.delay;
  made = short_buffer c.chained.new.b _ _ _ c.args.image.ages.now c.in_ok-nets.nets.items c.in_ok-nets.ensures.chain.made;
  fills = chain_fills c.chained.new.b c.args.b.now c.args.image.width c.args.image.net c.args.image.ages.now c.in_ok-nets.nets.items c.in_ok-nets.ensures.chain;
  counts = c.in_ok-nets.ensures.counts;
}

pub returns-in_err-nets : goal.returns-in_err-nets
returns-in_err-nets c = at_err _ _ _ c.from_residual.result c.from_residual.ensures.1 c.in_err-nets.ensures

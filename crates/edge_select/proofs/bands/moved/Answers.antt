use Rattle.std.proofs.Common.{arith, rules}
use Rattle.edge_select.proofs.Moving.{along_bit, beyond_bit, around_bit}
use Rattle.edge_select.proofs.bands.moved.Goals as goal

pub returns-then-last-side : goal.returns-then-last-side
returns-then-last-side c = record {
  band = search rules;
  last = search rules;
  moved = λ x low. along_bit c.args.side c.args.interval c.args.shift x c.requires.interval.some c.requires.interval.last c.requires.shift low (omega (arith, c.if-last-side.true));
}

pub returns-then-first-side : goal.returns-then-first-side
returns-then-first-side c = record {
  band = search rules;
  last = search rules;
  moved = λ x low. beyond_bit c.args.side c.args.interval c.args.shift x c.requires.interval.some c.requires.interval.last c.requires.shift low (omega (arith, c.if-first-side.true));
}

pub returns : goal.returns
returns c = record {
  band = search rules;
  last = search rules;
  moved = λ x low. around_bit c.args.side c.args.interval c.args.shift x c.requires.interval.some c.requires.interval.last c.requires.shift low c.requires.part (omega (arith, c.if-last-side.false)) (omega (arith, c.if-first-side.false));
}

use Rattle.std.proofs.Common.{take}
use Rattle.net_build.specs.Includes.{Includes}
use Rattle.line_buffer.specs.Indices.{is_long}
use Rattle.line_buffer.specs.SharedCounters.{AreTurns, CountsTurns}
use Rattle.line_buffer.specs.Chains.{IsChained}
use Rattle.line_buffer.specs.Places.{chain_shapes}
use Rattle.line_buffer.proofs.chains.chained.Given as goal

abbrev pub invariant-loop-age : goal.invariant-loop-age
invariant-loop-age l = record {
  includes : Includes l.b l.fn.b;
  turns : AreTurns l.b l.turns;
  chained : IsChained l.b l.fn.b l.image.width (is_long l.least) l.image.net (take l.age-index l.image.ages.now) l.nets.items l.last;
  counts : CountsTurns l.b l.fn.b l.turns l.fn.turns (is_long l.least) (chain_shapes l.image.width (take l.age-index l.image.ages.now));
}

use Rattle.std.proofs.Common.{length, false, refl, rules}
use Rattle.test_bench.proofs.Filled.{held_more, whole_more}
use Rattle.test_bench.proofs.batch.push_held_clock.Goals as goal

pub returns-then-comes-clause-clocks : goal.returns-then-comes-clause-clocks
returns-then-comes-clause-clocks c = held_more (length c.args.held.now) _ _ _ _ c.args.held.now c.args.comes c.if-comes.true c.push_reserved.ensures.items c.push_all.ensures.is c.requires.places.whole refl

pub returns-then-comes-clause-given : goal.returns-then-comes-clause-given
returns-then-comes-clause-given c = record {
  count = search rules;
  whole = whole_more (length c.args.held.now) _ _ false _ _ c.args.held.now c.push_reserved.ensures.items c.push_all.ensures.is c.requires.places.whole refl;
  room = search rules;
}

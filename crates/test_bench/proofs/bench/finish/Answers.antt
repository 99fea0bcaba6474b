use Rattle.std.proofs.Common.{◌*◌, ◌≤◌, subst}
use Rattle.test_bench.proofs.bench.finish.Goals as goal

pub write_rounds-requires-clause-whole : goal.write_rounds-requires-clause-whole
write_rounds-requires-clause-whole c = record {
  count = c.requires.filled.count;
  each = λ k kept at. c.requires.filled.each k kept at (subst (λ z. c.args.rounds * z ≤ kept.count) c.area.ensures.is (c.in-None.ensures k kept at).least);
}

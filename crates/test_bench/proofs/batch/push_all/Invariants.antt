use Rattle.std.proofs.Common.{◌≡◌, ◌++◌, take}
use Rattle.std.specs.Prelude.{vec_capacity}
use Rattle.test_bench.proofs.batch.push_all.Given as goal

abbrev pub invariant-loop-number : goal.invariant-loop-number
invariant-loop-number l = record {
  is : l.dins.items ≡ l.fn.dins.items ++ take l.number-index l.numbers;
  room : vec_capacity l.dins ≡ vec_capacity l.fn.dins;
}

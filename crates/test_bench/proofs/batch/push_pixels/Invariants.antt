use Rattle.std.proofs.Common.{◌≡◌, ◌++◌}
use Rattle.std.specs.Prelude.{vec_capacity}
use Rattle.stimulus.specs.Stimulus.{dins_at}
use Rattle.stimulus.specs.Given.{rounds_of}
use Rattle.test_bench.proofs.batch.push_pixels.Given as goal

abbrev pub invariant-loop-input : goal.invariant-loop-input
invariant-loop-input l = record {
  is : l.dins.items ≡ l.fn.dins.items ++ dins_at l.input (rounds_of l.rounds) l.number;
  room : vec_capacity l.dins ≡ vec_capacity l.fn.dins;
}

use Rattle.std.proofs.Common.{◌≡◌, ◌++◌}
use Rattle.made_program.specs.Draws.{after}
use Rattle.made_program.specs.Images.{samples_from}
use Rattle.made_program.proofs.made.push_samples.Given as goal

abbrev pub invariant-loop : goal.invariant-loop
invariant-loop l = record {
  items : l.to.items ≡ l.fn.to.items ++ samples_from l.counter l.fn.state;
  state : l.state ≡ after l.counter l.fn.state;
}

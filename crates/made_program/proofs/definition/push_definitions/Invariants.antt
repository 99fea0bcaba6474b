use Rattle.std.proofs.Common.{◌≡◌, ◌++◌, ◌*◌}
use Rattle.std.specs.List.{flat_map, range_with_len}
use Rattle.made_program.specs.Draws.{after}
use Rattle.made_program.specs.Programs.{definition_at}
use Rattle.made_program.proofs.definition.push_definitions.Given as goal

abbrev pub invariant-loop-index : goal.invariant-loop-index
invariant-loop-index l = record {
  items : l.to.items ≡ l.fn.to.items ++ flat_map (definition_at l.last l.fn.state) (range_with_len 1 l.index);
  state : l.state ≡ after (7 * l.index) l.fn.state;
}

use Rattle.std.proofs.Common.{◌≡◌, ◌≤◌, ◌+◌, List, length, take}
use Rattle.dk_parser.specs.Programs.{definitions_as as sources_as}
use Rattle.dk_types.specs.declared.typed.TypedInput.{TypedInput}
use Rattle.dk_types.specs.Typed.{definitions_as}
use Rattle.dk_types.specs.Scopes.{inputs_scope, scope_of}
use Rattle.dk_types.specs.Types.{AreDefinitions}
use Rattle.dk_types.proofs.items.definitions.Given as goal

abbrev pub invariant-loop-item : goal.invariant-loop-item
invariant-loop-item l = record {
  kept : (is : List TypedInput) → l.fn.scope ≡ inputs_scope is → AreDefinitions is (sources_as (take l.item-index l.items)) (definitions_as l.done.items);
  names : (is : List TypedInput) → l.fn.scope ≡ inputs_scope is → l.scope ≡ scope_of is (definitions_as l.done.items);
  long : length l.scope ≤ length l.done.items + 8;
}

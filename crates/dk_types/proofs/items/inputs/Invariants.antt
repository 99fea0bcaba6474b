use Rattle.std.proofs.Common.{◌≡◌, take}
use Rattle.dk_types.specs.Scopes.{inputs_scope}
use Rattle.dk_types.specs.Types.{AreInputs}
use Rattle.dk_types.proofs.items.inputs.Given as goal

abbrev pub invariant-loop-item : goal.invariant-loop-item
invariant-loop-item l = record {
  kept : AreInputs (take l.item-index l.items) l.done.items;
  names : l.scope ≡ inputs_scope l.done.items;
}

use Rattle.std.proofs.Common.{◌≡◌, map, take}
use Rattle.pointwise_ir.specs.declared.program.Input.{Input}
use Rattle.dk_types.specs.declared.typed.TypedInput.{TypedInput}
use Rattle.dk_inline.proofs.substitution.inputs.Given as goal

abbrev pub invariant-loop-k : goal.invariant-loop-k
invariant-loop-k l = record {
  names : map (λ (i : Input). i.name) l.done.items ≡ map (λ (i : TypedInput). i.name.text) (take l.k l.items);
  types : map (λ (i : Input). i.ty) l.done.items ≡ map (λ (i : TypedInput). i.ty) (take l.k l.items);
}

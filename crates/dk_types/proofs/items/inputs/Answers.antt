use Rattle.std.proofs.Common.{sym, ap, ◌∙◌, subst, [], List, take}
use Rattle.std.proofs.lemmas.Result.{err_from_is_err_and}
use Rattle.dk_types.specs.declared.typed.TypedInput.{TypedInput}
use Rattle.dk_types.specs.Sequences.{none}
use Rattle.dk_types.specs.Scopes.{inputs_scope}
use Rattle.dk_types.specs.Types.{IsInput, AreInputs}
use Rattle.dk_types.specs.Faults.{InputFault}
use Rattle.dk_types.proofs.Sequences.{around, more_at, fails_at}
use Rattle.dk_types.proofs.items.inputs.Goals as goal

pub loop-item-init : goal.loop-item-init
loop-item-init c =
    let P : List TypedInput → Type 0 = λ l. AreInputs [] l in
    record { kept = subst P (sym c.new-done.ensures.items) none; names = c.requires ∙ ap inputs_scope (sym c.new-done.ensures.items) }

pub returns-in_err-typed : goal.returns-in_err-typed
returns-in_err-typed c =
    let p = err_from_is_err_and c.from_residual.result c.from_residual.ensures.1 in
    let a = around c.args.items.now c.loop-item.item-index c.item-item.result c.loop-item-test.true c.item-item.is in
    let before = take c.loop-item.item-index c.args.items.now in
    rw (p.1, p.2) (fails_at IsInput InputFault before _ c.args.items.now c.item-item.result c.loop-item.done.items c.in_err-typed.field-0.0 a.whole
    c.loop-item.invariant.kept (c.in_err-typed.ensures before c.loop-item.done.items c.loop-item.invariant.names))

pub loop-item-preserved : goal.loop-item-preserved
loop-item-preserved c =
    let a = around c.args.items.now c.loop-item.item-index c.item-item.result c.loop-item-test.true c.item-item.is in
    let before = take c.loop-item.item-index c.args.items.now in
    let r = c.in_ok-typed.ensures before c.loop-item.done.items c.loop-item.invariant.names in
    record {
      kept = more_at IsInput before _ c.item-item.result c.loop-item.done.items _ c.in_ok-typed.typed a.upto c.loop-item.invariant.kept r.0 c.in_ok-push.ensures.items;
      names = r.1 ∙ ap inputs_scope (sym c.in_ok-push.ensures.items);
    }

use Rattle.std.proofs.Common.{sym, subst, [], List, ℕ, take}
use Rattle.std.proofs.lemmas.Result.{err_from_is_err_and}
use Rattle.dk_parser.specs.declared.tree.Name.{Name}
use Rattle.dk_types.specs.Sequences.{none}
use Rattle.dk_types.specs.Types.{IsOutput, AreOutputs}
use Rattle.dk_types.specs.Faults.{OutputFault, Stops}
use Rattle.dk_types.proofs.Sequences.{around, more_at, fails_at}
use Rattle.dk_types.proofs.items.outputs.Goals as goal

pub loop-k-init : goal.loop-k-init
loop-k-init c = let P : List ℕ → Type 0 = λ l. AreOutputs c.args.scope.now [] l in subst P (sym c.new-done.ensures.items) none

pub returns-in_err-image : goal.returns-in_err-image
returns-in_err-image c =
    let p = err_from_is_err_and c.from_residual.result c.from_residual.ensures.1 in
    let a = around c.args.items.now c.loop-k.k c.index-items-k.result c.loop-k-test.true c.index-items-k.is in
    let before = take c.loop-k.k c.args.items.now in
    let P : List Name → Type 0 = λ l. Stops (OutputFault c.args.scope.now l c.loop-k.done.items c.index-items-k.result) c.in_err-image.field-0.0 in
    rw (p.1, p.2) (fails_at (IsOutput c.args.scope.now) (OutputFault c.args.scope.now) before _ c.args.items.now c.index-items-k.result c.loop-k.done.items c.in_err-image.field-0.0 a.whole
    c.loop-k.invariant (subst P c.split_at.ensures.front (c.in_err-image.ensures c.loop-k.done.items)))

pub loop-k-preserved : goal.loop-k-preserved
loop-k-preserved c =
    let a = around c.args.items.now c.loop-k.k c.index-items-k.result c.loop-k-test.true c.index-items-k.is in
    let before = take c.loop-k.k c.args.items.now in
    let P : List Name → Type 0 = λ l. IsOutput c.args.scope.now l c.loop-k.done.items c.index-items-k.result c.in_ok-image.image in
    more_at (IsOutput c.args.scope.now) before _ c.index-items-k.result c.loop-k.done.items _ c.in_ok-image.image a.upto c.loop-k.invariant
    (subst P c.split_at.ensures.front (c.in_ok-image.ensures c.loop-k.done.items)) c.in_ok-push.ensures.items

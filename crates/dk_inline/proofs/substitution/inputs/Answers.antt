use Rattle.std.proofs.Common.{◌≡◌, length, map, slice_get, Some, refl, ap}
use Rattle.std.proofs.lemmas.Option.{slice_get_read}
use Rattle.pointwise_ir.specs.declared.program.Input.{Input}
use Rattle.dk_types.specs.declared.typed.TypedInput.{TypedInput}
use Rattle.dk_inline.proofs.ListJoins.{mapped_more, mapped_whole}
use Rattle.dk_inline.proofs.substitution.inputs.Goals as goal

pub loop-k-init : goal.loop-k-init
loop-k-init c = record { names = ap (map (λ (i : Input). i.name)) c.new-done.ensures.items; types = ap (map (λ (i : Input). i.ty)) c.new-done.ensures.items }

pub loop-k-preserved : goal.loop-k-preserved
loop-k-preserved c =
    let xs = c.args.items.now in
    let k = c.loop-k.k in
    let x = c.index-items-k.result in
    let at : slice_get xs k ≡ Some x = slice_get_read xs (length xs) k x refl c.loop-k-test.true c.index-items-k.is in
    record {
      names = mapped_more (λ (i : Input). i.name) (λ (i : TypedInput). i.name.text) c.loop-k.done.items c.push.new.self.items _ xs k x c.loop-k.invariant.names c.in_ok-push.ensures.items at c.in_ok-name.ensures;
      types = mapped_more (λ (i : Input). i.ty) (λ (i : TypedInput). i.ty) c.loop-k.done.items c.push.new.self.items _ xs k x c.loop-k.invariant.types c.in_ok-push.ensures.items at refl;
    }

pub returns-clause-names : goal.returns-clause-names
returns-clause-names c = mapped_whole (λ (i : Input). i.name) (λ (i : TypedInput). i.name.text) c.loop-k.done.items c.args.items.now c.loop-k.k c.loop-k.invariant.names c.loop-k-test.false

pub returns-clause-types : goal.returns-clause-types
returns-clause-types c = mapped_whole (λ (i : Input). i.ty) (λ (i : TypedInput). i.ty) c.loop-k.done.items c.args.items.now c.loop-k.k c.loop-k.invariant.types c.loop-k-test.false

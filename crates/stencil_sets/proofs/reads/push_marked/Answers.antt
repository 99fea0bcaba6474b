use Rattle.std.proofs.Common.{rules, arith, ap, sym, subst, length, ◌+◌, ◌<◌, slice_index_or}
use Rattle.dk_base.specs.FrameSizes.{size_of}
use Rattle.pointwise_ir.specs.Trees.{tree_of}
use Rattle.pointwise_ir.specs.Reads.{Kept}
use Rattle.stencil_sets.specs.Found.{Gains, Within}
use Rattle.stencil_sets.specs.Paths.{IsReadOf}
use Rattle.stencil_sets.specs.Marks.{IsMarked}
use Rattle.stencil_sets.proofs.Marked.{body_there, mark_there, mark_not}
use Rattle.stencil_sets.proofs.Programs.{ReadersSoFar, readers_more, readers_left, readers_done, readers_within, body_below}
use Rattle.stencil_sets.proofs.reads.push_marked.Goals.{then-kept-inputs+in_ok-push_body, else-kept-inputs}
use Rattle.stencil_sets.proofs.reads.push_marked.Goals as goal

pub push_body-requires-clause-earlier : goal.push_body-requires-clause-earlier
push_body-requires-clause-earlier c =
    let p = c.args.ir.now in
    let k = c.loop-k.k in
    let images = c.images-images.result.now in
    let lt : k < length p.images = let l = c.loop-k-test.true in let n = ap length c.images-images.ensures in omega (arith, l, n) in
    body_below p c.law.ensures k (tree_of (slice_index_or images k c.index-images-k.result).body) (body_there p images c.images-images.ensures k c.index-images-k.result lt)
    (size_of c.size-size.result) (length c.inputs-inputs.result.now) c.size-size.ensures (ap length c.inputs-inputs.ensures)

pub returns-in_err-push_body : goal.returns-in_err-push_body
returns-in_err-push_body c = record {
  exact = search rules;
  sound = let p = c.args.ir.now in
      let k = c.loop-k.k in
      let images = c.images-images.result.now in
      let lt : k < length p.images = let l = c.loop-k-test.true in let n = ap length c.images-images.ensures in omega (arith, l, n) in
      let e = tree_of (slice_index_or images k c.index-images-k.result).body in
      let inputs = ap length c.inputs-inputs.ensures in
      let kept : Kept p (length p.inputs + k) = c.requires.marks.sound (length p.inputs + k) (subst (λ n. IsMarked c.args.kept.now (n + k)) inputs (mark_there c.args.kept.now (length c.inputs-inputs.result.now + k) c.if-kept-inputs.true)) in
      let f = length c.inputs-inputs.result.now + k in
      readers_within p c.loop-k.all.items c.push_body.new.all.items k f e (body_there p images c.images-images.ensures k c.index-images-k.result lt) kept (ap (λ n. n + k) inputs) c.loop-k.invariant c.push_body.ensures.order
      (subst (λ s. Within c.loop-k.all.items c.push_body.new.all.items (λ f' g dx dy. IsReadOf s e f f' g dx dy)) c.size-size.ensures c.push_body.ensures.sound);
  stopped = search rules;
}

pub loop-k-preserved : goal.loop-k-preserved
loop-k-preserved c =
    let p = c.args.ir.now in
    let k = c.loop-k.k in
    let images = c.images-images.result.now in
    let inputs = ap length c.inputs-inputs.ensures in
    let f = length c.inputs-inputs.result.now + k in
    let lt : k < length p.images = let l = c.loop-k-test.true in let n = ap length c.images-images.ensures in omega (arith, l, n) in
    elim c.if-kept-inputs.branch [
      | then-kept-inputs+in_ok-push_body w ↦
          let e = tree_of (slice_index_or images k w.index-images-k.result).body in
          let kept : Kept p (length p.inputs + k) = c.requires.marks.sound (length p.inputs + k) (subst (λ n. IsMarked c.args.kept.now (n + k)) inputs (mark_there c.args.kept.now f w.if-kept-inputs.true)) in
          subst (λ v. ReadersSoFar p v.items (k + 1)) (sym w.all-is) (readers_more p c.loop-k.all.items w.push_body.new.all.items k f e (body_there p images c.images-images.ensures k w.index-images-k.result lt) kept (ap (λ n. n + k) inputs)
          c.loop-k.invariant w.in_ok-push_body.ensures.order (subst (λ s. Gains c.loop-k.all.items w.push_body.new.all.items (λ f' g dx dy. IsReadOf s e f f' g dx dy)) c.size-size.ensures w.in_ok-push_body.ensures.found) w.in_ok-push_body.ensures.before)
      | else-kept-inputs w ↦
          subst (λ v. ReadersSoFar p v.items (k + 1)) (sym w.all-is) (readers_left p c.loop-k.all.items k
          (λ m. mark_not c.args.kept.now f w.if-kept-inputs.false (subst (λ n. IsMarked c.args.kept.now (n + k)) (sym inputs) (c.requires.marks.complete (length p.inputs + k) m))) c.loop-k.invariant)
    ]

pub returns : goal.returns
returns c = record {
  exact = let l = c.loop-k-test.false in let n = ap length c.images-images.ensures in readers_done c.args.ir.now c.loop-k.all.items c.loop-k.k (omega (arith, l, n)) c.loop-k.invariant;
  sound = let l = c.loop-k-test.false in
      let n = ap length c.images-images.ensures in
      let are = readers_done c.args.ir.now c.loop-k.all.items c.loop-k.k (omega (arith, l, n)) c.loop-k.invariant in
      record { in_order = are.in_order; sound = λ f g dx dy h. (are.exact f g dx dy).0 h };
  stopped = search rules;
}

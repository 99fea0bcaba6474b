use Rattle.std.proofs.Common.{arith, ap, sym, subst, ◌-◌, ◌+◌, ◌<◌, ◌≡◌, length, slice_index_or}
use Rattle.dk_base.specs.FrameSizes.{size_of}
use Rattle.pointwise_ir.specs.Trees.{tree_of}
use Rattle.stencil_sets.specs.Marks.{IsMarked}
use Rattle.stencil_sets.proofs.Marked.{marks_step, marks_left, marked_start, marked_at, body_there, mark_there, mark_not, marks_moved}
use Rattle.stencil_sets.proofs.kept.mark_needed.Goals as goal

pub loop-k-preserved-in-Continue-1 : goal.loop-k-preserved-in-Continue-1
loop-k-preserved-in-Continue-1 c =
    let p = c.args.ir.now in
    let k = c.loop-k.k - 1 in
    let images = c.images-images.result.now in
    let lt : k < length p.images = omega (arith, c.loop-k-test.true, c.loop-k.invariant.within) in
    let next : c.loop-k.k ≡ k + 1 = omega (arith, c.loop-k-test.true) in
    let inputs = ap length c.inputs-inputs.ensures in
    let e = tree_of (slice_index_or images k c.index-images-k.result).body in
    let mark : IsMarked c.loop-k.kept (length p.inputs + k) = subst (λ n. IsMarked c.loop-k.kept (n + k)) inputs (mark_there c.loop-k.kept (length c.inputs-inputs.result.now + k) c.if-kept-inputs.true) in
    marks_step p c.law.ensures c.args.kept.now c.loop-k.kept c.mark_reads.new.kept k e (body_there p images c.images-images.ensures k c.index-images-k.result lt) lt mark
    (marks_moved c.loop-k.kept c.mark_reads.new.kept (size_of c.size-size.result) p.size e c.size-size.ensures c.in_ok-mark_reads.ensures.more)
    (marked_at p c.args.kept.now c.loop-k.kept c.loop-k.k (k + 1) next c.loop-k.invariant)

pub loop-k-preserved : goal.loop-k-preserved
loop-k-preserved c =
    let p = c.args.ir.now in
    let k = c.loop-k.k - 1 in
    let images = c.images-images.result.now in
    let lt : k < length p.images = omega (arith, c.loop-k-test.true, c.loop-k.invariant.within) in
    let next : c.loop-k.k ≡ k + 1 = omega (arith, c.loop-k-test.true) in
    let inputs = ap length c.inputs-inputs.ensures in
    marks_left p c.args.kept.now c.loop-k.kept k lt (λ m. mark_not c.loop-k.kept (length c.inputs-inputs.result.now + k) c.if-kept-inputs.false (subst (λ n. IsMarked c.loop-k.kept (n + k)) (sym inputs) m))
    (marked_at p c.args.kept.now c.loop-k.kept c.loop-k.k (k + 1) next c.loop-k.invariant)

pub loop-k-init : goal.loop-k-init
loop-k-init c = marked_start c.args.ir.now c.args.kept.now (length c.images-images.result.now) (ap length c.images-images.ensures) c.requires.one_each c.requires.sound

pub returns : goal.returns
returns c = record { done = marked_at c.args.ir.now c.args.kept.now c.loop-k.kept c.loop-k.k 0 (omega (arith, c.loop-k-test.false)) c.loop-k.invariant }

use Rattle.std.proofs.Common.{◌≡◌, ◌+◌, ◌-◌, ◌<◌, true, false, length, map, get_or, ◌∙◌, sym, subst, arith}
use Rattle.pointwise_ir.specs.declared.program.Definition.{Definition}
use Rattle.pointwise_ir.specs.Trees.{tree_of}
use Rattle.pointwise_ir.proofs.Agreement.{each_weaker}
use Rattle.pointwise_eval.proofs.Marks.{IsClosed, closed_marked, closed_left, body_at}
use Rattle.pointwise_eval.proofs.need.mark_reads.Goals as goal

pub mark-requires-clause-there : goal.mark-requires-clause-there
mark-requires-clause-there c =
    let k = c.loop-k.k - 1 in
    let lt : k < length c.args.images.now = omega (arith, c.loop-k-test.true, c.loop-k.invariant.within) in
    let body = tree_of (get_or c.args.images.now k c.index-images-k.result).body in
    let reads = c.requires.earlier k body (body_at c.args.images.now k c.index-images-k.result lt) in
    each_weaker (λ g. g < c.args.inputs + k) (λ g. g < length c.loop-k.until) (λ g below. omega (arith, below, lt, c.loop-k.invariant.long)) body reads

pub loop-k-preserved-then-is_needed : goal.loop-k-preserved-then-is_needed
loop-k-preserved-then-is_needed c =
    let k = c.loop-k.k - 1 in
    let lt : k < length c.args.images.now = omega (arith, c.loop-k-test.true, c.loop-k.invariant.within) in
    let body = tree_of (get_or c.args.images.now k c.index-images-k.result).body in
    let there = body_at c.args.images.now k c.index-images-k.result lt in
    let next : c.loop-k.k ≡ k + 1 = omega (arith, c.loop-k-test.true) in
    let bodies = map (λ (d : Definition). tree_of d.body) c.args.images.now in
    let closed : IsClosed c.args.inputs bodies c.loop-k.until (k + 1) = subst (IsClosed c.args.inputs bodies c.loop-k.until) next c.loop-k.invariant.closed in
    record {
      long = c.mark.auto.until ∙ c.loop-k.invariant.long;
      within = omega (arith, lt);
      kept = λ n g is. c.mark.ensures.kept n g (c.loop-k.invariant.kept n g is);
      closed = closed_marked c.args.inputs bodies c.loop-k.until c.mark.new.until k body there (c.requires.earlier k body there) c.mark.ensures.reads c.mark.ensures.kept c.mark.ensures.others closed;
    }

pub loop-k-preserved : goal.loop-k-preserved
loop-k-preserved c =
    let k = c.loop-k.k - 1 in
    let next : c.loop-k.k ≡ k + 1 = omega (arith, c.loop-k-test.true) in
    let bodies = map (λ (d : Definition). tree_of d.body) c.args.images.now in
    let closed : IsClosed c.args.inputs bodies c.loop-k.until (k + 1) = subst (IsClosed c.args.inputs bodies c.loop-k.until) next c.loop-k.invariant.closed in
    record {
      long = c.loop-k.invariant.long;
      within = omega (arith, c.loop-k.invariant.within);
      kept = c.loop-k.invariant.kept;
      closed = closed_left c.args.inputs bodies c.loop-k.until k (λ is. let e : true ≡ false = sym (c.is_needed.ensures.1 is) ∙ c.if-is_needed.false in let f : ⊥ = cc in f) closed;
    }

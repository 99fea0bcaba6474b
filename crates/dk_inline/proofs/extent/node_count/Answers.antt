use Rattle.std.proofs.Common.{◌+◌, drop, ap, ◌∙◌, arith}
use Rattle.dk_types.specs.Typed.{typing_of}
use Rattle.dk_inline.specs.Nodes.{nodes_from}
use Rattle.dk_inline.specs.Extents.{saturated}
use Rattle.dk_inline.proofs.Counted.{counted_more, count_whole}
use Rattle.dk_inline.proofs.extent.node_count.Goals as goal

pub loop-k-preserved : goal.loop-k-preserved
loop-k-preserved c =
    let p = typing_of c.args.program.now in
    record {
      few = let e = c.saturating_add-count.ensures in omega (arith, e);
      sum =
          ap (λ n. saturated (n + nodes_from p (c.loop-k.k + 1) (drop (c.loop-k.k + 1) p.definitions))) c.saturating_add-count.ensures
          ∙ counted_more p c.args.extents.now c.loop-k.k c.loop-k.count c.counted.result c.requires c.loop-k-test.true c.counted.ensures c.loop-k.invariant.sum;
    }

pub returns : goal.returns
returns c =
    let p = typing_of c.args.program.now in
    let n = c.requires.long in
    count_whole p c.loop-k.k c.loop-k.count (omega (arith, n, c.loop-k-test.false)) c.loop-k.invariant.few c.loop-k.invariant.sum

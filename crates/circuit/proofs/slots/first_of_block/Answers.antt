use Rattle.std.proofs.Common.{◌+◌, ◌≡◌, length, take, arith, rules}
use Rattle.dk_base.specs.declared.stencils.Image.{Image}
use Rattle.circuit.specs.Splits.{lists_of}
use Rattle.circuit.specs.Forms.{shapes_of, block_shapes_of}
use Rattle.circuit.proofs.Counting.{arrays_few, block_few, next_kept_image, next_count}
use Rattle.circuit.proofs.slots.first_of_block.Goals as goal

abbrev none : Image
none = record { number = 0; width = 0 }

pub block_arrays-first-requires : goal.block_arrays-first-requires
block_arrays-first-requires c = next_kept_image c.args.plan.now c.images.result.now c.loop-k.k c.args.image none c.images.ensures c.requires (omega (arith, c.loop-k-test.true, c.place-k-end.ensures))

pub loop-k-preserved : goal.loop-k-preserved
loop-k-preserved c = next_count (block_shapes_of (lists_of c.args.proposed.now)) c.args.plan.now c.images.result.now c.loop-k.k c.args.image c.loop-k.first c.block_arrays-first.result none c.images.ensures c.requires (omega (arith, c.loop-k-test.true, c.place-k-end.ensures)) c.loop-k.invariant c.block_arrays-first.ensures

pub overflow_add-first : goal.overflow_add-first
overflow_add-first c =
    let more : c.loop-k.first + c.block_arrays-first.result ≡ length (shapes_of (block_shapes_of (lists_of c.args.proposed.now)) c.args.plan.now (take (c.loop-k.k + 1) c.args.plan.now.system.stencils.images)) =
    next_count (block_shapes_of (lists_of c.args.proposed.now)) c.args.plan.now c.images.result.now c.loop-k.k c.args.image c.loop-k.first c.block_arrays-first.result none c.images.ensures c.requires (omega (arith, c.loop-k-test.true, c.place-k-end.ensures)) c.loop-k.invariant c.block_arrays-first.ensures in
    let few = arrays_few (block_shapes_of (lists_of c.args.proposed.now)) c.args.plan.now (c.loop-k.k + 1) c.law.ensures (λ g kept. block_few (lists_of c.args.proposed.now) c.args.plan.now g) in
    omega (arith, few, more)

pub returns : goal.returns
returns c = record {
  first = search rules;
  few = let few = arrays_few (block_shapes_of (lists_of c.args.proposed.now)) c.args.plan.now c.loop-k.k c.law.ensures (λ g kept. block_few (lists_of c.args.proposed.now) c.args.plan.now g) in
      omega (arith, few, c.loop-k.invariant);
}

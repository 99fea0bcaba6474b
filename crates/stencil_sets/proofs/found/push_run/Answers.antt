use Rattle.std.proofs.Common.{rules, arith, to_z, of_z, w32}
use Rattle.std.proofs.lemmas.Int.{ints, to_z-of_z}
use Rattle.stencil_sets.proofs.Ordered.{run_more, run_done, run_within}
use Rattle.stencil_sets.proofs.found.push_run.Goals as goal

pub loop-dx-preserved : goal.loop-dx-preserved
loop-dx-preserved c =
    let d = to_z w32 c.loop-dx.dx-bits in
    let row = to_z w32 (of_z w32 c.args.dy) in
    let from = to_z w32 (of_z w32 c.args.from) in
    let i = c.loop-dx.invariant in (
      run_more c.args.all.now.items c.loop-dx.all.items c.push_read.new.all.items c.args.f c.args.g row from d _ i.1
          c.in_ok-push_read.ensures.items
          (omega (arith, ints, c.loop-dx-test.true, c.ranges.end)) i.0,
      omega (arith, ints, c.loop-dx-test.true, i.1, c.ranges.end),
      omega (arith, ints, c.loop-dx-test.true, i.2, c.ranges.end),
    )

pub returns : goal.returns
returns c = record {
  order = search rules;
  found = let y = to_z-of_z w32 c.args.dy c.ranges.dy in
      let z = to_z-of_z w32 c.args.from c.ranges.from in
      let done = run_done c.args.all.now.items c.loop-dx.all.items c.args.f c.args.g _ c.args.dy _ c.args.from (to_z w32 c.loop-dx.dx-bits) c.args.end y z (omega (arith, ints, c.loop-dx-test.false, c.loop-dx.invariant.2, c.ranges.end)) c.loop-dx.invariant.0 in
      done.gains;
  sound = let y = to_z-of_z w32 c.args.dy c.ranges.dy in
      let z = to_z-of_z w32 c.args.from c.ranges.from in
      let done = run_done c.args.all.now.items c.loop-dx.all.items c.args.f c.args.g _ c.args.dy _ c.args.from (to_z w32 c.loop-dx.dx-bits) c.args.end y z (omega (arith, ints, c.loop-dx-test.false, c.loop-dx.invariant.2, c.ranges.end)) c.loop-dx.invariant.0 in
      λ f g dx dy h. (done.gains f g dx dy).0 h;
  before = let y = to_z-of_z w32 c.args.dy c.ranges.dy in
      let z = to_z-of_z w32 c.args.from c.ranges.from in
      let done = run_done c.args.all.now.items c.loop-dx.all.items c.args.f c.args.g _ c.args.dy _ c.args.from (to_z w32 c.loop-dx.dx-bits) c.args.end y z (omega (arith, ints, c.loop-dx-test.false, c.loop-dx.invariant.2, c.ranges.end)) c.loop-dx.invariant.0 in
      done.before;
  stopped = search rules;
}

pub returns-in_err-push_read : goal.returns-in_err-push_read
returns-in_err-push_read c = record {
  order = search rules;
  found = search rules;
  sound = let y = to_z-of_z w32 c.args.dy c.ranges.dy in
      let z = to_z-of_z w32 c.args.from c.ranges.from in
      run_within c.args.all.now.items c.loop-dx.all.items c.push_read.new.all.items c.args.f c.args.g _ c.args.dy _ c.args.from (to_z w32 c.loop-dx.dx-bits) c.args.end y z (omega (arith, ints, c.loop-dx-test.true, c.ranges.end))
      c.in_err-push_read.ensures.same c.loop-dx.invariant.0;
  before = search rules;
  stopped = search rules;
}

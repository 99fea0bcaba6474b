use Rattle.std.proofs.Common.{rules, arith, ◌+ℤ◌, pos, to_z, of_z, w32}
use Rattle.std.proofs.lemmas.Int.{ints}
use Rattle.frame_paths.proofs.Spreads.{small32}
use Rattle.stencil_sets.proofs.Rows.{rows_start, rows_more, rows_within, rows_done, rows_in, rows_from, among_as}
use Rattle.stencil_sets.proofs.found.push_image.Goals as goal

pub loop-dy-init : goal.loop-dy-init
loop-dy-init c =
    let first = to_z w32 (of_z w32 c.rows_of-first.result.0) in
    let f = small32 c.rows_of-first.result.0 (omega (arith, c.rows_of-first.ensures.first)) in
    let e = small32 c.rows_of-first.result.1 (omega (arith, c.rows_of-first.ensures.end)) in (
      rows_start c.args.all.now.items c.args.f c.args.g c.args.rects.now first c.requires.open.order (rows_from c.args.all.now.items c.args.f c.args.g first (omega (arith, ints, f, c.rows_of-first.ensures.first)) c.requires.open.before),
      omega (arith, ints),
      omega (arith, ints, e, f, c.rows_of-first.ensures.order),
    )

pub loop-dy-preserved : goal.loop-dy-preserved
loop-dy-preserved c =
    let first = to_z w32 (of_z w32 c.rows_of-first.result.0) in
    let e = small32 c.rows_of-first.result.1 (omega (arith, c.rows_of-first.ensures.end)) in
    let d = to_z w32 c.loop-dy.dy-bits in
    let i = c.loop-dy.invariant in
    let next = small32 (d +ℤ pos 1) (omega (arith, ints, c.loop-dy-test.true, i.1, i.2, e, c.rows_of-first.ensures.end, c.rows_of-first.ensures.first, small32 c.rows_of-first.result.0 (omega (arith, c.rows_of-first.ensures.first)))) in (
      rows_more c.args.all.now.items c.loop-dy.all.items c.push_row.new.all.items c.args.f c.args.g c.args.rects.now first d _ c.requires.rects.near next i.0
          c.in_ok-push_row.ensures.order c.in_ok-push_row.ensures.found c.in_ok-push_row.ensures.before,
      omega (arith, ints, next, i.1),
      omega (arith, ints, next, c.loop-dy-test.true),
    )

pub returns : goal.returns
returns c = record {
  order = search rules;
  found = let f = small32 c.rows_of-first.result.0 (omega (arith, c.rows_of-first.ensures.first)) in
      let e = small32 c.rows_of-first.result.1 (omega (arith, c.rows_of-first.ensures.end)) in
      let i = c.loop-dy.invariant in
      rows_done c.args.all.now.items c.loop-dy.all.items c.args.f c.args.g c.args.rects.now _ (to_z w32 c.loop-dy.dy-bits)
      (among_as c.args.rects.now _ _ _ _ f (omega (arith, ints, e, i.2, c.loop-dy-test.false)) c.rows_of-first.ensures.among) i.0;
  sound = let f = small32 c.rows_of-first.result.0 (omega (arith, c.rows_of-first.ensures.first)) in
      let e = small32 c.rows_of-first.result.1 (omega (arith, c.rows_of-first.ensures.end)) in
      let i = c.loop-dy.invariant in
      let found = rows_done c.args.all.now.items c.loop-dy.all.items c.args.f c.args.g c.args.rects.now _ (to_z w32 c.loop-dy.dy-bits)
      (among_as c.args.rects.now _ _ _ _ f (omega (arith, ints, e, i.2, c.loop-dy-test.false)) c.rows_of-first.ensures.among) i.0 in
      λ f' g dx dy h. (found f' g dx dy).0 h;
  before = search rules;
  stopped = search rules;
}

pub returns-in_err-push_row : goal.returns-in_err-push_row
returns-in_err-push_row c = record {
  order = search rules;
  found = search rules;
  sound = let first = to_z w32 (of_z w32 c.rows_of-first.result.0) in
      rows_in c.args.all.now.items c.push_row.new.all.items c.args.f c.args.g c.args.rects.now first
      (rows_within c.args.all.now.items c.loop-dy.all.items c.push_row.new.all.items c.args.f c.args.g c.args.rects.now first (to_z w32 c.loop-dy.dy-bits) c.requires.rects.near c.loop-dy.invariant.0 c.in_err-push_row.ensures.sound);
  before = search rules;
  stopped = search rules;
}

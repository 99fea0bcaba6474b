use Rattle.std.proofs.Common.{rules, sym, subst, ◌+◌, drop, slice_index_or, pos, neg_ℤ, to_z, of_z, w32}
use Rattle.std.proofs.lemmas.Int.{to_z-of_z}
use Rattle.stencil_sets.specs.Found.{IsLeft, Within}
use Rattle.stencil_sets.specs.declared.path.Rect.{Rect}
use Rattle.stencil_sets.proofs.Rows.{RowSoFar, row_more, row_within, drop_step, drop_all, row_done}
use Rattle.stencil_sets.proofs.found.push_row.Goals as goal

pub loop-rect-preserved : goal.loop-rect-preserved
loop-rect-preserved c =
    let rects = c.args.rects.now in
    let i = c.loop-rect.rect-index in
    let row = to_z w32 (of_z w32 c.args.dy) in
    let none : Rect = record { image = 0; across = record { least = pos 0; greatest = pos 0 }; down = record { least = pos 0; greatest = pos 0 } } in
    let e = to_z-of_z w32 c.in_ok-next.next (search rules) in
    subst (λ n. RowSoFar c.args.all.now.items c.push_part.new.all.items c.args.f c.args.g row rects (drop (i + 1) rects) n) (sym e)
    (row_more c.args.all.now.items c.loop-rect.all.items c.push_part.new.all.items c.args.f c.args.g row rects (drop i rects) (drop (i + 1) rects) (slice_index_or rects i none) (to_z w32 c.loop-rect.next-bits) c.in_ok-next.next
    (drop_step rects i none c.loop-rect-test.true) c.loop-rect.invariant c.in_ok-next.ensures.order c.in_ok-next.ensures.before.before c.in_ok-next.ensures.found c.in_ok-next.ensures.before.behind)

pub returns : goal.returns
returns c = record {
  order = search rules;
  found = (row_done c.args.all.now.items c.loop-rect.all.items c.args.f c.args.g _ c.args.dy c.args.rects.now _ _ (to_z-of_z w32 c.args.dy c.ranges.dy) (drop_all c.args.rects.now c.loop-rect.rect-index c.loop-rect-test.false) c.loop-rect.invariant).0;
  sound = λ f g dx dy h.
      ((row_done c.args.all.now.items c.loop-rect.all.items c.args.f c.args.g _ c.args.dy c.args.rects.now _ _ (to_z-of_z w32 c.args.dy c.ranges.dy) (drop_all c.args.rects.now c.loop-rect.rect-index c.loop-rect-test.false) c.loop-rect.invariant).0 f g dx dy).0 h;
  before = let done = row_done c.args.all.now.items c.loop-rect.all.items c.args.f c.args.g _ c.args.dy c.args.rects.now _ _ (to_z-of_z w32 c.args.dy c.ranges.dy) (drop_all c.args.rects.now c.loop-rect.rect-index c.loop-rect-test.false) c.loop-rect.invariant in
      (done.1, done.2);
  stopped = search rules;
}

pub push_part-requires-clause-open : goal.push_part-requires-clause-open
push_part-requires-clause-open c = record { order = c.loop-rect.invariant.order; before = c.loop-rect.invariant.before }

pub returns-in_err-next : goal.returns-in_err-next
returns-in_err-next c = record {
  order = search rules;
  found = search rules;
  sound = let rects = c.args.rects.now in
      let i = c.loop-rect.rect-index in
      let row = to_z w32 (of_z w32 c.args.dy) in
      let none : Rect = record { image = 0; across = record { least = pos 0; greatest = pos 0 }; down = record { least = pos 0; greatest = pos 0 } } in
      subst (λ r. Within c.args.all.now.items c.push_part.new.all.items (λ f g dx dy. IsLeft rects c.args.f c.args.g r (neg_ℤ (pos 8192)) f g dx dy)) (to_z-of_z w32 c.args.dy c.ranges.dy)
      (row_within c.args.all.now.items c.loop-rect.all.items c.push_part.new.all.items c.args.f c.args.g row rects (drop i rects) (drop (i + 1) rects) (slice_index_or rects i none) (to_z w32 c.loop-rect.next-bits)
      (drop_step rects i none c.loop-rect-test.true) c.loop-rect.invariant c.in_err-next.ensures.sound);
  before = search rules;
  stopped = search rules;
}

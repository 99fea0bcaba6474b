use Rattle.std.proofs.Common.{arith, rules, refl, sym, ◌≡◌, ◌≤ℤ◌, ◌+ℤ◌, pos, to_z, of_z, w32, inl, inr, [], ◌∷◌}
use Rattle.std.proofs.lemmas.Int.{ints, clamps, to_z-of_z}
use Rattle.std.specs.Int.{int_max}
use Rattle.pointwise_ir.specs.Stencils.{the}
use Rattle.stencil_sets.specs.Found.{IsRun, IsLeft}
use Rattle.frame_paths.proofs.Spreads.{small32}
use Rattle.stencil_sets.proofs.Ordered.{all_before_later}
use Rattle.stencil_sets.proofs.Rows.{not_in_row, gains_nothing, gains_as, within_as, run_is, behind_run, gains_run, within_run, before_at}
use Rattle.stencil_sets.proofs.found.push_part.Goals.{then-dy-rect-via-then-dy-rect, then-dy-rect-via-else-dy-rect+then-rect-dy}
use Rattle.stencil_sets.proofs.found.push_part.Goals as goal

pub push_run-requires-clause-open : goal.push_run-requires-clause-open
push_run-requires-clause-open c =
    let rect = c.args.rect in
    let row = to_z-of_z w32 c.args.dy c.ranges.dy in
    let next = to_z-of_z w32 c.args.next c.ranges.next in
    let least = small32 rect.across.least (omega (arith, c.requires.rect.across.least)) in
    let greatest = small32 rect.across.greatest (omega (arith, c.requires.rect.across.greatest)) in
    let more = small32 (rect.across.greatest +ℤ pos 1) (omega (arith, ints, c.requires.rect.across.greatest)) in
    let from : to_z w32 (of_z w32 c.max-from.result) ≡ int_max c.args.next rect.across.least = cc (to_z-of_z w32 c.max-from.result (search rules), c.max-from.ensures.value, next, least) in
    let end : to_z w32 (of_z w32 c.max-end.result) ≡ int_max (int_max c.args.next rect.across.least) (rect.across.greatest +ℤ pos 1) = cc (to_z-of_z w32 c.max-end.result (search rules), c.max-end.ensures.value, from, greatest, more) in
    record {
      order = c.requires.open.order;
      before = before_at c.args.all.now.items c.args.f c.args.g _ _ _ _ (sym from) (sym row)
          (all_before_later c.args.all.now.items (the c.args.f c.args.g c.args.next c.args.dy) (the c.args.f c.args.g (int_max c.args.next rect.across.least) c.args.dy) c.requires.open.before (inr (refl, inr (refl, inr (refl, omega (arith, ints, clamps))))));
    }

pub returns : goal.returns
returns c = record {
  order = search rules;
  found = let rect = c.args.rect in
      let row = to_z-of_z w32 c.args.dy c.ranges.dy in
      let next = to_z-of_z w32 c.args.next c.ranges.next in
      let least = small32 rect.across.least (omega (arith, c.requires.rect.across.least)) in
      let greatest = small32 rect.across.greatest (omega (arith, c.requires.rect.across.greatest)) in
      let more = small32 (rect.across.greatest +ℤ pos 1) (omega (arith, ints, c.requires.rect.across.greatest)) in
      let from : to_z w32 (of_z w32 c.max-from.result) ≡ int_max c.args.next rect.across.least = cc (to_z-of_z w32 c.max-from.result (search rules), c.max-from.ensures.value, next, least) in
      let end : to_z w32 (of_z w32 c.max-end.result) ≡ int_max (int_max c.args.next rect.across.least) (rect.across.greatest +ℤ pos 1) = cc (to_z-of_z w32 c.max-end.result (search rules), c.max-end.ensures.value, from, greatest, more) in
      let low : rect.down.least ≤ℤ c.args.dy = omega (arith, ints, c.if-dy-rect.false, row, small32 rect.down.least (omega (arith, c.requires.rect.down.least))) in
      let high : c.args.dy ≤ℤ rect.down.greatest = omega (arith, ints, c.if-rect-dy.false, row, small32 rect.down.greatest (omega (arith, c.requires.rect.down.greatest))) in
      let old = c.args.all.now.items in
      let new = c.push_run.new.all.items in
      let from' = int_max c.args.next rect.across.least in
      let end' = int_max from' (rect.across.greatest +ℤ pos 1) in
      gains_as old new (λ f g dx dy. IsRun c.args.f c.args.g c.args.dy from' end' f g dx dy) (λ f g dx dy. IsLeft (rect ∷ []) c.args.f c.args.g c.args.dy c.args.next f g dx dy)
      (run_is rect c.args.f c.args.g c.args.dy c.args.next from' end' low high refl refl)
      (gains_run old new c.args.f c.args.g _ c.args.dy _ from' _ end' row from end c.in_ok-push_run.ensures.found);
  sound = let rect = c.args.rect in
      let row = to_z-of_z w32 c.args.dy c.ranges.dy in
      let next = to_z-of_z w32 c.args.next c.ranges.next in
      let least = small32 rect.across.least (omega (arith, c.requires.rect.across.least)) in
      let greatest = small32 rect.across.greatest (omega (arith, c.requires.rect.across.greatest)) in
      let more = small32 (rect.across.greatest +ℤ pos 1) (omega (arith, ints, c.requires.rect.across.greatest)) in
      let from : to_z w32 (of_z w32 c.max-from.result) ≡ int_max c.args.next rect.across.least = cc (to_z-of_z w32 c.max-from.result (search rules), c.max-from.ensures.value, next, least) in
      let end : to_z w32 (of_z w32 c.max-end.result) ≡ int_max (int_max c.args.next rect.across.least) (rect.across.greatest +ℤ pos 1) = cc (to_z-of_z w32 c.max-end.result (search rules), c.max-end.ensures.value, from, greatest, more) in
      let low : rect.down.least ≤ℤ c.args.dy = omega (arith, ints, c.if-dy-rect.false, row, small32 rect.down.least (omega (arith, c.requires.rect.down.least))) in
      let high : c.args.dy ≤ℤ rect.down.greatest = omega (arith, ints, c.if-rect-dy.false, row, small32 rect.down.greatest (omega (arith, c.requires.rect.down.greatest))) in
      let old = c.args.all.now.items in
      let new = c.push_run.new.all.items in
      let from' = int_max c.args.next rect.across.least in
      let end' = int_max from' (rect.across.greatest +ℤ pos 1) in
      within_as old new (λ f g dx dy. IsRun c.args.f c.args.g c.args.dy from' end' f g dx dy) (λ f g dx dy. IsLeft (rect ∷ []) c.args.f c.args.g c.args.dy c.args.next f g dx dy)
      (λ f g dx dy. (run_is rect c.args.f c.args.g c.args.dy c.args.next from' end' low high refl refl f g dx dy).0)
      (within_run old new c.args.f c.args.g _ c.args.dy _ from' _ end' row from end c.in_ok-push_run.ensures.sound);
  before = let rect = c.args.rect in
      let row = to_z-of_z w32 c.args.dy c.ranges.dy in
      let next = to_z-of_z w32 c.args.next c.ranges.next in
      let least = small32 rect.across.least (omega (arith, c.requires.rect.across.least)) in
      let greatest = small32 rect.across.greatest (omega (arith, c.requires.rect.across.greatest)) in
      let more = small32 (rect.across.greatest +ℤ pos 1) (omega (arith, ints, c.requires.rect.across.greatest)) in
      let from : to_z w32 (of_z w32 c.max-from.result) ≡ int_max c.args.next rect.across.least = cc (to_z-of_z w32 c.max-from.result (search rules), c.max-from.ensures.value, next, least) in
      let end : to_z w32 (of_z w32 c.max-end.result) ≡ int_max (int_max c.args.next rect.across.least) (rect.across.greatest +ℤ pos 1) = cc (to_z-of_z w32 c.max-end.result (search rules), c.max-end.ensures.value, from, greatest, more) in
      let low : rect.down.least ≤ℤ c.args.dy = omega (arith, ints, c.if-dy-rect.false, row, small32 rect.down.least (omega (arith, c.requires.rect.down.least))) in
      let high : c.args.dy ≤ℤ rect.down.greatest = omega (arith, ints, c.if-rect-dy.false, row, small32 rect.down.greatest (omega (arith, c.requires.rect.down.greatest))) in
      let old = c.args.all.now.items in
      let new = c.push_run.new.all.items in
      let from' = int_max c.args.next rect.across.least in
      let end' = int_max from' (rect.across.greatest +ℤ pos 1) in
      record { before = search rules; behind = behind_run rect c.args.dy c.args.next from' _ low high refl end };
  stopped = search rules;
}

pub returns-in_err-push_run : goal.returns-in_err-push_run
returns-in_err-push_run c = record {
  order = search rules;
  found = search rules;
  sound = let rect = c.args.rect in
      let row = to_z-of_z w32 c.args.dy c.ranges.dy in
      let next = to_z-of_z w32 c.args.next c.ranges.next in
      let least = small32 rect.across.least (omega (arith, c.requires.rect.across.least)) in
      let greatest = small32 rect.across.greatest (omega (arith, c.requires.rect.across.greatest)) in
      let more = small32 (rect.across.greatest +ℤ pos 1) (omega (arith, ints, c.requires.rect.across.greatest)) in
      let from : to_z w32 (of_z w32 c.max-from.result) ≡ int_max c.args.next rect.across.least = cc (to_z-of_z w32 c.max-from.result (search rules), c.max-from.ensures.value, next, least) in
      let end : to_z w32 (of_z w32 c.max-end.result) ≡ int_max (int_max c.args.next rect.across.least) (rect.across.greatest +ℤ pos 1) = cc (to_z-of_z w32 c.max-end.result (search rules), c.max-end.ensures.value, from, greatest, more) in
      let low : rect.down.least ≤ℤ c.args.dy = omega (arith, ints, c.if-dy-rect.false, row, small32 rect.down.least (omega (arith, c.requires.rect.down.least))) in
      let high : c.args.dy ≤ℤ rect.down.greatest = omega (arith, ints, c.if-rect-dy.false, row, small32 rect.down.greatest (omega (arith, c.requires.rect.down.greatest))) in
      let old = c.args.all.now.items in
      let new = c.push_run.new.all.items in
      let from' = int_max c.args.next rect.across.least in
      let end' = int_max from' (rect.across.greatest +ℤ pos 1) in
      within_as old new (λ f g dx dy. IsRun c.args.f c.args.g c.args.dy from' end' f g dx dy) (λ f g dx dy. IsLeft (rect ∷ []) c.args.f c.args.g c.args.dy c.args.next f g dx dy)
      (λ f g dx dy. (run_is rect c.args.f c.args.g c.args.dy c.args.next from' end' low high refl refl f g dx dy).0)
      (within_run old new c.args.f c.args.g _ c.args.dy _ from' _ end' row from end c.in_err-push_run.ensures.sound);
  before = search rules;
  stopped = search rules;
}

pub returns-then-dy-rect : goal.returns-then-dy-rect
returns-then-dy-rect c = record {
  order = search rules;
  found = let rect = c.args.rect in
      let row = to_z-of_z w32 c.args.dy c.ranges.dy in
      let least = small32 rect.down.least (omega (arith, c.requires.rect.down.least)) in
      let greatest = small32 rect.down.greatest (omega (arith, c.requires.rect.down.greatest)) in
      gains_nothing c.args.all.now.items (λ f g dx dy. IsLeft (rect ∷ []) c.args.f c.args.g c.args.dy c.args.next f g dx dy)
      (not_in_row rect c.args.f c.args.g c.args.dy c.args.next
      (elim c.then-dy-rect.branch [
        | then-dy-rect-via-then-dy-rect w ↦ inl (omega (arith, ints, w.if-dy-rect.true, row, least))
        | then-dy-rect-via-else-dy-rect+then-rect-dy w ↦ inr (omega (arith, ints, w.if-rect-dy.true, row, greatest))
      ]));
  sound = search rules;
  before = search rules;
  stopped = search rules;
}

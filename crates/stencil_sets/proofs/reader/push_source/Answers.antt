use Rattle.std.proofs.Common.{◌≡◌, ℤ, List, rules, subst}
use Rattle.std.proofs.lemmas.Result.{on_ok_weaker}
use Rattle.stencil_sets.specs.declared.path.Rect.{Rect}
use Rattle.stencil_sets.specs.Paths.{Covered, IsByReader}
use Rattle.stencil_sets.specs.Found.{InRows, IsOf}
use Rattle.stencil_sets.proofs.Rows.{gains_as, within_as}
use Rattle.stencil_sets.proofs.Readers.{by_reader}
use Rattle.stencil_sets.proofs.reader.push_source.Goals as goal

pub returns-in-Ok : goal.returns-in-Ok
returns-in-Ok c = record {
  order = search rules;
  found = let rects = c.args.rects.now in
      let chosen = c.as_slice.result.now in
      let is : c.in-Ok.chosen.items ≡ chosen = search rules in
      let P : List Rect → Type 0 = λ l. (dy dx : ℤ) → (InRows l dy dx → Covered rects c.args.g dx dy) × (Covered rects c.args.g dx dy → InRows l dy dx) in
      let both = by_reader rects chosen c.args.f c.args.g (subst P is c.in-Ok.ensures.exact) in
      on_ok_weaker c.push_image.result (λ k. gains_as c.args.all.now.items c.push_image.new.all.items (λ f g dx dy. IsOf chosen c.args.f c.args.g f g dx dy) (λ f g dx dy. IsByReader rects c.args.f c.args.g f g dx dy) both k)
      c.push_image.ensures.found;
  sound = let rects = c.args.rects.now in
      let chosen = c.as_slice.result.now in
      let is : c.in-Ok.chosen.items ≡ chosen = search rules in
      let P : List Rect → Type 0 = λ l. (dy dx : ℤ) → (InRows l dy dx → Covered rects c.args.g dx dy) × (Covered rects c.args.g dx dy → InRows l dy dx) in
      let both = by_reader rects chosen c.args.f c.args.g (subst P is c.in-Ok.ensures.exact) in
      within_as c.args.all.now.items c.push_image.new.all.items (λ f g dx dy. IsOf chosen c.args.f c.args.g f g dx dy) (λ f g dx dy. IsByReader rects c.args.f c.args.g f g dx dy) (λ f g dx dy. (both f g dx dy).0)
      c.push_image.ensures.sound;
  before = search rules;
  stopped = search rules;
}

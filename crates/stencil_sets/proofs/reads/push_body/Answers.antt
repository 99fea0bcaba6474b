use Rattle.std.proofs.Common.{◌≡◌, rules}
use Rattle.std.proofs.lemmas.Result.{on_ok_weaker}
use Rattle.dk_base.specs.FrameSizes.{size_of}
use Rattle.pointwise_ir.specs.Trees.{tree_of}
use Rattle.stencil_sets.specs.Paths.{IsOfReader, IsReadOf}
use Rattle.stencil_sets.proofs.Programs.{covered_made, made_covered, gains_as, within_as, covered_is}
use Rattle.stencil_sets.proofs.reads.push_body.Goals as goal

pub returns-in-Ok : goal.returns-in-Ok
returns-in-Ok c = record {
  order = search rules;
  found = let size = size_of c.args.size in
      let e = tree_of c.args.body.now in
      let rects = c.deref.result.now in
      let is : c.in-Ok.rects.items ≡ rects = search rules in
      let exact = covered_is size e c.in-Ok.rects.items rects is c.in-Ok.ensures.exact in
      let f = c.args.f in
      on_ok_weaker c.push_reader.result (λ k. gains_as c.args.all.now.items c.push_reader.new.all.items (λ f' g dx dy. IsOfReader rects f f' g dx dy) (λ f' g dx dy. IsReadOf size e f f' g dx dy)
      (covered_made size e rects f exact) (made_covered size e rects f exact c.requires.earlier) k) c.push_reader.ensures.found;
  sound = let size = size_of c.args.size in
      let e = tree_of c.args.body.now in
      let rects = c.deref.result.now in
      let is : c.in-Ok.rects.items ≡ rects = search rules in
      within_as c.args.all.now.items c.push_reader.new.all.items (λ f' g dx dy. IsOfReader rects c.args.f f' g dx dy) (λ f' g dx dy. IsReadOf size e c.args.f f' g dx dy)
      (covered_made size e rects c.args.f (covered_is size e c.in-Ok.rects.items rects is c.in-Ok.ensures.exact)) c.push_reader.ensures.sound;
  before = search rules;
  stopped = search rules;
}

use Rattle.std.proofs.Common.{rules, w32, sym, subst, All, Some, None}
use Rattle.std.proofs.lemmas.Int.{to_z-of_z}
use Rattle.pointwise_ir.specs.Trees.{read}
use Rattle.dk_base.specs.FrameSizes.{size_of}
use Rattle.stencil_sets.specs.Paths.{ReadsFrom, IsNearRect}
use Rattle.frame_paths.proofs.Walks.{steps_moved}
use Rattle.stencil_sets.proofs.Walked.{adds_one, adds_nothing, no_step, read_end, near_more}
use Rattle.stencil_sets.proofs.path.add_read.Goals as goal

pub returns-in_ok-push-in-Some : goal.returns-in_ok-push-in-Some
returns-in_ok-push-in-Some c = record {
  added = let size = size_of c.args.size in
      let p = c.args.path in
      let x = to_z-of_z w32 c.args.image_read.dx (search rules) in
      let y = to_z-of_z w32 c.args.image_read.dy (search rules) in
      let steps = steps_moved size p c.args.image_read.edge c.args.image_read.dx c.args.image_read.dy _ _ (Some c.in-Some.end) x y c.in-Some.ensures.leads in
      adds_one c.args.all.now.items c.push.new.self.items (ReadsFrom size (read c.args.image_read.edge c.args.image_read.image c.args.image_read.dx c.args.image_read.dy) p) c.rect_of-rect.result c.in_ok-push-in-Some.ensures.items
      (read_end size p c.in-Some.end c.args.image_read.edge c.args.image_read.image c.args.image_read.dx c.args.image_read.dy c.rect_of-rect.result steps c.rect_of-rect.ensures.leads);
  near = λ h. subst (All IsNearRect) (sym c.in_ok-push-in-Some.ensures.items) (near_more c.args.all.now.items c.rect_of-rect.result h c.rect_of-rect.ensures.near);
}

pub returns-in-None : goal.returns-in-None
returns-in-None c = record {
  added = let size = size_of c.args.size in
      let p = c.args.path in
      let x = to_z-of_z w32 c.args.image_read.dx (search rules) in
      let y = to_z-of_z w32 c.args.image_read.dy (search rules) in
      let steps = steps_moved size p c.args.image_read.edge c.args.image_read.dx c.args.image_read.dy _ _ None x y c.in-None.ensures.leads in
      adds_nothing c.args.all.now.items (ReadsFrom size (read c.args.image_read.edge c.args.image_read.image c.args.image_read.dx c.args.image_read.dy) p) (no_step size p c.args.image_read.edge c.args.image_read.image c.args.image_read.dx c.args.image_read.dy steps);
  near = search rules;
}

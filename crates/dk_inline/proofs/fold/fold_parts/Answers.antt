use Rattle.std.proofs.Common.{◌≡◌, List, length, ap, sym, ◌∙◌, subst, map}
use Rattle.std.specs.List.{All}
use Rattle.dk_base.specs.FrameSizes.{size_of}
use Rattle.pointwise_ir.specs.declared.program.Definition.{Definition}
use Rattle.pointwise_ir.specs.Trees.{tree_of}
use Rattle.pointwise_ir.specs.Programs.{program_of}
use Rattle.pointwise_ir.specs.Rewritings.{IsSameBut}
use Rattle.dk_inline.specs.Folded.{HasFoldedParts, IsFolding}
use Rattle.dk_inline.proofs.FoldedPrograms.{AreFolds, refilled, all_typed, same_but, all_folded, is_folding}
use Rattle.dk_inline.proofs.fold.fold_parts.Goals as goal

pub fold_images-requires : goal.fold_images-requires
fold_images-requires c = rw c.as_mut_slice.ensures.value (all_typed _ _ c.requires.images)

pub returns : goal.returns
returns c = record {
  same = let old = c.args.parts.now.images in
      let new = c.fold_images.new.images in
      let long : length new ≡ length old.items = c.fold_images.auto.images ∙ ap length c.as_mut_slice.ensures.value in
      let Q : List Definition → Type 0 = λ ds. AreFolds ds new in
      let folds = subst Q c.as_mut_slice.ensures.value c.fold_images.ensures in
      let P : List Definition → Type 0 = λ ds. IsSameBut (program_of c.args.parts.now) (record { size = size_of c.args.parts.now.size; inputs = c.args.parts.now.inputs.items; images = ds; outputs = c.args.parts.now.outputs.items }) in
      subst P (sym (refilled old.len old.items new old.ok.0 long)) (same_but (size_of c.args.parts.now.size) c.args.parts.now.inputs.items old.items new c.args.parts.now.outputs.items c.requires long folds);
  folded = let old = c.args.parts.now.images in
      let new = c.fold_images.new.images in
      let long : length new ≡ length old.items = c.fold_images.auto.images ∙ ap length c.as_mut_slice.ensures.value in
      let Q : List Definition → Type 0 = λ ds. AreFolds ds new in
      let folds = subst Q c.as_mut_slice.ensures.value c.fold_images.ensures in
      let P : List Definition → Type 0 = λ ds. All HasFoldedParts (map (λ d. tree_of d.body) ds) in
      subst P (sym (refilled old.len old.items new old.ok.0 long)) (all_folded old.items new long folds);
  folding = let old = c.args.parts.now.images in
      let new = c.fold_images.new.images in
      let long : length new ≡ length old.items = c.fold_images.auto.images ∙ ap length c.as_mut_slice.ensures.value in
      let Q : List Definition → Type 0 = λ ds. AreFolds ds new in
      let folds = subst Q c.as_mut_slice.ensures.value c.fold_images.ensures in
      let P : List Definition → Type 0 = λ ds. IsFolding (program_of c.args.parts.now) (record { size = size_of c.args.parts.now.size; inputs = c.args.parts.now.inputs.items; images = ds; outputs = c.args.parts.now.outputs.items }) in
      subst P (sym (refilled old.len old.items new old.ok.0 long)) (is_folding (size_of c.args.parts.now.size) c.args.parts.now.inputs.items old.items new c.args.parts.now.outputs.items long folds);
}

use Rattle.std.proofs.Common.{arith, rules, subst, get_or, ◌<◌}
use Rattle.std.proofs.lemmas.Option.{slice_get_within}
use Rattle.dk_base.specs.FrameSizes.{size_of}
use Rattle.dk_frames.specs.declared.frame.Frame.{Frame}
use Rattle.pointwise_eval.specs.Rounds.{IsInputFrame}
use Rattle.pointwise_eval.proofs.Fits.{fits_more}
use Rattle.pointwise_eval.proofs.fit.each_fits.Goals as goal

pub loop-k-preserved : goal.loop-k-preserved
loop-k-preserved c =
    let P : Frame → Type 0 = λ f. IsInputFrame (size_of c.args.size) (get_or c.args.inputs.now c.loop-k.k c.index-inputs-k.result).ty f in
    let fits = subst P c.index-frames-k.is (c.frame_fits.ensures.0 c.if-not-frame_fits.false) in
    fits_more (size_of c.args.size) c.args.inputs.now c.args.frames.now c.loop-k.k c.index-inputs-k.result c.index-frames-k.result fits c.loop-k.invariant

pub returns : goal.returns
returns c = (
  λ _ k f input there given.
      let within = slice_get_within c.args.frames.now k f there in
      c.loop-k.invariant k f input (let below : k < c.loop-k.k = omega (arith, within, c.loop-k-test.false) in below) there given,
  search rules,
)

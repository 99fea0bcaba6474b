use Rattle.std.proofs.Common.{refl}
use Rattle.std.proofs.lemmas.Option.{slice_get_read}
use Rattle.pointwise_eval.specs.Planes.{IsSample}
use Rattle.pointwise_eval.proofs.Pixels.{element_all}
use Rattle.pointwise_eval.proofs.evaluation.element_samples.Goals as goal

pub sample_of-requires : goal.sample_of-requires
sample_of-requires g c =
    let there = slice_get_read c.args.elements.now _ c.loop-element.element-index c.element-item.result refl c.loop-element-test.true c.element-item.is in
    element_all g.T.Element.worth IsSample c.args.elements.now c.loop-element.element-index c.element-item.result c.requires there

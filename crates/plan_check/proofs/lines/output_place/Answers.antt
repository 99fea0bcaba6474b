use Rattle.std.proofs.Common.{◌≡◌, ◌<◌, ◌∙◌, ap, arith, slice_index}
use Rattle.dk_base.specs.Stencils.{place}
use Rattle.raster_delay.specs.Systems.{image_count}
use Rattle.plan_check.proofs.lines.output_place.Goals as goal

pub place_of-requires-clause-ascending : goal.place_of-requires-clause-ascending
place_of-requires-clause-ascending c = rw c.images.ensures c.law.ensures.stencils.images.ascending

pub place_of-requires-clause-kept : goal.place_of-requires-clause-kept
place_of-requires-clause-kept c = rw (c.images.ensures, c.outputs.ensures) (c.law.ensures.stencils.outputs.outputs_kept c.args.k 0 c.requires)

pub returns-clause-within : goal.returns-clause-within
returns-clause-within c =
    let s = c.args.system.now in
    let kept : place s.stencils.images (slice_index s.stencils.outputs c.args.k) < image_count s = c.law.ensures.stencils.outputs.outputs_kept c.args.k 0 c.requires in
    let is : c.place_of.result ≡ place s.stencils.images (slice_index s.stencils.outputs c.args.k) =
    c.place_of.ensures ∙ ap (λ xs. place xs (slice_index c.outputs.result.now c.args.k)) c.images.ensures ∙ ap (λ xs. place s.stencils.images (slice_index xs c.args.k)) c.outputs.ensures in
    omega (arith, kept, is)

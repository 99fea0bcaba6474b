use Rattle.std.proofs.Common.{rules}
use Rattle.dk_base.specs.FrameSizes.{size_of}
use Rattle.pointwise_ir.specs.Trees.{tree_of, EachImage}
use Rattle.pointwise_ir.specs.Programs.{all_types}
use Rattle.pointwise_eval.specs.Planes.{HasRows}
use Rattle.pointwise_eval.proofs.Narrows.{planes_in, planes_narrow}
use Rattle.pointwise_eval.proofs.Lanes.{lane_fits}
use Rattle.pointwise_eval.proofs.rows.render.Goals as goal

pub render_lane-requires : goal.render_lane-requires
render_lane-requires c =
    let sources = c.args.sources.now in
    let e = tree_of c.args.e.now in
    let known = c.requires.sources in
    let types = all_types sources.inputs.now sources.images.now in
    let rows : EachImage (HasRows sources.planes.now) e = search rules in
    let narrow = planes_narrow (size_of sources.size) types sources.planes.now known.types known.values e c.in-Some.ensures.narrow in
    record {
      lane = lane_fits c.lane_of-lane.result (size_of sources.size) sources.planes.now sources.ranges.now e c.lane_of-lane.ensures c.requires.can rows known.ranges narrow;
      typed = planes_in (size_of sources.size) types sources.planes.now known.types known.values e c.in-Some.ty c.in-Some.ensures.found;
      depth = c.requires.depth;
    }

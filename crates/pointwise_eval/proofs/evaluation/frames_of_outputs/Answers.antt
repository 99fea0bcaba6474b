use Rattle.std.proofs.Common.{◌≤◌, get_or, arith}
use Rattle.dk_base.specs.FrameSizes.{size_of}
use Rattle.dk_base.specs.Frames.{picture_at}
use Rattle.pointwise_eval.specs.Planes.{all_shown}
use Rattle.pointwise_eval.specs.Rounds.{frame_of}
use Rattle.pointwise_eval.proofs.Outputs.{output_range, output_frame_is, frames_more, taken_is, taken_within, others_there}
use Rattle.pointwise_eval.proofs.evaluation.frames_of_outputs.Goals as goal

pub take_plane-plane-requires : goal.take_plane-plane-requires
take_plane-plane-requires c =
    let i = c.loop-output.output-index in
    let le : i ≤ i = omega arith in
    taken_within (size_of c.args.size) c.args.planes.now c.loop-output.planes (get_or c.args.outputs.now i 0) (c.requires.outputs i 0 c.loop-output-test.true) (c.loop-output.invariant.there i le c.loop-output-test.true)

pub output_frame-requires : goal.output_frame-requires
output_frame-requires c =
    let i = c.loop-output.output-index in
    let le : i ≤ i = omega arith in
    let is = taken_is c.args.planes.now c.loop-output.planes (get_or c.args.outputs.now i 0) c.take_plane-plane.result c.take_plane-plane.ensures.taken (c.loop-output.invariant.there i le c.loop-output-test.true) in
    output_range (size_of c.args.size) c.args.planes.now _ c.take_plane-plane.result (c.requires.outputs i 0 c.loop-output-test.true) is

pub loop-output-preserved : goal.loop-output-preserved
loop-output-preserved c =
    let size = size_of c.args.size in
    let i = c.loop-output.output-index in
    let le : i ≤ i = omega arith in
    let out = c.requires.outputs i 0 c.loop-output-test.true in
    let taken = taken_is c.args.planes.now c.loop-output.planes (get_or c.args.outputs.now i 0) c.take_plane-plane.result c.take_plane-plane.ensures.taken (c.loop-output.invariant.there i le c.loop-output-test.true) in
    let is = output_frame_is size c.args.planes.now (get_or c.args.outputs.now i 0) c.take_plane-plane.result c.in_ok-frame.frame out taken c.in_ok-frame.ensures in
    record {
      done = rw c.in_ok-push.ensures.items (frames_more (λ g. frame_of size (picture_at (all_shown size c.args.planes.now) g)) c.loop-output.frames.items c.args.outputs.now i 0 c.in_ok-frame.frame c.loop-output-test.true c.loop-output.invariant.done is);
      there = others_there c.args.planes.now c.loop-output.planes c.take_plane-plane.new.planes c.args.outputs.now i c.requires.distinct c.take_plane-plane.ensures.others c.loop-output.invariant.there;
    }

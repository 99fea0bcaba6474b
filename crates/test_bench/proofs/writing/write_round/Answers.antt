use Rattle.dk_base.specs.FrameSizes.{size_of}
use Rattle.test_bench.specs.Writing.{image_kept}
use Rattle.test_bench.proofs.Written.{image_added}
use Rattle.test_bench.proofs.writing.write_round.Goals as goal

pub loop-output-preserved : goal.loop-output-preserved
loop-output-preserved c =
    image_added (image_kept (size_of c.args.size) c.args.ports.now c.args.pictures.now c.args.round) c.loop-output.output c.args.file.now.items c.loop-output.file.items c.write_output.new.file.items
    c.loop-output.invariant c.in_ok-write_output.ensures

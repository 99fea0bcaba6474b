use Rattle.dk_base.specs.FrameSizes.{size_of}
use Rattle.test_bench.specs.Writing.{round_kept}
use Rattle.test_bench.proofs.Written.{round_added}
use Rattle.test_bench.proofs.writing.write_rounds.Goals as goal

pub loop-round-preserved : goal.loop-round-preserved
loop-round-preserved c =
    round_added (round_kept (size_of c.args.size) c.args.ports.now c.args.pictures.now) c.loop-round.round c.loop-round.file.items c.write_round.new.file.items c.loop-round.invariant c.in_ok-write_round.ensures

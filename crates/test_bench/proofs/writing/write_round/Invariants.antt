use Rattle.std.proofs.Common.{◌≡◌, ◌++◌, map}
use Rattle.std.specs.List.{range_with_len}
use Rattle.dk_base.specs.FrameSizes.{size_of}
use Rattle.pgm_codec.specs.Images.{file_of}
use Rattle.test_bench.specs.Writing.{image_kept}
use Rattle.test_bench.proofs.writing.write_round.Given as goal

abbrev pub invariant-loop-output : goal.invariant-loop-output
invariant-loop-output l = l.file.items ≡ l.fn.file.items ++ file_of (map (image_kept (size_of l.size) l.ports l.pictures l.round) (range_with_len 0 l.output))

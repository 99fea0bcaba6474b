use Rattle.std.proofs.Common.{◌≡◌}
use Rattle.std.specs.List.{flat_map, range_with_len}
use Rattle.dk_base.specs.FrameSizes.{size_of}
use Rattle.pgm_codec.specs.Images.{file_of}
use Rattle.test_bench.specs.Writing.{round_kept}
use Rattle.test_bench.proofs.writing.write_rounds.Given as goal

abbrev pub invariant-loop-round : goal.invariant-loop-round
invariant-loop-round l = l.file.items ≡ file_of (flat_map (round_kept (size_of l.size) l.ports l.pictures) (range_with_len 0 l.round))

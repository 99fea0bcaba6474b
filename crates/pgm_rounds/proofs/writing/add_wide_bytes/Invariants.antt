use Rattle.std.proofs.Common.{◌≡◌, ◌++◌, take, false}
use Rattle.std.specs.List.{flat_map}
use Rattle.pgm_codec.specs.Images.{spelled}
use Rattle.pgm_rounds.proofs.writing.add_wide_bytes.Given as goal

abbrev pub invariant-loop-sample : goal.invariant-loop-sample
invariant-loop-sample l = l.file.items ≡ l.initial.file.items ++ flat_map (spelled false) (take l.sample-index l.samples)

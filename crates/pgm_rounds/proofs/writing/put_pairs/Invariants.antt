use Rattle.std.proofs.Common.{◌≡◌, ◌*◌, length, take, false}
use Rattle.std.specs.List.{flat_map}
use Rattle.pgm_codec.specs.Images.{spelled}
use Rattle.pgm_rounds.proofs.writing.put_pairs.Given as goal

abbrev pub invariant-loop-k : goal.invariant-loop-k
invariant-loop-k l = record {
  long : length l.bytes ≡ 2 * length l.samples;
  done : take (2 * l.k) l.bytes ≡ flat_map (spelled false) (take l.k l.samples);
}

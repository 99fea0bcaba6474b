use Rattle.std.proofs.Common.{◌≡◌, ◌<◌, length}
use Rattle.dk_base.specs.FrameSizes.{size_of}
use Rattle.pgm_rounds.specs.Ports.{ports_with}
use Rattle.pgm_rounds.specs.Files.{frames_of}
use Rattle.pgm_rounds.specs.Standing.{Stands}
use Rattle.pgm_rounds.proofs.rounds.read_rounds.Given as goal

abbrev pub invariant-loop : goal.invariant-loop
invariant-loop l = record {
  images : l.reading.place.images ≡ l.counter;
  goes_on : 0 < l.reading.place.images → l.reading.place.offset < length l.bytes;
  stands : Stands (ports_with (size_of l.size) l.widths) l.bytes (frames_of l.reading.rounds.items) l.reading.frames.items l.reading.place.images l.reading.place.offset;
}

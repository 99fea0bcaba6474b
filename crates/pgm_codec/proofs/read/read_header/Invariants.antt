use Rattle.std.proofs.Common.{◌≡◌, take}
use Rattle.pgm_codec.specs.declared.scan.Scan.TheVariants.{More}
use Rattle.pgm_codec.specs.Scans.{Scanned, told}
use Rattle.pgm_codec.proofs.read.read_header.Given as goal

abbrev pub invariant-loop-byte : goal.invariant-loop-byte
invariant-loop-byte l = record {
  scanned : Scanned l.scan (take l.byte-index l.bytes);
  goes_on : told l.scan ≡ More;
}

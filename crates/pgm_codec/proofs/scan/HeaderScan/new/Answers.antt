use Rattle.std.proofs.Common.{refl}
use Rattle.pgm_codec.specs.Scans as places
use Rattle.pgm_codec.proofs.Verdicts.{nothing}
use Rattle.pgm_codec.proofs.scan.HeaderScan.new.Goals as goal

pub returns-clause-scanned : goal.returns-clause-scanned
returns-clause-scanned c = record { answers = nothing; place = λ e. places.nothing refl c.new.ensures }

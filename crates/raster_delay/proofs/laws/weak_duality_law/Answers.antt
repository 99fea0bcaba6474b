use Rattle.std.proofs.Common.{arith}
use Rattle.std.proofs.lemmas.Int.{ints}
use Rattle.raster_delay.proofs.Duality.{bits_are}
use Rattle.raster_delay.proofs.laws.weak_duality_law.Goals as goal

pub returns : goal.returns
returns c = λ cs bs n flow p within is holds ordered. omega (arith, ints, bits_are n cs bs flow p within is (record { holds = holds; ordered = ordered }))

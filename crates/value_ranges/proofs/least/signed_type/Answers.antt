use Rattle.std.proofs.Common.{rules, unsigned_abs}
use Rattle.std.specs.Prelude.{FitsSigned}
use Rattle.std.proofs.lemmas.Int.{to_z-of_z}
use mir.Syntax.{w128}
use Rattle.value_ranges.proofs.Fewest.{signed_least}
use Rattle.value_ranges.proofs.least.signed_type.Goals as goal

pub returns : goal.returns
returns c =
    let fits : FitsSigned w128 c.max-reach.result = search rules in
    signed_least c.args.range (unsigned_abs c.max-reach.result) c.bits_for.result c.requires.some c.requires.signed (search rules) (search rules) (rw (to_z-of_z w128 c.max-reach.result fits) at c.bits_for.ensures.least)

use Rattle.std.proofs.Common.{rules, unsigned_abs}
use Rattle.std.specs.Prelude.{FitsSigned}
use Rattle.std.proofs.lemmas.Int.{to_z-of_z}
use mir.Syntax.{w128}
use Rattle.value_ranges.proofs.Fewest.{unsigned_least}
use Rattle.value_ranges.proofs.least.unsigned_type.Goals as goal

pub returns : goal.returns
returns c =
    let fits : FitsSigned w128 c.args.range.greatest = search rules in
    unsigned_least c.args.range (unsigned_abs c.args.range.greatest) c.bits_for.result c.requires.some c.requires.unsigned (search rules) (search rules) (rw (to_z-of_z w128 c.args.range.greatest fits) at c.bits_for.ensures.least)

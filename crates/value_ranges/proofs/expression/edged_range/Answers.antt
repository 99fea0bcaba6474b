use Rattle.std.proofs.Common.{pos, refl}
use Rattle.value_ranges.proofs.Ranged.{framed_between}
use Rattle.value_ranges.proofs.expression.edged_range.Goals as goal

pub returns-in-Zero-clause-edged : goal.returns-in-Zero-clause-edged
returns-in-Zero-clause-edged c =
    rw c.in-Zero.is
    (λ size picture all x y. framed_between c.join.result size picture (c.join.ensures.other (pos 0) ((c.of_value.ensures.values (pos 0)).1 refl)) (λ u v. c.join.ensures.this _ (all u v)) x y)

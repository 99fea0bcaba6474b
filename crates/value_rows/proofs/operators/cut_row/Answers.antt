use Rattle.std.proofs.Common.{◌≤◌, rules}
use Rattle.value_rows.proofs.operators.cut_row.Goals as goal

pub single_row-requires : goal.single_row-requires
single_row-requires g c k lt =
    let most : c.in-Unsigned.width ≤ 63 = search rules in
    (most, c.mask_of-mask.ensures, (rw c.in-Unsigned.is at c.requires.fits) k lt)

pub single_row-requires-in-Signed : goal.single_row-requires-in-Signed
single_row-requires-in-Signed g c k lt =
    let some : 1 ≤ c.in-Signed.width = search rules in
    let most : c.in-Signed.width ≤ 63 = search rules in
    (some, most, c.mask_of-mask-in-Signed.ensures, c.power_of-half.ensures, (rw c.in-Signed.is at c.requires.fits) k lt)

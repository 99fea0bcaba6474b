use Rattle.std.proofs.Common.{◌≡◌, ◌≤◌, ◌∙◌, length, map, arith}
use Rattle.std.specs.Prelude.{slice_index}
use Rattle.batch_rows.proofs.Masks.{alone_is}
use Rattle.batch_rows.proofs.pairs.join_number_row.Goals as goal

pub returns-else-width-bits : goal.returns-else-width-bits
returns-else-width-bits g c =
    let value = g.L.Lane.value in
    let wide : g.L.Lane.bits ≤ c.args.width = omega (arith, c.if-width-bits.false, c.bits.ensures.bits) in
    let same : length c.single_row-else-width-bits.new.to ≡ length c.args.to.now = c.single_row-else-width-bits.ensures.count in
    record { count = same; each = λ t l. c.single_row-else-width-bits.ensures.each t l ∙ alone_is (value c.args.number) (slice_index (map value c.args.b.now) t) c.args.width g.L.Lane.bits c.requires.can.narrow wide (c.requires.can.fits t (omega (arith, l, same))) }

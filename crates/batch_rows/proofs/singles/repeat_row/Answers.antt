use Rattle.std.proofs.Common.{◌≡◌, ◌∙◌, ◌%◌, ◌^◌, ap, length, map, arith}
use Rattle.std.specs.Prelude.{slice_index}
use Rattle.batch_rows.proofs.Masks.{copies_are}
use Rattle.batch_rows.proofs.singles.repeat_row.Goals as goal

pub returns : goal.returns
returns g c =
    let value = g.L.Lane.value in
    let bits = g.L.Lane.bits in
    let same : length c.single_row.new.to ≡ length c.args.to.now = c.single_row.ensures.count in
    record { count = same; each = λ t l. c.single_row.ensures.each t l ∙ copies_are c.args.copies c.args.width (slice_index (map value c.args.a.now) t) (value c.cut-factor.result) bits c.bits-bits.ensures.most (c.cut-factor.ensures ∙ ap (λ n. n % 2 ^ bits) c.factor.ensures) (c.requires.fits t (omega (arith, l, same))) }

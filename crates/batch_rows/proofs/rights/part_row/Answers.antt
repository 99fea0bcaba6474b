use Rattle.std.proofs.Common.{◌≡◌, ◌∙◌, ap, ◌/◌, ◌%◌, ◌^◌, length, map, arith}
use Rattle.std.specs.Prelude.{slice_index}
use Rattle.batch_rows.proofs.Masks.{part_is}
use Rattle.batch_rows.proofs.rights.part_row.Goals as goal

pub returns-clause-row : goal.returns-clause-row
returns-clause-row g c =
    let value = g.L.Lane.value in
    let same : length c.single_row.new.to ≡ length c.args.to.now = c.single_row.ensures.count in
    record {
      count = same;
      each = λ t l. c.single_row.ensures.each t l
          ∙ part_is (slice_index (map value c.atom_row-row.result.now) t) c.args.from (value c.mask_of-mask.result) c.args.width g.L.Lane.bits c.requires.from c.mask_of-mask.ensures
          ∙ ap (λ x. x / 2 ^ c.args.from % 2 ^ c.args.width) (c.atom_row-row.ensures.row t (omega (arith, l, same)));
    }

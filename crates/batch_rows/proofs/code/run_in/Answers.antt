use Rattle.std.proofs.Common.{◌≡◌, ℕ, ◌<◌, ◌^◌, length, map, subst, sym, arith}
use Rattle.std.specs.Prelude.{slice_index}
use Rattle.std.proofs.lemmas.List.{length-map}
use Rattle.lane_rows.specs.Values.{row_bits, row_values, values_of}
use Rattle.lane_rows.proofs.LaneRows.{in_row}
use Rattle.batch_rows.proofs.Running.{value_narrow}
use Rattle.batch_rows.proofs.code.run_in.Goals as goal

pub put_row-requires-clause-fits : goal.put_row-requires-clause-fits
put_row-requires-clause-fits g c = λ t l.
    let widths = c.args.widths.now in
    let rows = c.args.rows.now in
    let i = c.args.instruction.now in
    let slots : length (values_of rows) ≡ length widths = c.requires.one.rows.slots in
    let long : length (values_of rows) ≡ length rows = length-map rows row_values in
    let inside : i.target < length rows = omega (arith, c.requires.one.sound.target, slots, long) in
    let same : length c.make_row.new.scratch.to.items ≡ length c.args.scratch.now.to.items = c.make_row.ensures.scratch.0 in
    subst (λ (n : ℕ). n < 2 ^ slice_index (map row_bits rows) i.target) (sym (c.make_row.ensures.row t (in_row g.L.Lane.value c.make_row.new.scratch.to.items t l)))
    (value_narrow widths (length c.args.scratch.now.to.items) (values_of rows) c.requires.one.rows (slice_index (map row_bits rows) i.target) i c.requires.one.sound (c.requires.lanes i.target inside) t (omega (arith, l, same)))

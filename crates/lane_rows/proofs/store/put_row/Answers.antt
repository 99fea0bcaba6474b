use Rattle.std.proofs.Common.{◌∙◌, ap, sym, ℕ, List, length}
use Rattle.std.specs.Prelude.{slice_index}
use Rattle.lane_rows.specs.Values.{row_bits, row_values}
use Rattle.lane_rows.proofs.LaneRows.{placed, placed_other, placed_same}
use Rattle.lane_rows.proofs.store.put_row.Goals as goal

pub returns-clause-bits : goal.returns-clause-bits
returns-clause-bits g c = placed_same row_bits c.args.rows.now c.args.slot c.take_row.new.row c.index-rows-slot.result c.requires.slot c.index-rows-slot.is (c.take_row.ensures.bits ∙ ap row_bits (sym c.index-rows-slot.is))

pub returns-clause-long : goal.returns-clause-long
returns-clause-long g c = ap (λ (r : List ℕ). length r) (placed row_values c.args.rows.now c.args.slot c.take_row.new.row c.requires.slot) ∙ c.take_row.ensures.count

pub returns-clause-each : goal.returns-clause-each
returns-clause-each g c = λ t l. ap (λ (r : List ℕ). slice_index r t) (placed row_values c.args.rows.now c.args.slot c.take_row.new.row c.requires.slot) ∙ c.take_row.ensures.each t l

pub returns-clause-others : goal.returns-clause-others
returns-clause-others g c = λ n apart. placed_other row_values c.args.rows.now c.args.slot n c.take_row.new.row apart

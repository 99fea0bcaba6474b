use Rattle.std.proofs.Common.{List, ℕ, ◌≡◌, ◌∙◌, length, ap, subst, refl, rules}
use Rattle.lane_rows.specs.declared.row.Row.{Row}
use Rattle.batch_rows.specs.LaneSizes.{HaveRooms}
use Rattle.batch_rows.specs.Code.{HaveRun}
use Rattle.batch_guess.proofs.Tables.{in_place, table_with}
use Rattle.batch_guess.proofs.table.run_between.Goals as goal

pub returns-clause-table : goal.returns-clause-table
returns-clause-table c =
    let widths = c.args.code.now.widths.now in
    let code = c.args.code.now.instructions.now in
    let old = c.args.table.now in
    let rows = c.run_code.new.rows in
    let long : ℕ = length old.room.items in
    let count : c.len-count.result ≡ long = search rules in
    let len : old.rows.len ≡ length old.rows.items = search rules in
    let same : c.deref_mut.result.now ≡ old.rows.items = search rules in
    table_with widths code long record { rows = Rattle.std.specs.Vec.with_items old.rows rows; room = old.room; narrow = old.narrow; middle = old.middle; rooms = c.run_code.new.rooms } c.args.upto rows
    (in_place old.rows.len old.rows.items rows len (c.run_code.ensures.run.count ∙ ap (λ (l : List Row). length l) same))
    (subst (λ (n : ℕ). HaveRun widths code n rows c.args.upto) count c.run_code.ensures.run.ran)
    (record { wide = refl; narrow = c.requires.table.spares.narrow; middle = c.requires.table.spares.middle })
    (subst (λ (n : ℕ). HaveRooms c.run_code.new.rooms n) count c.run_code.ensures.rooms)

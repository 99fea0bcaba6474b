use Rattle.std.proofs.Common.{◌≡◌, ◌∙◌, ap, subst, List, replicate, length, refl, arith}
use Rattle.wiring.specs.declared.size.Width.{Width}
use Rattle.lane_rows.specs.Values.{InLanes}
use Rattle.batch_guess.proofs.Made.{zero_table}
use Rattle.batch_guess.proofs.guess.table_of.Goals as goal

pub returns-clause-table : goal.returns-clause-table
returns-clause-table c =
    let room : length c.in_ok-room.room.items ≡ c.args.long = omega (arith, c.in_ok-room.ensures.len, c.in_ok-room.room.ok.0) in
    let narrow : length c.in_ok-narrow.narrow.items ≡ c.args.long = omega (arith, c.in_ok-narrow.ensures.len, c.in_ok-narrow.narrow.ok.0) in
    let middle : length c.in_ok-middle.middle.items ≡ c.args.long = omega (arith, c.in_ok-middle.ensures.len, c.in_ok-middle.middle.ok.0) in
    zero_table c.args.engine.now.code.widths.items c.args.engine.now.code.instructions.items (record { rows = c.in_ok-rows.rows; room = c.in_ok-room.room; narrow = c.in_ok-narrow.narrow; middle = c.in_ok-middle.middle; rooms = c.in_ok-rooms.rooms }) (length c.args.engine.now.code.widths.items) c.args.long refl
    (c.in_ok-rows.ensures.values ∙ ap (λ (ws : List Width). replicate (length ws) (replicate c.args.long 0)) c.deref.ensures.value)
    (subst (λ (ws : List Width). InLanes ws c.in_ok-rows.rows.items) c.deref.ensures.value c.in_ok-rows.ensures.lanes) (record { wide = room; narrow = narrow; middle = middle }) c.in_ok-rooms.ensures

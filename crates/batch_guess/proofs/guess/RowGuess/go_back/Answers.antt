use Rattle.std.proofs.Common.{◌≤◌, length, rules}
use Rattle.batch_guess.proofs.Tables.{hold_fewer}
use Rattle.batch_guess.proofs.guess.RowGuess.go_back.Goals as goal

pub invariant_of-self : goal.invariant_of-self
invariant_of-self c =
    let g = c.self.inside in
    let fewer : c.min-self-inside.result ≤ g.done = search rules in
    (c.self.invariant.0, hold_fewer g.engine.code.widths.items g.engine.code.instructions.items (length g.table.room.items) g.table g.done c.min-self-inside.result fewer c.self.invariant.1)

use Rattle.std.proofs.Common.{rules}
use Rattle.vcd_trace.proofs.Rooms.{room_fits}
use Rattle.vcd_trace.proofs.trace.Trace.room.Goals as goal

pub returns-clause-enough : goal.returns-clause-enough
returns-clause-enough c = room_fits c.args.self.now.widths c.self.inside.room (search rules)

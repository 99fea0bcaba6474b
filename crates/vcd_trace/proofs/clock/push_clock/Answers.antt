use Rattle.std.proofs.Common.{arith}
use Rattle.vcd_trace.proofs.Rooms.{all_fit, changed_fit, time_fits}
use Rattle.vcd_trace.proofs.clock.push_clock.Goals as goal

pub push_time-requires : goal.push_time-requires
push_time-requires c = omega (arith, c.requires.room)

pub push_all-requires-clause-room : goal.push_all-requires-clause-room
push_all-requires-clause-room c =
    omega (arith, c.requires.room, c.push_time.ensures.len, c.push_time.ensures.capacity, time_fits c.args.time c.ranges.time.fits, all_fit 0 c.args.widths.now c.args.values.now c.requires.values)

pub push_changes-requires-clause-room : goal.push_changes-requires-clause-room
push_changes-requires-clause-room c =
    omega (arith, c.requires.room, c.push_time.ensures.len, c.push_time.ensures.capacity, time_fits c.args.time c.ranges.time.fits, changed_fit 0 c.args.widths.now c.args.before.now c.args.values.now c.requires.values)

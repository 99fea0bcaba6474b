use Rattle.std.proofs.Common.{refl, subst, sym}
use Rattle.vcd_trace.specs.Replayed.{Refuses}
use Rattle.vcd_trace.proofs.Timewise.{clock_in, clock_missing, replay_ends, never}
use Rattle.vcd_trace.proofs.steps.read_at.Goals as goal

pub returns-in-Err-clause-clock : goal.returns-in-Err-clause-clock
returns-in-Err-clause-clock c = λ m text done same r. c.in-Err.ensures.time m text c.args.before.now.first c.args.before.now.values.now done r

pub returns-in-Err-may_end-clause-clock : goal.returns-in-Err-may_end-clause-clock
returns-in-Err-may_end-clause-clock c = λ m text done same r.
    let missing = c.in-Err-may_end.ensures.missing in
    subst (λ e. Refuses m text e) (sym missing.1)
    (clock_missing m text c.args.bytes.now c.in-Ok.after.now c.args.number c.args.before.now.first c.args.time c.args.before.now.values.now done missing.0 r c.ranges.time.fits c.in-Ok.ensures.time (c.if-is_done.ensures.yes refl))

pub returns-in-Ok-may_end-clause-clock : goal.returns-in-Ok-may_end-clause-clock
returns-in-Ok-may_end-clause-clock c = λ m text done same r.
    replay_ends m text c.args.bytes.now c.in-Ok.after.now c.args.number c.args.before.now.first c.args.time c.args.before.now.values.now done c.in-Ok-may_end.ensures.begun r c.ranges.time.fits c.in-Ok.ensures.time (c.if-is_done.ensures.yes refl)

pub returns-in-Err-read_clock-clause-clock : goal.returns-in-Err-read_clock-clause-clock
returns-in-Err-read_clock-clause-clock c = λ m text done same r.
    c.in-Err-read_clock.ensures.clock m text c.args.time done
    (clock_in m text c.args.bytes.now c.in-Ok.after.now c.args.number c.args.before.now.first c.args.time c.args.before.now.widths.now c.args.before.now.values.now done r c.ranges.time.fits c.in-Ok.ensures.time (λ e. never (c.if-is_done.ensures.no e)) same)

pub returns-in-Ok-read_clock-clause-clock : goal.returns-in-Ok-read_clock-clause-clock
returns-in-Ok-read_clock-clause-clock c = λ m text done same r.
    c.in-Ok-read_clock.ensures.clock m text c.args.time done
    (clock_in m text c.args.bytes.now c.in-Ok.after.now c.args.number c.args.before.now.first c.args.time c.args.before.now.widths.now c.args.before.now.values.now done r c.ranges.time.fits c.in-Ok.ensures.time (λ e. never (c.if-is_done.ensures.no e)) same)

use Rattle.std.proofs.Common.{sym, subst}
use Rattle.vcd_trace.proofs.Readings.{Tells}
use Rattle.vcd_trace.proofs.Clockwise.{value_read, value_idle, missing_at, kept_at}
use Rattle.vcd_trace.proofs.steps.read_value.Goals as goal

pub returns-then-first-clause-value : goal.returns-then-first-clause-value
returns-then-first-clause-value c = λ m text k done new ws old r.
    missing_at c.args.first m text c.args.bytes.now c.args.number k done c.args.before.place new ws old c.args.before.width c.args.before.value c.if-first.true
    (subst (Tells c.args.before.width c.args.before.place c.args.bytes.now) c.in-Ok-None.field-0-is c.in-Ok-None.ensures) r

pub returns-else-first-clause-value : goal.returns-else-first-clause-value
returns-else-first-clause-value c = λ m text k done new ws old r.
    kept_at c.args.first m text c.args.bytes.now c.args.number k done c.args.before.place new ws old c.args.before.width c.args.before.value c.if-first.false c.requires.before
    (subst (Tells c.args.before.width c.args.before.place c.args.bytes.now) c.in-Ok-None.field-0-is c.in-Ok-None.ensures) r

pub returns-then-stays-clause-value : goal.returns-then-stays-clause-value
returns-then-stays-clause-value c = λ m text k done new ws old r.
    let t = subst (Tells c.args.before.width c.args.before.place c.args.bytes.now) c.in-Ok-Some.field-0-is c.in-Ok-Some.ensures in
    value_idle m text c.args.bytes.now c.in-Ok-Some.rest.now c.args.number c.args.first k done c.args.before.place new ws old c.args.before.width c.args.before.value c.in-Ok-Some.value r t.0 (sym c.if-stays.ensures) t.1

pub returns-else-stays-clause-value : goal.returns-else-stays-clause-value
returns-else-stays-clause-value c = λ m text k done new ws old r.
    let t = subst (Tells c.args.before.width c.args.before.place c.args.bytes.now) c.in-Ok-Some.field-0-is c.in-Ok-Some.ensures in
    value_read m text c.args.bytes.now c.in-Ok-Some.rest.now c.args.number c.args.first k done c.args.before.place new ws old c.args.before.width c.args.before.value c.in-Ok-Some.value r t.0 (sym c.if-stays.ensures) t.1

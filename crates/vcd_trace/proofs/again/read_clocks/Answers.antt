use Rattle.std.proofs.Common.{◌∙◌, true, length, sym, ap, subst, arith}
use Rattle.cycle_sim.specs.Slots.{words_of}
use Rattle.vcd_trace.specs.Steps.{AtTime}
use Rattle.vcd_trace.specs.Answers.{EndsAt, GoesOnAt}
use Rattle.vcd_trace.specs.declared.steps.ReadClock.{ReadClock}
use Rattle.vcd_trace.proofs.Clocks.{same_count}
use Rattle.vcd_trace.proofs.Timewise.{start, none_of, fails_at, ends_at}
use Rattle.vcd_trace.proofs.again.read_clocks.Goals as goal

pub clocks-init : goal.clocks-init
clocks-init c = record {
  reads = λ m text same at.
      subst (λ z. AtTime m text c.args.bytes.now c.args.number true 0 c.in-Ok.before.items (words_of z)) (sym c.new-rows.ensures.items)
      (start m text c.args.bytes.now c.args.number c.in-Ok.before.items at (sym (same_count c.args.widths.now c.in-Ok.before.items c.in-Ok.ensures) ∙ ap length (sym same)));
  fits = c.in-Ok.ensures;
  count = omega arith;
  time = omega arith;
}

pub returns-in-Err-read_at : goal.returns-in-Err-read_at
returns-in-Err-read_at c = λ m text same at.
    fails_at c.clocks.first c.clocks.time c.args.widths.now c.as_slice.result.now c.clocks.before.items c.clocks.rest.now c.clocks.line_number c.in-Err-read_at.fault c.as_slice.ensures.value c.in-Err-read_at.ensures.clock
    m text (words_of c.clocks.rows.items) same (c.clocks.invariant.reads m text same at)

pub returns-in-Ok-None : goal.returns-in-Ok-None
returns-in-Ok-None c = λ m text same at.
    let w = c.args.widths.now in
    let k = c.clocks.time in
    let b = c.as_slice.result.now in
    ends_at c.clocks.first k w b c.clocks.before.items c.clocks.rest.now c.clocks.line_number c.as_slice.ensures.value
    (none_of (EndsAt c.clocks.first k w b c.clocks.rest.now c.clocks.line_number) (λ (r : ReadClock). GoesOnAt c.clocks.first k w b c.clocks.rest.now c.clocks.line_number r.values.items r.rest.now r.number) c.in-Ok-None.field-0 c.in-Ok-None.field-0-is c.in-Ok-None.ensures.clock)
    m text (words_of c.clocks.rows.items) same (c.clocks.invariant.reads m text same at)

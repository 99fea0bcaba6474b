use Rattle.std.proofs.Common.{subst, sym, drop, ◌+◌, arith, take}
use Rattle.vcd_trace.specs.Steps.{InClock}
use Rattle.vcd_trace.specs.Layout.{AreValues}
use Rattle.vcd_trace.proofs.Clocks.{fits_more, pushed}
use Rattle.vcd_trace.proofs.Timewise.{at_place, at_end}
use Rattle.vcd_trace.proofs.steps.read_clock.Goals as goal

pub returns-in-Err-clause-clock : goal.returns-in-Err-clause-clock
returns-in-Err-clause-clock c = λ m text k done r.
    let i = c.loop-place.place in
    c.in-Err.ensures.value m text k done c.loop-place.values.items (drop (i + 1) c.args.before.now.widths.now) (drop (i + 1) c.args.before.now.values.now)
    (at_place m text c.loop-place.rest.now c.loop-place.line_number c.args.before.now.first k done i c.loop-place.values.items c.args.before.now.widths.now c.args.before.now.values.now c.width-item.result c.requires.before c.loop-place-test.true c.width-item.is
    (c.loop-place.invariant.clock m text k done r))

pub returns-clause-clock : goal.returns-clause-clock
returns-clause-clock c = λ m text k done r.
    at_end m text c.loop-place.rest.now c.loop-place.line_number c.args.before.now.first k done c.loop-place.place c.loop-place.values.items c.args.before.now.widths.now c.args.before.now.values.now (omega (arith, c.loop-place-test.false)) (c.loop-place.invariant.clock m text k done r)

pub loop-place-preserved : goal.loop-place-preserved
loop-place-preserved c = record {
  clock = λ m text k done r.
      let i = c.loop-place.place in
      subst (λ z. InClock m text c.in-Ok.read.rest.now c.in-Ok.read.number c.args.before.now.first k done (i + 1) z (drop (i + 1) c.args.before.now.widths.now) (drop (i + 1) c.args.before.now.values.now)) (sym (pushed c.push.result c.loop-place.values.items c.push.new.self.items c.in-Ok.read.value c.if-is_err.ensures.value c.push.ensures.items))
      (c.in-Ok.ensures.value m text k done c.loop-place.values.items (drop (i + 1) c.args.before.now.widths.now) (drop (i + 1) c.args.before.now.values.now)
      (at_place m text c.loop-place.rest.now c.loop-place.line_number c.args.before.now.first k done i c.loop-place.values.items c.args.before.now.widths.now c.args.before.now.values.now c.width-item.result c.requires.before c.loop-place-test.true c.width-item.is
      (c.loop-place.invariant.clock m text k done r)));
  fits = subst (λ z. AreValues (take (c.loop-place.place + 1) c.args.before.now.widths.now) z) (sym (pushed c.push.result c.loop-place.values.items c.push.new.self.items c.in-Ok.read.value c.if-is_err.ensures.value c.push.ensures.items)) (fits_more c.args.before.now.widths.now c.loop-place.values.items c.loop-place.place c.width-item.result c.in-Ok.read.value c.loop-place-test.true c.width-item.is c.loop-place.invariant.fits c.in-Ok.ensures.fits);
  count = omega (arith, c.loop-place.invariant.count, c.in-Ok.ensures.count);
  shorter = omega (arith, c.loop-place.invariant.shorter, c.in-Ok.ensures.shorter);
}

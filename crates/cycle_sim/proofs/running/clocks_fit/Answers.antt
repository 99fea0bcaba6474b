use Rattle.std.proofs.Common.{◌≡◌, ℕ, List, length, subst, sym, refl, Some, arith}
use Rattle.std.specs.Prelude.{All, slice_get}
use Rattle.std.proofs.lemmas.List.Elements.{All-more}
use Rattle.std.proofs.lemmas.List.{take_all}
use Rattle.std.proofs.lemmas.Option.{slice_get_read, get_or_from_slice_get}
use Rattle.wiring.specs.Snapshot.{Fit}
use Rattle.cycle_sim.specs.declared.running.Clock.{Clock as GivenClock}
use Rattle.cycle_sim.specs.Ports.{din_widths}
use Rattle.cycle_sim.proofs.running.clocks_fit.Goals as goal

pub loop-clock-preserved : goal.loop-clock-preserved
loop-clock-preserved c =
    let xs = c.args.clocks.now in
    let i = c.loop-clock.clock-index in
    let x = c.clock-item.result in
    let at : slice_get xs i ≡ Some x = slice_get_read xs (length xs) i x refl c.loop-clock-test.true c.clock-item.is in
    let here : Fit (din_widths c.args.sim.now.netlist) x.dins.items = subst (λ (l : List ℕ). Fit (din_widths c.args.sim.now.netlist) l) c.deref.ensures.value (c.fits.ensures.yes c.if-not-fits.false) in
    let placed = subst (λ (y : GivenClock). Fit (din_widths c.args.sim.now.netlist) y.dins.items) (sym (get_or_from_slice_get xs i x x at)) here in
    All-more (λ (y : GivenClock). Fit (din_widths c.args.sim.now.netlist) y.dins.items) xs i x (omega (arith, c.loop-clock-test.true)) c.loop-clock.invariant placed

pub returns-clause-yes : goal.returns-clause-yes
returns-clause-yes c =
    λ _. subst (λ (l : List GivenClock). All (λ (y : GivenClock). Fit (din_widths c.args.sim.now.netlist) y.dins.items) l) (take_all c.loop-clock.clock-index c.args.clocks.now (omega (arith, c.loop-clock-test.false))) c.loop-clock.invariant

use Rattle.std.proofs.Common.{rules, ◌≡◌, ◌∙◌, length, sym}
use Rattle.std.proofs.lemmas.List.{with_items_is}
use Rattle.cycle_sim.specs.Slots.{words_of}
use Rattle.cycle_sim.specs.OneClock.{port_values, settled_values}
use Rattle.cycle_sim.proofs.machine.settle_vec.Goals as goal

pub returns : goal.returns
returns c =
    let program = c.args.program.now in
    let old = c.args.values.now in
    let new = c.settle_ports.new.values in
    let size : length new ≡ length old.items = search rules in
    let settled : new ≡ settled_values program (words_of c.args.arrays.now.items) (port_values program.enable c.args.reset c.args.enable c.args.dins.now) old.items =
    rw (← c.deref_mut.ensures.value, ← c.deref.ensures.value) c.settle_ports.ensures.values in
    record {
      values = with_items_is old new (size ∙ sym old.ok.0) ∙ settled;
      ok = rw (← c.deref_mut.ensures.value, ← c.deref.ensures.value) c.settle_ports.ensures.ok;
      stops = rw (← c.deref_mut.ensures.value, ← c.deref.ensures.value) c.settle_ports.ensures.stops;
    }

use Rattle.std.proofs.Common.{sym, subst, ◌∙◌, refl, length}
use Rattle.std.proofs.lemmas.Option.{slice_get_read}
use Rattle.wiring.specs.declared.drivers.TableFault.{TableFault}
use Rattle.wiring.specs.Tables.{IsTwice, assign_target, driver_of}
use Rattle.wiring.proofs.Nets.{net_cases}
use Rattle.wiring.proofs.Tabled.{table_step, second_of}
use Rattle.wiring.proofs.drivers.drivers_of.Goals as goal

pub returns-in-Some-clause-twice : goal.returns-in-Some-clause-twice
returns-in-Some-clause-twice c =
    let at = slice_get_read c.args.assigns.now (length c.args.assigns.now) c.loop-k.k c.index-assigns-k.result refl c.loop-k-test.true c.index-assigns-k.is in
    subst (λ (f : TableFault). IsTwice assign_target c.args.assigns.now f) (sym c.twice.ensures)
    (second_of net_cases assign_target c.args.assigns.now (driver_of c.loop-k.drivers) c.loop-k.k c.index-assigns-k.result c.in-Some.first at c.loop-k.invariant.table (sym c.of.ensures ∙ c.in-Some.is))

pub loop-k-preserved : goal.loop-k-preserved
loop-k-preserved c =
    let at = slice_get_read c.args.assigns.now (length c.args.assigns.now) c.loop-k.k c.index-assigns-k.result refl c.loop-k-test.true c.index-assigns-k.is in
    record {
      table = table_step net_cases assign_target c.args.assigns.now (driver_of c.loop-k.drivers) (driver_of c.note_driver.new.drivers) c.loop-k.k c.index-assigns-k.result at c.loop-k.invariant.table (sym c.of.ensures ∙ c.in-None.is) c.note_driver.ensures.notes;
      outputs = c.note_driver.ensures.outputs ∙ c.loop-k.invariant.outputs;
      wires = c.note_driver.ensures.wires ∙ c.loop-k.invariant.wires;
    }

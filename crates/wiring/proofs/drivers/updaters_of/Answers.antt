use Rattle.std.proofs.Common.{sym, subst, ◌∙◌, refl, length}
use Rattle.std.proofs.lemmas.Option.{slice_get_read}
use Rattle.wiring.specs.declared.drivers.TableFault.{TableFault}
use Rattle.wiring.specs.Tables.{IsTwice, updater_of}
use Rattle.wiring.specs.Netlist.{update_target}
use Rattle.wiring.proofs.Nets.{holder_cases}
use Rattle.wiring.proofs.Tabled.{table_step, second_of}
use Rattle.wiring.proofs.drivers.updaters_of.Goals as goal

pub returns-in-Some-clause-twice : goal.returns-in-Some-clause-twice
returns-in-Some-clause-twice c =
    let at = slice_get_read c.args.updates.now (length c.args.updates.now) c.loop-k.k c.index-updates-k.result refl c.loop-k-test.true c.index-updates-k.is in
    subst (λ (f : TableFault). IsTwice update_target c.args.updates.now f) (sym c.twice.ensures)
    (second_of holder_cases update_target c.args.updates.now (updater_of c.loop-k.updaters) c.loop-k.k c.index-updates-k.result c.in-Some.first at c.loop-k.invariant.table (sym c.updater.ensures ∙ c.in-Some.is))

pub loop-k-preserved : goal.loop-k-preserved
loop-k-preserved c =
    let at = slice_get_read c.args.updates.now (length c.args.updates.now) c.loop-k.k c.index-updates-k.result refl c.loop-k-test.true c.index-updates-k.is in
    record {
      table = table_step holder_cases update_target c.args.updates.now (updater_of c.loop-k.updaters) (updater_of c.note_updater.new.updaters) c.loop-k.k c.index-updates-k.result at c.loop-k.invariant.table (sym c.updater.ensures ∙ c.in-None.is) c.note_updater.ensures.notes;
      regs = c.note_updater.ensures.regs ∙ c.loop-k.invariant.regs;
      arrays = c.note_updater.ensures.arrays ∙ c.loop-k.invariant.arrays;
    }

use Rattle.std.proofs.Common.{◌≡◌, ◌+◌, ◌++◌, List, map, take, subst, sym, refl, length, Some}
use Rattle.std.specs.Prelude.{All, slice_get}
use Rattle.std.proofs.lemmas.Option.{slice_get_read}
use Rattle.wiring.specs.declared.netlist.Update.{Update}
use Rattle.wiring.specs.Netlist.{Netlist, netlist_of}
use Rattle.wiring.specs.Snapshot.{accesses_of, update_accesses}
use Rattle.wiring.specs.Rules.{UpdateIsSound}
use Rattle.wiring.proofs.Lists.{All-at}
use Rattle.cycle_sim.specs.Edge.{access, assign_accesses_of}
use Rattle.cycle_sim.proofs.Built.{accesses_step}
use Rattle.cycle_sim.proofs.build.accesses_of_wiring.Goals as goal

pub loop-u-preserved : goal.loop-u-preserved
loop-u-preserved c =
    let m : Netlist = netlist_of c.args.wiring.now in
    let i = c.loop-u.u-index in
    let xs = c.deref-u-items.result.now in
    let u = c.u-item.result in
    let at : slice_get xs i ≡ Some u = slice_get_read xs (length xs) i u refl c.loop-u-test.true c.u-item.is in
    let pre = accesses_of assign_accesses_of c.args.wiring.now.assigns.items in
    let was : c.loop-u.accesses.items ≡ map (access m) (pre ++ accesses_of update_accesses (take i xs)) =
    subst (λ (ys : List Update). c.loop-u.accesses.items ≡ map (access m) (pre ++ accesses_of update_accesses (take i ys))) (sym c.deref-u-items.ensures.value) c.loop-u.invariant in
    let sound : All (UpdateIsSound m) xs = subst (λ (ys : List Update). All (UpdateIsSound m) ys) (sym c.deref-u-items.ensures.value) c.requires.rules.updates in
    let step = accesses_step (access m) update_accesses pre xs i u c.loop-u.accesses.items c.note_update.new.accesses.items at was
    (c.in_ok-note_update.ensures m c.requires.layout (All-at (UpdateIsSound m) xs i u sound at)) in
    subst (λ (ys : List Update). c.note_update.new.accesses.items ≡ map (access m) (pre ++ accesses_of update_accesses (take (i + 1) ys))) c.deref-u-items.ensures.value step

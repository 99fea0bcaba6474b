use Rattle.std.proofs.Common.{◌≡◌, ◌+◌, List, [], map, take, subst, sym, refl, length, Some}
use Rattle.std.specs.Prelude.{All, slice_get}
use Rattle.std.proofs.lemmas.Option.{slice_get_read}
use Rattle.wiring.specs.declared.netlist.Assign.{Assign}
use Rattle.wiring.specs.Netlist.{Netlist, netlist_of}
use Rattle.wiring.specs.Snapshot.{accesses_of}
use Rattle.wiring.specs.Rules.{AssignIsSound}
use Rattle.wiring.proofs.Lists.{All-at}
use Rattle.cycle_sim.specs.Edge.{access, assign_accesses_of}
use Rattle.cycle_sim.proofs.Built.{accesses_step}
use Rattle.cycle_sim.proofs.build.assign_accesses.Goals as goal

pub loop-a-preserved : goal.loop-a-preserved
loop-a-preserved c =
    let m : Netlist = netlist_of c.args.wiring.now in
    let i = c.loop-a.a-index in
    let xs = c.deref-a-items.result.now in
    let a = c.a-item.result in
    let at : slice_get xs i ≡ Some a = slice_get_read xs (length xs) i a refl c.loop-a-test.true c.a-item.is in
    let was : c.loop-a.accesses.items ≡ map (access m) (accesses_of assign_accesses_of (take i xs)) =
    subst (λ (ys : List Assign). c.loop-a.accesses.items ≡ map (access m) (accesses_of assign_accesses_of (take i ys))) (sym c.deref-a-items.ensures.value) c.loop-a.invariant in
    let sound : All (AssignIsSound m) xs = subst (λ (ys : List Assign). All (AssignIsSound m) ys) (sym c.deref-a-items.ensures.value) c.requires.rules.assigns in
    let step = accesses_step (access m) assign_accesses_of [] xs i a c.loop-a.accesses.items c.note_assign.new.accesses.items at was
    (c.in_ok-note_assign.ensures m c.requires.layout (All-at (AssignIsSound m) xs i a sound at).right.nets) in
    subst (λ (ys : List Assign). c.note_assign.new.accesses.items ≡ map (access m) (accesses_of assign_accesses_of (take (i + 1) ys))) c.deref-a-items.ensures.value step

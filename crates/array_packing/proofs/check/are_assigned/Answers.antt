use Rattle.std.proofs.Common.{rules, subst}
use Rattle.std.specs.Prelude.{All}
use Rattle.std.proofs.lemmas.List.{take_all}
use Rattle.std.proofs.lemmas.List.Elements.{All-more}
use Rattle.wiring.specs.declared.netlist.Assign.{Assign}
use Rattle.wiring.specs.Netlist.{netlist_of}
use Rattle.array_packing.specs.Packing.{IsAssigned}
use Rattle.array_packing.proofs.check.are_assigned.Goals as goal

pub loop-place-preserved : goal.loop-place-preserved
loop-place-preserved c =
    All-more (λ (a : Assign). IsAssigned (netlist_of c.args.m.now) c.args.slots.now a.target a.right) c.args.assigns.now c.loop-place.place c.index-assigns-place.result c.loop-place-test.true c.loop-place.invariant
    (subst (λ (a : Assign). IsAssigned (netlist_of c.args.m.now) c.args.slots.now a.target a.right) c.index-assigns-place.is (search rules))

pub returns : goal.returns
returns c h =
    subst (All (λ (a : Assign). IsAssigned (netlist_of c.args.m.now) c.args.slots.now a.target a.right)) (take_all c.loop-place.place c.args.assigns.now (search rules)) c.loop-place.invariant

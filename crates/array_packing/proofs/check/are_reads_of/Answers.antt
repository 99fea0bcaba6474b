use Rattle.std.proofs.Common.{rules, subst}
use Rattle.std.specs.Prelude.{All}
use Rattle.std.proofs.lemmas.List.{take_all}
use Rattle.std.proofs.lemmas.List.Elements.{All-more}
use Rattle.wiring.specs.declared.netlist.Assign.{Assign}
use Rattle.wiring.specs.Netlist.{netlist_of}
use Rattle.array_packing.specs.Packing.{IsReadOf}
use Rattle.array_packing.proofs.check.are_reads_of.Goals as goal

pub loop-number-preserved : goal.loop-number-preserved
loop-number-preserved c =
    All-more (λ (a : Assign). IsReadOf (netlist_of c.args.m.now) c.args.slots.now a.right) c.args.assigns.now c.loop-number.number c.index-assigns-number.result c.loop-number-test.true c.loop-number.invariant
    (subst (λ (a : Assign). IsReadOf (netlist_of c.args.m.now) c.args.slots.now a.right) c.index-assigns-number.is (search rules))

pub returns : goal.returns
returns c h = subst (All (λ (a : Assign). IsReadOf (netlist_of c.args.m.now) c.args.slots.now a.right)) (take_all c.loop-number.number c.args.assigns.now (search rules)) c.loop-number.invariant

use Rattle.std.proofs.Common.{rules, subst}
use Rattle.std.specs.Prelude.{All}
use Rattle.std.proofs.lemmas.List.{take_all}
use Rattle.std.proofs.lemmas.List.Elements.{All-more}
use Rattle.wiring.specs.Netlist.{netlist_of}
use Rattle.array_packing.specs.Packing.{IsUpdated}
use Rattle.array_packing.proofs.check.are_updated.Goals as goal

pub loop-number-preserved : goal.loop-number-preserved
loop-number-preserved c =
    All-more (IsUpdated (netlist_of c.args.m.now) c.args.slots.now) c.args.updates.now c.loop-number.number c.index-updates-number.result c.loop-number-test.true c.loop-number.invariant
    (subst (IsUpdated (netlist_of c.args.m.now) c.args.slots.now) c.index-updates-number.is (search rules))

pub returns : goal.returns
returns c h = subst (All (IsUpdated (netlist_of c.args.m.now) c.args.slots.now)) (take_all c.loop-number.number c.args.updates.now (search rules)) c.loop-number.invariant

use Rattle.std.proofs.Common.{rules, subst}
use Rattle.std.specs.Prelude.{All}
use Rattle.std.proofs.lemmas.List.{take_all}
use Rattle.std.proofs.lemmas.List.Elements.{All-more}
use Rattle.wiring.specs.Netlist.{netlist_of}
use Rattle.array_packing.specs.Packing.{PutsJoined}
use Rattle.array_packing.proofs.joins.are_joined.Goals as goal

pub loop-number-preserved : goal.loop-number-preserved
loop-number-preserved c =
    All-more (PutsJoined (netlist_of c.args.new.now) (netlist_of c.args.old.now)) c.args.updates.now c.loop-number.number c.index-updates-number.result c.loop-number-test.true c.loop-number.invariant
    (subst (PutsJoined (netlist_of c.args.new.now) (netlist_of c.args.old.now)) c.index-updates-number.is (search rules))

pub returns : goal.returns
returns c h = subst (All (PutsJoined (netlist_of c.args.new.now) (netlist_of c.args.old.now))) (take_all c.loop-number.number c.args.updates.now (search rules)) c.loop-number.invariant

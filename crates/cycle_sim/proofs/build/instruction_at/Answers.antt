use Rattle.std.proofs.Common.{◌≡◌, length, refl, Some}
use Rattle.std.specs.Prelude.{slice_get}
use Rattle.std.proofs.lemmas.Option.{slice_get_read}
use Rattle.wiring.specs.declared.netlist.Assign.{Assign}
use Rattle.wiring.specs.Netlist.{Netlist, netlist_of}
use Rattle.wiring.specs.Rules.{AssignIsSound}
use Rattle.wiring.proofs.Lists.{All-at}
use Rattle.wiring.proofs.Nets.{driven_declared}
use Rattle.cycle_sim.proofs.build.instruction_at.Goals as goal

pub returns : goal.returns
returns c =
    let m : Netlist = netlist_of c.args.wiring.now in
    let a : Assign = c.index.result.now in
    let at : slice_get m.assigns c.args.number ≡ Some a = slice_get_read m.assigns (length m.assigns) c.args.number a refl c.requires.within c.index.ensures in
    let sound : AssignIsSound m a = All-at (AssignIsSound m) m.assigns c.args.number a c.requires.laid.rules.assigns at in
    (a, at, c.instruction_of.ensures m c.requires.laid.layout (driven_declared m a.target sound.target) sound.right.nets)

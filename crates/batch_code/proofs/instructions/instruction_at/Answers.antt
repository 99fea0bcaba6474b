use Rattle.std.proofs.Common.{◌≡◌, length, refl, Some}
use Rattle.std.specs.Prelude.{slice_get}
use Rattle.std.proofs.lemmas.Option.{slice_get_read}
use Rattle.wiring.specs.declared.netlist.Assign.{Assign}
use Rattle.wiring.specs.Netlist.{Netlist, netlist_of}
use Rattle.wiring.specs.Rules.{AssignIsSound}
use Rattle.wiring.proofs.Lists.{All-at}
use Rattle.wiring.proofs.Nets.{driven_declared}
use Rattle.batch_code.proofs.Assigned.{instruction_is}
use Rattle.batch_code.proofs.instructions.instruction_at.Goals as goal

pub returns : goal.returns
returns c =
    let m : Netlist = netlist_of c.args.wiring.now in
    let a : Assign = c.index-assign.result.now in
    let at : slice_get m.assigns c.args.number ≡ Some a = slice_get_read m.assigns (length m.assigns) c.args.number a refl c.requires.within c.index-assign.ensures in
    let sound : AssignIsSound m a = All-at (AssignIsSound m) m.assigns c.args.number a c.requires.rules.assigns at in
    (a, at, instruction_is m a c.slot_of-target.result c.right_of-right.result (c.slot_of-target.ensures m c.requires.layout (driven_declared m a.target sound.target)) (c.right_of-right.ensures m c.requires.layout sound.right.nets))

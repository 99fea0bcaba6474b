use Rattle.std.proofs.Common.{rules}
use Rattle.std.specs.Prelude.{IsTrue}
use Rattle.wiring.specs.Netlist.{Netlist, netlist_of}
use Rattle.batch_code.proofs.Assigned.{all_there}
use Rattle.batch_code.proofs.instructions.note_all.Goals as goal

pub returns : goal.returns
returns c covered =
    let m : Netlist = netlist_of c.args.wiring.now in
    let noted : IsTrue c.in_ok-note_order.field-0 = search rules in
    all_there m c.note_order.new.code.items c.note_order.new.marks (c.in_ok-note_order.ensures noted) (c.are_covered-covered.ensures covered)

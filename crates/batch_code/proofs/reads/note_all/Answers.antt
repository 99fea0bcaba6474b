use Rattle.std.proofs.Common.{rules}
use Rattle.std.specs.Prelude.{IsTrue}
use Rattle.wiring.specs.Netlist.{Netlist, netlist_of}
use Rattle.batch_code.proofs.Noted.{all_read}
use Rattle.batch_code.proofs.reads.note_all.Goals as goal

pub returns : goal.returns
returns c all =
    let m : Netlist = netlist_of c.args.wiring.now in
    let noted : IsTrue c.note_reads.result = search rules in
    all_read m c.note_reads.new.reads c.note_reads.new.marks (c.note_reads.ensures.reads noted) (c.note_reads.ensures.marked noted) (c.all_marked.ensures all)

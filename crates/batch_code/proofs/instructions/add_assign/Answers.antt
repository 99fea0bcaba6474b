use Rattle.std.proofs.Common.{List, subst, sym}
use Rattle.wiring.specs.Netlist.{Netlist, netlist_of}
use Rattle.batch_rows.specs.declared.code.Instruction.{Instruction}
use Rattle.batch_code.specs.Parts.{AreInstructions}
use Rattle.std.specs.Prelude.{true, slice_set}
use Rattle.batch_code.proofs.Assigned.{one_more}
use Rattle.batch_code.proofs.instructions.add_assign.Goals as goal

pub returns : goal.returns
returns c =
    let m : Netlist = netlist_of c.args.wiring.now in
    let more = one_more m c.args.number c.args.code.now.items c.args.marks.now c.instruction_at-target.result c.requires.before c.instruction_at-target.ensures c.requires.plain in
    subst (λ (is : List Instruction). AreInstructions m is (slice_set c.args.marks.now c.args.number true)) (sym c.in_ok-add_instruction.ensures) more

use Rattle.plan_check.proofs.Flowing.{reads_of_system}
use Rattle.plan_check.proofs.lines.image_holds.Goals as goal

pub are_old-requires : goal.are_old-requires
are_old-requires c = rw (c.width-row.ensures, c.inputs-inputs.ensures, c.requires.count, c.placed_reads-reads.ensures) (reads_of_system c.args.system.now c.law.ensures)

pub depth-requires : goal.depth-requires
depth-requires c = rw (c.width-row.ensures, c.inputs-inputs.ensures, c.requires.count, c.placed_reads-reads.ensures) (reads_of_system c.args.system.now c.law.ensures)

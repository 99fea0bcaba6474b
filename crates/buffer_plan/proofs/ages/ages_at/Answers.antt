use Rattle.raster_delay.proofs.Places.{system_form}
use Rattle.buffer_plan.proofs.ages.ages_at.Goals as goal

pub ages_read-requires-clause-reads : goal.ages_read-requires-clause-reads
ages_read-requires-clause-reads c =
    rw (c.width.ensures, c.inputs.ensures, c.requires.causal.one_each, c.placed_reads.ensures) (system_form c.args.system.now c.law.ensures).reads_are

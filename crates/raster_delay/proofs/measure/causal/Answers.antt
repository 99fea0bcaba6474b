use Rattle.std.proofs.Common.{◌≡◌, length, ap, ◌∙◌}
use Rattle.raster_delay.specs.Systems.{image_count}
use Rattle.raster_delay.proofs.Places.{system_form}
use Rattle.raster_delay.proofs.measure.causal.Goals as goal

pub are_due-requires-clause-reads : goal.are_due-requires-clause-reads
are_due-requires-clause-reads c =
    let size : length c.args.delays.now ≡ image_count c.args.system.now = c.if-delays-images.false ∙ ap length c.images.ensures in
    rw (c.width.ensures, c.inputs-2.ensures, size, c.placed_reads.ensures) (system_form c.args.system.now c.law.ensures).reads_are

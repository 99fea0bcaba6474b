use Rattle.raster_delay.specs.Systems.{image_count, widths, placed_reads}
use Rattle.raster_delay.proofs.Within.{worth_at_most}
use Rattle.raster_delay.proofs.Places.{system_form}
use Rattle.raster_delay.proofs.laws.flow_shows_least_law.Goals as goal

pub returns : goal.returns
returns c = λ s flow d is balanced causal.
    worth_at_most s.stencils.width s.age s.stencils.inputs (image_count s) (widths s) (placed_reads s) (system_form s is) d causal flow balanced

use Rattle.raster_delay.proofs.Places.{system_form}
use Rattle.plan_check.proofs.Flowing.{is_near, reader_kept, source_kept}
use Rattle.plan_check.proofs.flow.read_law.Goals as goal

pub returns : goal.returns
returns c =
    let s = c.args.system.now in
    record {
      row_limit = (system_form s c.law.ensures).row_limit;
      near = is_near s c.law.ensures c.args.r c.requires;
      reader = reader_kept s c.law.ensures c.args.r c.requires;
      source = source_kept s c.law.ensures c.args.r c.requires;
    }

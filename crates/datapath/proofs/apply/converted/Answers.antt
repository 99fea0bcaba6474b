use Rattle.datapath.proofs.Applied.{conversion_makes}
use Rattle.datapath.proofs.apply.converted.Goals as goal

pub cast-requires : goal.cast-requires
cast-requires c = c.requires

pub saturated-requires : goal.saturated-requires
saturated-requires c = c.requires

pub returns-in-Cast : goal.returns-in-Cast
returns-in-Cast c = conversion_makes c.args.b.now c.cast.new.b c.args.x c.cast.result c.args.ty _ _ c.in-Cast.is c.cast.ensures

pub returns-in-Saturate : goal.returns-in-Saturate
returns-in-Saturate c = conversion_makes c.args.b.now c.saturated.new.b c.args.x c.saturated.result c.args.ty _ _ c.in-Saturate.is c.saturated.ensures

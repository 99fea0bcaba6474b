use Rattle.net_build.proofs.Known.{added_key, ok_holds}
use Rattle.net_build.proofs.grow.add_key.Goals as goal

pub returns : goal.returns
returns g c = added_key (g.T.PartialEq.eq c.args.key.now) c.args.known.now.keys c.insert.new.self.keys c.args.key.now c.requires.absent (ok_holds c.insert.result _ (c.insert.ensures.succeeds c.requires.room) c.insert.ensures.keys)

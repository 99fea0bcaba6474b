use Rattle.pgm_codec.proofs.Scanning.{ended}
use Rattle.std.proofs.Common.{sym, subst}
use Rattle.pgm_codec.specs.Answers.{Refuses}
use Rattle.pgm_codec.proofs.scan.HeaderScan.end.Goals as goal

pub returns-in-More : goal.returns-in-More
returns-in-More c = λ bytes s. subst (λ f. Refuses bytes f) (sym c.fault_at.ensures) (ended c.args.self.now bytes s c.in-More.is)

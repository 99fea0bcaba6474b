use Rattle.std.proofs.Common.{subst}
use Rattle.net_build.specs.Draft.{IsDraft}
use Rattle.net_build.proofs.Inputs.{din_within}
use Rattle.net_build.proofs.builder.Builder.din.Goals as goal

pub din_at-requires : goal.din_at-requires
din_at-requires c = din_within c.args.self.now (subst IsDraft c.self.view_is c.self.invariant.0)

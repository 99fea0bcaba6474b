use Rattle.std.proofs.Common.{refl, subst}
use Rattle.net_build.specs.Draft.{IsDraft}
use Rattle.net_build.proofs.Inputs.{en_net, en_width}
use Rattle.net_build.proofs.builder.Builder.en.Goals as goal

pub returns : goal.returns
returns c = record {
  enable = refl;
  net = en_net c.args.self.now (subst IsDraft c.self.view_is c.self.invariant.0) c.requires;
  width = en_width c.args.self.now (subst IsDraft c.self.view_is c.self.invariant.0) c.requires;
}

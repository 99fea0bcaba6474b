use Rattle.std.proofs.Common.{refl, subst}
use Rattle.net_build.specs.Draft.{IsDraft}
use Rattle.net_build.proofs.Inputs.{rst_net, rst_width}
use Rattle.net_build.proofs.builder.Builder.rst.Goals as goal

pub returns : goal.returns
returns c = record {
  reset = refl;
  net = rst_net c.args.self.now (subst IsDraft c.self.view_is c.self.invariant.0);
  width = rst_width c.args.self.now (subst IsDraft c.self.view_is c.self.invariant.0);
}

use Rattle.std.proofs.Common.{◌≡◌, ℕ, ◌+◌, ap, sym, subst, ◌∙◌}
use Rattle.wiring.specs.declared.netlist.Net.TheVariants.{Input}
use Rattle.wiring.specs.Netlist.{Netlist, net_width, first_din}
use Rattle.wiring.specs.Rules.{IsPortWidth}
use Rattle.net_build.specs.Draft.{IsDraft, IsNet}
use Rattle.net_build.proofs.Inputs.{din_width, input_net}
use Rattle.net_build.proofs.builder.Builder.din_at.Goals as goal

pub returns : goal.returns
returns c =
    let b : Netlist = c.args.self.now in
    let same : c.first_din-first.result ≡ first_din b = c.first_din-first.ensures ∙ ap (λ (n : Netlist). first_din n) c.self.view_is in
    record {
      din = ap (λ (f : ℕ). Input (f + c.args.k)) same;
      net = subst (λ (f : ℕ). IsNet b (Input (f + c.args.k))) (sym same) (input_net b (first_din b + c.args.k) c.requires);
      width = subst (λ (f : ℕ). IsPortWidth (net_width b (Input (f + c.args.k)))) (sym same) (din_width b c.args.k (subst IsDraft c.self.view_is c.self.invariant.0) c.requires);
    }

use Rattle.std.proofs.Common.{◌≡◌, List, refl, ap, subst, sym, ◌∙◌}
use Rattle.wiring.specs.declared.netlist.Net.{Net}
use Rattle.netlist.specs.Names.{NamedNetlist}
use Rattle.net_build.specs.Draft.{AreSources, flat, with_outputs}
use Rattle.net_build.specs.Naming.{names_for}
use Rattle.circuit.proofs.Leaving.{can_take, can_update}
use Rattle.circuit.proofs.finishing.closed.Goals as goal

pub finish_all-requires-clause-outs : goal.finish_all-requires-clause-outs
finish_all-requires-clause-outs c =
    subst (λ (outs : List (Net × Net)). AreSources c.all_outs.new.b (flat outs)) (sym c.deref.ensures.value)
    (can_take c.all_outs.new.b c.args.b c.args.plan.now c.args.nets.now c.args.tests.now c.in_ok-outs.outs.items c.requires.ends c.in_ok-outs.ensures.adds c.in_ok-outs.ensures.outs)

pub finish_all-requires-clause-updated : goal.finish_all-requires-clause-updated
finish_all-requires-clause-updated c = can_update c.all_outs.new.b c.args.b c.args.plan.now c.args.nets.now c.args.tests.now c.requires.ends c.in_ok-outs.ensures.adds

pub returns : goal.returns
returns c = record {
  closed = record {
    last = c.all_outs.new.b;
    adds = c.in_ok-outs.ensures.adds;
    starts = c.in_ok-outs.ensures.bits;
    draft = c.law.ensures.draft;
    outs = c.in_ok-outs.outs.items;
    are_outs = c.in_ok-outs.ensures.outs;
    driven = ap (λ (m : NamedNetlist). m.netlist) c.in_ok-module.ensures.made ∙ ap (λ (outs : List (Net × Net)). with_outputs c.all_outs.new.b (flat outs)) c.deref.ensures.value;
    whole = c.in_ok-module.ensures.whole;
    runs = c.in_ok-module.ensures.runs;
    bits = c.in_ok-module.ensures.bits;
    fed = c.in_ok-module.ensures.fed;
    still = c.in_ok-module.ensures.still;
  };
  named = subst (λ (m : NamedNetlist). m.names ≡ names_for m.netlist) (sym c.in_ok-module.ensures.made) refl;
}

use Rattle.std.proofs.Common.{◌≡◌, length, rules, ◌∙◌}
use Rattle.raster_delay.specs.Systems.{nodes}
use Rattle.flow_dual.proofs.Networks.{network_in, few_in}
use Rattle.flow_dual.proofs.checking.is_optimal.Goals as goal

pub carries-requires-clause-network : goal.carries-requires-clause-network
carries-requires-clause-network c =
    let size : length c.args.numbers.now ≡ nodes c.args.system.now = c.if-numbers-nodes.false ∙ c.nodes.ensures in
    rw (c.constraints-constraints.ensures.form, size) (network_in c.args.system.now c.law.ensures)

pub is_balanced-requires : goal.is_balanced-requires
is_balanced-requires c = record {
  flows = search rules;
  count = few_in c.args.system.now c.law.ensures;
  amounts = search rules;
}

use Rattle.std.proofs.Common.{◌<◌, length, pos, slice_index, arith, rules, ◌∙◌}
use Rattle.raster_delay.specs.Network.{constraint_at}
use Rattle.flow_dual.proofs.Balances.{added, spot_most, taken_more, taken_all}
use Rattle.flow_dual.proofs.checking.add_outflows.Goals as goal

pub loop-i-preserved : goal.loop-i-preserved
loop-i-preserved c =
    let cs = c.args.constraints.now in
    let flow = c.args.flow.now in
    let i = c.loop-i.i in
    let place = (constraint_at cs i).source in
    let below : place < length c.loop-i.outflows = omega (arith, c.requires.sources i (record { source = 0; target = 0; cost = pos 0 }) (omega arith), c.loop-i.auto.outflows) in
    record {
      value = λ v. omega (arith, added c.loop-i.outflows place (slice_index flow i) v below, c.loop-i.invariant.value v, taken_more cs flow i v (omega arith) c.requires.flow.flows);
      near = λ v. omega (arith, added c.loop-i.outflows place (slice_index flow i) v below, c.loop-i.invariant.near v, spot_most place (slice_index flow i) v, c.requires.flow.amounts i);
    }

pub returns : goal.returns
returns c = record {
  sums_are = search rules;
  value = λ v. c.loop-i.invariant.value v ∙ taken_all c.args.constraints.now c.args.flow.now c.loop-i.i v (omega arith);
}

use Rattle.std.proofs.Common.{◌≡◌, ◌≤◌, ◌<◌, ℕ, pos, slice_index, length, arith, sym, subst, inl, inr}
use Rattle.std.proofs.lemmas.List.{get_or_past}
use Rattle.std.proofs.lemmas.Bool.{cases_lt}
use Rattle.raster_delay.specs.Network.{constraint_at}
use Rattle.flow_dual.specs.Tree.{IsClosed, Sinks}
use Rattle.flow_dual.proofs.Raising.{near_root, cases_zero}
use Rattle.flow_dual.proofs.Least.{sink_room, sunk_holds, sunk_complementary, sum-less, least_of_reached}
use Rattle.flow_dual.proofs.settling.settle.Goals as goal

pub returns-in-None : goal.returns-in-None
returns-in-None c =
    let cs = c.args.network.now.constraints.now in
    let flow = c.args.flow.now in
    let p = c.loop-tree.numbers in
    let told = c.in_ok-tree.ensures in
    let order = c.in_ok-tree.tree.order.items in
    let parent = c.in_ok-tree.tree.parent.items in
    let all : (v : ℕ) → v < length order → 0 < slice_index order v = rw (← c.as_slice-order.ensures.value) c.in-None.ensures.none in
    record {
      zero = c.loop-tree.invariant.zero;
      near = λ v. elim (cases_lt v (length p)) [
        | inl h ↦ omega (
          arith,
          near_root cs p flow order parent 0 told.tree told.tight c.requires.state.costs v (all v (omega (arith, told.sizes.0))),
          told.bound v,
          c.requires.nodes,
          c.loop-tree.auto.numbers,
          c.loop-tree.invariant.zero,
        )
        | inr h ↦ omega (arith, get_or_past p v 0 h)
      ];
      holds = c.loop-tree.invariant.holds;
      carries = c.loop-tree.invariant.carries;
      least = λ d holds carries v h. least_of_reached cs p flow order parent told.tree told.tight c.loop-tree.invariant.zero d holds carries v (all v (omega (arith, told.sizes.0)));
    }

pub least_slack-by-requires-clause-closed : goal.least_slack-by-requires-clause-closed
least_slack-by-requires-clause-closed c =
    let closed = subst (IsClosed c.args.network.now.constraints.now c.loop-tree.numbers c.args.flow.now) (sym c.as_slice-order.ensures.value) c.in_ok-tree.ensures.closed in
    λ i h. (closed i h).forward

pub lower-requires-clause-room : goal.lower-requires-clause-room
lower-requires-clause-room c = λ v h out.
    let root : 0 < slice_index c.as_slice-order.result.now 0 = rw c.as_slice-order.ensures.value c.in_ok-tree.ensures.tree.root_reached in
    sink_room c.args.network.now.constraints.now (length c.args.numbers.now) c.as_slice-order.result.now c.loop-tree.numbers c.least_slack-by.result c.requires.rooted root c.loop-tree.invariant.holds c.least_slack-by.ensures.least
    v v (omega arith) (omega (arith, c.loop-tree.auto.numbers)) out

pub loop-tree-smaller : goal.loop-tree-smaller
loop-tree-smaller c =
    let order = c.as_slice-order.result.now in
    let by = c.least_slack-by.result in
    let p = c.loop-tree.numbers in
    let node = c.in-Some._node in
    let root : 0 < slice_index order 0 = rw c.as_slice-order.ensures.value c.in_ok-tree.ensures.tree.root_reached in
    let sizes : length order ≡ length p = rw c.as_slice-order.ensures.value c.in_ok-tree.ensures.sizes.0 in
    let within : node < length p = omega (arith, c.in-Some.ensures.some.0, sizes) in
    let can : by ≤ slice_index p node = sink_room c.args.network.now.constraints.now (length c.args.numbers.now) order p by c.requires.rooted root c.loop-tree.invariant.holds c.least_slack-by.ensures.least
    node node (omega arith) (omega (arith, within, c.loop-tree.auto.numbers)) c.in-Some.ensures.some.1 in
    sum-less p c.lower.new.numbers node c.lower.auto.numbers (λ k. elim (cases_zero (slice_index order k)) [
      | inl out ↦ omega (arith, c.lower.ensures.others k out)
      | inr in' ↦ omega (arith, c.lower.ensures.reached k in')
    ])
    within (omega (arith, c.lower.ensures.others node c.in-Some.ensures.some.1, can, c.least_slack-by.ensures.positive))

pub loop-tree-preserved : goal.loop-tree-preserved
loop-tree-preserved c =
    let cs = c.args.network.now.constraints.now in
    let flow = c.args.flow.now in
    let order = c.as_slice-order.result.now in
    let by = c.least_slack-by.result in
    let p = c.loop-tree.numbers in
    let new = c.lower.new.numbers in
    let invariant = c.loop-tree.invariant in
    let root : 0 < slice_index order 0 = rw c.as_slice-order.ensures.value c.in_ok-tree.ensures.tree.root_reached in
    let closed : IsClosed cs p flow order = rw c.as_slice-order.ensures.value c.in_ok-tree.ensures.closed in
    let room : (v : ℕ) → v < length p → slice_index order v ≡ 0 → by ≤ slice_index p v = λ v h out.
    sink_room cs (length c.args.numbers.now) order p by c.requires.rooted root invariant.holds c.least_slack-by.ensures.least v v (omega arith) (omega (arith, h, c.loop-tree.auto.numbers)) out in
    let can : (i : ℕ) → i < length cs → (slice_index order (constraint_at cs i).source ≡ 0 → by ≤ slice_index p (constraint_at cs i).source)
    × (slice_index order (constraint_at cs i).target ≡ 0 → by ≤ slice_index p (constraint_at cs i).target) = λ i h. (
      room (constraint_at cs i).source (omega (arith, c.requires.state.sources i (record { source = 0; target = 0; cost = pos 0 }) h, c.loop-tree.auto.numbers)),
      room (constraint_at cs i).target (omega (arith, c.requires.state.targets i (record { source = 0; target = 0; cost = pos 0 }) h, c.loop-tree.auto.numbers)),
    ) in
    let sinks : Sinks order p new by = c.lower.ensures in
    record {
      numbers = λ v. elim (cases_zero (slice_index order v)) [
        | inl out ↦ omega (arith, c.lower.ensures.others v out, invariant.numbers v)
        | inr in' ↦ omega (arith, c.lower.ensures.reached v in', invariant.numbers v)
      ];
      zero = omega (arith, c.lower.ensures.reached 0 root, invariant.zero);
      holds = sunk_holds cs flow order p new by sinks can c.least_slack-by.ensures.least invariant.holds;
      carries = sunk_complementary cs flow order p new by sinks can closed invariant.carries;
    }

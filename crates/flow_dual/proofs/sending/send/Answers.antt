use Rattle.std.proofs.Common.{◌≡◌, ◌≤◌, ◌<◌, ◌+◌, ◌-◌, ℕ, slice_index, arith, sym, subst, inl, inr}
use Rattle.std.proofs.lemmas.Int.{ints}
use Rattle.raster_delay.specs.Network.{constraint_at}
use Rattle.flow_dual.specs.Tree.{IsClosed, ChangesOnlyOn, LeavesRoom, Shifts}
use Rattle.flow_dual.proofs.Pushes.{Moves-more}
use Rattle.flow_dual.proofs.Raising.{shifted_holds, shifted_complementary, pushed_complementary, near_root, cases_zero}
use Rattle.flow_dual.proofs.sending.send.Goals as goal
use Rattle.flow_dual.proofs.sending.send.Goals.{then-order-end-ne0, else-order-end-ne0}

pub least_slack-by-requires-clause-closed : goal.least_slack-by-requires-clause-closed
least_slack-by-requires-clause-closed c =
    let closed = subst (IsClosed c.args.network.now.constraints.now c.loop-rest.numbers c.loop-rest.flow) (sym c.as_slice-order.ensures.value) c.in_ok-tree.ensures.closed in
    λ i h. (closed i h).forward

pub loop-rest-preserved : goal.loop-rest-preserved
loop-rest-preserved c =
    let cs = c.args.network.now.constraints.now in
    let p = c.loop-rest.numbers in
    let flow = c.loop-rest.flow in
    let begin = (constraint_at cs c.args.image).source in
    let end = (constraint_at cs c.args.image).target in
    let told = c.in_ok-tree.ensures in
    let invariant = c.loop-rest.invariant in
    let order = c.in_ok-tree.tree.order.items in
    let parent = c.in_ok-tree.tree.parent.items in
    let value = c.as_slice-order.ensures.value in
    elim c.if-order-end-ne0.branch [
      | then-order-end-ne0 w ↦
          let amount = w.push-rest.result in
          let changes : ChangesOnlyOn order parent begin end flow w.push-rest.new.flow = rw (← value, ← w.as_slice-parent.ensures.value) w.push-rest.ensures.changes in
          rw (w.numbers-is, w.flow-is, w.rest-is) (record {
            rest = omega arith;
            numbers = invariant.numbers;
            end = invariant.end;
            amounts = λ i. omega (arith, w.push-rest.ensures.grows i, invariant.amounts i);
            holds = invariant.holds;
            carries = pushed_complementary cs p order parent flow w.push-rest.new.flow begin end told.tight changes invariant.carries;
            moves = Moves-more cs c.args.flow.now flow w.push-rest.new.flow begin end (c.args.width - c.loop-rest.rest) amount (c.args.width - (c.loop-rest.rest - amount))
                (omega arith) invariant.moves w.push-rest.ensures.moves;
          })
      | else-order-end-ne0 w ↦
          let by = w.least_slack-by.result in
          let new = w.raise.new.numbers in
          let reached : (v : ℕ) → 0 < slice_index order v → slice_index new v ≡ slice_index p v + by = rw (← value) w.raise.ensures.reached in
          let others : (v : ℕ) → slice_index order v ≡ 0 → slice_index new v ≡ slice_index p v = rw (← value) w.raise.ensures.others in
          let room : LeavesRoom cs p order by = rw (← value) w.least_slack-by.ensures.least in
          let shifts : Shifts order p new by = record { reached = reached; others = others } in
          let stops : slice_index order end ≡ 0 = rw (← value) w.if-order-end-ne0.false in
          let gap = room c.args.image c.requires.hold.0 told.tree.root_reached stops in
          let below : slice_index p begin + by ≤ slice_index p end = omega (arith, ints, gap, c.requires.hold.1) in
          rw (w.numbers-is, w.flow-is, w.rest-is) (record {
            rest = invariant.rest;
            numbers = λ v. elim (cases_zero (slice_index order v)) [
              | inl out ↦ omega (arith, others v out, invariant.numbers v)
              | inr in' ↦ omega (arith, reached v in', near_root cs p flow order parent begin told.tree told.tight c.requires.network.costs v in', told.bound v, below, invariant.end)
            ];
            end = omega (arith, others end stops, invariant.end);
            amounts = invariant.amounts;
            holds = shifted_holds cs flow order p new by shifts room invariant.holds;
            carries = shifted_complementary cs flow order p new by shifts told.closed invariant.carries;
            moves = invariant.moves;
          })
    ]

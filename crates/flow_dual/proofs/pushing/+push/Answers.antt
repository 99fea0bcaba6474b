use Rattle.std.proofs.Common.{◌+◌, slice_index, slice_set, arith, rules, ◌-◌, ap, subst, inl, inr, get_or-set_other}
use Rattle.std.proofs.lemmas.Bool.{cases_eq}
use Rattle.std.proofs.lemmas.Grind.{get_or-set_at}
use Rattle.raster_delay.specs.Network.{constraint_at}
use Rattle.flow_dual.specs.Tree.{Moves}
use Rattle.flow_dual.proofs.Pushes.{Moves-forward, Moves-backward, ChangesOnlyOn-more, parent_kept, source_differs, target_differs}
use Rattle.flow_dual.proofs.pushing.+push.Goals as goal

pub returns-then-c-node : goal.returns-then-c-node
returns-then-c-node t c = record {
  some = search rules;
  most = search rules;
  moves =
      let i = slice_index c.args.paths.now.parent.now c.args.node in
      let below = c.requires.way.tree.parents c.args.node c.if-node-paths.false c.requires.way.reached in
      let moved = Moves-forward c.args.constraints.now c.args.flow.now c.push-amount.new.flow c.args.paths.now.root i c.push-amount.result below (omega arith) c.push-amount.ensures.moves in
      subst (λ node. Moves c.args.constraints.now c.args.flow.now (slice_set c.push-amount.new.flow i (slice_index c.push-amount.new.flow i + c.push-amount.result)) c.args.paths.now.root node c.push-amount.result) c.if-c-node.true moved;
  changes =
      let i = slice_index c.args.paths.now.parent.now c.args.node in
      let link = c.requires.way.tree.links c.args.node c.if-node-paths.false c.requires.way.reached in
      ChangesOnlyOn-more c.args.paths.now.order.now c.args.paths.now.parent.now c.args.paths.now.root (constraint_at c.args.constraints.now i).source c.args.node (slice_index c.push-amount.new.flow i + c.push-amount.result)
      c.args.flow.now c.push-amount.new.flow c.push-amount.ensures.changes (target_differs c.args.constraints.now c.args.flow.now c.args.paths.now.order.now i c.args.node link c.if-c-node.true) c.if-node-paths.false;
  grows = λ j.
      let i = slice_index c.args.paths.now.parent.now c.args.node in
      let link = c.requires.way.tree.links c.args.node c.if-node-paths.false c.requires.way.reached in
      let below = c.requires.way.tree.parents c.args.node c.if-node-paths.false c.requires.way.reached in
      let same = parent_kept c.args.constraints.now c.args.paths.now.order.now c.args.paths.now.parent.now c.args.paths.now.root (constraint_at c.args.constraints.now i).source c.args.node c.args.flow.now c.push-amount.new.flow
      c.requires.way.tree c.push-amount.ensures.changes (target_differs c.args.constraints.now c.args.flow.now c.args.paths.now.order.now i c.args.node link c.if-c-node.true) c.if-node-paths.false in
      elim (cases_eq j i) [
        | inl e ↦ omega (arith, same, get_or-set_at c.push-amount.new.flow i j (slice_index c.push-amount.new.flow i + c.push-amount.result) 0 e (omega arith), ap (slice_index c.args.flow.now) e)
        | inr ne ↦ omega (arith, get_or-set_other c.push-amount.new.flow i j (slice_index c.push-amount.new.flow i + c.push-amount.result) 0 ne, c.push-amount.ensures.grows j)
      ];
}

pub returns-else-c-node : goal.returns-else-c-node
returns-else-c-node t c = record {
  some = search rules;
  most = search rules;
  moves =
      let i = slice_index c.args.paths.now.parent.now c.args.node in
      let link = c.requires.way.tree.links c.args.node c.if-node-paths.false c.requires.way.reached in
      let below = c.requires.way.tree.parents c.args.node c.if-node-paths.false c.requires.way.reached in
      let back = source_differs c.args.constraints.now c.args.flow.now c.args.paths.now.order.now i c.args.node link c.if-c-node.false in
      let same = parent_kept c.args.constraints.now c.args.paths.now.order.now c.args.paths.now.parent.now c.args.paths.now.root (constraint_at c.args.constraints.now i).target c.args.node c.args.flow.now c.push-amount-else-c-node.new.flow
      c.requires.way.tree c.push-amount-else-c-node.ensures.changes back.1 c.if-node-paths.false in
      let moved = Moves-backward c.args.constraints.now c.args.flow.now c.push-amount-else-c-node.new.flow c.args.paths.now.root i c.push-amount-else-c-node.result below (omega arith) (omega (arith, same, c.min-room.ensures)) c.push-amount-else-c-node.ensures.moves in
      subst (λ node. Moves c.args.constraints.now c.args.flow.now (slice_set c.push-amount-else-c-node.new.flow i (slice_index c.push-amount-else-c-node.new.flow i - c.push-amount-else-c-node.result)) c.args.paths.now.root node c.push-amount-else-c-node.result) back.0 moved;
  changes =
      let i = slice_index c.args.paths.now.parent.now c.args.node in
      let link = c.requires.way.tree.links c.args.node c.if-node-paths.false c.requires.way.reached in
      ChangesOnlyOn-more c.args.paths.now.order.now c.args.paths.now.parent.now c.args.paths.now.root (constraint_at c.args.constraints.now i).target c.args.node (slice_index c.push-amount-else-c-node.new.flow i - c.push-amount-else-c-node.result)
      c.args.flow.now c.push-amount-else-c-node.new.flow c.push-amount-else-c-node.ensures.changes (source_differs c.args.constraints.now c.args.flow.now c.args.paths.now.order.now i c.args.node link c.if-c-node.false).1 c.if-node-paths.false;
  grows = search rules;
}

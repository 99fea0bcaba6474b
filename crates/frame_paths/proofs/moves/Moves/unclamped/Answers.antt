use Rattle.std.proofs.Common.{arith, rules, ◌≡◌, refl, sym, pos, ◌≤ℤ◌, ◌+ℤ◌, ◌-ℤ◌, to_z, of_z, w64}
use Rattle.std.proofs.lemmas.Int.{ints}
use Rattle.std.specs.Int.{int_min, int_max}
use Rattle.frame_paths.specs.declared.moves.Moves.{Moves}
use Rattle.frame_paths.proofs.Chains.{unclamped_leads, unclamped_moves, none_low, none_high, none_left, first_same, last_same, same64, small64, are_small}
use Rattle.frame_paths.proofs.moves.Moves.unclamped.Goals as goal

pub returns-then-low-edge-clause-leads : goal.returns-then-low-edge-clause-leads
returns-then-low-edge-clause-leads c =
    let m = c.requires.moves.within in
    let near = are_small c.args.side c.args.self m c.requires.side in
    let by = small64 c.args.by (omega (arith, c.requires.step)) in
    let moved = small64 c.args.self.shift (omega (arith, c.requires.moves.shift)) in
    let lowest = small64 c.args.self.least near.least in
    let highest = small64 c.args.self.most near.most in
    let low = same64 c.sum-low.result (search rules) in
    let high = same64 c.sum-high.result (search rules) in
    let low_is : to_z w64 (of_z w64 c.sum-low.result) ≡ c.args.self.least +ℤ c.args.by = cc (low, c.sum-low.ensures, by, lowest) in
    let high_is : to_z w64 (of_z w64 c.sum-high.result) ≡ c.args.self.most +ℤ c.args.by = cc (high, c.sum-high.ensures, by, highest) in
    let edge = same64 c.last_of-edge.result (search rules) in
    let edge_is : to_z w64 (of_z w64 c.last_of-edge.result) ≡ pos c.args.side -ℤ pos 1 = cc (edge, c.last_of-edge.ensures) in
    λ x u. ((λ e. absurd e), none_low c.args.side c.args.self c.args.by m (omega (arith, ints, c.if-low-edge.true, low_is, edge_is)) x u)

pub returns-then-high-lt0-clause-leads : goal.returns-then-high-lt0-clause-leads
returns-then-high-lt0-clause-leads c =
    let m = c.requires.moves.within in
    let near = are_small c.args.side c.args.self m c.requires.side in
    let by = small64 c.args.by (omega (arith, c.requires.step)) in
    let moved = small64 c.args.self.shift (omega (arith, c.requires.moves.shift)) in
    let lowest = small64 c.args.self.least near.least in
    let highest = small64 c.args.self.most near.most in
    let low = same64 c.sum-low.result (search rules) in
    let high = same64 c.sum-high.result (search rules) in
    let low_is : to_z w64 (of_z w64 c.sum-low.result) ≡ c.args.self.least +ℤ c.args.by = cc (low, c.sum-low.ensures, by, lowest) in
    let high_is : to_z w64 (of_z w64 c.sum-high.result) ≡ c.args.self.most +ℤ c.args.by = cc (high, c.sum-high.ensures, by, highest) in
    λ x u. ((λ e. absurd e), none_high c.args.side c.args.self c.args.by m (omega (arith, ints, c.if-high-lt0.true, high_is)) x u)

pub returns-clause-shift : goal.returns-clause-shift
returns-clause-shift c =
    let m = c.requires.moves.within in
    let near = are_small c.args.side c.args.self m c.requires.side in
    let by = small64 c.args.by (omega (arith, c.requires.step)) in
    let moved = small64 c.args.self.shift (omega (arith, c.requires.moves.shift)) in
    let lowest = small64 c.args.self.least near.least in
    let highest = small64 c.args.self.most near.most in
    let low = same64 c.sum-low.result (search rules) in
    let high = same64 c.sum-high.result (search rules) in
    let low_is : to_z w64 (of_z w64 c.sum-low.result) ≡ c.args.self.least +ℤ c.args.by = cc (low, c.sum-low.ensures, by, lowest) in
    let high_is : to_z w64 (of_z w64 c.sum-high.result) ≡ c.args.self.most +ℤ c.args.by = cc (high, c.sum-high.ensures, by, highest) in
    let shift = same64 c.sum-shift.result (search rules) in
    let first = same64 c.first_inside-first.result (search rules) in
    let last = same64 c.last_inside-last.result (search rules) in
    cc (shift, c.sum-shift.ensures, by, moved)

pub returns-clause-within : goal.returns-clause-within
returns-clause-within c =
    let m = c.requires.moves.within in
    let near = are_small c.args.side c.args.self m c.requires.side in
    let by = small64 c.args.by (omega (arith, c.requires.step)) in
    let moved = small64 c.args.self.shift (omega (arith, c.requires.moves.shift)) in
    let lowest = small64 c.args.self.least near.least in
    let highest = small64 c.args.self.most near.most in
    let low = same64 c.sum-low.result (search rules) in
    let high = same64 c.sum-high.result (search rules) in
    let low_is : to_z w64 (of_z w64 c.sum-low.result) ≡ c.args.self.least +ℤ c.args.by = cc (low, c.sum-low.ensures, by, lowest) in
    let high_is : to_z w64 (of_z w64 c.sum-high.result) ≡ c.args.self.most +ℤ c.args.by = cc (high, c.sum-high.ensures, by, highest) in
    let shift = same64 c.sum-shift.result (search rules) in
    let first = same64 c.first_inside-first.result (search rules) in
    let last = same64 c.last_inside-last.result (search rules) in
    let edge = same64 c.last_of-edge.result (search rules) in
    let edge_is : to_z w64 (of_z w64 c.last_of-edge.result) ≡ pos c.args.side -ℤ pos 1 = cc (edge, c.last_of-edge.ensures) in
    let below : (c.args.self.least +ℤ c.args.by) ≤ℤ (pos c.args.side -ℤ pos 1) = omega (arith, ints, c.if-low-edge.false, low_is, edge_is) in
    let above : pos 0 ≤ℤ (c.args.self.most +ℤ c.args.by) = omega (arith, ints, c.if-high-lt0.false, high_is) in
    unclamped_moves c.args.side c.args.self c.args.by _ m (record {
      shift = cc (shift, c.sum-shift.ensures, by, moved);
      first = first_same c.args.self.first _ _ _ _ _ _ low_is refl (sym first) c.first_inside-first.ensures;
      last = last_same c.args.self.last _ _ _ _ _ _ _ _ high_is edge_is refl (sym last) c.last_inside-last.ensures;
      least = cc (same64 c.max.result (search rules), c.max.ensures.value, low_is);
      most = cc (same64 c.min.result (search rules), c.min.ensures.value, high_is, edge_is);
    }) below above (omega (arith, ints, c.if-first-last.false))

pub returns-clause-leads : goal.returns-clause-leads
returns-clause-leads c =
    let m = c.requires.moves.within in
    let near = are_small c.args.side c.args.self m c.requires.side in
    let by = small64 c.args.by (omega (arith, c.requires.step)) in
    let moved = small64 c.args.self.shift (omega (arith, c.requires.moves.shift)) in
    let lowest = small64 c.args.self.least near.least in
    let highest = small64 c.args.self.most near.most in
    let low = same64 c.sum-low.result (search rules) in
    let high = same64 c.sum-high.result (search rules) in
    let low_is : to_z w64 (of_z w64 c.sum-low.result) ≡ c.args.self.least +ℤ c.args.by = cc (low, c.sum-low.ensures, by, lowest) in
    let high_is : to_z w64 (of_z w64 c.sum-high.result) ≡ c.args.self.most +ℤ c.args.by = cc (high, c.sum-high.ensures, by, highest) in
    let shift = same64 c.sum-shift.result (search rules) in
    let first = same64 c.first_inside-first.result (search rules) in
    let last = same64 c.last_inside-last.result (search rules) in
    let edge = same64 c.last_of-edge.result (search rules) in
    let edge_is : to_z w64 (of_z w64 c.last_of-edge.result) ≡ pos c.args.side -ℤ pos 1 = cc (edge, c.last_of-edge.ensures) in
    let below : (c.args.self.least +ℤ c.args.by) ≤ℤ (pos c.args.side -ℤ pos 1) = omega (arith, ints, c.if-low-edge.false, low_is, edge_is) in
    let above : pos 0 ≤ℤ (c.args.self.most +ℤ c.args.by) = omega (arith, ints, c.if-high-lt0.false, high_is) in
    unclamped_leads c.args.side c.args.self c.args.by _ m (record {
      shift = cc (shift, c.sum-shift.ensures, by, moved);
      first = first_same c.args.self.first _ _ _ _ _ _ low_is refl (sym first) c.first_inside-first.ensures;
      last = last_same c.args.self.last _ _ _ _ _ _ _ _ high_is edge_is refl (sym last) c.last_inside-last.ensures;
      least = cc (same64 c.max.result (search rules), c.max.ensures.value, low_is);
      most = cc (same64 c.min.result (search rules), c.min.ensures.value, high_is, edge_is);
    }) below above

pub returns-then-first-last-clause-leads : goal.returns-then-first-last-clause-leads
returns-then-first-last-clause-leads c =
    let m = c.requires.moves.within in
    let near = are_small c.args.side c.args.self m c.requires.side in
    let by = small64 c.args.by (omega (arith, c.requires.step)) in
    let moved = small64 c.args.self.shift (omega (arith, c.requires.moves.shift)) in
    let lowest = small64 c.args.self.least near.least in
    let highest = small64 c.args.self.most near.most in
    let low = same64 c.sum-low.result (search rules) in
    let high = same64 c.sum-high.result (search rules) in
    let low_is : to_z w64 (of_z w64 c.sum-low.result) ≡ c.args.self.least +ℤ c.args.by = cc (low, c.sum-low.ensures, by, lowest) in
    let high_is : to_z w64 (of_z w64 c.sum-high.result) ≡ c.args.self.most +ℤ c.args.by = cc (high, c.sum-high.ensures, by, highest) in
    let shift = same64 c.sum-shift.result (search rules) in
    let first = same64 c.first_inside-first.result (search rules) in
    let last = same64 c.last_inside-last.result (search rules) in
    let edge = same64 c.last_of-edge.result (search rules) in
    let edge_is : to_z w64 (of_z w64 c.last_of-edge.result) ≡ pos c.args.side -ℤ pos 1 = cc (edge, c.last_of-edge.ensures) in
    let below : (c.args.self.least +ℤ c.args.by) ≤ℤ (pos c.args.side -ℤ pos 1) = omega (arith, ints, c.if-low-edge.false, low_is, edge_is) in
    let above : pos 0 ≤ℤ (c.args.self.most +ℤ c.args.by) = omega (arith, ints, c.if-high-lt0.false, high_is) in
    let n : Moves = record {
      first = to_z w64 (of_z w64 c.first_inside-first.result);
      last = to_z w64 (of_z w64 c.last_inside-last.result);
      shift = to_z w64 (of_z w64 c.sum-shift.result);
      least = int_max (c.args.self.least +ℤ c.args.by) (pos 0);
      most = int_min (c.args.self.most +ℤ c.args.by) (pos c.args.side -ℤ pos 1);
    } in
    λ x u. (
      (λ e. absurd e),
      none_left c.args.side c.args.self c.args.by n m (record {
        shift = cc (shift, c.sum-shift.ensures, by, moved);
        first = first_same c.args.self.first _ _ _ _ _ _ low_is refl (sym first) c.first_inside-first.ensures;
        last = last_same c.args.self.last _ _ _ _ _ _ _ _ high_is edge_is refl (sym last) c.last_inside-last.ensures;
        least = refl;
        most = refl;
      }) below above (omega (arith, ints, c.if-first-last.true)) x u,
    )

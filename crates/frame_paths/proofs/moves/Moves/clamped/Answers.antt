use Rattle.std.proofs.Common.{arith, rules}
use Rattle.frame_paths.proofs.Chains.{clamped_leads, clamped_moves, same64, small64, are_small}
use Rattle.frame_paths.proofs.moves.Moves.clamped.Goals as goal

pub returns-clause-within : goal.returns-clause-within
returns-clause-within c =
    let m = c.requires.moves.within in
    let near = are_small c.args.side c.args.self m c.requires.side in
    let first = small64 c.args.self.first near.first in
    let last = small64 c.args.self.last near.last in
    let by = small64 c.args.by (omega (arith, c.requires.step)) in
    let moved = small64 c.args.self.shift (omega (arith, c.requires.moves.shift)) in
    let lowest = small64 c.args.self.least near.least in
    let highest = small64 c.args.self.most near.most in
    let edge = same64 c.last_of-edge.result (search rules) in
    let shift = same64 c.sum-shift.result (search rules) in
    let low = same64 c.sum-low.result (search rules) in
    let high = same64 c.sum-high.result (search rules) in
    let least = same64 c.bring-least.result (search rules) in
    let most = same64 c.bring-most.result (search rules) in
    clamped_moves c.args.side c.args.self c.args.by _ m (record {
      first = first;
      last = last;
      shift = cc (shift, c.sum-shift.ensures, by, moved);
      least = cc (least, c.bring-least.ensures, edge, c.last_of-edge.ensures, low, c.sum-low.ensures, by, lowest);
      most = cc (most, c.bring-most.ensures, edge, c.last_of-edge.ensures, high, c.sum-high.ensures, by, highest);
    })

pub returns-clause-leads : goal.returns-clause-leads
returns-clause-leads c =
    let m = c.requires.moves.within in
    let near = are_small c.args.side c.args.self m c.requires.side in
    let first = small64 c.args.self.first near.first in
    let last = small64 c.args.self.last near.last in
    let by = small64 c.args.by (omega (arith, c.requires.step)) in
    let moved = small64 c.args.self.shift (omega (arith, c.requires.moves.shift)) in
    let lowest = small64 c.args.self.least near.least in
    let highest = small64 c.args.self.most near.most in
    let edge = same64 c.last_of-edge.result (search rules) in
    let shift = same64 c.sum-shift.result (search rules) in
    let low = same64 c.sum-low.result (search rules) in
    let high = same64 c.sum-high.result (search rules) in
    let least = same64 c.bring-least.result (search rules) in
    let most = same64 c.bring-most.result (search rules) in
    clamped_leads c.args.side c.args.self c.args.by _ m (record {
      first = first;
      last = last;
      shift = cc (shift, c.sum-shift.ensures, by, moved);
      least = cc (least, c.bring-least.ensures, edge, c.last_of-edge.ensures, low, c.sum-low.ensures, by, lowest);
      most = cc (most, c.bring-most.ensures, edge, c.last_of-edge.ensures, high, c.sum-high.ensures, by, highest);
    })

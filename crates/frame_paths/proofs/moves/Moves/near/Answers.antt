use Rattle.std.proofs.Common.{arith, rules}
use Rattle.frame_paths.proofs.Chains.{near_leads, same64, small64, are_small}
use Rattle.frame_paths.proofs.moves.Moves.near.Goals as goal

pub returns-clause-leads : goal.returns-clause-leads
returns-clause-leads c =
    let m = c.args.self in
    let small = are_small c.args.side m c.requires.within c.requires.side in
    let moved = small64 m.shift (omega (arith, c.requires.shift)) in
    near_leads c.args.side m _ c.requires.within c.requires.side (record {
      first = small64 m.first small.first;
      last = small64 m.last small.last;
      shift = cc (same64 c.bring-shift.result (search rules), c.bring-shift.ensures, moved);
      least = small64 m.least small.least;
      most = small64 m.most small.most;
    })

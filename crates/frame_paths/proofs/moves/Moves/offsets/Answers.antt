use Rattle.std.proofs.Common.{arith}
use Rattle.frame_paths.proofs.Chains.{small64, are_small}
use Rattle.frame_paths.proofs.Spreads.{offsets_are, small32}
use Rattle.frame_paths.proofs.moves.Moves.offsets.Goals as goal

pub returns-clause-offsets : goal.returns-clause-offsets
returns-clause-offsets c =
    let near = are_small c.args.side c.args.self c.requires.moves.within c.requires.side in
    let last = small64 c.args.self.last near.last in
    let first = small64 c.args.self.first near.first in
    let least = small32 c.offset_of-least.result (omega (arith, c.offset_of-least.ensures.near)) in
    let greatest = small32 c.offset_of-greatest.result (omega (arith, c.offset_of-greatest.ensures.near)) in
    offsets_are c.args.side c.args.self _ c.requires.moves.within (cc (least, c.offset_of-least.ensures.offset, last)) (cc (greatest, c.offset_of-greatest.ensures.offset, first))

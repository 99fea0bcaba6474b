use Rattle.std.proofs.Common.{arith, rules, ◌≡◌, ◌+ℤ◌, ◌<◌, unsigned_abs, subst, sym}
use Rattle.frame_paths.specs.Moves.{brought}
use Rattle.frame_paths.proofs.Chains.{same64, small64, are_small}
use Rattle.frame_paths.proofs.Spreads.{small32, brought_small}
use Rattle.frame_paths.proofs.moves.Moves.offset_of.Goals as goal

pub difference-offset-requires-clause-left : goal.difference-offset-requires-clause-left
difference-offset-requires-clause-left c =
    let m = c.args.self in
    let near = are_small c.args.side m c.requires.moves.within c.requires.side in
    let x = small64 c.args.x (omega (arith, c.requires.small)) in
    let shift = small64 m.shift (omega (arith, c.requires.moves.shift)) in
    let end = same64 c.bring-end.result (search rules) in
    let to = same64 c.sum-to.result (search rules) in
    let is : c.bring-end.result ≡ brought m.least m.most (c.args.x +ℤ m.shift) = cc (c.bring-end.ensures, small64 m.least near.least, small64 m.most near.most, to, c.sum-to.ensures, x, shift) in
    let small : unsigned_abs c.bring-end.result < 4096 = subst (λ v. unsigned_abs v < 4096) (sym is) (brought_small c.args.side m (c.args.x +ℤ m.shift) c.requires.moves.within c.requires.side) in
    rw end (omega (arith, small))

pub returns-clause-offset : goal.returns-clause-offset
returns-clause-offset c =
    let m = c.args.self in
    let near = are_small c.args.side m c.requires.moves.within c.requires.side in
    let x = small64 c.args.x (omega (arith, c.requires.small)) in
    let shift = small64 m.shift (omega (arith, c.requires.moves.shift)) in
    let end = same64 c.bring-end.result (search rules) in
    let to = same64 c.sum-to.result (search rules) in
    let is : c.bring-end.result ≡ brought m.least m.most (c.args.x +ℤ m.shift) = cc (c.bring-end.ensures, small64 m.least near.least, small64 m.most near.most, to, c.sum-to.ensures, x, shift) in
    let small : unsigned_abs c.bring-end.result < 4096 = subst (λ v. unsigned_abs v < 4096) (sym is) (brought_small c.args.side m (c.args.x +ℤ m.shift) c.requires.moves.within c.requires.side) in
    cc (small32 c.difference-offset.result (omega (arith, c.difference-offset.ensures.near)), c.difference-offset.ensures.value, end, x, is)

use Rattle.std.proofs.Common.{◌≡◌, ℤ, pos, ◌+ℤ◌, subst, rules, to_z, of_z, w32}
use Rattle.std.proofs.lemmas.Int.{to_z-of_z}
use Rattle.frame_paths.specs.Moves.{Leads, IsInOn}
use Rattle.edge_select.proofs.Walks.{Same, led_is}
use Rattle.edge_select.proofs.paths.led_by.Goals as goal

pub returns-clause-passes : goal.returns-clause-passes
returns-clause-passes c x y =
    let p = c.args.path in
    let dx : to_z w32 (of_z w32 c.args.dx) ≡ c.args.dx = to_z-of_z w32 c.args.dx (search rules) in
    let dy : to_z w32 (of_z w32 c.args.dy) ≡ c.args.dy = to_z-of_z w32 c.args.dy (search rules) in
    led_is p c.args.dx c.args.dy x y c.led_by-across.result c.led_by-down.result c.joined.result
    (subst (λ (d : ℤ). Same (IsInOn c.led_by-across.result x) (Leads p.across (pos x) (pos x +ℤ d))) dx (c.led_by-across.ensures.led x))
    (subst (λ (d : ℤ). Same (IsInOn c.led_by-down.result y) (Leads p.down (pos y) (pos y +ℤ d))) dy (c.led_by-down.ensures.led y)) (c.joined.ensures.passes x y)

use Rattle.std.proofs.Common.{rules, ◌≡◌, ℤ, ◌+ℤ◌, w32, to_z, of_z, FitsSigned}
use Rattle.pointwise_ir.specs.declared.expr.Edge.TheVariants.{Zero}
use Rattle.same_pictures.specs.Matching.{IsPushed}
use Rattle.same_pictures.proofs.Moved.{pushed_added, to_word}
use Rattle.same_pictures.proofs.moves.added_step.Goals as goal

abbrev word : ℤ → ℤ
word z = to_z w32 (of_z w32 z)

pub returns : goal.returns
returns c =
    let at = c.args.at in
    let by = c.args.by in
    let dx = c.in_ok-dx.dx in
    let dy = c.in_ok-dy.dy in
    let sx : FitsSigned w32 dx = search rules in
    let sy : FitsSigned w32 dy = search rules in
    let across : dx ≡ at.dx +ℤ by.dx = search rules in
    let down : dy ≡ at.dy +ℤ by.dy = search rules in
    to_word (λ u. IsPushed Zero at.dx at.dy by.edge by.dx by.dy by.edge u (word dy)) dx sx
    (to_word (λ v. IsPushed Zero at.dx at.dy by.edge by.dx by.dy by.edge dx v) dy sy
    (pushed_added at.dx at.dy by.edge by.dx by.dy dx dy across down))

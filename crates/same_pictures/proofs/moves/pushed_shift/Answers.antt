use Rattle.std.proofs.Common.{sym, subst}
use Rattle.pointwise_ir.specs.declared.expr.Edge.{Edge}
use Rattle.same_pictures.specs.Matching.{IsPushed, IsSeenBehind}
use Rattle.same_pictures.proofs.Moved.{behind_clamped}
use Rattle.same_pictures.proofs.moves.pushed_shift.Goals as goal

pub returns-in-Clamp : goal.returns-in-Clamp
returns-in-Clamp c =
    let at = c.args.at in
    let by = c.args.by in
    let to = c.in_ok-to.to in
    subst (λ (k : Edge). IsSeenBehind at.edge at.dx at.dy by.edge by.dx by.dy k to.dx to.dy) (sym c.in-Clamp.is)
    (behind_clamped at.edge at.dx at.dy by.edge by.dx by.dy to.dx to.dy
    (subst (λ (k : Edge). IsPushed at.edge at.dx at.dy by.edge by.dx by.dy k to.dx to.dy) c.in-Clamp.is c.in_ok-to.ensures))

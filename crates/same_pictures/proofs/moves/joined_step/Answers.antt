use Rattle.std.proofs.Common.{rules, ℤ, w32, to_z, of_z, FitsSigned}
use Rattle.pointwise_ir.specs.declared.expr.Edge.TheVariants.{Clamp}
use Rattle.same_pictures.specs.Matching.{IsJoined, IsPushed}
use Rattle.same_pictures.proofs.Moved.{pushed_joined, from_word, to_word}
use Rattle.same_pictures.proofs.moves.joined_step.Goals as goal

abbrev word : ℤ → ℤ
word z = to_z w32 (of_z w32 z)

joined_of : (d e f : ℤ) → FitsSigned w32 d → FitsSigned w32 e → IsJoined (word d) (word e) f → IsJoined d e f
joined_of d e f fd fe is = from_word (λ v. IsJoined d v f) e fe (from_word (λ u. IsJoined u (word e) f) d fd is)

pub returns : goal.returns
returns c =
    let at = c.args.at in
    let fx : FitsSigned w32 at.dx = search rules in
    let fy : FitsSigned w32 at.dy = search rules in
    let across = joined_of at.dx c.args.dx c.in_ok-dx.dx fx c.ranges.dx c.in_ok-dx.ensures in
    let down = joined_of at.dy c.args.dy c.in_ok-dy.dy fy c.ranges.dy c.in_ok-dy.ensures in
    let sx : FitsSigned w32 c.in_ok-dx.dx = search rules in
    let sy : FitsSigned w32 c.in_ok-dy.dy = search rules in
    to_word (λ u. IsPushed Clamp at.dx at.dy Clamp c.args.dx c.args.dy Clamp u (word c.in_ok-dy.dy)) c.in_ok-dx.dx sx
    (to_word (λ v. IsPushed Clamp at.dx at.dy Clamp c.args.dx c.args.dy Clamp c.in_ok-dx.dx v) c.in_ok-dy.dy sy
    (pushed_joined at.dx at.dy c.args.dx c.args.dy c.in_ok-dx.dx c.in_ok-dy.dy across down))

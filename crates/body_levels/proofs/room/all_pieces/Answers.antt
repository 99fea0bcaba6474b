use Rattle.std.proofs.Common.{ℕ, ◌+◌, ◌<◌, ◌∙◌, min, pos, length, ap, sym, subst}
use Rattle.std.proofs.Math.ListN.{length-map}
use Rattle.std.proofs.lemmas.List.Sums.{fold_more}
use Rattle.dk_base.specs.declared.ty.Ty.TheVariants.{Unsigned}
use Rattle.pointwise_ir.specs.Trees.{Tree, constant, tree_of}
use Rattle.pointwise_ir.specs.Programs.{bodies_of}
use Rattle.body_levels.specs.Reasons.{cutting}
use Rattle.body_levels.proofs.room.all_pieces.Goals as goal

pub loop-k-preserved : goal.loop-k-preserved
loop-k-preserved c =
    let bodies = bodies_of c.args.program.now in
    let none = constant (pos 0) (Unsigned 1) in
    record {
      pieces =
          c.sum-pieces.ensures _ _ c.loop-k.invariant.pieces (c.pieces_at.ensures none)
          ∙ ap (λ (n : ℕ). min n 4294967295) (sym (fold_more (λ (n : ℕ) (e : Tree). n + (cutting c.args.most e).pieces) 0 bodies c.loop-k.k none (subst (λ (n : ℕ). c.loop-k.k < n) (ap (λ ds. length ds) c.images-k-end.ensures ∙ sym (length-map c.args.program.now.images (λ d. tree_of d.body))) c.loop-k-test.true)));
    }

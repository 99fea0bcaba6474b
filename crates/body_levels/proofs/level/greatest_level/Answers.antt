use Rattle.std.proofs.Common.{ℕ, ◌<◌, ◌∙◌, max, pos, length, take, ap, sym, subst}
use Rattle.std.proofs.Math.ListN.{length-map}
use Rattle.std.proofs.lemmas.List.Sums.{fold_more}
use Rattle.dk_base.specs.declared.ty.Ty.TheVariants.{Unsigned}
use Rattle.pointwise_ir.specs.Trees.{Tree, constant, tree_of}
use Rattle.pointwise_ir.specs.Programs.{bodies_of}
use Rattle.body_levels.specs.Levels.{level_of, greatest_level}
use Rattle.body_levels.proofs.level.greatest_level.Goals as goal

pub loop-k-preserved : goal.loop-k-preserved
loop-k-preserved c =
    let bodies = bodies_of c.args.program.now in
    let none = constant (pos 0) (Unsigned 1) in
    record {
      most =
          c.greater-most.ensures
          ∙ ap (λ (m : ℕ). max m c.level_at.result) c.loop-k.invariant.most
          ∙ ap (λ (n : ℕ). max (greatest_level (take c.loop-k.k bodies)) n) (c.level_at.ensures.body none)
          ∙ sym (fold_more (λ (most : ℕ) (e : Tree). max most (level_of e)) 0 bodies c.loop-k.k none (subst (λ (n : ℕ). c.loop-k.k < n) (ap (λ ds. length ds) c.images-k-end.ensures ∙ sym (length-map c.args.program.now.images (λ d. tree_of d.body))) c.loop-k-test.true));
    }

use Rattle.std.proofs.Common.{◌≡◌, ◌++◌, ◌∷◌, [], length, length-append, arith, ap, subst, sym}
use Rattle.std.specs.Prelude.{ℕ, List, slice_index_or}
use Rattle.raster_delay.specs.Systems.{placed_reads}
use Rattle.buffer_plan.specs.Plans.{AreDistinct, ages_in}
use Rattle.buffer_plan.proofs.Finding.{one_list_more}
use Rattle.buffer_plan.proofs.ages.all_ages.Goals as goal

pub loop-k-preserved : goal.loop-k-preserved
loop-k-preserved c =
    let s = c.args.system.now in
    let old = c.loop-k.all.items in
    let x = c.in_ok-ages_at.field-0 in
    let k = c.loop-k.k in
    let P : ℕ → List ℕ → Type 0 = λ k xs. AreDistinct (ages_in s.stencils.width c.args.delays.now k (placed_reads s)) xs in
    let items : c.push.new.self.items ≡ old ++ x ∷ [] = c.in_ok-push.ensures.items in
    record {
      length = omega (arith, ap length items, length-append old (x ∷ []), c.loop-k.invariant.length);
      ages = λ j h. subst (λ xs. P j (slice_index_or xs j [])) (sym items) (one_list_more P old k x c.loop-k.invariant.length c.loop-k.invariant.ages c.in_ok-ages_at.ensures j h);
    }

pub returns-clause-ages : goal.returns-clause-ages
returns-clause-ages c = λ k h. c.loop-k.invariant.ages k (omega (arith, h, ap length c.images-k-end.ensures))

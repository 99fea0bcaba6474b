use Rattle.std.proofs.Common.{◌≡◌, ◌∙◌, ◌+◌, ◌-◌, ◌<◌, ◌≤◌, ℕ, List, [], length, ap, refl, sym, subst, arith, Some}
use Rattle.std.specs.Prelude.{slice_get, slice_index_or}
use Rattle.std.proofs.lemmas.Option.{slice_get_read}
use Rattle.cycle_sim.specs.Slots.{words_of}
use Rattle.lane_rows.specs.Values.{values_of}
use Rattle.batch_sim.specs.Arrays.{PutsInside, ArePut, WasLost}
use Rattle.batch_sim.proofs.Vectors.{vec_get, length-items}
use Rattle.batch_sim.proofs.AllPasses.{put_back, all_back, length-put}
use Rattle.batch_sim.proofs.judge.passes.undo_arrays.Goals as goal

pub undo_at-requires-clause-undo : goal.undo_at-requires-clause-undo
undo_at-requires-clause-undo c =
    let k : ℕ = c.args.done - 1 - c.loop-back.back in
    let p = c.index-puts-array.result in
    let within : k < length c.args.lost.now = omega (arith, c.loop-back-test.true, c.requires.lost) in
    let inside : k < length c.args.all.now.puts.now = omega (arith, c.loop-back-test.true, c.requires.puts) in
    let at_lost = slice_get_read c.args.lost.now (length c.args.lost.now) k c.index-lost-array.result refl within c.index-lost-array.is in
    let at = slice_get_read c.args.all.now.puts.now (length c.args.all.now.puts.now) k p refl inside c.index-puts-array.is in
    record {
      index = (c.requires.atoms k p at).0;
      value = (c.requires.atoms k p at).1;
      room = c.loop-back.invariant.room;
      lost = subst (λ (ws : List ℕ). c.args.all.now.count ≤ length ws) (vec_get c.args.lost.now k c.index-lost-array.result at_lost ∙ sym c.deref.ensures.value) (c.requires.long k (omega (arith, within, length-items c.args.lost.now)));
      inside = c.loop-back.invariant.inside k p (omega (arith, c.loop-back-test.true)) at;
    }

pub loop-back-preserved : goal.loop-back-preserved
loop-back-preserved c =
    let rows = values_of c.args.rows.now in
    let puts = c.args.all.now.puts.now in
    let count = c.args.all.now.count in
    let k : ℕ = c.args.done - 1 - c.loop-back.back in
    let p = c.index-puts-array.result in
    let now = words_of c.loop-back.arrays in
    let new = words_of c.undo_at.new.arrays in
    let within : k < length puts = omega (arith, c.loop-back-test.true, c.requires.puts) in
    let at : slice_get puts k ≡ Some p = slice_get_read puts (length puts) k p refl within c.index-puts-array.is in
    let more : c.args.done - c.loop-back.back ≡ k + 1 = omega (arith, c.loop-back-test.true) in
    let less : k ≡ c.args.done - (c.loop-back.back + 1) = omega (arith, c.loop-back-test.true) in
    let size : length new ≡ length now = length-items c.undo_at.new.arrays ∙ c.undo_at.auto.arrays ∙ sym (length-items c.loop-back.arrays) in
    record {
      room = c.undo_at.ensures.undone.room;
      inside = λ x q l there. subst (λ (ws : List ℕ). PutsInside rows q count (length ws)) (sym (c.undo_at.ensures.others x (λ e. omega (arith, e, l, less)))) (c.loop-back.invariant.inside x q (omega (arith, l, less, more)) there);
      back = λ before put lost.
          let h : ArePut rows puts count before now (k + 1) = subst (λ (n : ℕ). ArePut rows puts count before now n) more (c.loop-back.invariant.back before put lost) in
          let is = h.put k p (omega arith) at in
          let same : length (slice_index_or now k []) ≡ length (slice_index_or before k []) = ap (λ (ws : List ℕ). length ws) is ∙ length-put rows [] puts count p (slice_index_or before k []) count in
          let there : k < length c.args.lost.now = omega (arith, c.loop-back-test.true, c.requires.lost) in
          let at_lost = slice_get_read c.args.lost.now (length c.args.lost.now) k c.index-lost-array.result refl there c.index-lost-array.is in
          let was = subst (λ (ws : List ℕ). WasLost rows p (slice_index_or before k []) ws count) (vec_get c.args.lost.now k c.index-lost-array.result at_lost ∙ sym c.deref.ensures.value) (lost k p (omega (arith, c.loop-back-test.true)) at).1 in
          subst (λ (n : ℕ). ArePut rows puts count before new n) less
          (put_back rows [] puts count before now new k h size (c.undo_at.ensures.undone.back (slice_index_or before k []) is same was) c.undo_at.ensures.others);
    }

pub returns-clause-back : goal.returns-clause-back
returns-clause-back c = λ before put lost.
    let none : c.args.done - c.loop-back.back ≡ 0 = omega (arith, c.loop-back-test.false) in
    all_back (values_of c.args.rows.now) [] c.args.all.now.puts.now c.args.all.now.count before (words_of c.loop-back.arrays) (subst (λ (n : ℕ). ArePut (values_of c.args.rows.now) c.args.all.now.puts.now c.args.all.now.count before (words_of c.loop-back.arrays) n) none (c.loop-back.invariant.back before put lost))

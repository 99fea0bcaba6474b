use Rattle.std.proofs.Common.{ℕ, ◌-◌, List}
use Rattle.cycle_sim.specs.Slots.{words_of}
use Rattle.lane_rows.specs.Values.{items_of, values_of}
use Rattle.batch_sim.specs.Arrays.{IsArrayRoom, ArePut, AreInsideAll, AreLost}
use Rattle.batch_sim.proofs.judge.passes.undo_arrays.Given as goal

abbrev pub invariant-loop-back : goal.invariant-loop-back
invariant-loop-back l = record {
  room : IsArrayRoom l.room l.all.count;
  inside : AreInsideAll (values_of l.rows) l.all.puts.now l.all.count (words_of l.arrays) (l.done - l.back);
  back : (before : List (List ℕ)) → ArePut (values_of l.rows) l.all.puts.now l.all.count before (words_of l.fn.arrays) l.done → AreLost (values_of l.rows) l.all.puts.now l.all.count before (items_of l.lost) l.done → ArePut (values_of l.rows) l.all.puts.now l.all.count before (words_of l.arrays) (l.done - l.back);
}

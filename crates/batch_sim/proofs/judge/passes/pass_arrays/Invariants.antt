use Rattle.cycle_sim.specs.Slots.{words_of}
use Rattle.lane_rows.specs.Values.{items_of, values_of}
use Rattle.batch_sim.specs.Arrays.{IsPassRoom, HaveLong, ArePut, AreLost, AreKept}
use Rattle.batch_sim.proofs.judge.passes.pass_arrays.Given as goal

abbrev pub invariant-loop-array : goal.invariant-loop-array
invariant-loop-array l = record {
  room : IsPassRoom l.room l.all.count;
  long : HaveLong (items_of l.lost) l.all.count;
  put : ArePut (values_of l.rows) l.all.puts.now l.all.count (words_of l.fn.arrays) (words_of l.arrays) l.array;
  lost : AreLost (values_of l.rows) l.all.puts.now l.all.count (words_of l.fn.arrays) (items_of l.lost) l.array;
  kept : AreKept (values_of l.rows) l.all.reads.now l.all.puts.now l.all.count (words_of l.fn.arrays) l.array;
}

use Rattle.std.proofs.Common.{◌∙◌, length, refl, sym, arith, rules}
use Rattle.std.proofs.lemmas.Option.{slice_get_read, slice_get_within}
use Rattle.cycle_sim.specs.Slots.{words_of}
use Rattle.lane_rows.specs.Values.{items_of, values_of}
use Rattle.batch_sim.proofs.Vectors.{some_at, length-items, all_stay}
use Rattle.batch_sim.proofs.AllPasses.{put_on, lost_on, kept_on, same_put, same_lost, all_inside}
use Rattle.batch_sim.proofs.judge.passes.pass_arrays.Goals as goal

pub pass_at-requires-clause-rows : goal.pass_at-requires-clause-rows
pass_at-requires-clause-rows c =
    let k = c.loop-array.array in
    let at = slice_get_read c.args.all.now.reads.now (length c.args.all.now.reads.now) k c.index-reads-array.result refl c.loop-array-test.true c.index-reads-array.is in
    let there = slice_get_read c.args.all.now.puts.now (length c.args.all.now.puts.now) k c.index-puts-array.result refl (omega (arith, c.loop-array-test.true, c.requires.reads, c.requires.puts)) c.index-puts-array.is in
    c.requires.rows k c.index-reads-array.result c.index-puts-array.result at there

pub undo_arrays-requires : goal.undo_arrays-requires
undo_arrays-requires c =
    let rows = values_of c.args.rows.now in
    let k = c.loop-array.array in
    let size = length-items c.pass_at.new.arrays ∙ c.pass_at.auto.arrays ∙ sym (length-items c.loop-array.arrays) in
    let stay = all_stay k (words_of c.loop-array.arrays) (words_of c.pass_at.new.arrays) (c.pass_at.ensures.passed.back c.if-not-pass_at.true) c.pass_at.ensures.others in
    let put = same_put rows c.args.all.now.reads.now c.args.all.now.puts.now c.args.all.now.count (words_of c.args.arrays.now) (words_of c.loop-array.arrays) (words_of c.pass_at.new.arrays) k size stay c.loop-array.invariant.put in
    record {
      done = omega (arith, c.loop-array-test.true, c.requires.reads, c.pass_at.auto.arrays, c.loop-array.auto.arrays);
      puts = omega (arith, c.loop-array-test.true, c.requires.reads, c.requires.puts);
      lost = omega (arith, c.loop-array-test.true, c.requires.reads, c.requires.losts, c.pass_at.auto.lost, c.loop-array.auto.lost);
      atoms = λ x p at.
          let r = some_at c.args.all.now.reads.now x (omega (arith, slice_get_within c.args.all.now.puts.now x p at, c.requires.reads, c.requires.puts)) in
          let h = c.requires.rows x r.0 p r.1 at in
          (h.index, h.value);
      room = c.pass_at.ensures.room.room.spares;
      long = c.pass_at.ensures.room.lost;
      inside = all_inside rows c.args.all.now.reads.now c.args.all.now.puts.now c.args.all.now.count (words_of c.args.arrays.now) (items_of c.loop-array.lost) (words_of c.pass_at.new.arrays) k put c.loop-array.invariant.lost;
    }

pub returns-then-not-pass_at-clause-passed : goal.returns-then-not-pass_at-clause-passed
returns-then-not-pass_at-clause-passed c =
    let rows = values_of c.args.rows.now in
    let k = c.loop-array.array in
    let size = length-items c.pass_at.new.arrays ∙ c.pass_at.auto.arrays ∙ sym (length-items c.loop-array.arrays) in
    let stay = all_stay k (words_of c.loop-array.arrays) (words_of c.pass_at.new.arrays) (c.pass_at.ensures.passed.back c.if-not-pass_at.true) c.pass_at.ensures.others in
    let put = same_put rows c.args.all.now.reads.now c.args.all.now.puts.now c.args.all.now.count (words_of c.args.arrays.now) (words_of c.loop-array.arrays) (words_of c.pass_at.new.arrays) k size stay c.loop-array.invariant.put in
    let lost = same_lost rows c.args.all.now.reads.now c.args.all.now.puts.now c.args.all.now.count (words_of c.args.arrays.now) (items_of c.loop-array.lost) (items_of c.pass_at.new.lost) k c.pass_at.ensures.other_lost c.loop-array.invariant.lost in
    record {
      kept = search rules;
      put = search rules;
      back = λ _. c.undo_arrays.ensures.back (words_of c.args.arrays.now) put lost;
    }

pub loop-array-preserved : goal.loop-array-preserved
loop-array-preserved c =
    let rows = values_of c.args.rows.now in
    let reads = c.args.all.now.reads.now in
    let puts = c.args.all.now.puts.now in
    let count = c.args.all.now.count in
    let k = c.loop-array.array in
    let r = c.index-reads-array.result in
    let p = c.index-puts-array.result in
    let before = words_of c.args.arrays.now in
    let now = words_of c.loop-array.arrays in
    let new = words_of c.pass_at.new.arrays in
    let at = slice_get_read reads (length reads) k r refl c.loop-array-test.true c.index-reads-array.is in
    let there = slice_get_read puts (length puts) k p refl (omega (arith, c.loop-array-test.true, c.requires.reads, c.requires.puts)) c.index-puts-array.is in
    let size = length-items c.pass_at.new.arrays ∙ c.pass_at.auto.arrays ∙ sym (length-items c.loop-array.arrays) in
    let yes = c.if-not-pass_at.false in
    let kept = c.pass_at.ensures.passed.kept yes in
    record {
      room = c.pass_at.ensures.room.room;
      long = c.pass_at.ensures.room.lost;
      put = put_on rows reads puts count before now new k c.loop-array.invariant.put p there size c.pass_at.ensures.others (c.pass_at.ensures.passed.words yes);
      lost = lost_on rows reads puts count before now new k c.loop-array.invariant.put p there size c.pass_at.ensures.others (items_of c.loop-array.lost) (items_of c.pass_at.new.lost) c.loop-array.invariant.lost kept.put_inside (c.pass_at.ensures.passed.lost yes) c.pass_at.ensures.other_lost;
      kept = kept_on rows reads puts count before now new k c.loop-array.invariant.put p there size c.pass_at.ensures.others r at c.loop-array.invariant.kept kept;
    }

pub returns-then-not-pass_at-clause-room : goal.returns-then-not-pass_at-clause-room
returns-then-not-pass_at-clause-room c = record {
  room = record { spares = c.undo_arrays.ensures.room; to = c.pass_at.ensures.room.room.to };
  lost = c.pass_at.ensures.room.lost;
}

use Rattle.std.proofs.Common.{Vec, ◌≤◌, ◌∙◌, ℕ, List, length, ap, sym, subst, arith}
use Rattle.std.specs.Prelude.{slice_index}
use Rattle.std.specs.declared.alloc.Global.{Global}
use Rattle.lane_rows.specs.Values.{values_of}
use Rattle.lane_rows.proofs.LaneRows.{placed, placed_other}
use Rattle.batch_code.specs.Rows.{atom_at, words_put, KeepsArray}
use Rattle.batch_sim.proofs.Vectors.{vec_at, length-items, long_on}
use Rattle.batch_sim.proofs.judge.passes.pass_at.Goals as goal

pub pass_vec-requires-clause-lost : goal.pass_vec-requires-clause-lost
pass_vec-requires-clause-lost c = subst (λ (ws : List ℕ). c.args.access.now.count ≤ length ws) (sym (vec_at c.args.lost.now c.args.array c.index-lost-array.result c.requires.place)) (c.requires.room.lost c.args.array (omega (arith, c.requires.place, length-items c.args.lost.now)))

pub returns-clause-room : goal.returns-clause-room
returns-clause-room c = record {
  room = c.pass_vec.ensures.room;
  lost = long_on c.args.lost.now c.args.array c.pass_vec.new.lost c.index-lost-array.result c.requires.place c.args.access.now.count c.pass_vec.ensures.long c.requires.room.lost;
}

pub returns-clause-passed : goal.returns-clause-passed
returns-clause-passed c =
    let rows = values_of c.args.rows.now in
    let access = c.args.access.now in
    let at = vec_at c.args.arrays.now c.args.array c.index-arrays-array.result c.requires.array in
    let here = placed (λ (v : Vec ℕ Global). v.items) c.args.arrays.now c.args.array c.pass_vec.new.words c.requires.array in
    record {
      kept = λ yes. subst (λ (ws : List ℕ). KeepsArray rows access.count ws access.read.now access.put.now) at (c.pass_vec.ensures.passed.kept yes);
      words = λ yes. here ∙ c.pass_vec.ensures.passed.words yes ∙ ap (λ (ws : List ℕ). words_put rows access.put.now ws access.count) at;
      lost = λ yes t l only.
          ap (λ (r : List ℕ). slice_index r t) (placed (λ (v : Vec ℕ Global). v.items) c.args.lost.now c.args.array c.pass_vec.new.lost c.requires.place)
          ∙ c.pass_vec.ensures.passed.lost yes t l (λ one. only (ap (λ (ws : List ℕ). length ws) (sym at) ∙ one))
          ∙ ap (λ (ws : List ℕ). slice_index (words_put rows access.put.now ws t) (atom_at rows t access.put.now.index)) at;
      back = λ no. here ∙ c.pass_vec.ensures.passed.back no ∙ at;
    }

pub returns-clause-others : goal.returns-clause-others
returns-clause-others c = λ x apart. placed_other (λ (v : Vec ℕ Global). v.items) c.args.arrays.now c.args.array x c.pass_vec.new.words apart

pub returns-clause-other_lost : goal.returns-clause-other_lost
returns-clause-other_lost c = λ x apart. placed_other (λ (v : Vec ℕ Global). v.items) c.args.lost.now c.args.array x c.pass_vec.new.lost apart

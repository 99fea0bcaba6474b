use Rattle.std.proofs.Common.{Vec, ◌∙◌, ℕ, List, length, ap, sym, subst}
use Rattle.std.specs.declared.alloc.Global.{Global}
use Rattle.lane_rows.specs.Values.{values_of}
use Rattle.lane_rows.proofs.LaneRows.{placed, placed_other}
use Rattle.batch_sim.specs.Arrays.{CanUndo}
use Rattle.batch_sim.proofs.Vectors.{vec_at}
use Rattle.batch_sim.proofs.judge.passes.undo_at.Goals as goal

pub undo_vec-requires : goal.undo_vec-requires
undo_vec-requires c = subst (λ (ws : List ℕ). CanUndo (values_of c.args.rows.now) c.args.room.now c.args.undo.now (length ws)) (sym (vec_at c.args.arrays.now c.args.array c.index-arrays-array.result c.requires.array)) c.requires.undo

pub returns-clause-undone : goal.returns-clause-undone
returns-clause-undone c =
    let is = vec_at c.args.arrays.now c.args.array c.index-arrays-array.result c.requires.array in
    let here = placed (λ (v : Vec ℕ Global). v.items) c.args.arrays.now c.args.array c.undo_vec.new.words c.requires.array in
    record {
      room = c.undo_vec.ensures.room;
      long = ap (λ (ws : List ℕ). length ws) here ∙ c.undo_vec.ensures.long ∙ ap (λ (ws : List ℕ). length ws) is;
      back = λ before put same was. here ∙ c.undo_vec.ensures.back before (is ∙ put) (ap (λ (ws : List ℕ). length ws) is ∙ same) was;
    }

pub returns-clause-others : goal.returns-clause-others
returns-clause-others c = λ x apart. placed_other (λ (v : Vec ℕ Global). v.items) c.args.arrays.now c.args.array x c.undo_vec.new.words apart

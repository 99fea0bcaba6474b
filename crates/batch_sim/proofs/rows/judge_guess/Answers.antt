use Rattle.std.proofs.Common.{List, sym, subst}
use Rattle.lane_rows.specs.declared.row.Row.{Row}
use Rattle.lane_rows.specs.Values.{values_of}
use Rattle.batch_guess.specs.declared.engine.Engine.{Engine}
use Rattle.batch_sim.specs.Engine.{CanJudge, JudgesRows}
use Rattle.batch_sim.proofs.rows.judge_guess.Goals as goal

pub judge-requires-clause-rows : goal.judge-requires-clause-rows
judge-requires-clause-rows c =
    subst (λ (e : Engine). CanJudge e (values_of c.rows.result.now) c.args.room.now c.args.lost.now.items c.args.stored.now c.args.piece.now) (sym c.engine.ensures)
    (subst (λ (rs : List Row). CanJudge c.args.guess.now.engine (values_of rs) c.args.room.now c.args.lost.now.items c.args.stored.now c.args.piece.now) (sym c.rows.ensures) c.requires)

pub returns : goal.returns
returns c =
    subst (λ (e : Engine). JudgesRows e (values_of c.args.guess.now.rows) c.args.piece.now c.args.stored.now c.judge.new.stored c.judge.result) c.engine.ensures
    (subst (λ (rs : List Row). JudgesRows c.engine.result.now (values_of rs) c.args.piece.now c.args.stored.now c.judge.new.stored c.judge.result) c.rows.ensures c.judge.ensures)

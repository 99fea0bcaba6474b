use Rattle.std.proofs.Common.{arith, length, ap, sym, subst, ◌∙◌}
use Rattle.batch_code.specs.Rows.{RowsRan}
use Rattle.batch_guess.specs.declared.engine.Engine.{Engine}
use Rattle.batch_guess.specs.Guess.{Guessed}
use Rattle.lane_rows.specs.Values.{values_of}
use Rattle.batch_sim.specs.Pieces.{clocks_in}
use Rattle.batch_sim.specs.Stored.{contents_in}
use Rattle.batch_sim.proofs.Judged.{rows_as}
use Rattle.batch_sim.proofs.rows.run_piece.Goals as goal

pub judge_rows-requires-clause-all : goal.judge_rows-requires-clause-all
judge_rows-requires-clause-all c =
    c.guess.ensures.all c.if-not-guess.false ∙ ap (λ (e : Engine). length e.code.instructions.items) (sym c.guess.ensures.code.0)

pub returns-clause-rows : goal.returns-clause-rows
returns-clause-rows c =
    rows_as c.args.sim.now.netlist c.args.rows.now c.judge_rows.new.rows c.requires.rows
    (ap (λ (g : Guessed). g.engine) c.judge_rows.ensures.guess ∙ c.guess.ensures.code.0, ap (λ (g : Guessed). g.long) c.judge_rows.ensures.guess ∙ c.guess.ensures.code.1)
    c.judge_rows.ensures.size

pub returns-clause-tries : goal.returns-clause-tries
returns-clause-tries c =
    let tries = c.judge_rows.ensures.tries in
    record {
      most = λ yes. omega (arith, tries.most yes, c.judge_rows.ensures.size);
      fits = tries.fits;
      ran = λ yes. subst (λ (g : Guessed). RowsRan c.args.sim.now.netlist (clocks_in c.args.sim.now.netlist c.args.piece.now) (contents_in c.args.stored.now) (contents_in c.judge_rows.new.stored) (values_of g.rows)) (sym c.judge_rows.ensures.guess) (tries.ran yes);
      back = tries.back;
    }

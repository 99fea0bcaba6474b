use Rattle.std.proofs.Common.{List, sym, subst}
use Rattle.lane_rows.specs.declared.row.Row.{Row}
use Rattle.lane_rows.specs.Values.{values_of}
use Rattle.batch_guess.specs.declared.engine.Engine.{Engine}
use Rattle.batch_sim.specs.Shown.{AreShownIn, CanShowAll}
use Rattle.batch_sim.proofs.rows.show_guess.Goals as goal

pub show_rows-requires : goal.show_rows-requires
show_rows-requires c =
    subst (λ (e : Engine). CanShowAll c.rows.result.now e.code.first_output c.args.count c.args.clocks c.args.outs.now) (sym c.engine-engine.ensures)
    (subst (λ (rs : List Row). CanShowAll rs c.args.guess.now.engine.code.first_output c.args.count c.args.clocks c.args.outs.now) (sym c.rows.ensures) c.requires)

pub returns : goal.returns
returns c =
    subst (λ (e : Engine). AreShownIn (values_of c.args.guess.now.rows) e.code.first_output c.args.count c.args.clocks c.show_rows.new.outs) c.engine-engine.ensures
    (subst (λ (rs : List Row). AreShownIn (values_of rs) c.engine-engine.result.now.code.first_output c.args.count c.args.clocks c.show_rows.new.outs) c.rows.ensures c.show_rows.ensures)

use Rattle.std.proofs.Common.{Bool, sym, ap, subst, ◌∙◌}
use Rattle.std.specs.Prelude.{IsTrue, if◌then◌else◌, ◌+◌}
use Rattle.wiring.specs.declared.netlist.Net.TheVariants.{Input}
use Rattle.wiring.specs.Snapshot.{net_value}
use Rattle.net_build.proofs.Fitting.{array_long}
use Rattle.net_build.proofs.Parts.{at_Begins}
use Rattle.net_build.proofs.Runs.{reset_shown, enable_shown, din_shown}
use Rattle.net_build.proofs.Runs.{clock_more, clock_contents, clock_inputs, clock_before, run_clock}
use Rattle.net_build.proofs.Stops.{below_more, stays_more, still_more}
use Rattle.net_build.proofs.laws.runs_last_law.Goals as goal

pub returns-clause-part : goal.returns-clause-part
returns-clause-part c b a m from before d s f is = clock_more b a m from before d s f is

pub returns-clause-fit : goal.returns-clause-fit
returns-clause-fit c part m from before d s is = (clock_contents part m from before d s is, clock_inputs part m from before d s is)

pub returns-clause-before : goal.returns-clause-before
returns-clause-before c part m from before d e s is = clock_before part m from before d e s is

pub returns-clause-run : goal.returns-clause-run
returns-clause-run c part m from clocks shots to k d s whole start fit runs at_c at_s = run_clock part m from clocks shots to k d s whole start fit runs at_c at_s

pub returns-clause-below : goal.returns-clause-below
returns-clause-below c b a n net f is = below_more b a n net f is

pub returns-clause-inside : goal.returns-clause-inside
returns-clause-inside c b a access f is = stays_more b a access f is

pub returns-clause-still : goal.returns-clause-still
returns-clause-still c b a copies h f is = still_more b a copies h f is

pub returns-clause-words : goal.returns-clause-words
returns-clause-words c part m from before d s x shape is there = array_long m s.contents x shape (clock_contents part m from before d s is) (at_Begins part.arrays m.arrays x shape is.whole.includes.arrays there)

pub returns-clause-reset : goal.returns-clause-reset
returns-clause-reset c part m from before d s is = reset_shown m from before d s is.at

pub returns-clause-enable : goal.returns-clause-enable
returns-clause-enable c part m from before d s is on = enable_shown m from before d s is.at (subst IsTrue (sym is.whole.includes.enable) on)

pub returns-clause-din : goal.returns-clause-din
returns-clause-din c part m from before d s k is = ap (λ (e : Bool). net_value s (Input ((if e then 2 else 1) + k))) (sym is.whole.includes.enable) ∙ din_shown m from before d s k is.at

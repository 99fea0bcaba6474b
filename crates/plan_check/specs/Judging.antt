-- Which lines of a report are wrong, and what is answered.
use Rattle.std.specs.Prelude.{◌≡◌, ℕ, ◌≤◌, List, [], ◌∷◌, ◌++◌, length, slice_index_or}
use Rattle.dk_base.specs.declared.TheConstants.{MAX_SIDE}
use Rattle.raster_delay.specs.Systems.{System, image_count, bits}
use Rattle.report_text.specs.declared.report.FlowLine.{FlowLine}
use Rattle.report_text.specs.declared.report.FlowLine.TheVariants.{Hold}
use Rattle.report_text.specs.Reports.{Report, Ascend}
use Rattle.plan_check.specs.declared.verdict.Verdict.{Verdict}
use Rattle.plan_check.specs.declared.verdict.Verdict.TheVariants.{Yes, No}
use Rattle.plan_check.specs.First.{IsFirst}
use Rattle.plan_check.specs.Rules.{each, Keeps, Breaks}
use Rattle.plan_check.specs.Numbering.{image_number, latency_number, clocks_number, bits_number, flow_number, last_number}
use Rattle.plan_check.specs.Holding.{ImageHolds, LatencyHolds, delays, clocks_of, HasConstraint, FlowHolds}

-- the flow line at place k
abbrev pub line_at : List FlowLine → ℕ → FlowLine
line_at flow k = slice_index_or flow k (Hold 0 0)

-- the flow line at place k names a constraint
abbrev pub NamesConstraint : System → List FlowLine → ℕ → Type 0
NamesConstraint s flow k = HasConstraint s (line_at flow k)

-- the rules by the printed numbers, in the order of the lines
abbrev pub number_rules : System → Report → List (ℕ × Type 0)
number_rules s r =
    each (image_number r) (length r.images) (ImageHolds s r.images)
    ++ (each (latency_number r) (length r.latencies) (LatencyHolds s r.images r.latencies)
    ++ ((clocks_number r, r.clocks ≡ clocks_of r)
    ∷ (bits_number r, r.bits ≡ bits s (delays r))
    ∷ (each (flow_number r) (length r.flow) (NamesConstraint s r.flow)
    ++ ((last_number r, FlowHolds s r.flow r.bits) ∷ []))))

-- what is answered
abbrev pub Judges : System → Report → Verdict → Type 0
Judges s r Yes = Keeps (number_rules s r)
Judges s r (No line) = IsFirst (Breaks (number_rules s r)) line

-- A report at the system's age, of as many images and outputs as the system has, and in whose text the flow lines are in order. Every report that meets its version and is of this age and these counts suits.
pub record Suits (s : System) (r : Report) : Type 0 where
  pub age : r.age ≡ s.age
  pub columns : r.width ≤ MAX_SIDE
  pub rows : r.height ≤ MAX_SIDE
  pub images : length r.images ≡ image_count s
  pub latencies : length r.latencies ≡ length s.stencils.outputs
  pub ascending : Ascend r.flow

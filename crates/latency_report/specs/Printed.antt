-- The report of a plan.
use Rattle.std.specs.Prelude.{ℕ, ◌&&◌, List, [], length, map, nat_eq, if◌then◌else◌, slice_index, slice_index_or}
use Rattle.std.specs.List.{enumerate_from}
use Rattle.dk_base.specs.Stencils.{place}
use Rattle.dk_base.specs.declared.stencils.Image.{Image}
use Rattle.dk_base.specs.declared.TheConstants.{MAX_BUFFER_BITS, MAX_LATENCY}
use Rattle.pointwise_ir.specs.Programs.{Program, names_of}
use Rattle.raster_delay.specs.Systems.{System, depth, bits}
use Rattle.buffer_plan.specs.Plans.{Plan, clocks}
use Rattle.report_text.specs.declared.report.ImageLine.{ImageLine}
use Rattle.report_text.specs.Reports.{Report}
use Rattle.plan_check.specs.Flows.{makers, carried}

abbrev pub name_of : Program → ℕ → List ℕ
name_of p g = slice_index_or (names_of p) g []

-- the line of the kept image at place k
abbrev pub line_of : Program → Plan → ℕ × Image → ImageLine
line_of p plan x = record { name = name_of p x.1.number; width = x.1.width; delay = slice_index plan.delays x.0; depth = depth plan.system plan.delays x.0 }

abbrev pub image_lines : Program → Plan → List ImageLine
image_lines p plan = map (line_of p plan) (enumerate_from 0 plan.system.stencils.images)

-- the delay of each output
abbrev pub latencies : Plan → List ℕ
latencies plan = map (λ g. slice_index plan.delays (place plan.system.stencils.images g)) plan.system.stencils.outputs

-- version 2 for one input and one output, and version 3 for any other
abbrev pub version_of : System → ℕ
version_of s = if nat_eq s.stencils.inputs 1 && nat_eq (length s.stencils.outputs) 1 then 2 else 3

-- the report of a program's plan, with a flow
abbrev pub report_of : Program → Plan → List ℕ → Report
report_of p plan flow = record {
  version = version_of plan.system;
  bits_limit = MAX_BUFFER_BITS;
  latency_limit = MAX_LATENCY;
  age = plan.system.age;
  width = plan.system.stencils.width;
  height = plan.system.stencils.height;
  images = image_lines p plan;
  latencies = latencies plan;
  clocks = clocks plan;
  bits = bits plan.system plan.delays;
  reads = length plan.system.stencils.reads;
  flow = carried (makers plan.system) flow;
}

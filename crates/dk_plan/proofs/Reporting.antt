-- What is written of a system's plan is a report of it.
use Rattle.std.proofs.Common.{◌≡◌, ◌∙◌, ℕ, ◌+◌, ◌<◌, ◌≤◌, List, length, slice_index, refl, sym, ap, subst, arith}
use Rattle.std.specs.List.{enumerate_from}
use Rattle.std.proofs.lemmas.List.{ext_get_or, length-map, get_or-map}
use Rattle.std.proofs.lemmas.List.FromFn.{length-enumerate_from, get_or-enumerate_from}
use Rattle.dk_base.specs.declared.stencils.Image.{Image}
use Rattle.dk_base.specs.declared.TheConstants.{MAX_LATENCY}
use Rattle.pointwise_ir.specs.Programs.{Program, names_of}
use Rattle.raster_delay.specs.Systems.{System, image_count}
use Rattle.flow_dual.specs.declared.solution.Solution.{Solution}
use Rattle.flow_dual.specs.Solutions.{IsLeastVector, IsSolution}
use Rattle.buffer_plan.specs.Plans.{Plan}
use Rattle.report_text.specs.declared.report.ImageLine.{ImageLine}
use Rattle.report_text.specs.Reports.{Meets}
use Rattle.report_text.specs.Layout.{layout}
use Rattle.latency_report.specs.Printed.{line_of, image_lines, report_of}
use Rattle.plan_check.specs.Holding.{delays_of}
use Rattle.plan_check.specs.Program.{HoldsOf}
use Rattle.buffer_plan.specs.Limits.{latency_in, IsWithinLimits}
use Rattle.dk_plan.specs.Planned.{IsReportText}

module _ (p : Program) (s : System) (x : Solution) where
  abbrev plan : Plan
  plan = record { system = s; delays = x.delays }

  abbrev lines : List ImageLine
  lines = image_lines p plan

  -- the delays that the image lines print
  printed_delays : length x.delays ≡ image_count s → delays_of lines ≡ x.delays
  printed_delays one_each =
      let none : Image = record { number = 0; width = 0 } in
      let some : ImageLine = line_of p plan (0, none) in
      let places = enumerate_from 0 s.stencils.images in
      let long = length-enumerate_from 0 s.stencils.images in
      let size = length-map places (line_of p plan) in
      let all = length-map lines (λ (i : ImageLine). i.delay) in
      ext_get_or 0 (delays_of lines) x.delays (omega (arith, all, size, long, one_each)) (λ k lt.
      let inside : k < image_count s = omega (arith, lt, all, size, long) in
      get_or-map (λ (i : ImageLine). i.delay) lines k some 0 (omega (arith, inside, size, long))
      ∙ (ap (λ (i : ImageLine). i.delay) (get_or-map (line_of p plan) places k (0, none) some (omega (arith, inside, long)) ∙ ap (line_of p plan) (get_or-enumerate_from 0 s.stencils.images k (0, none) inside))
      ∙ ap (slice_index x.delays) (let e : 0 + k ≡ k = omega arith in e)))

  pub report_text : (q : Plan) (bytes : List ℕ) → q ≡ plan → IsSolution s x → IsWithinLimits s x.delays → Meets (report_of p q x.flow) → HoldsOf (names_of p) s (report_of p plan x.flow)
      → bytes ≡ layout (report_of p q x.flow) → IsReportText (names_of p) s bytes
  report_text q bytes e is within meets holds written =
      let same = printed_delays is.vector.causal.one_each in
      record {
        report = report_of p plan x.flow;
        stands = record {
          meets = subst (λ (r : Plan). Meets (report_of p r x.flow)) e meets;
          written = written ∙ ap (λ (r : Plan). layout (report_of p r x.flow)) e;
        };
        is = record {
          version = refl;
          bits_limit = refl;
          latency_limit = refl;
          age = refl;
          holds = holds;
          least = subst (IsLeastVector s) (sym same) is.vector;
          few_bits = within.few_bits;
          short = subst (λ d. latency_in s d ≤ MAX_LATENCY) (sym same) within.short;
        };
      }

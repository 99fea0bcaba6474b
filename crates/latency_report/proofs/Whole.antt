-- A report is put together from its parts.
use Rattle.std.proofs.Common.{◌≡◌, ◌∙◌, ℕ, List, length, refl, sym, ap, subst}
use Rattle.dk_base.specs.declared.stencils.LiveRead.{LiveRead}
use Rattle.pointwise_ir.specs.Programs.{Program}
use Rattle.raster_delay.specs.Systems.{System}
use Rattle.buffer_plan.specs.Plans.{Plan, clocks, bits_of}
use Rattle.report_text.specs.declared.report.ImageLine.{ImageLine}
use Rattle.report_text.specs.declared.report.FlowLine.{FlowLine}
use Rattle.report_text.specs.Reports.{Report}
use Rattle.latency_report.specs.Printed.{image_lines, latencies, version_of, report_of}
use Rattle.plan_check.specs.Flows.{makers, carried}

module _ (p : Program) (s : System) (d flow : List ℕ) where
  pub whole : (plan : Plan) (version age width height : ℕ) (images : List ImageLine) (delays : List ℕ) (all bits : ℕ) (reads : List LiveRead) (shown : List ℕ) (lines : List FlowLine)
      → plan ≡ record { system = s; delays = d }
      → version ≡ version_of s → age ≡ s.age → width ≡ s.stencils.width → height ≡ s.stencils.height
      → images ≡ image_lines p (record { system = s; delays = d }) → delays ≡ latencies plan → all ≡ clocks plan → bits ≡ bits_of plan
      → reads ≡ s.stencils.reads → shown ≡ flow → lines ≡ carried (makers s) shown
      → (let r : Report = record { version = version; bits_limit = 67108864; latency_limit = 67108864; age = age; width = width; height = height; images = images; latencies = delays; clocks = all; bits = bits; reads = length reads; flow = lines } in r)
      ≡ report_of p plan flow
  whole plan version age width height images delays all bits reads shown lines is e1 e2 e3 e4 e5 e6 e7 e8 e9 e10 e11 =
      let f6 = e6 ∙ ap latencies is in
      let f7 = e7 ∙ ap clocks is in
      let f8 = e8 ∙ ap bits_of is in
      let f11 = e11 ∙ ap (carried (makers s)) e10 in
      subst (λ (q : Plan). (let r : Report = record { version = version; bits_limit = 67108864; latency_limit = 67108864; age = age; width = width; height = height; images = images; latencies = delays; clocks = all; bits = bits; reads = length reads; flow = lines } in r) ≡ report_of p q flow)
      (sym is) (rw (e1, e2, e3, e4, e5, f6, f7, f8, e9, f11) refl)

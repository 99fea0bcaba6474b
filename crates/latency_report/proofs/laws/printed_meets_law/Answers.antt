use Rattle.std.proofs.Common.{◌≡◌, ℕ, ◌<◌, ◌^◌, List, slice_index, sym, subst}
use Rattle.buffer_plan.specs.Plans.{Plan, IsPlan}
use Rattle.report_text.specs.Reports.{Meets}
use Rattle.latency_report.specs.Printed.{report_of}
use Rattle.latency_report.proofs.Meeting.{meets}
use Rattle.latency_report.proofs.laws.printed_meets_law.Goals as goal

below : (xs ys : List ℕ) → xs ≡ ys → ((k : ℕ) → slice_index xs k < 2 ^ 64) → (k : ℕ) → slice_index ys k < 2 ^ 64
below xs ys e h k = subst (λ (l : List ℕ). slice_index l k < 2 ^ 64) e (h k)

pub returns : goal.returns
returns c =
    subst (λ (plan : Plan). Meets (report_of c.args.ir.now plan c.args.solution.now.flow)) (sym c.requires.plan)
    (meets c.args.ir.now c.args.system.now c.args.solution.now.delays c.args.solution.now.ends c.args.solution.now.flow (record {
      plan = subst IsPlan c.requires.plan c.law.ensures;
      images = c.requires.images;
      names = c.requires.names.each;
      distinct = c.requires.names.distinct;
      few = c.requires.names.few;
      ends_are = c.requires.solution.ends_are;
      ends_most = below _ _ c.as_slice.ensures c.fit.ensures;
      flow_most = below _ _ c.as_slice-2.ensures c.fit-2.ensures;
    }))

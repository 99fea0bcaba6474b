use Rattle.std.proofs.Common.{◌≡◌, ◌<◌, ◌+◌, ℕ, length, arith, subst}
use Rattle.report_text.specs.Reports.{parts_of}
use Rattle.plan_check.specs.First.{IsFirst, Misses}
use Rattle.plan_check.specs.Rules.{Breaks}
use Rattle.plan_check.specs.Numbering.{latency_number}
use Rattle.plan_check.specs.Holding.{LatencyHolds}
use Rattle.plan_check.specs.Judging.{number_rules}
use Rattle.plan_check.proofs.Firsts.{images_keep, wrong_latency}
use Rattle.plan_check.proofs.checking.faulty_latency.Goals as goal

pub returns-in-None : goal.returns-in-None
returns-in-None c =
    let s = c.args.system.now in
    let r = parts_of c.args.report.now in
    record {
      suits = c.requires.suits;
      images = c.requires.images;
      latencies = subst (λ xs. (k : ℕ) → k < length r.latencies → LatencyHolds s xs r.latencies k) c.deref.ensures.value
          (subst (λ ys. (k : ℕ) → k < length ys → LatencyHolds s c.deref.result.now ys k) c.deref-2.ensures.value c.in-None.ensures);
    }

pub returns-in-Some : goal.returns-in-Some
returns-in-Some c =
    let s = c.args.system.now in
    let r = parts_of c.args.report.now in
    let w = c.in-Some.k in
    let e : latency_number r w ≡ c.size_line.result + c.len.result + 1 + w = omega (arith, c.size_line.ensures.value, c.len.ensures) in
    subst (IsFirst (Breaks (number_rules s r))) e (wrong_latency s r (images_keep s r c.requires.images) w
    (subst (λ xs. IsFirst (Misses (λ k. LatencyHolds s xs r.latencies k) (length r.latencies)) w) c.deref.ensures.value
    (subst (λ ys. IsFirst (Misses (λ k. LatencyHolds s c.deref.result.now ys k) (length ys)) w) c.deref-2.ensures.value c.in-Some.ensures)))

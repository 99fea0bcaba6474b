use Rattle.std.proofs.Common.{◌≡◌, ◌+◌, length, arith, subst}
use Rattle.report_text.specs.Reports.{parts_of}
use Rattle.plan_check.specs.First.{IsFirst, Misses}
use Rattle.plan_check.specs.Rules.{Breaks}
use Rattle.plan_check.specs.Numbering.{flow_number}
use Rattle.plan_check.specs.Holding.{HasConstraint}
use Rattle.plan_check.specs.Judging.{line_at, number_rules}
use Rattle.plan_check.proofs.Firsts.{images_keep, latencies_keep, wrong_constraint}
use Rattle.plan_check.proofs.checking.faulty_constraint.Goals as goal

pub returns-in-Some : goal.returns-in-Some
returns-in-Some c =
    let s = c.args.system.now in
    let r = parts_of c.args.report.now in
    let w = c.in-Some.k in
    let e : flow_number r w ≡ c.bits_line.result + c.between.result + 1 + w = omega (arith, c.bits_line.ensures.value, c.between.ensures.before) in
    subst (IsFirst (Breaks (number_rules s r))) e (wrong_constraint s r (images_keep s r c.requires.images) (latencies_keep s r (images_keep s r c.requires.images) c.requires.latencies) (c.requires.clocks, (c.requires.bits, tt)) w
    (subst (λ xs. IsFirst (Misses (λ k. HasConstraint s (line_at xs k)) (length xs)) w) c.deref.ensures.value c.in-Some.ensures))

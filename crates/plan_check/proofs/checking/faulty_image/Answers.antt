use Rattle.std.proofs.Common.{◌≡◌, ◌<◌, ◌+◌, ℕ, length, arith, subst}
use Rattle.report_text.specs.Reports.{parts_of}
use Rattle.plan_check.specs.First.{IsFirst, Misses}
use Rattle.plan_check.specs.Rules.{Breaks}
use Rattle.plan_check.specs.Numbering.{image_number}
use Rattle.plan_check.specs.Holding.{ImageHolds}
use Rattle.plan_check.specs.Judging.{number_rules}
use Rattle.plan_check.proofs.Firsts.{wrong_image}
use Rattle.plan_check.proofs.checking.faulty_image.Goals as goal

pub returns-in-None : goal.returns-in-None
returns-in-None c =
    let s = c.args.system.now in
    record {
      suits = c.requires;
      images = subst (λ xs. (k : ℕ) → k < length xs → ImageHolds s xs k) c.deref.ensures.value c.in-None.ensures;
    }

pub returns-in-Some : goal.returns-in-Some
returns-in-Some c =
    let s = c.args.system.now in
    let r = parts_of c.args.report.now in
    let w = c.in-Some.k in
    let e : image_number r w ≡ c.size_line.result + 1 + w = omega (arith, c.size_line.ensures.value) in
    subst (IsFirst (Breaks (number_rules s r))) e (wrong_image s r w (subst (λ xs. IsFirst (Misses (λ k. ImageHolds s xs k) (length xs)) w) c.deref.ensures.value c.in-Some.ensures))

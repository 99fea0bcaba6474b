use Rattle.std.proofs.Common.{◌≡◌, ◌<◌, ◌+◌, ℕ, length, arith, refl, sym, subst}
use Rattle.pointwise_ir.specs.Programs.{names_of}
use Rattle.report_text.specs.Reports.{parts_of}
use Rattle.plan_check.specs.First.{IsFirst, Misses}
use Rattle.plan_check.specs.Rules.{Breaks}
use Rattle.plan_check.specs.Numbering.{image_number}
use Rattle.plan_check.specs.Program.{IsOfSize, IsNamed, program_rules}
use Rattle.plan_check.proofs.Foreigns.{wrong_size, wrong_name}
use Rattle.plan_check.proofs.program.foreign_image.Goals as goal

pub returns-then-not-is_of_size : goal.returns-then-not-is_of_size
returns-then-not-is_of_size c =
    let names = names_of c.args.ir.now in
    let s = c.args.stencils.now in
    let r = parts_of c.args.report.now in
    subst (IsFirst (Breaks (program_rules names s r))) (sym c.size_line.ensures.value) (wrong_size names s r (λ h. let e : ⊥ = cc (c.if-not-is_of_size.ensures.1 h) in e))

pub returns-in-None : goal.returns-in-None
returns-in-None c =
    let names = names_of c.args.ir.now in
    let s = c.args.stencils.now in
    record {
      few = c.requires.few;
      size = c.if-not-is_of_size.ensures.0 refl;
      named = subst (λ xs. (k : ℕ) → k < length xs → IsNamed names s xs k) c.deref.ensures.value c.in-None.ensures;
    }

pub returns-in-Some : goal.returns-in-Some
returns-in-Some c =
    let names = names_of c.args.ir.now in
    let s = c.args.stencils.now in
    let r = parts_of c.args.report.now in
    let w = c.in-Some.k in
    let right : IsOfSize s r = c.if-not-is_of_size.ensures.0 refl in
    let e : image_number r w ≡ c.size_line-in-Some.result + 1 + w = omega (arith, c.size_line-in-Some.ensures.value) in
    subst (IsFirst (Breaks (program_rules names s r))) e (wrong_name names s r right w (subst (λ xs. IsFirst (Misses (λ k. IsNamed names s xs k) (length xs)) w) c.deref.ensures.value c.in-Some.ensures))

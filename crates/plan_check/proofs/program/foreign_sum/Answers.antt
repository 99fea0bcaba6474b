use Rattle.std.proofs.Common.{◌≡◌, ◌<◌, ◌≤◌, ◌+◌, length, arith, refl, ap, sym, subst}
use Rattle.pointwise_ir.specs.Programs.{names_of}
use Rattle.report_text.specs.Reports.{parts_of}
use Rattle.plan_check.specs.First.{IsFirst}
use Rattle.plan_check.specs.Rules.{Breaks}
use Rattle.plan_check.specs.Numbering.{bits_number}
use Rattle.plan_check.specs.Program.{program_rules}
use Rattle.plan_check.proofs.Foreigns.{names_keep, outputs_keep, few_latencies, wrong_reads, none_foreign}
use Rattle.plan_check.proofs.program.foreign_sum.Goals as goal

pub returns-then-len-outputs : goal.returns-then-len-outputs
returns-then-len-outputs c =
    let names = names_of c.args.ir.now in
    let s = c.args.stencils.now in
    let r = parts_of c.args.report.now in
    let few : length r.latencies < length s.outputs = omega (arith, c.len.ensures, ap length c.outputs.ensures, c.if-len-outputs.true) in
    subst (IsFirst (Breaks (program_rules names s r))) (sym c.clocks_line.ensures.value) (few_latencies names s r (names_keep names s r c.requires.size c.requires.named) (outputs_keep names s r (names_keep names s r c.requires.size c.requires.named) c.requires.enough c.requires.outputs) (λ enough. absurd (omega (arith, few, enough))))

pub returns-then-not-has_reads : goal.returns-then-not-has_reads
returns-then-not-has_reads c =
    let names = names_of c.args.ir.now in
    let s = c.args.stencils.now in
    let r = parts_of c.args.report.now in
    let enough : length s.outputs ≤ length r.latencies = omega (arith, c.len.ensures, ap length c.outputs.ensures, c.if-len-outputs.false) in
    let e : bits_number r + 1 ≡ c.bits_line.result + 1 = omega (arith, c.bits_line.ensures.value) in
    subst (IsFirst (Breaks (program_rules names s r))) e (wrong_reads names s r (names_keep names s r c.requires.size c.requires.named) (outputs_keep names s r (names_keep names s r c.requires.size c.requires.named) c.requires.enough c.requires.outputs) enough (λ h. let e : ⊥ = cc (c.if-not-has_reads.ensures.1 h) in e))

pub returns : goal.returns
returns c =
    let names = names_of c.args.ir.now in
    let s = c.args.stencils.now in
    let r = parts_of c.args.report.now in
    let enough : length s.outputs ≤ length r.latencies = omega (arith, c.len.ensures, ap length c.outputs.ensures, c.if-len-outputs.false) in
    none_foreign names s r (names_keep names s r c.requires.size c.requires.named) (outputs_keep names s r (names_keep names s r c.requires.size c.requires.named) c.requires.enough c.requires.outputs) enough (c.if-not-has_reads.ensures.0 refl)

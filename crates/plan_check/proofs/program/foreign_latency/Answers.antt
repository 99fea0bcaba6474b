use Rattle.std.proofs.Common.{◌≡◌, ◌<◌, ◌≤◌, ◌+◌, length, arith, ap, subst}
use Rattle.pointwise_ir.specs.Programs.{names_of}
use Rattle.report_text.specs.Reports.{parts_of}
use Rattle.plan_check.specs.First.{IsFirst}
use Rattle.plan_check.specs.Rules.{Breaks}
use Rattle.plan_check.specs.Numbering.{latency_number}
use Rattle.plan_check.specs.Program.{program_rules}
use Rattle.plan_check.proofs.Foreigns.{names_keep, few_images, no_output}
use Rattle.plan_check.proofs.program.foreign_latency.Goals as goal

pub returns-then-len-images : goal.returns-then-len-images
returns-then-len-images c =
    let names = names_of c.args.ir.now in
    let s = c.args.stencils.now in
    let r = parts_of c.args.report.now in
    let few : length r.images < length s.images = omega (arith, c.len-2.ensures, ap length c.images.ensures, c.if-len-images.true) in
    let e : latency_number r 0 ≡ c.size_line.result + c.len.result + 1 = omega (arith, c.size_line.ensures.value, c.len.ensures) in
    subst (IsFirst (Breaks (program_rules names s r))) e (few_images names s r (names_keep names s r c.requires.size c.requires.named) (λ enough. absurd (omega (arith, few, enough))))

pub returns-then-len-outputs : goal.returns-then-len-outputs
returns-then-len-outputs c =
    let names = names_of c.args.ir.now in
    let s = c.args.stencils.now in
    let r = parts_of c.args.report.now in
    let enough : length s.images ≤ length r.images = omega (arith, c.len-2.ensures, ap length c.images.ensures, c.if-len-images.false) in
    let more : length s.outputs < length r.latencies = omega (arith, c.len-3.ensures, ap length c.outputs.ensures, c.if-len-outputs.true) in
    let e : latency_number r (length s.outputs) ≡ c.size_line.result + c.len.result + 1 + length c.outputs-then-len-outputs.result.now =
    omega (arith, c.size_line.ensures.value, c.len.ensures, ap length c.outputs-then-len-outputs.ensures) in
    subst (IsFirst (Breaks (program_rules names s r))) e (no_output names s r (names_keep names s r c.requires.size c.requires.named) enough more)

pub returns : goal.returns
returns c =
    let s = c.args.stencils.now in
    let r = parts_of c.args.report.now in
    let enough : length s.images ≤ length r.images = omega (arith, c.len-2.ensures, ap length c.images.ensures, c.if-len-images.false) in
    let most : length r.latencies ≤ length s.outputs = omega (arith, c.len-3.ensures, ap length c.outputs.ensures, c.if-len-outputs.false) in
    record {
      few = c.requires.few;
      size = c.requires.size;
      named = c.requires.named;
      enough = enough;
      outputs = most;
    }

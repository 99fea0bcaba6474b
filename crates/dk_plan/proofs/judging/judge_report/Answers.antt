use Rattle.std.proofs.Common.{◌∙◌, refl, arith}
use Rattle.std.proofs.lemmas.Grind.{get_or_default_zero}
use Rattle.report_text.specs.Reports.{parts_of}
use Rattle.dk_plan.proofs.Exits.{confirmed, wrong_line}
use Rattle.dk_plan.proofs.judging.judge_report.Goals as goal

pub returns-in-Yes-clause-holds : goal.returns-in-Yes-clause-holds
returns-in-Yes-clause-holds c =
    let h = c.index.ensures in
    confirmed _ c.args.stencils.now c.args.report.now (parts_of c.in_ok-said.said) c.in_ok-system.system c.in_ok-system.ensures c.in_ok-said.ensures.judged
    (record { bits = c.in_ok-said.said.bits; latency = c.index.result.now }) c.in-Yes.ensures.judged (c.in-Yes.ensures.least refl) refl
    (h ∙ get_or_default_zero c.in_ok-said.said.latencies.items 0 c.index.result.now (let some = c.in_ok-said.ensures.judged.meets.some_latencies in omega (arith, some)))

pub returns-clause-fault : goal.returns-clause-fault
returns-clause-fault c =
    wrong_line _ c.args.stencils.now c.args.report.now (parts_of c.in_ok-said.said) c.in_ok-system.system c.in_ok-system.ensures c.in_ok-said.ensures.judged
    c.in-No.line c.in-No.ensures.judged

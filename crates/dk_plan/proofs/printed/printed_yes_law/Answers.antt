use Rattle.pointwise_ir.specs.Programs.{names_of}
use Rattle.latency_report.specs.Printed.{report_of}
use Rattle.plan_check.proofs.Foreigns.{yes_alone}
use Rattle.dk_plan.proofs.Printing.{report_holds}
use Rattle.dk_plan.proofs.printed.printed_yes_law.Goals as goal

pub returns : goal.returns
returns c = λ p s x v is solves judged.
    yes_alone (names_of p) s (report_of p (record { system = s; delays = x.delays }) x.flow) v (report_holds p s x.delays x.flow is solves.vector.causal solves.balanced solves.worth_is) judged

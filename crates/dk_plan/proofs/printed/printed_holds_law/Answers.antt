use Rattle.dk_plan.proofs.Printing.{report_holds}
use Rattle.dk_plan.proofs.printed.printed_holds_law.Goals as goal

pub returns : goal.returns
returns c = λ p s d flow is causal balanced worth. report_holds p s d flow is causal balanced worth

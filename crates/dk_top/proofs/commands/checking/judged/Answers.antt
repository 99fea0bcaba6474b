use Rattle.std.proofs.Common.{subst}
use Rattle.pointwise_ir.specs.Programs.{names_of}
use Rattle.dk_plan.specs.Judged.{IsCheckFault}
use Rattle.dk_top.proofs.FrontLemmas.{front_images}
use Rattle.dk_top.proofs.FrontPlans.{confirmed_of, wrong_of}
use Rattle.dk_top.proofs.commands.checking.judged.Goals as goal

pub judge_report-requires : goal.judge_report-requires
judge_report-requires c =
    let has = c.requires.accepted in
    record { images = front_images has.0 has.1.program c.args.front.now.ir c.args.front.now.stencils has.1.front }

pub returns-in-Ok-clause-holds : goal.returns-in-Ok-clause-holds
returns-in-Ok-clause-holds c = λ text front. record {
  short = c.requires.within;
  confirmed = confirmed_of text c.args.front.now.ir c.args.front.now.stencils front c.args.report.now c.in-Ok.claim c.in-Ok.ensures.holds;
}

pub returns-in-Err-Line-clause-fault : goal.returns-in-Err-Line-clause-fault
returns-in-Err-Line-clause-fault c = λ text front. (
  c.requires.within,
  wrong_of text c.args.front.now.ir c.args.front.now.stencils front c.args.report.now c.in-Err-Line.number
      (subst (λ e. IsCheckFault (names_of c.args.front.now.ir) c.args.front.now.stencils c.args.report.now e) c.in-Err-Line.field-0-is c.in-Err-Line.ensures.fault),
)

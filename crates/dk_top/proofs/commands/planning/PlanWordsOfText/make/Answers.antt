use Rattle.dk_types.specs.Typed.{typing_of}
use Rattle.dk_compile.specs.Limits.{IsFaultAt}
use Rattle.dk_top.proofs.LongLemmas.{short_source}
use Rattle.dk_top.proofs.FrontLemmas.{front_images, front_names}
use Rattle.dk_top.proofs.FrontPlans.{plan_of}
use Rattle.dk_top.proofs.commands.planning.PlanWordsOfText.make.Goals as goal

pub plan_report-requires : goal.plan_report-requires
plan_report-requires c =
    let program = c.in-Ok.program in
    let p = typing_of c.in-Ok.program.program in
    let planned = c.in-Ok.ensures.planned in
    let front = planned.has.front in
    record {
      solution = planned.solved;
      plan = planned.plan_is;
      images = front_images c.args.text.now p program.ir program.system.stencils front;
      names = front_names c.source_names_law.ensures c.args.text.now p program.ir program.system.stencils front;
    }

pub returns-in-Ok-plan_report-clause-made : goal.returns-in-Ok-plan_report-clause-made
returns-in-Ok-plan_report-clause-made c =
    let p = typing_of c.in-Ok.program.program in
    let planned = c.in-Ok.ensures.planned in
    plan_of c.args.text.now c.args.self.now.age p c.in-Ok.program.ir c.in-Ok.program.system planned.has c.in-Ok-plan_report.report.items c.in-Ok-plan_report.ensures.report

pub returns-in-Ok-plan_report-clause-good : goal.returns-in-Ok-plan_report-clause-good
returns-in-Ok-plan_report-clause-good c =
    let program = c.in-Ok.program in
    let p = typing_of c.in-Ok.program.program in
    let planned = c.in-Ok.ensures.planned in
    (p, c.one_at_age_law.ensures.accepted c.args.text.now c.args.self.now.age p program.ir program.system program.solution program.plan planned)

pub returns-in-Err-clause-ended : goal.returns-in-Err-clause-ended
returns-in-Err-clause-ended c = c.ending_of.ensures.fault_at c.args.text.now c.args.self.now.age c.in-Err.ensures.fault

pub returns-in-Err-clause-judged : goal.returns-in-Err-clause-judged
returns-in-Err-clause-judged c =
    let age = c.args.self.now.age in
    short_source (IsFaultAt c.args.text.now age) c.args.text.now c.ending_of.result (λ long. long) c.requires.within c.ending_of.ensures.judged (c.ending_of.ensures.fault_at c.args.text.now age c.in-Err.ensures.fault)

use Rattle.std.proofs.Common.{refl, arith}
use Rattle.pointwise_ir.specs.Programs.{names_of}
use Rattle.report_text.specs.Reports.{parts_of}
use Rattle.plan_check.proofs.Foreigns.{amiss_uneven, amiss_right, amiss_both}
use Rattle.plan_check.proofs.judging.first_amiss.Goals as goal

pub returns-then-not-is_of_counts : goal.returns-then-not-is_of_counts
returns-then-not-is_of_counts c =
    amiss_uneven (names_of c.args.ir.now) c.args.system.now (parts_of c.args.report.now) c.args.line c.requires.foreign (λ h. let e : ⊥ = cc (c.if-not-is_of_counts.ensures.1 h) in e)

pub returns-in-Yes : goal.returns-in-Yes
returns-in-Yes c = amiss_right (names_of c.args.ir.now) c.args.system.now (parts_of c.args.report.now) c.args.line c.requires.foreign c.in-Yes.ensures.judged

pub returns-in-No : goal.returns-in-No
returns-in-No c =
    amiss_both (names_of c.args.ir.now) c.args.system.now (parts_of c.args.report.now) c.args.line c.in-No.other _ (omega arith) c.requires.foreign
    (c.if-not-is_of_counts.ensures.0 refl) c.in-No.ensures.judged

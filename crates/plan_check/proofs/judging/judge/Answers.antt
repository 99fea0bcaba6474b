use Rattle.std.proofs.Common.{◌<◌, length, sym, subst}
use Rattle.std.specs.Prelude.{All}
use Rattle.dk_base.specs.declared.stencils.Image.{Image}
use Rattle.dk_base.specs.Stencils.{Stencils}
use Rattle.pointwise_ir.specs.Programs.{names_of}
use Rattle.report_text.specs.Reports.{parts_of}
use Rattle.plan_check.specs.First.{IsFirst}
use Rattle.plan_check.specs.Rules.{Keeps, Breaks}
use Rattle.plan_check.specs.Program.{program_rules}
use Rattle.plan_check.proofs.Foreigns.{judges_native, all_counts}
use Rattle.plan_check.proofs.judging.judge.Goals as goal

pub foreign_line-requires-clause-images : goal.foreign_line-requires-clause-images
foreign_line-requires-clause-images c = subst (λ (t : Stencils). All (λ (i : Image). i.number < length (names_of c.args.ir.now)) t.images) (sym c.requires.stencils) c.requires.images

pub first_amiss-requires-clause-foreign : goal.first_amiss-requires-clause-foreign
first_amiss-requires-clause-foreign c =
    subst (λ (t : Stencils). IsFirst (Breaks (program_rules (names_of c.args.ir.now) t (parts_of c.args.report.now))) c.in-Some.line) c.requires.stencils c.in-Some.ensures

pub check-requires : goal.check-requires
check-requires c =
    let names = names_of c.args.ir.now in
    let r = parts_of c.args.report.now in
    let meets = c.requires.meets in
    let counts = all_counts names c.args.system.now.stencils r (subst (λ (t : Stencils). Keeps (program_rules names t r)) c.requires.stencils c.in-None.ensures) in
    record {
      age = c.requires.age;
      columns = meets.most_columns;
      rows = meets.most_rows;
      images = counts.images;
      latencies = counts.latencies;
      ascending = meets.ascending;
    }

pub returns-in-None-clause-judged : goal.returns-in-None-clause-judged
returns-in-None-clause-judged c =
    let names = names_of c.args.ir.now in
    let r = parts_of c.args.report.now in
    judges_native names c.args.system.now r c.check.result
    (subst (λ (t : Stencils). Keeps (program_rules names t r)) c.requires.stencils c.in-None.ensures) c.check.ensures.judged

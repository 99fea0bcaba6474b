use Rattle.std.proofs.Common.{sym, rules}
use Rattle.report_text.specs.Reports.{parts_of}
use Rattle.report_text.proofs.FirstLines.{whole_faulty, whole_on, whole_end, whole_cut}
use Rattle.report_text.proofs.reading.all.Goals as goal

pub returns-in-Ok-None : goal.returns-in-Ok-None
returns-in-Ok-None c = whole_faulty _ c.lines.number c.in-Some.length c.lines.stage c.in-Ok-None.field-0 (parts_of c.lines.report) (parts_of c.step.new.report) c.lines.rest.now c.split_at.result.0.now c.lines.invariant.is c.in-Some.ensures.cut c.split_at.ensures.front c.in-Ok-None.field-0-is c.in-Ok-None.ensures

pub lines-preserved : goal.lines-preserved
lines-preserved c = record {
  is = whole_on _ c.lines.number c.in-Some.length c.lines.stage c.in-Ok-Some.next c.in-Ok-Some.field-0 (parts_of c.lines.report) (parts_of c.step.new.report) c.lines.rest.now c.split_at.result.0.now c.split_at.result.1.now c.lines.invariant.is c.in-Some.ensures.cut c.split_at.ensures.front c.split_at.ensures.back c.in-Ok-Some.field-0-is c.in-Ok-Some.ensures;
  within = search rules;
}

pub returns-then-is_whole : goal.returns-then-is_whole
returns-then-is_whole c = whole_end _ c.lines.number c.lines.stage (parts_of c.lines.report) c.lines.rest.now c.lines.invariant.is c.in_default.ensures.cut (sym c.if-is_whole.ensures)

pub returns-else-is_whole : goal.returns-else-is_whole
returns-else-is_whole c = whole_cut _ c.lines.number c.lines.stage (parts_of c.lines.report) c.lines.rest.now c.lines.invariant.is c.in_default.ensures.cut (sym c.if-is_whole.ensures)

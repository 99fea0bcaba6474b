use Rattle.std.proofs.Common.{◌≡◌, ◌+◌, ◌≤◌, length}
use Rattle.report_text.specs.Reports.{parts_of}
use Rattle.dk_grammar.specs.Lines.{cut}
use Rattle.report_text.specs.declared.step.Stage.TheVariants.{Start}
use Rattle.report_text.specs.Reading.{reading, nothing}
use Rattle.report_text.proofs.reading.all.Given as goal

abbrev pub invariant-lines : goal.invariant-lines
invariant-lines l = record {
  is : reading l.number l.stage (parts_of l.report) (cut l.rest) ≡ reading 1 Start nothing (cut l.text);
  within : l.number + length l.rest ≤ length l.text + 1;
}

abbrev pub decreases-lines : goal.decreases-lines
decreases-lines l = length l.rest

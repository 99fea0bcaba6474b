use Rattle.std.proofs.Common.{◌≡◌, ◌⊎◌, Some, ℕ, List, ap, subst, IfSome, rules}
use Rattle.dk_desk.specs.Outside.{Outside}
use Rattle.dk_desk.specs.Calls.{IsIfTold, grown}
use Rattle.dk_endings.specs.declared.ending.Ending.{Ending}
use Rattle.dk_endings.specs.declared.ending.Ending.TheVariants as ending
use Rattle.dk_top.specs.Command.{rewrite as rewrite_command}
use Rattle.dk_top.specs.Performing.{PerformsWork, EndsRight, HasReported}
use Rattle.dk_top.specs.Reading.{EndsInLine}
use Rattle.dk_top.specs.Rewriting.{IsRewriteOf, AreRewriteLines}
use Rattle.dk_top.proofs.EndingLemmas.{at_error, at_fault}
use Rattle.dk_top.proofs.ReadLemmas.{told_first, told_second}
use Rattle.dk_top.proofs.RewriteLemmas.{lines_whole, lines_front}
use Rattle.dk_top.proofs.WidenLemmas.{ended_told, done_told, write_told}
use Rattle.dk_top.proofs.commands.rewriting.RewriteWordsWork.perform.Goals as goal

pub returns-in_err-rewritten : goal.returns-in_err-rewritten
returns-in_err-rewritten g c =
    let w = c.args.self.now in
    let old : Outside = g.D.Desk.outside c.args.desk.now in
    let new : Outside = g.D.Desk.outside c.read_with.new.desk in
    let e : Ending = c.in_err-rewritten.field-0.0 in
    let verdict : EndsRight (Some (rewrite_command w.how w.program.now w.out.now)) e old = ended_told _ w.how w.program.now e c.in_err-rewritten.ensures.fault in
    at_error (λ e. PerformsWork (rewrite_command w.how w.program.now w.out.now) e old new) c.from_residual.result c.in_err-rewritten.field-0.0 c.from_residual.ensures.1 (search (rules, verdict))

pub returns-in_err-write_both : goal.returns-in_err-write_both
returns-in_err-write_both g c =
    let outside = g.D.Desk.outside in
    let w = c.args.self.now in
    let old : Outside = outside c.args.desk.now in
    let mid : Outside = outside c.read_with.new.desk in
    let new : Outside = outside c.write_both.new.desk in
    let text = c.in_ok-rewritten.rewritten.text.items in
    let is : List ℕ → Type 0 = λ source. IsRewriteOf w.how source text in
    let lines : List ℕ → Type 0 = λ source. AreRewriteLines w.how source text c.in_ok-rewritten.rewritten.lines.items in
    let verdict : EndsRight (Some (rewrite_command w.how w.program.now w.out.now)) ending.WriteFault old = write_told _ w.how w.program.now c.in_ok-rewritten.ensures.good in
    let report : HasReported (Some (rewrite_command w.how w.program.now w.out.now)) ending.WriteFault old new =
    lines_front _ w.how w.program.now text c.in_ok-rewritten.rewritten.lines.items mid new old.report
    (ap (λ (o : Outside). o.report) c.in_ok-rewritten.ensures.only) (told_first _ w.program.now is lines c.in_ok-rewritten.ensures.made) (told_second _ w.program.now is lines c.in_ok-rewritten.ensures.made)
    (subst (λ (t : List ℕ). (new.report ≡ mid.report) ⊎ EndsInLine t c.in_ok-rewritten.rewritten.lines.items mid new) c.deref.ensures.value
    (subst (λ (l : List ℕ). (new.report ≡ mid.report) ⊎ EndsInLine c.deref.result.now l mid new) c.deref-2.ensures.value c.in_err-write_both.ensures.front)) in
    at_fault (λ e. PerformsWork (rewrite_command w.how w.program.now w.out.now) e old new) c.from_residual-in_err-write_both.result c.in_err-write_both.field-0.0 c.from_residual-in_err-write_both.ensures.1 c.in_err-write_both.ensures.fault (search (rules, verdict, report))

pub returns : goal.returns
returns g c =
    let outside = g.D.Desk.outside in
    let w = c.args.self.now in
    let old : Outside = outside c.args.desk.now in
    let mid : Outside = outside c.read_with.new.desk in
    let new : Outside = outside c.write_both.new.desk in
    let text = c.in_ok-rewritten.rewritten.text.items in
    let is : List ℕ → Type 0 = λ source. IsRewriteOf w.how source text in
    let lines : List ℕ → Type 0 = λ source. AreRewriteLines w.how source text c.in_ok-rewritten.rewritten.lines.items in
    let verdict : EndsRight (Some (rewrite_command w.how w.program.now w.out.now)) ending.Done old = done_told _ w.how w.program.now c.in_ok-rewritten.ensures.good in
    let report : HasReported (Some (rewrite_command w.how w.program.now w.out.now)) ending.Done old new =
    lines_whole _ w.how w.program.now text c.in_ok-rewritten.rewritten.lines.items mid new old.report
    (ap (λ (o : Outside). o.report) c.in_ok-rewritten.ensures.only) (told_first _ w.program.now is lines c.in_ok-rewritten.ensures.made) (told_second _ w.program.now is lines c.in_ok-rewritten.ensures.made)
    (subst (λ (t : List ℕ). IfSome new.file.bytes (λ b. b ≡ t)) c.deref.ensures.value c.in_ok-write_both.ensures.whole)
    (subst (λ (l : List ℕ). IsIfTold new.report (grown mid.report l)) c.deref-2.ensures.value c.in_ok-write_both.ensures.line) in
    search (rules, verdict, report)

use Rattle.std.proofs.Common.{rules, ℕ, ◌≤◌, List, length, Some, Err, ap}
use Rattle.dk_base.specs.declared.TheConstants.{MAX_SOURCE_BYTES, MAX_PGM_BYTES}
use Rattle.source_fault.specs.declared.fault.SourceFault.TheVariants as source
use Rattle.dk_endings.specs.declared.ending.Ending.{Ending}
use Rattle.dk_endings.specs.declared.ending.Ending.TheVariants as ending
use Rattle.dk_endings.specs.declared.ending.ImageFault.TheVariants as image
use Rattle.dk_compile.specs.Limits.{IsFaultAt}
use Rattle.dk_top.specs.declared.commands.evaluating.Given.{Given}
use Rattle.dk_top.specs.Program.{CanBeCompiled}
use Rattle.dk_top.specs.Reading.{AreRead, IsRead, ReadsBoth}
use Rattle.dk_top.specs.Output.{eval_terms, IsAnswer}
use Rattle.dk_top.proofs.LongLemmas.{short_source}
use Rattle.dk_top.proofs.ReadLemmas.{misfit_answer, refused_answer, pair_read}
use Rattle.dk_top.proofs.WholeLemmas.{EndsSecond, lifted, both_refused, second_unread, both_judged}
use Rattle.dk_top.proofs.commands.evaluating.read_given.Goals as goal

abbrev accepts : List ℕ → Type 0
accepts source = CanBeCompiled source 0

abbrev makes : List ℕ → List ℕ → Given → Type 0
makes source file given = IsRead eval_terms source file given.ir given.rounds.items

abbrev knows : Given → Type 0
knows given = AreRead given.ir given.rounds.items

abbrev ends : List ℕ → List ℕ → Ending → Type 0
ends = IsAnswer eval_terms

pub returns-in_err-ir : goal.returns-in_err-ir
returns-in_err-ir g c =
    let outside = g.D.Desk.outside in
    let files = c.args.files.now in
    let text = c.deref.result.now in
    let e = c.in_err-ir.field-0.0 in
    let within : length text ≤ MAX_SOURCE_BYTES = search rules in
    lifted (λ r. ReadsBoth files.program.now files.image.now accepts makes knows ends r (outside c.args.desk.now) (outside c.read_text.new.desk)) c.from_residual-in_err-ir.result e c.from_residual-in_err-ir.ensures.1
    (both_refused files.program.now files.image.now accepts makes knows ends MAX_SOURCE_BYTES (ending.Source source.TooLong) (outside c.args.desk.now) (outside c.read_text.new.desk) c.in_ok-text.text text c.deref.ensures.value c.in_ok-text.ensures
    c.requires.image e (λ file. refused_answer eval_terms text file e c.in_err-ir.ensures.fault) (short_source (IsFaultAt text 0) text e (λ long. long) within (λ is. c.in_err-ir.ensures.judged (ap Err is)) c.in_err-ir.ensures.fault))

pub returns-in_err-file : goal.returns-in_err-file
returns-in_err-file g c =
    let outside = g.D.Desk.outside in
    let files = c.args.files.now in
    let text = c.deref.result.now in
    let form = c.in_ok-ir.ensures.form in
    let law : EndsSecond MAX_PGM_BYTES (ending.Image image.TooLong) text ends = record {
      failed_read = λ file. tt;
      no_memory = λ file. tt;
      over = λ file more. record { program = form.program; accepted = form.accepted; unfit = more };
      stops = tt;
      left = λ t file p i rest. (tt, rest);
    } in
    lifted (λ r. ReadsBoth files.program.now files.image.now accepts makes knows ends r (outside c.args.desk.now) (outside c.read_whole.new.desk)) c.from_residual-in_err-file.result c.in_err-file.field-0.0 c.from_residual-in_err-file.ensures.1
    (second_unread files.program.now files.image.now accepts makes knows ends MAX_SOURCE_BYTES (ending.Source source.TooLong) (outside c.args.desk.now) (outside c.read_text.new.desk) c.in_ok-text.text text c.deref.ensures.value c.in_ok-text.ensures
    (form.program, form.accepted) MAX_PGM_BYTES (ending.Image image.TooLong) (outside c.read_whole.new.desk) law c.in_err-file.field-0.0 c.in_err-file.ensures)

pub returns-in_err-rounds : goal.returns-in_err-rounds
returns-in_err-rounds g c =
    let outside = g.D.Desk.outside in
    let files = c.args.files.now in
    let text = c.deref.result.now in
    let file = c.deref-2.result.now in
    let form = c.in_ok-ir.ensures.form in
    let e = c.in_err-rounds.field-0.0 in
    let within : length file ≤ MAX_PGM_BYTES = search rules in
    lifted (λ r. ReadsBoth files.program.now files.image.now accepts makes knows ends r (outside c.args.desk.now) (outside c.read_whole.new.desk)) c.from_residual-in_err-rounds.result e c.from_residual-in_err-rounds.ensures.1
    (both_judged files.program.now files.image.now accepts makes knows ends MAX_SOURCE_BYTES (ending.Source source.TooLong) (outside c.args.desk.now) (outside c.read_text.new.desk) c.in_ok-text.text text c.deref.ensures.value c.in_ok-text.ensures
    (form.program, form.accepted) MAX_PGM_BYTES (ending.Image image.TooLong) (outside c.read_whole.new.desk) c.in_ok-file.file file c.deref-2.ensures.value c.in_ok-file.ensures (Err e)
    tt tt (misfit_answer eval_terms text file form.program form.accepted e (c.in_err-rounds.ensures.fault (Some MAX_PGM_BYTES) within form.program form.form)) c.in_err-rounds.ensures.judged)

pub returns : goal.returns
returns g c =
    let outside = g.D.Desk.outside in
    let files = c.args.files.now in
    let text = c.deref.result.now in
    let file = c.deref-2.result.now in
    let form = c.in_ok-ir.ensures.form in
    let within : length file ≤ MAX_PGM_BYTES = search rules in
    both_judged files.program.now files.image.now accepts makes knows ends MAX_SOURCE_BYTES (ending.Source source.TooLong) (outside c.args.desk.now) (outside c.read_text.new.desk) c.in_ok-text.text text c.deref.ensures.value c.in_ok-text.ensures
    (form.program, form.accepted) MAX_PGM_BYTES (ending.Image image.TooLong) (outside c.read_whole.new.desk) c.in_ok-file.file file c.deref-2.ensures.value c.in_ok-file.ensures _
    (pair_read eval_terms text file c.in_ok-ir.ir c.in_ok-rounds.rounds.items form (c.in_ok-rounds.ensures.input (Some MAX_PGM_BYTES) within)) c.in_ok-rounds.ensures.read tt tt

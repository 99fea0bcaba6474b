use Rattle.std.proofs.Common.{rules, ℕ, ◌≤◌, List, length, Option, Err, ap}
use Rattle.dk_base.specs.FrameSizes.{size_of}
use Rattle.dk_base.specs.declared.TheConstants.{MAX_VERILOG_BYTES, MAX_PGM_BYTES}
use Rattle.dk_endings.specs.declared.ending.Ending.TheVariants as ending
use Rattle.dk_endings.specs.declared.ending.ImageFault.TheVariants as image
use Rattle.dk_endings.specs.declared.verilog.VerilogFault.TheVariants as verilog
use Rattle.dk_top.specs.declared.commands.simulating.SimInput.{SimInput}
use Rattle.dk_top.specs.Reading.{ReadsBoth}
use Rattle.dk_top.specs.Simulating.{IsSimInput, IsInputRefusal, HasBenchFrames}
use Rattle.dk_top.specs.Simulation.{HasModule}
use Rattle.dk_top.proofs.LongLemmas.{judgement_stops, short_module}
use Rattle.dk_top.proofs.SimReads.{file_refused, module_refused}
use Rattle.dk_top.proofs.WholeLemmas.{EndsSecond, lifted, both_refused, second_unread, both_judged}
use Rattle.dk_top.proofs.commands.simulating.read_all.Goals as goal

-- what is made of the two files
abbrev makes : Option ℕ → List ℕ → List ℕ → SimInput → Type 0
makes hold text file given = IsSimInput hold text file given.module (size_of given.input.size) given.input.rounds.items

pub returns-in_err-file : goal.returns-in_err-file
returns-in_err-file g c =
    let outside = g.D.Desk.outside in
    let hold = c.args.hold in
    let text = c.deref.result.now in
    let made = c.in_ok-module.ensures.made in
    let law : EndsSecond MAX_PGM_BYTES (ending.Image image.TooLong) text (IsInputRefusal hold) = record {
      failed_read = λ file clocks power. tt;
      no_memory = λ file clocks power. tt;
      over = λ file more clocks power. record { m = c.in_ok-module.module; made = made; unfit = more };
      stops = tt;
      left = λ t file p i rest. (tt, rest);
    } in
    lifted (λ r. ReadsBoth c.args.verilog.now c.args.image.now (HasModule hold) (makes hold) HasBenchFrames (IsInputRefusal hold) r (outside c.args.desk.now) (outside c.read_whole-2.new.desk)) c.from_residual-in_err-file.result c.in_err-file.field-0.0 c.from_residual-in_err-file.ensures.1
    (second_unread c.args.verilog.now c.args.image.now (HasModule hold) (makes hold) HasBenchFrames (IsInputRefusal hold) MAX_VERILOG_BYTES (ending.Verilog verilog.TooLong) (outside c.args.desk.now) (outside c.read_whole.new.desk) c.in_ok-text.text text c.deref.ensures.value c.in_ok-text.ensures
    (c.in_ok-module.module, made) MAX_PGM_BYTES (ending.Image image.TooLong) (outside c.read_whole-2.new.desk) law c.in_err-file.field-0.0 c.in_err-file.ensures)

pub returns-in_err-input : goal.returns-in_err-input
returns-in_err-input g c =
    let outside = g.D.Desk.outside in
    let hold = c.args.hold in
    let text = c.deref.result.now in
    let file = c.deref-2.result.now in
    let m = c.in_ok-module.module in
    let made = c.in_ok-module.ensures.made in
    let e = c.in_err-input.field-0.0 in
    lifted (λ r. ReadsBoth c.args.verilog.now c.args.image.now (HasModule hold) (makes hold) HasBenchFrames (IsInputRefusal hold) r (outside c.args.desk.now) (outside c.read_whole-2.new.desk)) c.from_residual-in_err-input.result e c.from_residual-in_err-input.ensures.1
    (both_judged c.args.verilog.now c.args.image.now (HasModule hold) (makes hold) HasBenchFrames (IsInputRefusal hold) MAX_VERILOG_BYTES (ending.Verilog verilog.TooLong) (outside c.args.desk.now) (outside c.read_whole.new.desk) c.in_ok-text.text text c.deref.ensures.value c.in_ok-text.ensures
    (m, made) MAX_PGM_BYTES (ending.Image image.TooLong) (outside c.read_whole-2.new.desk) c.in_ok-file.file file c.deref-2.ensures.value c.in_ok-file.ensures (Err e)
    tt tt (file_refused hold text file m e made (judgement_stops e c.in_err-input.ensures.judged) c.in_err-input.ensures.fault) c.in_err-input.ensures.judged)

pub returns : goal.returns
returns g c =
    let outside = g.D.Desk.outside in
    let hold = c.args.hold in
    let text = c.deref.result.now in
    let file = c.deref-2.result.now in
    let made = c.in_ok-module.ensures.made in
    let read = c.in_ok-input.ensures in
    both_judged c.args.verilog.now c.args.image.now (HasModule hold) (makes hold) HasBenchFrames (IsInputRefusal hold) MAX_VERILOG_BYTES (ending.Verilog verilog.TooLong) (outside c.args.desk.now) (outside c.read_whole.new.desk) c.in_ok-text.text text c.deref.ensures.value c.in_ok-text.ensures
    (c.in_ok-module.module, made) MAX_PGM_BYTES (ending.Image image.TooLong) (outside c.read_whole-2.new.desk) c.in_ok-file.file file c.deref-2.ensures.value c.in_ok-file.ensures _
    (record { made = made; input = read.input }) (record { frame = read.frame; frames = read.frames }) tt tt

pub returns-in_err-module : goal.returns-in_err-module
returns-in_err-module g c =
    let outside = g.D.Desk.outside in
    let hold = c.args.hold in
    let text = c.deref.result.now in
    let e = c.in_err-module.field-0.0 in
    let within : length text ≤ MAX_VERILOG_BYTES = search rules in
    lifted (λ r. ReadsBoth c.args.verilog.now c.args.image.now (HasModule hold) (makes hold) HasBenchFrames (IsInputRefusal hold) r (outside c.args.desk.now) (outside c.read_whole.new.desk)) c.from_residual-in_err-module.result e c.from_residual-in_err-module.ensures.1
    (both_refused c.args.verilog.now c.args.image.now (HasModule hold) (makes hold) HasBenchFrames (IsInputRefusal hold) MAX_VERILOG_BYTES (ending.Verilog verilog.TooLong) (outside c.args.desk.now) (outside c.read_whole.new.desk) c.in_ok-text.text text c.deref.ensures.value c.in_ok-text.ensures
    c.requires.image e (λ file. module_refused hold text file e c.in_err-module.ensures.fault) (short_module hold text e within (λ is. c.in_err-module.ensures.judged (ap Err is)) c.in_err-module.ensures.fault))

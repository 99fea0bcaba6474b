-- What is left of a file that is too long.
use Rattle.std.proofs.Common.{◌≡◌, ◌⊎◌, ℕ, ◌<◌, ◌≤◌, false, List, length, Option, None, Some, IfSome, Result, Ok, Err, IfErr, refl, ap, subst, arith}
use Rattle.dk_base.specs.declared.TheConstants.{MAX_SOURCE_BYTES, MAX_VERILOG_BYTES}
use Rattle.dk_desk.specs.Outside.{Input}
use Rattle.dk_compile.specs.declared.compiling.Compiled.{Compiled}
use Rattle.source_fault.specs.declared.fault.SourceFault.{SourceFault}
use Rattle.source_fault.specs.declared.fault.SourceFault.TheVariants as source
use Rattle.dk_compile.specs.Limits.{IsAcceptedAt, IsFaultAt}
use Rattle.dk_types.specs.Typed.{Typing}
use Rattle.dk_endings.specs.declared.ending.Ending.{Ending}
use Rattle.dk_endings.specs.declared.ending.Ending.TheVariants as ending
use Rattle.dk_endings.specs.declared.ending.ImageFault.TheVariants as image
use Rattle.dk_endings.specs.declared.ending.ReportFault.TheVariants as report
use Rattle.dk_endings.specs.declared.verilog.VerilogFault.{VerilogFault}
use Rattle.dk_endings.specs.declared.verilog.VerilogFault.TheVariants as verilog
use Rattle.dk_top.specs.Compiling.{IsCompiledFrom}
use Rattle.dk_words.specs.declared.command.Rewriting.{Rewriting}
use Rattle.dk_words.specs.declared.command.Rewriting.TheVariants.{Cut, Narrow, Widen}
use Rattle.dk_top.specs.State.{LeavesText, LeavesImages, LeavesBoth}
use Rattle.dk_top.specs.Reading.{Stops, IsJudgement, IsSourceEnding, TellsNoText, TellsNoImages, IsRewriteEnding}
use Rattle.dk_top.specs.Simulating.{IsModuleEnding}
use Rattle.dk_top.specs.Meaning.{Files, bytes_of}
use Rattle.dk_top.specs.Streaming.{IsRunAnswer}
use Rattle.dk_top.proofs.CompileLemmas.{PlannedAccepted, compiled_accepted}

-- an ending that reports no text leaves any text
pub no_text : (told : Option Files) (name : List ℕ) (slot : Input) (e : Ending) → TellsNoText e → IfSome told (λ f. LeavesText e (bytes_of f name) slot)
no_text None name slot e h = tt
no_text (Some f) name slot e h = h (bytes_of f name) slot

pub no_images : (told : Option Files) (name : List ℕ) (slot : Input) (e : Ending) → TellsNoImages e → IfSome told (λ f. LeavesImages e (bytes_of f name) slot)
no_images None name slot e h = tt
no_images (Some f) name slot e h = h (bytes_of f name) slot

pub both_left : (told : Option Files) (text images : List ℕ) (program image : Input) (e : Ending) → IfSome told (λ f. LeavesText e (bytes_of f text) program) → IfSome told (λ f. LeavesImages e (bytes_of f images) image) → IfSome told (λ f. LeavesBoth e (bytes_of f text) (bytes_of f images) program image)
both_left None text images program image e one two = tt
both_left (Some f) text images program image e one two = (one, two)

-- an ending that comes of bytes that were read whole
pub judgement_stops : (e : Ending) → IsJudgement e → Stops e
judgement_stops ending.Done h = absurd h
judgement_stops ending.Usage h = absurd h
judgement_stops ending.WriteFault h = absurd h
judgement_stops ending.ReadFault h = tt
judgement_stops ending.Memory h = tt
judgement_stops (ending.Source f) h = tt
judgement_stops (ending.Image f) h = tt
judgement_stops (ending.Verilog f) h = tt
judgement_stops (ending.Stopped f) h = tt
judgement_stops (ending.Rejected f) h = tt
judgement_stops (ending.Unable f) h = tt

pub judgement_read : (e : Ending) → IsJudgement e → e ≡ ending.ReadFault → ⊥
judgement_read e h is = subst IsJudgement is h

pub judgement_text : (e : Ending) → IsJudgement e → TellsNoText e
judgement_text (ending.Source source.TooLong) h = absurd h
judgement_text (ending.Source (source.Lex x)) h = λ file slot. tt
judgement_text (ending.Source (source.Nest x)) h = λ file slot. tt
judgement_text (ending.Source (source.Syntax x)) h = λ file slot. tt
judgement_text (ending.Source (source.Depth x)) h = λ file slot. tt
judgement_text (ending.Source (source.Types x)) h = λ file slot. tt
judgement_text (ending.Source (source.Nodes x)) h = λ file slot. tt
judgement_text (ending.Source (source.InlineDepth x)) h = λ file slot. tt
judgement_text (ending.Source (source.Reads x)) h = λ file slot. tt
judgement_text (ending.Source (source.Bits x)) h = λ file slot. tt
judgement_text (ending.Source (source.Latency x)) h = λ file slot. tt
judgement_text (ending.Verilog verilog.TooLong) h = absurd h
judgement_text (ending.Verilog (verilog.At span kind)) h = λ file slot. tt
judgement_text ending.Done h = λ file slot. tt
judgement_text ending.Usage h = λ file slot. tt
judgement_text ending.WriteFault h = λ file slot. tt
judgement_text ending.ReadFault h = λ file slot. tt
judgement_text ending.Memory h = λ file slot. tt
judgement_text (ending.Image f) h = λ file slot. tt
judgement_text (ending.Stopped f) h = λ file slot. tt
judgement_text (ending.Rejected f) h = λ file slot. tt
judgement_text (ending.Unable f) h = λ file slot. tt

pub judgement_images : (e : Ending) → IsJudgement e → TellsNoImages e
judgement_images (ending.Image image.TooLong) h = absurd h
judgement_images (ending.Image (image.File f)) h = λ file slot. tt
judgement_images (ending.Rejected report.TooLong) h = absurd h
judgement_images (ending.Rejected (report.Line n)) h = λ file slot. tt
judgement_images ending.Done h = λ file slot. tt
judgement_images ending.Usage h = λ file slot. tt
judgement_images ending.WriteFault h = λ file slot. tt
judgement_images ending.ReadFault h = λ file slot. tt
judgement_images ending.Memory h = λ file slot. tt
judgement_images (ending.Source f) h = λ file slot. tt
judgement_images (ending.Verilog f) h = λ file slot. tt
judgement_images (ending.Stopped f) h = λ file slot. tt
judgement_images (ending.Unable f) h = λ file slot. tt

-- a fault of a program that is not its length
other_source : (f : SourceFault) → (f ≡ source.TooLong → ⊥) → IsJudgement (ending.Source f)
other_source source.TooLong apart = absurd (apart refl)
other_source (source.Lex x) apart = tt
other_source (source.Nest x) apart = tt
other_source (source.Syntax x) apart = tt
other_source (source.Depth x) apart = tt
other_source (source.Types x) apart = tt
other_source (source.Nodes x) apart = tt
other_source (source.InlineDepth x) apart = tt
other_source (source.Reads x) apart = tt
other_source (source.Bits x) apart = tt
other_source (source.Latency x) apart = tt

-- the ending of a text that is not too long
pub short_source : (is : SourceFault → Type 0) (text : List ℕ) (e : Ending) → (is source.TooLong → MAX_SOURCE_BYTES < length text) → length text ≤ MAX_SOURCE_BYTES → (e ≡ ending.ReadFault → ⊥) → IsSourceEnding is e → IsJudgement e
short_source is text (ending.Source f) long short read h = other_source f (λ same. let much = long (subst is same h) in omega (arith, much, short))
short_source is text ending.ReadFault long short read h = absurd (read refl)
short_source is text ending.Memory long short read h = tt
short_source is text ending.Done long short read h = absurd h
short_source is text ending.Usage long short read h = absurd h
short_source is text ending.WriteFault long short read h = absurd h
short_source is text (ending.Image f) long short read h = absurd h
short_source is text (ending.Verilog f) long short read h = absurd h
short_source is text (ending.Stopped f) long short read h = absurd h
short_source is text (ending.Rejected f) long short read h = absurd h
short_source is text (ending.Unable f) long short read h = absurd h

-- the ending of a program that is not rewritten
rewrite_judged : (how : Rewriting) (text : List ℕ) (e : Ending) → length text ≤ MAX_SOURCE_BYTES → (e ≡ ending.ReadFault → ⊥) → IsRewriteEnding how text e → IsJudgement e
rewrite_judged (Cut levels) text e short read h = short_source (IsFaultAt text 0) text e (λ long. long) short read h
rewrite_judged Narrow text e short read h = short_source (IsFaultAt text 0) text e (λ long. long) short read h
rewrite_judged (Widen phases) text (ending.Unable f) short read h = tt
rewrite_judged (Widen phases) text (ending.Source f) short read h = short_source (IsFaultAt text 0) text (ending.Source f) (λ long. long) short read h
rewrite_judged (Widen phases) text ending.ReadFault short read h = absurd (read refl)
rewrite_judged (Widen phases) text ending.Memory short read h = tt
rewrite_judged (Widen phases) text ending.Done short read h = absurd h
rewrite_judged (Widen phases) text ending.Usage short read h = absurd h
rewrite_judged (Widen phases) text ending.WriteFault short read h = absurd h
rewrite_judged (Widen phases) text (ending.Image f) short read h = absurd h
rewrite_judged (Widen phases) text (ending.Verilog f) short read h = absurd h
rewrite_judged (Widen phases) text (ending.Stopped f) short read h = absurd h
rewrite_judged (Widen phases) text (ending.Rejected f) short read h = absurd h

pub short_rewrite : {A : Type 0} (result : Result A Ending) (how : Rewriting) (text : List ℕ) → length text ≤ MAX_SOURCE_BYTES → (result ≡ Err ending.ReadFault → ⊥) → IfErr result (IsRewriteEnding how text) → IfErr result IsJudgement
short_rewrite (Ok x) how text short read h = tt
short_rewrite (Err e) how text short read h = rewrite_judged how text e short (λ is. read (ap Err is)) h

-- the ending of a Verilog text that is not too long
other_verilog : (hold : Option ℕ) (text : List ℕ) (f : VerilogFault) → length text ≤ MAX_VERILOG_BYTES → IsModuleEnding hold text (ending.Verilog f) → IsJudgement (ending.Verilog f)
other_verilog hold text verilog.TooLong short h = absurd (let much : MAX_VERILOG_BYTES < length text = h in let apart : ⊥ = omega (arith, much, short) in apart)
other_verilog hold text (verilog.At span kind) short h = tt

pub short_module : (hold : Option ℕ) (text : List ℕ) (e : Ending) → length text ≤ MAX_VERILOG_BYTES → (e ≡ ending.ReadFault → ⊥) → IsModuleEnding hold text e → IsJudgement e
short_module hold text (ending.Verilog f) short read h = other_verilog hold text f short h
short_module hold text ending.ReadFault short read h = absurd (read refl)
short_module hold text ending.Memory short read h = tt
short_module hold text ending.Done short read h = absurd h
short_module hold text ending.Usage short read h = absurd h
short_module hold text ending.WriteFault short read h = absurd h
short_module hold text (ending.Image f) short read h = absurd h
short_module hold text (ending.Source f) short read h = absurd h
short_module hold text (ending.Stopped f) short read h = absurd h
short_module hold text (ending.Rejected f) short read h = absurd h
short_module hold text (ending.Unable f) short read h = absurd h

-- `run`, once its program is compiled
ran_text : ((text : List ℕ) (age : ℕ) (p : Typing) (f : SourceFault) → IsAcceptedAt text age p → IsFaultAt text age f → ⊥) → PlannedAccepted → (text file : List ℕ) (age : ℕ) (c : Compiled) → IsCompiledFrom text age false None c → (e : Ending) → IsRunAnswer age text file e → TellsNoText e
ran_text apart law text file age c from (ending.Source f) h = judgement_text (ending.Source f) (other_source f (λ same. apart text age from.program source.TooLong (compiled_accepted law text age false None c from) (subst (IsFaultAt text age) same h)))
ran_text apart law text file age c from (ending.Verilog f) h = absurd h
ran_text apart law text file age c from ending.ReadFault h = λ t slot. tt
ran_text apart law text file age c from ending.Memory h = λ t slot. tt
ran_text apart law text file age c from ending.Done h = λ t slot. tt
ran_text apart law text file age c from ending.Usage h = λ t slot. tt
ran_text apart law text file age c from ending.WriteFault h = λ t slot. tt
ran_text apart law text file age c from (ending.Image f) h = λ t slot. tt
ran_text apart law text file age c from (ending.Stopped f) h = λ t slot. tt
ran_text apart law text file age c from (ending.Rejected f) h = λ t slot. tt
ran_text apart law text file age c from (ending.Unable f) h = λ t slot. tt

pub ran_left : ((text : List ℕ) (age : ℕ) (p : Typing) (f : SourceFault) → IsAcceptedAt text age p → IsFaultAt text age f → ⊥) → PlannedAccepted → (told : Option Files) (program images : List ℕ) (age : ℕ) (c : Compiled) (slot : Input) (e : Ending) → IfSome told (λ f. IsCompiledFrom (bytes_of f program) age false None c)
    → IfSome told (λ f. IsRunAnswer age (bytes_of f program) (bytes_of f images) e) → IfSome told (λ f. LeavesText e (bytes_of f program) slot)
ran_left apart law None program images age c slot e from h = tt
ran_left apart law (Some f) program images age c slot e from h = ran_text apart law (bytes_of f program) (bytes_of f images) age c from e h (bytes_of f program) slot

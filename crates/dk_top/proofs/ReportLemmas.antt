-- What `plan` and `check` read, and what they write to Report.
use Rattle.std.proofs.Common.{◌≡◌, ℕ, Bool, List, length, Option, None, Some, Result, Ok, Err, IfErr, IfSome, refl, sym, subst, arith}
use Rattle.std.proofs.Math.Seq.{take-length}
use Rattle.dk_base.specs.Stencils.{Stencils}
use Rattle.dk_desk.specs.Calls.{IsIfTold, grown}
use Rattle.pointwise_ir.specs.Programs.{Program}
use Rattle.dk_plan.specs.declared.judging.Claim.{Claim}
use Rattle.dk_endings.specs.declared.ending.Ending.{Ending}
use Rattle.dk_endings.specs.declared.ending.Ending.TheVariants as ending
use Rattle.dk_endings.specs.Lines.{holds_line}
use Rattle.dk_top.specs.Plans.{IsPlanOf}
use Rattle.dk_top.specs.Compiling.{AreNetLines}
use Rattle.dk_top.specs.Reports.{IsChecked, IsCheckAnswer, IsClaimLine}
use Rattle.dk_compile.specs.Sources.{IsSourceFault}
use Rattle.dk_top.specs.Reading.{Stops, IsJudgement, IsSourceEnding}
use Rattle.dk_top.specs.Reporting.{HasFront, IsReportEnding}
use Rattle.dk_top.specs.Meaning.{Files, bytes_of}
use Rattle.dk_top.specs.Texts.{GainsText, ReportsFront}
use Rattle.dk_top.proofs.LongLemmas.{judgement_stops}

-- the report does not hold
report_ended : (source report : List ℕ) (ir : Program) (s : Stencils) (e : Ending) → HasFront source ir s → Stops e → IsReportEnding source report e → IsCheckAnswer source report e
report_ended source report ir s ending.Done has stops h = absurd stops
report_ended source report ir s ending.Usage has stops h = absurd stops
report_ended source report ir s ending.WriteFault has stops h = absurd stops
report_ended source report ir s (ending.Source f) has stops h = absurd h
report_ended source report ir s (ending.Image f) has stops h = absurd h
report_ended source report ir s (ending.Verilog f) has stops h = absurd h
report_ended source report ir s (ending.Stopped f) has stops h = absurd h
report_ended source report ir s (ending.Rejected f) has stops h = record { program = has.program; accepted = has.accepted; fault_is = h }
report_ended source report ir s (ending.Unable f) has stops h = absurd h
report_ended source report ir s ending.ReadFault has stops h = tt
report_ended source report ir s ending.Memory has stops h = tt

-- the answers of a report of an accepted text
pub claim_ended : (source report : List ℕ) (ir : Program) (s : Stencils) → HasFront source ir s → (r : Result Claim Ending) → IfErr r IsJudgement → IfErr r (λ e. (t : List ℕ) → HasFront t ir s → IsReportEnding t report e) → IfErr r (IsCheckAnswer source report)
claim_ended source report ir s has (Ok claim) judged ended = tt
claim_ended source report ir s has (Err e) judged ended = report_ended source report ir s e has (judgement_stops e judged) (ended source has)

-- the text is not accepted
pub source_ended : (source report : List ℕ) (e : Ending) → IsSourceEnding (IsSourceFault source) e → IsCheckAnswer source report e
source_ended source report (ending.Source f) h = h
source_ended source report ending.ReadFault h = tt
source_ended source report ending.Memory h = tt
source_ended source report ending.Done h = absurd h
source_ended source report ending.Usage h = absurd h
source_ended source report ending.WriteFault h = absurd h
source_ended source report (ending.Image f) h = absurd h
source_ended source report (ending.Verilog f) h = absurd h
source_ended source report (ending.Stopped f) h = absurd h
source_ended source report (ending.Rejected f) h = absurd h
source_ended source report (ending.Unable f) h = absurd h

-- all of a text is written, or a prefix of it
pub whole : (is : List ℕ → Type 0) (text : List ℕ) (old new : Option (List ℕ)) → is text → IsIfTold new (grown old text) → GainsText is old new ending.Done
whole is text old new of told = record {
  text = text;
  is_text = of;
  count = length text;
  within = omega arith;
  told = subst (λ t. IsIfTold new (grown old t)) (sym (take-length text)) told;
  whole = λ e. refl;
}

pub front : (is : List ℕ → Type 0) (text : List ℕ) (old new : Option (List ℕ)) → is text → ReportsFront text old new → GainsText is old new ending.WriteFault
front is text old new of r = record {
  text = text;
  is_text = of;
  count = r.count;
  within = r.within;
  told = r.told;
  whole = λ e. absurd (let f : ⊥ = cc in f);
}

pub plan_whole : (told : Option Files) (name : List ℕ) (age : ℕ) (text : List ℕ) (old new : Option (List ℕ)) → IfSome told (λ f. IsPlanOf (bytes_of f name) age text) → IsIfTold new (grown old text) → IfSome told (λ f. GainsText (IsPlanOf (bytes_of f name) age) old new ending.Done)
plan_whole None name age text old new of written = tt
plan_whole (Some f) name age text old new of written = whole (IsPlanOf (bytes_of f name) age) text old new of written

pub nets_whole : (told : Option Files) (name : List ℕ) (age : ℕ) (enable : Bool) (block : Option ℕ) (text : List ℕ) (old new : Option (List ℕ)) → IfSome told (λ f. AreNetLines (bytes_of f name) age enable block text) → IsIfTold new (grown old text)
    → IfSome told (λ f. GainsText (AreNetLines (bytes_of f name) age enable block) old new ending.Done)
nets_whole None name age enable block text old new of written = tt
nets_whole (Some f) name age enable block text old new of written = whole (AreNetLines (bytes_of f name) age enable block) text old new of written

pub nets_front : (told : Option Files) (name : List ℕ) (age : ℕ) (enable : Bool) (block : Option ℕ) (text : List ℕ) (old new : Option (List ℕ)) → IfSome told (λ f. AreNetLines (bytes_of f name) age enable block text) → ReportsFront text old new
    → IfSome told (λ f. GainsText (AreNetLines (bytes_of f name) age enable block) old new ending.WriteFault)
nets_front None name age enable block text old new of written = tt
nets_front (Some f) name age enable block text old new of written = front (AreNetLines (bytes_of f name) age enable block) text old new of written

pub claim_whole : (told : Option Files) (program report : List ℕ) (claim : Claim) (text : List ℕ) (old new : Option (List ℕ)) → IfSome told (λ f. IsChecked (bytes_of f program) (bytes_of f report) claim) → text ≡ holds_line claim.bits claim.latency → IsIfTold new (grown old text)
    → IfSome told (λ f. GainsText (IsClaimLine (bytes_of f program) (bytes_of f report)) old new ending.Done)
claim_whole None program report claim text old new of is written = tt
claim_whole (Some f) program report claim text old new of is written = whole (IsClaimLine (bytes_of f program) (bytes_of f report)) text old new (claim, of, is) written

pub claim_front : (told : Option Files) (program report : List ℕ) (claim : Claim) (text : List ℕ) (old new : Option (List ℕ)) → IfSome told (λ f. IsChecked (bytes_of f program) (bytes_of f report) claim) → text ≡ holds_line claim.bits claim.latency → ReportsFront text old new
    → IfSome told (λ f. GainsText (IsClaimLine (bytes_of f program) (bytes_of f report)) old new ending.WriteFault)
claim_front None program report claim text old new of is written = tt
claim_front (Some f) program report claim text old new of is written = front (IsClaimLine (bytes_of f program) (bytes_of f report)) text old new (claim, of, is) written

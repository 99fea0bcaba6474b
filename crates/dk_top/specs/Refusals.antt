-- What `explain` finds a program to be, for the private functions.
use Rattle.std.specs.Prelude.{◌≡◌, ℕ, List, ⊤}
use Rattle.dk_desk.specs.Outside.{Input}
use Rattle.source_fault.specs.declared.fault.SourceFault.{SourceFault}
use Rattle.dk_endings.specs.declared.ending.Ending.TheVariants as ending
use Rattle.dk_compile.specs.Limits.{IsFaultAt}
use Rattle.fault_messages.specs.Explanations.{IsExplanation}
use Rattle.dk_top.specs.declared.commands.explaining.Judged.{Judged}
use Rattle.dk_top.specs.declared.commands.explaining.Judged.TheVariants.{Accepted, Refused}
use Rattle.dk_top.specs.Program.{CanBeCompiled}
use Rattle.dk_top.specs.State.{LeavesText}
use Rattle.dk_top.specs.Reading.{TellsNoText}

-- the text is accepted, or this is its first fault with the explanation under the program's name
abbrev pub IsJudgedAs : (name source : List ℕ) → Judged → Type 0
IsJudgedAs name source Accepted = CanBeCompiled source 0
IsJudgedAs name source (Refused r) = IsFaultAt source 0 r.fault × IsExplanation name source r.fault r.text.items

-- this fault of the text is explained
abbrev pub IsRefusedFor : (name source : List ℕ) → SourceFault → Judged → Type 0
IsRefusedFor name source fault Accepted = ⊥
IsRefusedFor name source fault (Refused r) = (r.fault ≡ fault) × IsExplanation name source fault r.text.items

-- the fault is not the length of the text
abbrev pub TellsNoLength : Judged → Type 0
TellsNoLength Accepted = ⊤
TellsNoLength (Refused r) = TellsNoText (ending.Source r.fault)

-- what is left of a program that is too long
abbrev pub LeavesJudged : Judged → (source : List ℕ) → Input → Type 0
LeavesJudged Accepted source slot = ⊤
LeavesJudged (Refused r) source slot = LeavesText (ending.Source r.fault) source slot

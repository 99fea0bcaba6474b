-- Programs that are accepted, and what they ask of files.
use Rattle.std.specs.Prelude.{ℕ, List, map}
use Rattle.dk_types.specs.Typed.{Typing}
use Rattle.dk_compile.specs.Limits.{IsAcceptedAt, IsFaultAt}
use Rattle.pgm_rounds.specs.Ports.{Ports}
use Rattle.program_images.specs.Ports.{ports_from}
use Rattle.dk_endings.specs.declared.ending.Ending.{Ending}
use Rattle.dk_top.specs.Meaning.{Answers, faultless, IsAnswered}

-- a text that is accepted at this age
abbrev pub CanBeCompiled : (source : List ℕ) → (age : ℕ) → Type 0
CanBeCompiled source age = (p : Typing) × IsAcceptedAt source age p

-- what a program asks of the files that it reads
abbrev pub ports : Typing → Ports
ports p = ports_from p.size (map (λ i. i.ty) p.inputs)

-- when each ending comes for a program's text and the requested age of its live reads, if no other file is read
abbrev pub program_answers : (age : ℕ) → (source : List ℕ) → Answers
program_answers age source = record (faultless (CanBeCompiled source age)) { source = IsFaultAt source age }

abbrev pub IsProgramAnswer : (age : ℕ) → (source : List ℕ) → Ending → Type 0
IsProgramAnswer age source result = IsAnswered (program_answers age source) result

-- Messages of the faults of a text.
use Rattle.std.specs.Prelude.{ℕ, List, [], ◌∷◌, ◌++◌, ◌≡◌, ◌<◌, ◌≤◌, length, map, codes, decimal}
use Rattle.dk_types.specs.declared.fault.TypeFault.{TypeFault}
use Rattle.source_fault.specs.declared.fault.SourceFault.{SourceFault}
use Rattle.source_fault.specs.declared.fault.SourceFault.TheVariants as source
use Rattle.source_fault.specs.declared.fault.Subject.{Subject}
use Rattle.source_fault.specs.declared.fault.Subject.TheVariants.{Bytes, Number}
use Rattle.source_fault.specs.Faults.{word_of, subject_of}
use Rattle.source_places.specs.Places.{line_of, column_of}
use Rattle.source_places.specs.Plain.{ArePlain}
use Rattle.source_places.specs.Names.{shown_name}
use Rattle.fault_messages.specs.declared.TheConstants.{MAX_MESSAGES, MAX_DETAIL_BYTES}

-- the first byte of what is at fault; that of the text where this is the whole program
abbrev pub start_of_subject : Subject → ℕ
start_of_subject (Bytes span) = span.start
start_of_subject (Number _) = 0

abbrev pub start_of : SourceFault → ℕ
start_of fault = start_of_subject (subject_of fault)

-- what a message begins with: the file's name as a terminal can show it, the place of a fault and its word
abbrev pub head : (name : List ℕ) (line column : ℕ) (kind : List ℕ) → List ℕ
head name line column kind =
    shown_name name ++ codes ":" ++ decimal line ++ codes ":" ++ decimal column ++ codes ": error: " ++ kind ++ codes ": "

-- what follows it: lines that any terminal can show, within the limit
pub record IsDetail (detail : List ℕ) : Type 0 where
  pub plain : ArePlain detail
  pub ended : (front : List ℕ) × (detail ≡ front ++ 10 ∷ [])
  pub short : length detail ≤ MAX_DETAIL_BYTES

-- the message of a fault of a text
abbrev pub IsMessage : (name text : List ℕ) → SourceFault → List ℕ → Type 0
IsMessage name text fault bytes =
    (detail : List ℕ) × IsDetail detail
    × (bytes ≡ head name (line_of text (start_of fault)) (column_of text (start_of fault)) (word_of fault) ++ detail)

-- the messages of faults, one after another
abbrev pub AreMessages : (name text : List ℕ) → List SourceFault → List ℕ → Type 0
AreMessages name text [] bytes = bytes ≡ []
AreMessages name text (fault ∷ faults) bytes =
    (message : List ℕ) × (others : List ℕ) × IsMessage name text fault message × AreMessages name text faults others
    × (bytes ≡ message ++ others)

-- the faults after the first one in an explanation: others of names and types after one of these, and else none
abbrev pub AreOthers : SourceFault → List TypeFault → Type 0
AreOthers (source.Types _) others = length others < MAX_MESSAGES
AreOthers _ others = others ≡ []

-- the message of a fault, and those of the others
pub record IsExplanation (name text : List ℕ) (fault : SourceFault) (bytes : List ℕ) : Type 0 where
  pub others : List TypeFault
  pub few : AreOthers fault others
  pub messages : AreMessages name text (fault ∷ map source.Types others) bytes

-- What File holds of a text, and what Report gains of one.
use Rattle.std.specs.Prelude.{◌≡◌, ℕ, ◌≤◌, List, length, take, Option, ⊤}
use Rattle.dk_desk.specs.Calls.{IsIfTold, grown}
use Rattle.dk_endings.specs.declared.ending.Ending.{Ending}
use Rattle.dk_endings.specs.declared.ending.Ending.TheVariants as ending

-- one list is a prefix of another
abbrev pub IsPrefix : List ℕ → List ℕ → Type 0
IsPrefix front whole = take (length front) whole ≡ front

-- what the created file holds: all of it after Done, a prefix after WriteFault
abbrev pub HoldsOutput : Ending → List ℕ → List ℕ → Type 0
HoldsOutput ending.Done bytes whole = bytes ≡ whole
HoldsOutput ending.WriteFault bytes whole = IsPrefix bytes whole
HoldsOutput _ bytes whole = ⊤

-- a text of this kind
pub record HoldsText (is : List ℕ → Type 0) (result : Ending) (bytes : List ℕ) : Type 0 where
  pub text : List ℕ
  pub is_text : is text
  pub holds : HoldsOutput result bytes text

-- Report has gained a prefix of this text
pub record ReportsFront (text : List ℕ) (old new : Option (List ℕ)) : Type 0 where
  pub count : ℕ
  pub within : count ≤ length text
  pub told : IsIfTold new (grown old (take count text))

-- Report has gained a text of this kind, all of it after Done and a prefix of it after WriteFault, and nothing otherwise
pub record GainsText (is : List ℕ → Type 0) (old new : Option (List ℕ)) (result : Ending) : Type 0 where
  pub text : List ℕ
  pub is_text : is text
  pub count : ℕ
  pub within : count ≤ length text
  pub told : IsIfTold new (grown old (take count text))
  pub whole : result ≡ ending.Done → count ≡ length text

abbrev pub Gains : (List ℕ → Type 0) → (old new : Option (List ℕ)) → Ending → Type 0
Gains is old new ending.Done = GainsText is old new ending.Done
Gains is old new ending.WriteFault = GainsText is old new ending.WriteFault
Gains is old new _ = new ≡ old

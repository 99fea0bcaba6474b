-- Used by private functions only.
-- What each step of the replay answers.
use Rattle.std.specs.Prelude.{◌≡◌, ℕ, ◌+◌, Bool, false, List, [], ◌∷◌, ◌++◌}
use Rattle.dk_grammar.specs.Lines.{IsAtLine}
use Rattle.netlist.specs.Names.{NamedNetlist}
use Rattle.cycle_sim.specs.Slots.{all_widths}
use Rattle.vcd_trace.specs.declared.fault.VcdError.{VcdError}
use Rattle.vcd_trace.specs.Header.{header_text}
use Rattle.vcd_trace.specs.Replayed.{Refuses, IsTraceOf}
use Rattle.vcd_trace.specs.Steps.{AtTime, InClock}

-- the trace of these clocks, and of no others
pub record IsReplay (m : NamedNetlist) (text : List ℕ) (clocks : List (List ℕ)) : Type 0 where
  pub trace : IsTraceOf m clocks text
  pub only : (others : List (List ℕ)) → IsTraceOf m others text → others ≡ clocks

-- a variable's value is this, and its line, if it has one, was read
abbrev pub ReadsValue : (first : Bool) (i width before : ℕ) (bytes : List ℕ) (number value : ℕ) (rest : List ℕ) (next : ℕ) → Type 0
ReadsValue first i width before bytes number value rest next =
    (m : NamedNetlist) (text : List ℕ) (k : ℕ) (done : List (List ℕ)) (new ws old : List ℕ)
    → InClock m text bytes number first k done i new (width ∷ ws) (before ∷ old) → InClock m text rest next first k done (i + 1) (new ++ value ∷ []) ws old

abbrev pub RefusesValue : (first : Bool) (i width before : ℕ) (bytes : List ℕ) (number : ℕ) → VcdError → Type 0
RefusesValue first i width before bytes number e =
    (m : NamedNetlist) (text : List ℕ) (k : ℕ) (done : List (List ℕ)) (new ws old : List ℕ)
    → InClock m text bytes number first k done i new (width ∷ ws) (before ∷ old) → Refuses m text e

-- the values of a clock are these, and its lines were read
abbrev pub ReadsClock : (first : Bool) (widths before : List ℕ) (bytes : List ℕ) (number : ℕ) (values rest : List ℕ) (next : ℕ) → Type 0
ReadsClock first widths before bytes number values rest next =
    (m : NamedNetlist) (text : List ℕ) (k : ℕ) (done : List (List ℕ))
    → InClock m text bytes number first k done 0 [] widths before → AtTime m text rest next false (k + 1) values (done ++ values ∷ [])

abbrev pub RefusesClock : (first : Bool) (widths before : List ℕ) (bytes : List ℕ) (number : ℕ) → VcdError → Type 0
RefusesClock first widths before bytes number e =
    (m : NamedNetlist) (text : List ℕ) (k : ℕ) (done : List (List ℕ)) → InClock m text bytes number first k done 0 [] widths before → Refuses m text e

-- a time whose line must be at the front
abbrev pub RefusesTime : (k : ℕ) (bytes : List ℕ) (number : ℕ) → VcdError → Type 0
RefusesTime k bytes number e = (m : NamedNetlist) (text : List ℕ) (first : Bool) (old : List ℕ) (done : List (List ℕ)) → AtTime m text bytes number first k old done → Refuses m text e

-- from the line of a time on: the trace ends after it, or it has one clock more
abbrev pub EndsAt : (first : Bool) (k : ℕ) (widths before : List ℕ) (bytes : List ℕ) (number : ℕ) → Type 0
EndsAt first k widths before bytes number =
    (m : NamedNetlist) (text : List ℕ) (done : List (List ℕ)) → all_widths m.netlist ≡ widths → AtTime m text bytes number first k before done → IsReplay m text done

abbrev pub GoesOnAt : (first : Bool) (k : ℕ) (widths before : List ℕ) (bytes : List ℕ) (number : ℕ) (values rest : List ℕ) (next : ℕ) → Type 0
GoesOnAt first k widths before bytes number values rest next =
    (m : NamedNetlist) (text : List ℕ) (done : List (List ℕ)) → all_widths m.netlist ≡ widths
    → AtTime m text bytes number first k before done → AtTime m text rest next false (k + 1) values (done ++ values ∷ [])

abbrev pub RefusesAt : (first : Bool) (k : ℕ) (widths before : List ℕ) (bytes : List ℕ) (number : ℕ) → VcdError → Type 0
RefusesAt first k widths before bytes number e =
    (m : NamedNetlist) (text : List ℕ) (done : List (List ℕ)) → all_widths m.netlist ≡ widths → AtTime m text bytes number first k before done → Refuses m text e

-- after the header
abbrev pub ReadsAll : (widths : List ℕ) (bytes : List ℕ) (number : ℕ) (clocks : List (List ℕ)) → Type 0
ReadsAll widths bytes number clocks = (m : NamedNetlist) (text : List ℕ) → all_widths m.netlist ≡ widths → IsAtLine text (header_text m) bytes number → IsReplay m text clocks

abbrev pub RefusesAll : (widths : List ℕ) (bytes : List ℕ) (number : ℕ) → VcdError → Type 0
RefusesAll widths bytes number e = (m : NamedNetlist) (text : List ℕ) → all_widths m.netlist ≡ widths → IsAtLine text (header_text m) bytes number → Refuses m text e

-- a text of a module with this header and these widths
abbrev pub ReadsText : (head widths text : List ℕ) (clocks : List (List ℕ)) → Type 0
ReadsText head widths text clocks = (m : NamedNetlist) → all_widths m.netlist ≡ widths → header_text m ≡ head → IsReplay m text clocks

abbrev pub RefusesText : (head widths text : List ℕ) → VcdError → Type 0
RefusesText head widths text e = (m : NamedNetlist) → all_widths m.netlist ≡ widths → header_text m ≡ head → Refuses m text e

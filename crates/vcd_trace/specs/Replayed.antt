-- What a text is a trace of, and its first line that continues no trace.
use Rattle.std.specs.Prelude.{◌≡◌, ℕ, ◌≤◌, List, length, ⊤, Vec, Result, Ok, Err}
use Rattle.std.specs.List.{AllByRecursion}
use Rattle.dk_grammar.specs.Lines.{IsFirstFaulty}
use Rattle.netlist.specs.Names.{NamedNetlist}
use Rattle.cycle_sim.specs.Slots.{all_widths, words_of}
use Rattle.vcd_trace.specs.declared.fault.VcdError.{VcdError}
use Rattle.vcd_trace.specs.declared.fault.VcdError.TheVariants.{Fault, OutOfMemory}
use Rattle.vcd_trace.specs.Layout.{AreValues}
use Rattle.vcd_trace.specs.Header.{trace_text}
use Rattle.std.specs.declared.alloc.Global.{Global}

-- the text is the trace of these clocks, of which the reset clock is the first; their values fit the module's variables
pub record IsTraceOf (m : NamedNetlist) (clocks : List (List ℕ)) (text : List ℕ) : Type 0 where
  pub some : 1 ≤ length clocks
  pub fit : AllByRecursion (AreValues (all_widths m.netlist)) clocks
  pub is : text ≡ trace_text m clocks

abbrev pub IsTrace : NamedNetlist → List ℕ → Type 0
IsTrace m text = (clocks : List (List ℕ)) × IsTraceOf m clocks text

-- The line of this number, counted from 1, is the first that continues no trace of the module.
abbrev pub IsFaultyLine : NamedNetlist → List ℕ → ℕ → Type 0
IsFaultyLine m text number = IsFirstFaulty (IsTrace m) text number

-- why a text is refused; out of memory is unconstrained
abbrev pub Refuses : NamedNetlist → List ℕ → VcdError → Type 0
Refuses m text (Fault line) = IsFaultyLine m text line
Refuses m text OutOfMemory = ⊤

-- the answer is these clocks, or out of memory
abbrev pub Gives : (clocks : List (List ℕ)) → Result (Vec (Vec ℕ Global) Global) VcdError → Type 0
Gives clocks (Ok rows) = words_of rows.items ≡ clocks
Gives clocks (Err (Fault line)) = ⊥
Gives clocks (Err OutOfMemory) = ⊤

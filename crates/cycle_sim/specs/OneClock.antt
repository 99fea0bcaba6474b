-- One clock over slots.
use Rattle.std.specs.Prelude.{◌≡◌, ◌+◌, ◌≤◌, ℕ, Bool, List, ◌∷◌, ◌++◌, length, take, drop, if◌then◌else◌, All, Result, OnOk, IfErr}
use Rattle.wiring.specs.Clock.{bit}
use Rattle.cycle_sim.specs.declared.edge.IndexRange.{IndexRange}
use Rattle.cycle_sim.specs.declared.machine.Program.{Program}
use Rattle.cycle_sim.specs.Code.{run_code, CodeIsSafe}
use Rattle.cycle_sim.specs.Edge.{run_sets, run_puts, EdgesAreSafe, IsAccessInside, IsFirstOutside}

-- the values of the inputs, of a netlist with the port en or without it
abbrev pub port_values : Bool → Bool → Bool → List ℕ → List ℕ
port_values has_enable reset enable dins = bit reset ∷ (if has_enable then bit enable ∷ dins else dins)

abbrev pub with_inputs : List ℕ → List ℕ → List ℕ
with_inputs inputs values = inputs ++ drop (length inputs) values

abbrev pub settled_values : Program → List (List ℕ) → List ℕ → List ℕ → List ℕ
settled_values p arrays inputs values = run_code p.widths.items arrays p.code.items (with_inputs inputs values)

-- The values of a program can settle by what the inputs are given.
pub record CanSettle (p : Program) (held : List (List ℕ)) (given old : List ℕ) : Type 0 where
  -- each input has a slot
  pub inputs : length given ≤ length old
  -- each instruction can be run
  pub code : CodeIsSafe p.widths.items held p.code.items (with_inputs given old)

-- The values of a program, after they settled by what the inputs are given.
pub record Settles (p : Program) (held : List (List ℕ)) (given old new : List ℕ) (result : Result (Unit {0}) IndexRange) : Type 0 where
  -- each slot has its value
  pub values : new ≡ settled_values p held given old
  -- Ok: each access is inside its array
  pub ok : OnOk result (All (IsAccessInside held (settled_values p held given old)) p.accesses.items)
  -- an index: it is the first that is outside
  pub stops : IfErr result (IsFirstOutside held (settled_values p held given old) p.accesses.items)

-- The edges of a program can be taken.
pub record CanTakeEdge (p : Program) (slots room : List ℕ) (held : List (List ℕ)) : Type 0 where
  -- each register and each word is there
  pub edges : EdgesAreSafe slots p.edges.items (length room) held
  -- the registers have slots
  pub regs : p.first_reg + length room ≤ length slots

-- What the edges of a program leave: slots, room for the registers, and words.
pub record TakesEdge (p : Program) (slots next : List ℕ) (room filled : List ℕ) (held written : List (List ℕ)) : Type 0 where
  -- the room has what the registers take
  pub staged : filled ≡ run_sets slots p.edges.items room
  -- and their slots have it
  pub values : next ≡ take p.first_reg slots ++ filled ++ drop (p.first_reg + length filled) slots
  -- the words are written
  pub arrays : written ≡ run_puts slots p.edges.items held

-- The numbers in the slots from the first one on, exchanged for others.
pub record Exchanges (first : ℕ) (old new given taken : List ℕ) : Type 0 where
  -- the others are there
  pub values : new ≡ take first old ++ given
  -- and these are taken out
  pub numbers : taken ≡ drop first old

-- What outputs show, by the rows of their slots.
use Rattle.std.specs.Prelude.{◌≡◌, ◌≢◌, ℕ, ◌+◌, ◌*◌, ◌<◌, ◌≤◌, ◌==◌, List, length, slice_get, slice_index, Some}
use Rattle.cycle_sim.specs.declared.ports.Out.{Out}
use Rattle.lane_rows.specs.declared.row.Row.{Row}
use Rattle.lane_rows.specs.Values.{value_at}
use Rattle.batch_sim.specs.Called.{of_clock}
use Rattle.batch_sim.specs.Checked.{AreLonger}

-- an output whose bit and number have these rows, at a clock
abbrev pub shown_at : (valid dout : List ℕ) → ℕ → Out
shown_at valid dout t = record { valid = slice_index valid t == 1; dout = slice_index dout t }

-- an output whose slots are among those from the first one on, at a clock
abbrev pub row_out : List (List ℕ) → ℕ → ℕ → ℕ → Out
row_out rows first output t = record { valid = value_at rows t (first + 2 * output) == 1; dout = value_at rows t (first + 2 * output + 1) }

-- this many outputs are what their slots show at a clock
pub record AreRowOuts (rows : List (List ℕ)) (first t count : ℕ) (outs : List Out) : Type 0 where
  pub long : length outs ≡ count
  pub each : (k : ℕ) → k < count → slice_get outs k ≡ Some (row_out rows first k t)

-- the same at each of this many clocks, this many outputs a clock
abbrev pub AreShownIn : List (List ℕ) → (first count clocks : ℕ) → List Out → Type 0
AreShownIn rows first count clocks outs = (t : ℕ) → t < clocks → AreRowOuts rows first t count (of_clock count t outs)

-- The outputs whose slots are among those from the first one on can be shown at each of this many clocks.
pub record CanShowAll (made : List Row) (first count clocks : ℕ) (places : List Out) : Type 0 where
  -- there are places for them
  pub outs : length places ≡ clocks * count
  -- their slots have rows
  pub slots : first + 2 * count ≤ length made
  -- of more clocks
  pub long : AreLonger made clocks

-- One output, of this many a clock, can be shown at each of this many clocks.
pub record CanShow {V D : Type 0} (valids : List V) (douts : List D) (places : List Out) (number count clocks : ℕ) : Type 0 where
  -- its bits have these clocks
  pub valid : clocks ≤ length valids
  -- and so have its numbers
  pub dout : clocks ≤ length douts
  -- there is this output
  pub output : number < count
  -- there are places for all outputs
  pub outs : length places ≡ clocks * count

-- One output, shown at each of this many clocks.
pub record ShowsOutput (valids douts : List ℕ) (number count clocks : ℕ) (old new : List Out) : Type 0 where
  -- there are as many places as before
  pub outs : length new ≡ length old
  -- each clock has it
  pub here : (t : ℕ) → t < clocks → slice_get new (t * count + number) ≡ Some (shown_at valids douts t)
  -- the other outputs are as before
  pub others : (t k : ℕ) → k < count → k ≢ number → slice_get new (t * count + k) ≡ slice_get old (t * count + k)

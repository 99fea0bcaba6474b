-- The clocks of a line.
use Rattle.std.specs.Prelude.{◌≡◌, ℕ, ◌≤◌, Bool, true, List, [], ◌∷◌, All, length, map, replicate}
use Rattle.std.specs.List.{AllZip}
use Rattle.wiring.specs.Netlist.{Netlist}
use Rattle.wiring.specs.Snapshot.{Contents, Snapshot, Fit}
use Rattle.wiring.specs.Runs.{Runs}
use Rattle.cycle_sim.specs.declared.ports.Out.{Out}
use Rattle.cycle_sim.specs.Ports.{din_widths, IsShown}
use Rattle.row_stream.specs.declared.batch.Batch.{Batch}
use Rattle.row_stream.specs.Lines.{Kind}
use Rattle.row_stream.specs.Standing.{IsOneToOne, Lasts, pixel_clock}

-- room for `count` clocks, with the port en at 1 in each
pub record HasBatch (count : ℕ) (batch : Batch) : Type 0 where
  pub enables : batch.enables.items ≡ replicate count true
  pub dins : length batch.dins.items ≡ count
  pub outs : length batch.outs.items ≡ count

-- The module went through a clock for each of these numbers at the din, and the output shows this in them. No later clock stops.
pub record Ran (m : Netlist) (dins : List ℕ) (from to : Contents) (outs : List Out) : Type 0 where
  pub shots : List Snapshot
  pub runs : Runs m from (map pixel_clock dins) shots to
  pub shown : AllZip (λ s out. IsShown s 0 out) shots outs
  pub small : (kind : Kind) → IsOneToOne kind m → All (λ out. out.dout ≤ kind.maxval) outs
  pub lasts : Lasts m to

-- A module of one din and one output can take a clock for each of these numbers, and no later clock stops.
pub record CanStep (m : Netlist) (dins : List ℕ) (from : Contents) : Type 0 where
  pub outputs : length m.outputs ≡ 2
  pub one_din : length (din_widths m) ≡ 1
  pub fit : All (λ d. Fit (din_widths m) (d ∷ [])) dins
  pub lasts : Lasts m from

-- Clocks with `en` at 1 can be made for these numbers at the din, and no later clock stops.
pub record CanStepAll (m : Netlist) (ens : List Bool) (numbers : List ℕ) (from : Contents) : Type 0 where
  -- the module can take them
  pub can : CanStep m numbers from
  -- `en` is at 1 in each
  pub enables : ens ≡ replicate (length numbers) true

-- The module went through them, and is the same.
pub record StepsAll (m now : Netlist) (numbers : List ℕ) (from to : Contents) (outs : List Out) : Type 0 where
  -- it is the same
  pub netlist : now ≡ m
  -- the output shows this
  pub ran : Ran m numbers from to outs

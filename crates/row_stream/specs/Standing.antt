-- What a stream requires of a module and of its room.
use Rattle.std.specs.Prelude.{◌≡◌, ℕ, ◌-◌, ◌*◌, ◌<◌, ◌≤◌, ◌^◌, ◌==◌, Bool, true, false, List, [], ◌∷◌, length, vec_capacity}
use Rattle.wiring.specs.Netlist.{Netlist, net_width, valid_net, dout_net}
use Rattle.std.specs.List.{AllByRecursion}
use Rattle.wiring.specs.Rules.{KeepsRules}
use Rattle.wiring.specs.Order.{IsEvaluationOrder}
use Rattle.wiring.specs.Snapshot.{Contents, Snapshot, net_value, Fit}
use Rattle.cycle_sim.specs.Ports.{din_widths}
use Rattle.wiring.specs.Clock.{Clock, given, Steps, Stops}
use Rattle.wiring.specs.Runs.{Runs}
use Rattle.row_stream.specs.declared.line.Line.{Line}
use Rattle.row_stream.specs.Lines.{Kind}

-- there is room for a line
pub record HasRoom (width : ℕ) (line : Line) : Type 0 where
  pub room : 2 * width ≤ vec_capacity line.bytes
  pub bytes : length line.bytes.items ≤ 2 * line.count
  pub below : line.count < width

-- what is noted of a clock
abbrev pub note_of : Snapshot → Bool × ℕ
note_of s = (net_value s (valid_net 0) == 1, net_value s (dout_net 0))

-- the clock does not stop
abbrev pub GoesOn : Netlist → Contents → Clock → Type 0
GoesOn m from c = (array index : ℕ) → Stops m from (given m c) array index → ⊥

-- a module of one din and one output, whose images have this kind
pub record IsOneToOne (kind : Kind) (m : Netlist) : Type 0 where
  pub rules : KeepsRules m
  pub order : List ℕ
  pub ordered : IsEvaluationOrder m.assigns order
  pub one : length m.outputs ≡ 2
  pub maxval : kind.maxval ≡ 2 ^ net_width m (dout_net 0) - 1
  pub some : 0 < kind.maxval
  pub small : kind.maxval < 2 ^ 16

-- a clock that is not a reset, with this number at the din
abbrev pub pixel_clock : ℕ → Clock
pixel_clock din = record { reset = false; enable = true; dins = din ∷ [] }

abbrev pub IsPixelClock : Netlist → Clock → Type 0
IsPixelClock m c = (c.reset ≡ false) × Fit (din_widths m) c.dins

-- no clock stops from here on, as long as none is a reset
pub record Lasts (m : Netlist) (from : Contents) : Type 0 where
  pub on : (clocks : List Clock) (shots : List Snapshot) (to : Contents) → AllByRecursion (IsPixelClock m) clocks → Runs m from clocks shots to → (c : Clock) → IsPixelClock m c → GoesOn m to c

-- the clock with which a stream begins
abbrev pub reset_clock : Clock
reset_clock = record { reset = true; enable = true; dins = 0 ∷ [] }

-- a reset clock does not stop, and after it no clock stops as long as none is a reset
pub record Starts (m : Netlist) (from : Contents) : Type 0 where
  pub on : GoesOn m from reset_clock
  pub lasts : (s : Snapshot) (to : Contents) → Steps m from (given m reset_clock) s to → Lasts m to

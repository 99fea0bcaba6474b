-- Snapshots that a simulator can be in.
use Rattle.std.specs.Prelude.{◌≡◌, ℕ, ◌^◌, ◌<◌, List, length}
use Rattle.wiring.specs.declared.netlist.Net.{Net}
use Rattle.wiring.specs.Netlist.{Netlist, net_width, word_width, depth, IsDeclared}
use Rattle.wiring.specs.Snapshot.{Snapshot, net_value, word_value}
use Rattle.cycle_sim.specs.Slots.{depth_at}

-- a snapshot has a value for each net of its netlist
pub record HasShape (m : Netlist) (s : Snapshot) : Type 0 where
  pub inputs : length s.inputs ≡ length m.inputs
  pub regs : length s.contents.regs ≡ length m.regs
  pub wires : length s.wires ≡ length m.wires
  pub outputs : length s.outputs ≡ length m.outputs

-- each value fits its net, and each word its array
pub record IsReady (m : Netlist) (s : Snapshot) : Type 0 where
  pub shape : HasShape m s
  pub nets : (n : Net) → IsDeclared m n → net_value s n < 2 ^ net_width m n
  pub words : (a i : ℕ) → word_value s a i < 2 ^ word_width m a

-- the words of an array are as many as its shape says
pub record ArraysFit (m : Netlist) (arrays : List (List ℕ)) : Type 0 where
  pub count : length arrays ≡ length m.arrays
  pub deep : (a : ℕ) → depth_at arrays a ≡ depth m a

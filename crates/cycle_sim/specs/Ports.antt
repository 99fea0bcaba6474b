-- What goes in and comes out at the ports in a clock.
use Rattle.std.specs.Prelude.{◌≡◌, ℕ, ◌*◌, ◌+◌, ◌==◌, List, length, drop, slice_get, slice_index, Some}
use Rattle.wiring.specs.Netlist.{Netlist, first_din, valid_net, dout_net}
use Rattle.wiring.specs.Snapshot.{Snapshot, net_value}
use Rattle.cycle_sim.specs.declared.ports.Out.{Out}

-- the widths of the din ports
abbrev pub din_widths : Netlist → List ℕ
din_widths m = drop (first_din m) m.inputs

-- the values of an output's ports in a clock
pub record IsShown (s : Snapshot) (output : ℕ) (out : Out) : Type 0 where
  pub valid : out.valid ≡ (net_value s (valid_net output) == 1)
  pub dout : out.dout ≡ net_value s (dout_net output)

-- those of all outputs in their order
pub record AreShown (s : Snapshot) (outs : List Out) : Type 0 where
  pub count : length s.outputs ≡ 2 * length outs
  pub each : (k : ℕ) (out : Out) → slice_get outs k ≡ Some out → IsShown s k out

-- the ports of an output in a list of all, each valid before its dout
abbrev pub out_of : List ℕ → ℕ → Out
out_of outputs k = record { valid = slice_index outputs (2 * k) == 1; dout = slice_index outputs (2 * k + 1) }

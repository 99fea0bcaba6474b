-- How a circuit ends: each output has its valid and the net of its image.
use Rattle.std.specs.Prelude.{◌≡◌, ℕ, ◌+◌, ◌<◌, IsTrue, List, [], ◌∷◌, length, slice_index, slice_get, Some}
use Rattle.wiring.specs.declared.netlist.Net.{Net}
use Rattle.wiring.specs.declared.netlist.Holder.TheVariants.{OfNet}
use Rattle.wiring.specs.Netlist.{Netlist, net_width}
use Rattle.wiring.specs.Rules.{with_valids}
use Rattle.wiring.specs.BufferBits.{IsBufferBits, array_bits}
use Rattle.wiring.specs.Snapshot.{net_value}
use Rattle.wiring.specs.Clock.{bit}
use Rattle.wiring.specs.History.{was_reset}
use Rattle.net_build.specs.Draft.{IsNet, IsDraft, UpdatedBut, flat, with_outputs}
use Rattle.net_build.specs.Runs.{IsWhole, NeverStops, StillBut, RunsOn, InEachRun}
use Rattle.net_build.specs.Control.{is_control, IsControlled, FedOnly}
use Rattle.net_build.specs.Counters.{start_levels}
use Rattle.net_build.specs.Depth.{IsWithin}
use Rattle.net_build.specs.Registers.{register_bits}
use Rattle.edge_select.specs.declared.frame_tests.FrameTests.{FrameTests}
use Rattle.edge_select.specs.FrameTests.{AddsTests}
use Rattle.buffer_plan.specs.Plans.{Plan, latency_of}
use Rattle.circuit.specs.Behaviour.{net_of, is_valid}
use Rattle.circuit.specs.Registers.{latencies, latency_bits}

-- the most operators on a path to a valid, from rst, en and registers: one more than to whether clocks were counted, with en
abbrev pub valid_levels : ℕ
valid_levels = start_levels + 1

-- Since a reset the net is 0 in each reset clock, each held clock and each counted clock below the latency, and 1 in each later one. It has few operators on a path from rst, en and registers.
pub record IsStarted (b : Netlist) (latency : ℕ) (net : Net) : Type 0 where
  pub depth : IsWithin b (is_control b.enable) valid_levels (OfNet net)
  pub started : InEachRun b (λ m before c s. IsTrue (was_reset (c ∷ before)) → net_value s net ≡ bit (is_valid m latency before c))

-- For each of the first n outputs its valid and its dout.
pub record AreOuts (b : Netlist) (plan : Plan) (nets : List Net) (n : ℕ) (outs : List (Net × Net)) : Type 0 where
  pub count : length outs ≡ n
  pub dout : (k : ℕ) (out : Net × Net) → slice_get outs k ≡ Some out → out.1 ≡ net_of plan nets (slice_index plan.system.stencils.outputs k)
  pub there : (k : ℕ) (out : Net × Net) → slice_get outs k ≡ Some out → IsNet b out.0
  pub width : (k : ℕ) (out : Net × Net) → slice_get outs k ≡ Some out → net_width b out.0 ≡ 1
  pub valid : (k : ℕ) (out : Net × Net) → slice_get outs k ≡ Some out → IsStarted b (latency_of plan k) out.0

-- the image of the k-th output
abbrev pub output_in : Plan → (k : ℕ) → ℕ
output_in plan k = slice_index plan.system.stencils.outputs k

-- the valid of the k-th output
pub record IsValidOf (b : Netlist) (plan : Plan) (k : ℕ) (net : Net) : Type 0 where
  pub there : IsNet b net
  pub width : net_width b net ≡ 1
  pub started : IsStarted b (latency_of plan k) net

-- for each of these outputs its valid
abbrev pub AreValids : Netlist → Plan → List (Net × Net) → Type 0
AreValids b plan outs = (k : ℕ) (out : Net × Net) → slice_get outs k ≡ Some out → IsValidOf b plan k out.0

-- the valid and the dout of the k-th output
pub record IsOut (b : Netlist) (plan : Plan) (nets : List Net) (k : ℕ) (out : Net × Net) : Type 0 where
  pub valid : IsValidOf b plan k out.0
  pub dout : out.1 ≡ net_of plan nets (output_in plan k)

-- the net is the valid of each of these outputs that has the latency of the k-th
abbrev pub IsSharedBy : Plan → List (Net × Net) → (k : ℕ) → Net → Type 0
IsSharedBy plan outs k net = (j : ℕ) (out : Net × Net) → slice_get outs j ≡ Some out → latency_of plan j ≡ latency_of plan k → out.0 ≡ net

-- outputs of one latency have one valid
abbrev pub AreShared : Plan → List (Net × Net) → Type 0
AreShared plan outs = (k : ℕ) (out : Net × Net) → slice_get outs k ≡ Some out → IsSharedBy plan outs k out.0

-- Each output can take the net of its image, which has its width, and all registers and arrays are updated.
pub record CanEnd (b : Netlist) (plan : Plan) (nets : List Net) : Type 0 where
  pub count : length nets ≡ length plan.system.stencils.images
  pub widths : List ℕ
  pub outputs : b.outputs ≡ with_valids widths
  pub one_each : length widths ≡ length plan.system.stencils.outputs
  pub net : (k : ℕ) → k < length plan.system.stencils.outputs → IsNet b (net_of plan nets (output_in plan k))
  pub width : (k : ℕ) → k < length plan.system.stencils.outputs → net_width b (net_of plan nets (output_in plan k)) ≡ slice_index widths k
  pub updated : UpdatedBut b []

-- The module of a netlist with these frame tests and with control for its outputs, which take their valids and the nets of their images. A register is added for each latency of an output, and no other.
pub record IsClosed (m b : Netlist) (plan : Plan) (nets : List Net) (tests : FrameTests) : Type 0 where
  pub last : Netlist
  pub adds : AddsTests last b tests tests
  pub starts : register_bits last ≡ register_bits b + latency_bits tests (latencies plan)
  pub draft : IsDraft last
  pub outs : List (Net × Net)
  pub are_outs : AreOuts last plan nets (length plan.system.stencils.outputs) outs
  pub driven : m ≡ with_outputs last (flat outs)
  pub whole : IsWhole m last
  pub runs : NeverStops last → RunsOn m
  pub bits : IsControlled last [] → IsBufferBits m (array_bits last.arrays)
  pub fed : (copies : List ℕ) → IsControlled last copies → FedOnly m copies
  pub still : (copies : List ℕ) → StillBut last copies [] → StillBut m copies []

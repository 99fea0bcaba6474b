-- What the module of a program shows while it is driven with rounds of frames, one after another, without a reset between them.
use Rattle.std.specs.Prelude.{◌≡◌, ℕ, ◌+◌, ◌<◌, ◌==◌, nat_lt, true, false, pos, List, [], ◌∷◌, length, map, replicate, slice_get, slice_index, slice_index_or, Some, All}
use Rattle.dk_base.specs.Types.{width_of}
use Rattle.wiring.specs.Netlist.{Netlist, valid_net, dout_net}
use Rattle.wiring.specs.Snapshot.{Contents, Snapshot, Fit, FitsContents, net_value}
use Rattle.wiring.specs.Clock.{Clock}
use Rattle.wiring.specs.Runs.{Runs, RunStops}
use Rattle.pointwise_ir.specs.Programs.{Program}
use Rattle.buffer_plan.specs.Plans.{Plan, latency_of}
use Rattle.circuit.specs.Rounds.{Rounds, AreRounds, pixel, pixel_count}
use Rattle.circuit.specs.Behaviour.{HasPorts}

-- the widths of the dins
abbrev pub input_widths : Program → List ℕ
input_widths p = map (λ i. width_of i.ty) p.inputs

-- the image of the k-th output
abbrev pub output_at : Program → (k : ℕ) → ℕ
output_at p k = slice_index p.outputs k

-- a clock with these numbers at the dins
abbrev pub fed_clock : List ℕ → Clock
fed_clock numbers = record { reset = false; enable = true; dins = numbers }

-- a reset clock, and then a clock for each of these lists of numbers at the dins
abbrev pub driven : (inputs : ℕ) → (dins : List (List ℕ)) → List Clock
driven inputs dins = record { reset = true; enable = true; dins = replicate inputs 0 } ∷ map fed_clock dins

-- The numbers at the dins, clock after clock, are the pixels of these rounds, as far as both go.
abbrev pub Agree : Program → Rounds → (dins : List (List ℕ)) → Type 0
Agree p rounds dins = (k q : ℕ) → k < length p.inputs → q < length dins → q < pixel_count p rounds → pos (slice_index (slice_index_or dins q []) k) ≡ pixel p rounds k q

-- Over a reset clock and then clocks with any numbers that fit, from any contents that fit: no clock stops; each valid is 0 in the reset clock and in as many clocks as the output's latency, and 1 from then on; and each dout is then its output's pixels in raster order, for all rounds that agree with what came in.
pub record Drives (m : Netlist) (p : Program) (plan : Plan) : Type 0 where
  pub ports : HasPorts m p m.enable
  pub never : (from : Contents) (dins : List (List ℕ)) (shots : List Snapshot) (array index : ℕ) → FitsContents m from → All (Fit (input_widths p)) dins → RunStops m from (driven (length p.inputs) dins) shots array index → ⊥
  pub valid : (from to : Contents) (dins : List (List ℕ)) (shots : List Snapshot) → FitsContents m from → All (Fit (input_widths p)) dins → Runs m from (driven (length p.inputs) dins) shots to →
      (k c : ℕ) (s : Snapshot) → k < length p.outputs → slice_get shots c ≡ Some s → (net_value s (valid_net k) == 1) ≡ nat_lt (latency_of plan k) c
  pub dout : (from to : Contents) (dins : List (List ℕ)) (shots : List Snapshot) → FitsContents m from → All (Fit (input_widths p)) dins → Runs m from (driven (length p.inputs) dins) shots to →
      (rounds : Rounds) → AreRounds p rounds → Agree p rounds dins → (k q : ℕ) (s : Snapshot) → k < length p.outputs → slice_get shots (q + latency_of plan k + 1) ≡ Some s → q < pixel_count p rounds → pos (net_value s (dout_net k)) ≡ pixel p rounds (output_at p k) q

-- What the module of a program does, in each run, from any contents that fit, over any clocks.
use Rattle.std.specs.Prelude.{◌≡◌, ℕ, ◌+◌, ◌<◌, nat_le, pos, Bool, not, ◌&&◌, IsTrue, if◌then◌else◌, List, ◌∷◌, length, map, slice_index_or, slice_get, Some}
use Rattle.dk_base.specs.declared.stencils.LiveRead.{LiveRead}
use Rattle.dk_base.specs.Stencils.{place}
use Rattle.dk_base.specs.Types.{width_of}
use Rattle.wiring.specs.declared.netlist.Net.{Net}
use Rattle.wiring.specs.declared.netlist.Net.TheVariants.{Input}
use Rattle.wiring.specs.Netlist.{Netlist, net_width, valid_net, dout_net}
use Rattle.wiring.specs.Rules.{with_valids}
use Rattle.wiring.specs.Snapshot.{Contents, Snapshot, IsNext, net_value}
use Rattle.wiring.specs.Clock.{Clock, bit}
use Rattle.wiring.specs.History.{was_reset, is_held, counted}
use Rattle.net_build.specs.Draft.{IsNet}
use Rattle.net_build.specs.Runs.{IsClockOf, InEachRun, IsReady}
use Rattle.pointwise_ir.specs.Programs.{Program}
use Rattle.pointwise_ir.specs.Stencils.{AreStencilsOf}
use Rattle.buffer_plan.specs.Plans.{Plan, delay_of, depth_of, latency_of, read_age}
use Rattle.line_buffer.specs.Streams.{IsPixel, BufferIsRight}
use Rattle.line_buffer.specs.Places.{word_at}
use Rattle.circuit.specs.declared.options.Options.{Options}
use Rattle.circuit.specs.Runs.{IsRunning}
use Rattle.circuit.specs.Rounds.{Rounds, AreRounds, Feeds, pixel_count, pixel_bits, type_at}
use Rattle.circuit.specs.Taps.{Keeps}
use Rattle.circuit.specs.Forms.{Places}

-- the plan is one of the program, at the age that is asked
pub record IsPlanOf (p : Program) (plan : Plan) (options : Options) : Type 0 where
  pub stencils : AreStencilsOf p plan.system.stencils
  pub age : plan.system.age ≡ options.age

-- the ports: rst, en if it is requested, a din for each input, and for each output its valid and its dout
pub record HasPorts (m : Netlist) (p : Program) (enable : Bool) : Type 0 where
  pub enable_is : m.enable ≡ enable
  pub inputs : m.inputs ≡ 1 ∷ (if enable then 1 ∷ map (λ i. width_of i.ty) p.inputs else map (λ i. width_of i.ty) p.inputs)
  pub outputs : m.outputs ≡ with_valids (map (λ g. width_of (type_at p g)) p.outputs)

-- a clock that is neither a reset nor held, and not below the latency
abbrev pub is_valid : Netlist → (latency : ℕ) → List Clock → Clock → Bool
is_valid m latency before c = (not c.reset && not (is_held m c)) && nat_le latency (length (counted m before))

-- the net of a kept image
abbrev pub net_of : Plan → List Net → ℕ → Net
net_of plan nets g = slice_index_or nets (place plan.system.stencils.images g) (Input 0)

-- at counted clock t an image's net is its pixel t - delay, for all rounds that agree with what came in
abbrev pub ShowsPixels : Netlist → Program → (delay g : ℕ) → Net → Type 0
ShowsPixels m p delay g net =
    (n : Netlist) (from : Contents) (before : List Clock) (c : Clock) (s : Snapshot) → IsRunning m n from before c s → (rounds : Rounds) → AreRounds p rounds → Feeds n p rounds (c ∷ before) →
    IsPixel (pixel_bits p rounds g) (pixel_count p rounds) delay (length (counted n before)) (net_value s net)

-- the net of the live read at place k
abbrev pub read_net : List Net → ℕ → Net
read_net reads k = slice_index_or reads k (Input 0)

-- The list has a net for each live read of the plan, in order. It has the width of the image that is read, and is that image's pixel which came the read's age before: so it shows the image with a delay that is greater by this age.
pub record AreReadNets (m : Netlist) (p : Program) (plan : Plan) (reads : List Net) : Type 0 where
  pub one_each : length reads ≡ length plan.system.stencils.reads
  pub there : (k : ℕ) → k < length reads → IsNet m (read_net reads k)
  pub width : (k : ℕ) (r : LiveRead) → slice_get plan.system.stencils.reads k ≡ Some r → net_width m (read_net reads k) ≡ width_of (type_at p r.g)
  pub shows : (k age : ℕ) (r : LiveRead) → slice_get plan.system.stencils.reads k ≡ Some r → pos age ≡ read_age plan r → ShowsPixels m p (delay_of plan r.g + age) r.g (read_net reads k)

-- The behaviour of the module of a program under a plan, where `places` says which word holds which pixel, the copies are registers that copy words, and the kept images have these nets.
pub record Behaves (m : Netlist) (p : Program) (plan : Plan) (places : Places) (copies : List ℕ) (nets : List Net) : Type 0 where
  pub one_each : length nets ≡ length plan.system.stencils.images
  -- each kept image's net is its pixel scheduled for this clock
  pub net : (g : ℕ) → Keeps plan g → ShowsPixels m p (delay_of plan g) g (net_of plan nets g)
  -- and so is each output's dout
  pub dout : (k g : ℕ) → slice_get p.outputs k ≡ Some g → ShowsPixels m p (latency_of plan k) g (dout_net k)
  -- valid is 0 in each reset clock, each held clock and each counted clock below the latency, and 1 in each later one
  pub valid : (k : ℕ) → k < length p.outputs → InEachRun m (λ n before c s. IsTrue (was_reset (c ∷ before)) → net_value s (valid_net k) ≡ bit (is_valid n (latency_of plan k) before c))
  -- the horizon, at every clock after a reset: before the edge each word that is still to be read holds its pixel
  pub horizon : (n : Netlist) (from : Contents) (before : List Clock) (c : Clock) (s : Snapshot) → IsClockOf m n from before c s → IsTrue (was_reset before) → (rounds : Rounds) → AreRounds p rounds → Feeds n p rounds before → (g : ℕ) → Keeps plan g →
      BufferIsRight (λ age t. word_at s.contents (places plan g age t)) (pixel_bits p rounds g) (pixel_count p rounds) (delay_of plan g) (depth_of plan g) (length (counted n before))
  -- no state changes in a held clock: in none at all if there are no copies, and else in none after a reset
  pub held : InEachRun m (λ n before c s. n ≡ m → IsReady copies before → IsTrue (is_held n c) → (next : Contents) → IsNext n s next → next ≡ s.contents)

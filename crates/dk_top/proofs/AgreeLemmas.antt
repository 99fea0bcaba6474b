-- The module of a compiled text runs over the clocks of `run`.
use Rattle.std.proofs.Common.{◌≡◌, ◌⊎◌, inl, inr, ℕ, ◌+◌, ◌*◌, Bool, List, Option, length, refl, sym, ap, ◌∙◌, subst}
use Rattle.std.proofs.lemmas.List.{length-map}
use Rattle.dk_base.specs.Frames.{area}
use Rattle.dk_types.specs.Typed.{Typing}
use Rattle.wiring.specs.Netlist.{Netlist}
use Rattle.wiring.specs.Order.{IsEvaluationOrder}
use Rattle.wiring.specs.Rules.{KeepsRules}
use Rattle.wiring.specs.Clock.{Clock}
use Rattle.wiring.specs.Snapshot.{Contents, Snapshot, HasPlaces, HasOneSnapshot, HasOneNext}
use Rattle.wiring.specs.Runs.{Runs, RunStops}
use Rattle.pointwise_ir.specs.Programs.{Program}
use Rattle.raster_delay.specs.Systems.{System}
use Rattle.flow_dual.specs.Solutions.{IsLeastVector}
use Rattle.flow_dual.specs.declared.solution.Solution.{Solution}
use Rattle.buffer_plan.specs.Plans.{Plan, latency}
use Rattle.cycle_sim.specs.declared.fill.Fill.{Fill}
use Rattle.cycle_sim.specs.Ports.{din_widths}
use Rattle.cycle_sim.specs.Filled.{fill_value, filled_words, filled_contents}
use Rattle.pgm_codec.specs.Images.{Image}
use Rattle.pgm_rounds.specs.Files.{FitsFile}
use Rattle.stimulus.specs.Stimulus.{stimulus}
use Rattle.stimulus.specs.Inputs.{samples_of}
use Rattle.dk_words.specs.declared.command.PowerUp.{PowerUp}
use Rattle.dk_compile.specs.Limits.{HasSystem}
use Rattle.dk_compile.specs.Compiled.{IsPlanned}
use Rattle.dk_compile.specs.declared.compiling.Compiled.{Compiled}
use Rattle.dk_top.specs.Compiling.{IsCompiledFrom}
use Rattle.dk_top.specs.Simulation.{fill_of}
use Rattle.dk_top.specs.Program.{ports}
use Rattle.dk_top.proofs.VerdictLemmas.{OneProgram}
use Rattle.dk_top.proofs.SimLemmas.{OneRounds}
use Rattle.dk_top.proofs.DriveShown.{PictureLaw, RasterLaw}
use Rattle.dk_top.proofs.DriveLemmas.{drive_from, no_stop}

-- the laws that are used
pub record Laws : Type 0 where
  pub one_program : OneProgram
  pub one_system : (text : List ℕ) (age : ℕ) (p q : Typing) (a b : Program) (s t : System) → HasSystem text age p a s → HasSystem text age q b t → s ≡ t
  pub one_vector : (s : System) (d e : List ℕ) → IsLeastVector s d → IsLeastVector s e → d ≡ e
  pub picture : PictureLaw
  pub rasters : RasterLaw
  pub valuation : (m : Netlist) (order : List ℕ) → KeepsRules m → IsEvaluationOrder m.assigns order → HasOneSnapshot m
  pub next : (m : Netlist) → KeepsRules m → HasOneNext m
  pub some_run : (m : Netlist) → HasOneSnapshot m → HasOneNext m → (from : Contents) (clocks : List Clock) → HasPlaces m from
      → ((shots : List Snapshot) × (to : Contents) × Runs m from clocks shots to) ⊎ ((shots : List Snapshot) × (x : ℕ) × (i : ℕ) × RunStops m from clocks shots x i)
  pub one_rounds : OneRounds

filled_places : (fill : Fill) (m : Netlist) → HasPlaces m (filled_contents fill m)
filled_places fill m = record { regs = length-map m.regs (fill_value fill); arrays = length-map m.arrays (filled_words fill) }

-- two plans of a text at an age are one
pub plan_once : Laws → (source : List ℕ) (age : ℕ) (p q : Typing) (a b : Program) (s t : System) (x y : Solution) (plan other : Plan) → IsPlanned source age p a s x plan → IsPlanned source age q b t y other → plan ≡ other
plan_once laws source age p q a b s t x y plan other one two =
    let same : s ≡ t = laws.one_system source age p q a b s t one.has two.has in
    let vector : IsLeastVector t x.delays = subst (λ z. IsLeastVector z x.delays) same (one.solved).vector in
    let delays : x.delays ≡ y.delays = laws.one_vector t x.delays y.delays vector (two.solved).vector in
    let made : System → List ℕ → Plan = λ z d. record { system = z; delays = d } in
    one.plan_is ∙ (ap (λ z. made z x.delays) same ∙ (ap (made t) delays ∙ sym two.plan_is))

module _ (laws : Laws) (source : List ℕ) (age : ℕ) (enable : Bool) (block : Option ℕ) (c : Compiled) (from : IsCompiledFrom source age enable block c) (file : List ℕ) (rounds : List (List Image)) (fits : FitsFile (ports from.program) file rounds) (power : PowerUp) where
  abbrev q : Typing
  q = from.program

  abbrev m : Netlist
  m = (c.«module»).netlist

  abbrev fill : Fill
  fill = fill_of power

  abbrev clocks : ℕ
  clocks = length rounds * area q.size + latency c.plan

  abbrev begin : Contents
  begin = filled_contents fill m

  abbrev given_clocks : List Clock
  given_clocks = stimulus (drive_from fill clocks) (din_widths m) (samples_of rounds)

  -- the module runs over all clocks
  pub ran : (shots : List Snapshot) × (to : Contents) × Runs m begin given_clocks shots to
  ran = by (laws.some_run m (laws.valuation m from.is.circuit.whole.order from.is.circuit.whole.rules from.is.circuit.whole.ordered) (laws.next m from.is.circuit.whole.rules) begin given_clocks (filled_places fill m))
    where
      by : ((shots : List Snapshot) × (to : Contents) × Runs m begin given_clocks shots to) ⊎ ((shots : List Snapshot) × (x : ℕ) × (i : ℕ) × RunStops m begin given_clocks shots x i)
          → (shots : List Snapshot) × (to : Contents) × Runs m begin given_clocks shots to
      by (inl run) = run
      by (inr (shots, x, i, stops)) =
          absurd (no_stop source age enable block q c.ir c.system c.solution c.plan c.«module» c.nets.items c.reads.items c.text.items from.is file rounds fits fill laws.picture laws.rasters clocks refl shots x i stops)

-- The module of a compiled text, driven by `sim`, shows the file of the program's pictures.
use Rattle.std.proofs.Common.{◌≡◌, ℕ, ◌≤◌, ◌+◌, ◌*◌, Bool, List, Option, length, map, refl, sym, ap, ◌∙◌, subst}
use Rattle.dk_base.specs.declared.TheConstants.{MAX_PGM_BYTES, MAX_VERILOG_BYTES}
use Rattle.dk_base.specs.Frames.{area}
use Rattle.dk_types.specs.Typed.{Typing}
use Rattle.dk_types.specs.declared.typed.TypedInput.{TypedInput}
use Rattle.dk_base.specs.Types.{width_of}
use Rattle.wiring.specs.Netlist.{Netlist}
use Rattle.netlist.specs.Names.{NamedNetlist}
use Rattle.buffer_plan.specs.Plans.{Plan, latency}
use Rattle.verilog_text.specs.Stands.{StandsFor}
use Rattle.cycle_sim.specs.declared.fill.Fill.{Fill}
use Rattle.cycle_sim.specs.Ports.{din_widths}
use Rattle.pgm_codec.specs.Images.{Image, file_of}
use Rattle.pgm_rounds.specs.Ports.{ports_with}
use Rattle.pgm_rounds.specs.Files.{FitsFile}
use Rattle.stimulus.specs.declared.drive.Drive.{Drive}
use Rattle.stimulus.specs.Inputs.{FitsBench, samples_of}
use Rattle.stimulus.specs.Showing.{IsShown}
use Rattle.dk_words.specs.declared.command.PowerUp.{PowerUp}
use Rattle.dk_compile.specs.declared.compiling.Compiled.{Compiled}
use Rattle.dk_top.specs.Compiling.{IsCompiledFrom}
use Rattle.dk_top.specs.Simulation.{fill_of, FitsModule, IsSimulated}
use Rattle.dk_top.specs.Program.{ports}
use Rattle.dk_top.specs.Output.{output_file}
use Rattle.dk_top.proofs.SimLemmas.{fits_some}
use Rattle.dk_top.proofs.DrivePorts.{widths_same}
use Rattle.dk_top.proofs.DriveLemmas.{drive_from, form, is_typed, din_widths_are, shows_enough, images_same, drive_file}
use Rattle.dk_laws.specs.Agreement.{CompiledInput, whole_drive}
use Rattle.dk_top.proofs.AgreeLemmas.{Laws, plan_once, ran}

module _ (laws : Laws) (source : List ℕ) (age : ℕ) (enable : Bool) (block : Option ℕ) (c : Compiled) (from : IsCompiledFrom source age enable block c) (text file : List ℕ) (rounds : List (List Image)) (is_text : text ≡ c.text.items) (fits : FitsFile (ports from.program) file rounds) (power : PowerUp) where
  abbrev q : Typing
  q = from.program

  abbrev m : Netlist
  m = (c.«module»).netlist

  abbrev fill : Fill
  fill = fill_of power

  abbrev clocks : ℕ
  clocks = length rounds * area q.size + latency c.plan

  bench : FitsBench (din_widths m) file q.size rounds
  bench =
      let typed = is_typed source age enable block q c.ir c.system c.solution c.plan c.«module» c.nets.items c.reads.items c.text.items from.is in
      let given = form source age enable block q c.ir c.system c.solution c.plan c.«module» c.nets.items c.reads.items c.text.items from.is in
      let dins = din_widths_are source age enable block q c.ir c.system c.solution c.plan c.«module» c.nets.items c.reads.items c.text.items from.is in
      let widths : map width_of (map (λ (i : TypedInput). i.ty) q.inputs) ≡ din_widths m = widths_same q c.ir given ∙ sym dins in
      record { frame = typed.frame; fits = subst (λ ws. FitsFile (ports_with q.size ws) file rounds) widths fits }

  stands : StandsFor text c.«module»
  stands = subst (λ t. StandsFor t c.«module») (sym is_text) (from.is.printed).stands

  shown : IsShown m (drive_from fill clocks) q.size (samples_of rounds) (output_file q rounds)
  shown =
      let (shots, to, runs) = ran laws source age enable block c from file rounds fits power in
      record {
        shots = shots;
        run = record { to = to; runs = runs };
        enough = shows_enough source age enable block q c.ir c.system c.solution c.plan c.«module» c.nets.items c.reads.items c.text.items from.is file rounds fits fill laws.picture laws.rasters clocks refl shots (record { to = to; runs = runs });
        file_is = sym (ap file_of (images_same source age enable block q c.ir c.system c.solution c.plan c.«module» c.nets.items c.reads.items c.text.items from.is file rounds fits fill laws.picture laws.rasters clocks refl shots (record { to = to; runs = runs })));
      }

  sim_file : length text ≤ MAX_VERILOG_BYTES → length file ≤ MAX_PGM_BYTES → IsSimulated (drive_from fill clocks) text file (output_file q rounds)
  sim_file short small = record {
    m = c.«module»;
    made = record { within = short; stands = stands; enable = λ some. let apart : ⊥ = cc in absurd apart };
    size = q.size;
    images = rounds;
    fits = record { within = small; fits = bench };
    shown = shown;
  }

  only_file : (pictures : List ℕ) → IsSimulated (drive_from fill clocks) text file pictures → pictures ≡ output_file q rounds
  only_file pictures other =
      let same : other.m ≡ c.«module» = (from.is.printed).only other.m (subst (λ t. StandsFor t other.m) is_text (other.made).stands) in
      let fits_other : FitsModule c.«module» file other.size other.images = subst (λ (n : NamedNetlist). FitsModule n file other.size other.images) same other.fits in
      let both = laws.one_rounds (din_widths m) (fits_some (din_widths m) file q.size rounds bench) file other.size q.size other.images rounds fits_other.fits bench in
      let first : IsShown m (drive_from fill clocks) other.size (samples_of other.images) pictures = subst (λ (n : NamedNetlist). IsShown n.netlist (drive_from fill clocks) other.size (samples_of other.images) pictures) same other.shown in
      let second : IsShown m (drive_from fill clocks) q.size (samples_of other.images) pictures = subst (λ z. IsShown m (drive_from fill clocks) z (samples_of other.images) pictures) both.0 first in
      let third : IsShown m (drive_from fill clocks) q.size (samples_of rounds) pictures = subst (λ z. IsShown m (drive_from fill clocks) q.size (samples_of z) pictures) both.1 second in
      drive_file source age enable block q c.ir c.system c.solution c.plan c.«module» c.nets.items c.reads.items c.text.items from.is file rounds fits fill laws.picture laws.rasters clocks refl pictures third

-- what `sim` shows of a text that is compiled, by any plan of its program
module _ (laws : Laws) (given : CompiledInput) (power : PowerUp) where
  abbrev c : Compiled
  c = given.compiled.compiled

  from : IsCompiledFrom given.source given.age given.enable given.block c
  from = given.compiled.from

  same : from.program ≡ given.program
  same = laws.one_program given.source from.program given.program from.is.planned.has.front.program given.has_plan.planned.has.front.program

  same_plan : c.plan ≡ given.plan
  same_plan = plan_once laws given.source given.age from.program given.program c.ir given.has_plan.ir c.system given.has_plan.system c.solution given.has_plan.solution c.plan given.plan from.is.planned given.has_plan.planned

  fits : FitsFile (ports from.program) given.file given.rounds
  fits = subst (λ (x : Typing). FitsFile (ports x) given.file given.rounds) (sym same) given.fits.holds

  -- how a program of this plan is driven
  abbrev driven : Typing → Plan → Drive
  driven x z = drive_from (fill_of power) (length given.rounds * area x.size + latency z)

  pub sim_shows : IsSimulated (whole_drive given power) given.text given.file (output_file given.program given.rounds)
  sim_shows =
      subst (λ (z : Plan). IsSimulated (driven given.program z) given.text given.file (output_file given.program given.rounds)) same_plan
      (subst (λ (x : Typing). IsSimulated (driven x c.plan) given.text given.file (output_file x given.rounds)) same
      (sim_file laws given.source given.age given.enable given.block c from given.text given.file given.rounds given.compiled.is fits power given.short given.fits.within))

  pub sim_only : (pictures : List ℕ) → IsSimulated (whole_drive given power) given.text given.file pictures → pictures ≡ output_file given.program given.rounds
  sim_only pictures other =
      let back : IsSimulated (driven given.program c.plan) given.text given.file pictures = subst (λ (z : Plan). IsSimulated (driven given.program z) given.text given.file pictures) (sym same_plan) other in
      let mine : IsSimulated (driven from.program c.plan) given.text given.file pictures = subst (λ (x : Typing). IsSimulated (driven x c.plan) given.text given.file pictures) (sym same) back in
      only_file laws given.source given.age given.enable given.block c from given.text given.file given.rounds given.compiled.is fits power pictures mine ∙ ap (λ (x : Typing). output_file x given.rounds) same

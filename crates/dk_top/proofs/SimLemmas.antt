-- A Verilog text and a file decide one ending of `sim`, and one of `trace`.
use Rattle.std.proofs.Common.{◌≡◌, ◌⊎◌, inl, inr, ℕ, ℤ, ◌<◌, List, [], ◌∷◌, Option, refl, ap, subst, sym, ◌∙◌, arith, length, true, false}
use Rattle.std.specs.List.{flat_map, AllByRecursion}
use Rattle.pgm_codec.specs.Rounds.{FitsInputs}
use Rattle.dk_base.specs.declared.span.Span.{Span}
use Rattle.dk_base.specs.Frames.{Size}
use Rattle.wiring.specs.Netlist.{Netlist}
use Rattle.wiring.specs.Snapshot.{Snapshot, HasOneSnapshot, HasOneNext}
use Rattle.netlist.specs.Names.{NamedNetlist}
use Rattle.netlist.specs.declared.fault.NetFault.TheVariants as net
use Rattle.verilog_text.specs.declared.token.Token.{Token}
use Rattle.verilog_text.specs.declared.fault.TextFault.{TextFault}
use Rattle.verilog_text.specs.declared.fault.TextFault.TheVariants as text
use Rattle.verilog_text.specs.Lexis.{HasTokens}
use Rattle.verilog_text.specs.Grammar.{Source, Module}
use Rattle.verilog_text.specs.Stands.{IsWritten, StandsFor}
use Rattle.verilog_text.specs.Faults.{IsFault, Agrees}
use Rattle.pgm_codec.specs.Images.{Image}
use Rattle.pgm_rounds.specs.declared.fault.FileFault.{FileFault}
use Rattle.cycle_sim.specs.Ports.{din_widths}
use Rattle.stimulus.specs.declared.drive.Drive.{Drive}
use Rattle.stimulus.specs.declared.stop.Stop.{Stop}
use Rattle.stimulus.specs.declared.stop.Stop.TheVariants.{Index, Count}
use Rattle.stimulus.specs.Stimulus.{Rounds}
use Rattle.stimulus.specs.Inputs.{FitsBench, IsBenchFault, samples_of}
use Rattle.stimulus.specs.Showing.{IsShown, IsRun}
use Rattle.stimulus.specs.Stops.{IsStop, StopsAtClock}
use Rattle.dk_endings.specs.declared.ending.Ending.{Ending}
use Rattle.dk_endings.specs.declared.ending.Ending.TheVariants as ending
use Rattle.dk_endings.specs.declared.ending.ImageFault.{ImageFault}
use Rattle.dk_endings.specs.declared.ending.ImageFault.TheVariants as image
use Rattle.dk_endings.specs.declared.verilog.VerilogFault.{VerilogFault}
use Rattle.dk_endings.specs.declared.verilog.VerilogFault.TheVariants.{TooLong, At}
use Rattle.dk_endings.specs.declared.verilog.VerilogKind.{VerilogKind}
use Rattle.dk_endings.specs.declared.verilog.VerilogKind.TheVariants as kind
use Rattle.dk_endings.specs.Verilog.{fault_told}
use Rattle.dk_top.specs.Simulation.{of_text, of_ports, IsModuleOf, LacksEnable, IsTextFault, IsVerilogFault, FitsModule, IsFileFault, IsSimulated, IsUnfit, IsStopped, IsSimAnswer}
use Rattle.dk_top.specs.Tracing.{CanBeTraced, IsTraceAnswer}
use Rattle.dk_top.specs.Verdict.{AreAlike, IsJudged}

-- the laws of Verilog texts, of files for a bench and of what a bench gives
abbrev pub OneModule : Type 0
OneModule = (t : List ℕ) (m n : NamedNetlist) → StandsFor t m → StandsFor t n → m ≡ n

abbrev pub OneAgreed : Type 0
OneAgreed = (t : List ℕ) (f g : TextFault) → IsFault t f → IsFault t g → Agrees f g

abbrev pub ModuleApart : Type 0
ModuleApart = (t : List ℕ) (m : NamedNetlist) (f : TextFault) → StandsFor t m → IsFault t f → ⊥

abbrev pub OneTokens : Type 0
OneTokens = (t : List ℕ) (a b : List Token) → HasTokens t a → HasTokens t b → a ≡ b

abbrev pub OneTree : Type 0
OneTree = (tokens : List Token) (s t : Source) → Module tokens s → Module tokens t → s ≡ t

abbrev pub OneRounds : Type 0
OneRounds = (widths : List ℕ) → 0 < length widths → (bytes : List ℕ) (s t : Size) (a b : List (List Image)) → FitsBench widths bytes s a → FitsBench widths bytes t b → (s ≡ t) × (a ≡ b)

abbrev pub RoundsApart : Type 0
RoundsApart = (widths : List ℕ) → 0 < length widths → (bytes : List ℕ) (s : Size) (a : List (List Image)) (f : FileFault) → FitsBench widths bytes s a → IsBenchFault widths bytes f → ⊥

abbrev pub OneBenchFault : Type 0
OneBenchFault = (widths : List ℕ) → 0 < length widths → (bytes : List ℕ) (f g : FileFault) → IsBenchFault widths bytes f → IsBenchFault widths bytes g → f ≡ g

abbrev pub OneStop : Type 0
OneStop = (m : Netlist) → HasOneSnapshot m → HasOneNext m → (drive : Drive) (size : Size) (rounds : Rounds) (s t : Stop) → IsStop m drive size rounds s → IsStop m drive size rounds t → s ≡ t

abbrev pub ShownApart : Type 0
ShownApart = (m : Netlist) → HasOneSnapshot m → HasOneNext m → (drive : Drive) (size : Size) (rounds : Rounds) (file : List ℕ) (s : Stop) → IsShown m drive size rounds file → IsStop m drive size rounds s → ⊥

abbrev pub RunApart : Type 0
RunApart = (m : Netlist) → HasOneSnapshot m → HasOneNext m → (drive : Drive) (rounds : Rounds) (shots : List Snapshot) (clock : ℤ) (array index : ℕ) → IsRun m drive rounds shots → StopsAtClock m drive rounds clock array index → ⊥

-- a file that fits is one for some dins
none_fit : (width height : ℕ) (rounds : List (List Image)) (images : List Image) → 0 < length images → images ≡ flat_map (λ r. r) rounds → AllByRecursion (FitsInputs width height []) rounds → ⊥
none_fit width height [] [] some e fit = let x : ⊥ = omega (arith, some) in x
none_fit width height [] (i ∷ images) some e fit = let x : ⊥ = cc in x
none_fit width height ([] ∷ rounds) images some e fit = none_fit width height rounds images some e fit.1
none_fit width height ((p ∷ ps) ∷ rounds) images some e fit = fit.0

pub fits_some : (widths bytes : List ℕ) (s : Size) (a : List (List Image)) → FitsBench widths bytes s a → 0 < length widths
fits_some (w ∷ ws) bytes s a f = omega arith
fits_some [] bytes s a f = absurd (none_fit s.width s.height a f.fits.images f.fits.file.0 f.fits.fits.joined f.fits.fits.fit)

-- an ending is like itself
alike_kind : (s : Span) (k : VerilogKind) → AreAlike (ending.Verilog (At s k)) (ending.Verilog (At s k))
alike_kind s kind.Cycle = tt
alike_kind s (kind.Token fault) = refl
alike_kind s kind.Syntax = refl
alike_kind s kind.NotInSubset = refl
alike_kind s (kind.Limit passed) = refl
alike_kind s kind.Duplicate = refl
alike_kind s kind.Ports = refl
alike_kind s kind.Unknown = refl
alike_kind s kind.WrongSort = refl
alike_kind s kind.Divisor = refl
alike_kind s kind.Width = refl
alike_kind s kind.DrivenTwice = refl
alike_kind s kind.Undriven = refl

pub alike_self : (e : Ending) → AreAlike e e
alike_self (ending.Verilog TooLong) = refl
alike_self (ending.Verilog (At s k)) = alike_kind s k
alike_self ending.Done = refl
alike_self ending.Usage = refl
alike_self (ending.Source f) = refl
alike_self (ending.Image f) = refl
alike_self (ending.Stopped f) = refl
alike_self (ending.Rejected f) = refl
alike_self (ending.Unable f) = refl
alike_self ending.ReadFault = refl
alike_self ending.WriteFault = refl
alike_self ending.Memory = refl

pub alike_of : (a b : Ending) → a ≡ b → AreAlike a b
alike_of a b e = subst (λ x. AreAlike a x) e (alike_self a)

-- faults that agree are specified alike
agreed_alike : (f g : TextFault) → Agrees f g → AreAlike (ending.Verilog (fault_told f)) (ending.Verilog (fault_told g))
agreed_alike (text.Net s (net.Cycle j)) (text.Net t (net.Cycle k)) same = tt
agreed_alike f g same = alike_of (ending.Verilog (fault_told f)) (ending.Verilog (fault_told g)) (ap (λ x. ending.Verilog (fault_told x)) same)

told_alike : (f g : TextFault) (x y : VerilogFault) → Agrees f g → x ≡ fault_told f → y ≡ fault_told g → AreAlike (ending.Verilog x) (ending.Verilog y)
told_alike f g x y same a b =
    let first : AreAlike (ending.Verilog (fault_told f)) (ending.Verilog y) = subst (λ z. AreAlike (ending.Verilog (fault_told f)) (ending.Verilog z)) (sym b) (agreed_alike f g same) in
    subst (λ z. AreAlike (ending.Verilog z) (ending.Verilog y)) (sym a) first

-- what the laws say together
module _ (one : OneModule) (agree : OneAgreed) (text_apart : ModuleApart) (tokens : OneTokens) (tree : OneTree) (rounds : OneRounds) (file_apart : RoundsApart) (one_file : OneBenchFault) (one_stop : OneStop) (shown_apart : ShownApart) where
  -- a text that lacks `en` is that of a module without it
  without_enable : (hold : Option ℕ) (t : List ℕ) (m : NamedNetlist) (name : Span) → IsModuleOf hold t m → LacksEnable hold t name → ⊥
  without_enable hold t m name is lacks =
      let same : m ≡ lacks.lacks.m = one t m lacks.lacks.m is.stands lacks.lacks.stands in
      let e : true ≡ false = sym (is.enable lacks.holds) ∙ (ap (λ (n : NamedNetlist). n.netlist.enable) same ∙ lacks.lacks.without) in
      let f : ⊥ = cc in f

  -- a text that is in order has no fault
  module_no_text_fault : (hold : Option ℕ) (t : List ℕ) (m : NamedNetlist) (told : VerilogFault) → IsModuleOf hold t m → IsTextFault hold t told → ⊥
  module_no_text_fault hold t m told is (of_text f fault e) = text_apart t m f is.stands fault
  module_no_text_fault hold t m told is (of_ports name lacks e) = without_enable hold t m name is lacks

  module_no_fault : (hold : Option ℕ) (t : List ℕ) (m : NamedNetlist) (f : VerilogFault) → IsModuleOf hold t m → IsVerilogFault hold t f → ⊥
  module_no_fault hold t m TooLong is h = let a = is.within in absurd (omega (arith, a, h))
  module_no_fault hold t m (At s k) is h = module_no_text_fault hold t m (At s k) is h.1

  one_name : (t : List ℕ) (a b : Source) → IsWritten t a → IsWritten t b → a ≡ b
  one_name t a b x y = tree x.tokens a b x.is_module (subst (λ ts. Module ts b) (sym (tokens t x.tokens y.tokens x.has_tokens y.has_tokens)) y.is_module)

  one_lack : (hold : Option ℕ) (t : List ℕ) (a b : Span) → LacksEnable hold t a → LacksEnable hold t b → a ≡ b
  one_lack hold t a b x y = x.lacks.name_is ∙ (ap (λ (s : Source). s.name) (one_name t x.lacks.source y.lacks.source x.lacks.written y.lacks.written) ∙ sym y.lacks.name_is)

  one_text : (hold : Option ℕ) (t : List ℕ) (x y : VerilogFault) → IsTextFault hold t x → IsTextFault hold t y → AreAlike (ending.Verilog x) (ending.Verilog y)
  one_text hold t x y (of_text f fault a) (of_text g other b) = told_alike f g x y (agree t f g fault other) a b
  one_text hold t x y (of_text f fault a) (of_ports name lacks b) = absurd (text_apart t lacks.lacks.m f lacks.lacks.stands fault)
  one_text hold t x y (of_ports name lacks a) (of_text g other b) = absurd (text_apart t lacks.lacks.m g lacks.lacks.stands other)
  one_text hold t x y (of_ports name lacks a) (of_ports other more b) = alike_of (ending.Verilog x) (ending.Verilog y) (ap ending.Verilog (a ∙ (ap (λ s. At s kind.Ports) (one_lack hold t name other lacks more) ∙ sym b)))

  one_verilog : (hold : Option ℕ) (t : List ℕ) (x y : VerilogFault) → IsVerilogFault hold t x → IsVerilogFault hold t y → AreAlike (ending.Verilog x) (ending.Verilog y)
  one_verilog hold t TooLong TooLong a b = refl
  one_verilog hold t TooLong (At s k) a b = let l = b.0 in absurd (omega (arith, a, l))
  one_verilog hold t (At s k) TooLong a b = let l = a.0 in absurd (omega (arith, b, l))
  one_verilog hold t (At s k) (At r l) a b = one_text hold t (At s k) (At r l) a.1 b.1

  -- a file that fits has no fault, and another has one
  fits_no_fault : (m : NamedNetlist) (file : List ℕ) (size : Size) (images : List (List Image)) (f : ImageFault) → FitsModule m file size images → IsFileFault m file f → ⊥
  fits_no_fault m file size images image.TooLong fits h = let a = fits.within in absurd (omega (arith, a, h))
  fits_no_fault m file size images (image.File f) fits h = file_apart (din_widths m.netlist) h.1.some file size images f fits.fits h.1.is

  one_file_fault : (m : NamedNetlist) (file : List ℕ) (f g : ImageFault) → IsFileFault m file f → IsFileFault m file g → f ≡ g
  one_file_fault m file image.TooLong image.TooLong x y = refl
  one_file_fault m file image.TooLong (image.File g) x y = let l = y.0 in absurd (omega (arith, x, l))
  one_file_fault m file (image.File f) image.TooLong x y = let l = x.0 in absurd (omega (arith, y, l))
  one_file_fault m file (image.File f) (image.File g) x y = ap image.File (one_file (din_widths m.netlist) x.1.some file f g x.1.is y.1.is)

  module _ (drive : Drive) (t file : List ℕ) where
    unfit_apart : (m : NamedNetlist) (size : Size) (images : List (List Image)) (f : ImageFault) → IsModuleOf drive.hold t m → FitsModule m file size images → IsUnfit drive t file f → ⊥
    unfit_apart m size images f is fits u =
        fits_no_fault m file size images f fits (subst (λ n. IsFileFault n file f) (one t u.m m u.made.stands is.stands) u.unfit)

    one_unfit : (f g : ImageFault) → IsUnfit drive t file f → IsUnfit drive t file g → f ≡ g
    one_unfit f g x y = one_file_fault x.m file f g x.unfit (subst (λ n. IsFileFault n file g) (one t y.m x.m y.made.stands x.made.stands) y.unfit)

    -- the same module, size and images
    simulated_apart : (pictures : List ℕ) (s : Stop) → IsSimulated drive t file pictures → IsStopped drive t file s → ⊥
    simulated_apart pictures s x y =
        let m : x.m ≡ y.m = one t x.m y.m x.made.stands y.made.stands in
        let fits : FitsModule y.m file x.size x.images = subst (λ n. FitsModule n file x.size x.images) m x.fits in
        let both = rounds (din_widths y.m.netlist) (fits_some (din_widths y.m.netlist) file y.size y.images y.fits.fits) file x.size y.size x.images y.images fits.fits y.fits.fits in
        let first : IsShown y.m.netlist drive x.size (samples_of x.images) pictures = subst (λ (n : NamedNetlist). IsShown n.netlist drive x.size (samples_of x.images) pictures) m x.shown in
        let second : IsShown y.m.netlist drive y.size (samples_of x.images) pictures = subst (λ z. IsShown y.m.netlist drive z (samples_of x.images) pictures) both.0 first in
        let third : IsShown y.m.netlist drive y.size (samples_of y.images) pictures = subst (λ z. IsShown y.m.netlist drive y.size (samples_of z) pictures) both.1 second in
        shown_apart y.m.netlist y.one_valuation y.one_next drive y.size (samples_of y.images) pictures s third y.stops

    stops_once : (s r : Stop) → IsStopped drive t file s → IsStopped drive t file r → s ≡ r
    stops_once s r x y =
        let m : x.m ≡ y.m = one t x.m y.m x.made.stands y.made.stands in
        let fits : FitsModule y.m file x.size x.images = subst (λ n. FitsModule n file x.size x.images) m x.fits in
        let both = rounds (din_widths y.m.netlist) (fits_some (din_widths y.m.netlist) file y.size y.images y.fits.fits) file x.size y.size x.images y.images fits.fits y.fits.fits in
        let first : IsStop y.m.netlist drive x.size (samples_of x.images) s = subst (λ (n : NamedNetlist). IsStop n.netlist drive x.size (samples_of x.images) s) m x.stops in
        let second : IsStop y.m.netlist drive y.size (samples_of x.images) s = subst (λ z. IsStop y.m.netlist drive z (samples_of x.images) s) both.0 first in
        let third : IsStop y.m.netlist drive y.size (samples_of y.images) s = subst (λ z. IsStop y.m.netlist drive y.size (samples_of z) s) both.1 second in
        one_stop y.m.netlist y.one_valuation y.one_next drive y.size (samples_of y.images) s r third y.stops

    pub sim_answer : (a b : Ending) → IsJudged a → IsJudged b → IsSimAnswer drive t file a → IsSimAnswer drive t file b → AreAlike a b
    sim_answer ending.Done ending.Done _ _ x y = refl
    sim_answer ending.Done (ending.Verilog f) _ _ x y = absurd (module_no_fault drive.hold t x.1.m f x.1.made y)
    sim_answer ending.Done (ending.Image f) _ _ x y = absurd (unfit_apart x.1.m x.1.size x.1.images f x.1.made x.1.fits y)
    sim_answer ending.Done (ending.Stopped s) _ _ x y = absurd (simulated_apart x.0 s x.1 y)
    sim_answer (ending.Verilog f) ending.Done _ _ x y = absurd (module_no_fault drive.hold t y.1.m f y.1.made x)
    sim_answer (ending.Verilog f) (ending.Verilog g) _ _ x y = one_verilog drive.hold t f g x y
    sim_answer (ending.Verilog f) (ending.Image g) _ _ x y = absurd (module_no_fault drive.hold t y.m f y.made x)
    sim_answer (ending.Verilog f) (ending.Stopped s) _ _ x y = absurd (module_no_fault drive.hold t y.m f y.made x)
    sim_answer (ending.Image f) ending.Done _ _ x y = absurd (unfit_apart y.1.m y.1.size y.1.images f y.1.made y.1.fits x)
    sim_answer (ending.Image f) (ending.Verilog g) _ _ x y = absurd (module_no_fault drive.hold t x.m g x.made y)
    sim_answer (ending.Image f) (ending.Image g) _ _ x y = ap ending.Image (one_unfit f g x y)
    sim_answer (ending.Image f) (ending.Stopped s) _ _ x y = absurd (unfit_apart y.m y.size y.images f y.made y.fits x)
    sim_answer (ending.Stopped s) ending.Done _ _ x y = absurd (simulated_apart y.0 s y.1 x)
    sim_answer (ending.Stopped s) (ending.Verilog g) _ _ x y = absurd (module_no_fault drive.hold t x.m g x.made y)
    sim_answer (ending.Stopped s) (ending.Image g) _ _ x y = absurd (unfit_apart x.m x.size x.images g x.made x.fits y)
    sim_answer (ending.Stopped s) (ending.Stopped r) _ _ x y = ap ending.Stopped (stops_once s r x y)
    sim_answer (ending.Source f) b _ _ x y = absurd x
    sim_answer (ending.Rejected f) b _ _ x y = absurd x
    sim_answer (ending.Unable f) b _ _ x y = absurd x
    sim_answer ending.Usage b j _ x y = absurd j
    sim_answer ending.ReadFault b j _ x y = absurd j
    sim_answer ending.WriteFault b j _ x y = absurd j
    sim_answer ending.Memory b j _ x y = absurd j
    sim_answer _ (ending.Source f) _ _ x y = absurd y
    sim_answer _ (ending.Rejected f) _ _ x y = absurd y
    sim_answer _ (ending.Unable f) _ _ x y = absurd y
    sim_answer _ ending.Usage _ j x y = absurd j
    sim_answer _ ending.ReadFault _ j x y = absurd j
    sim_answer _ ending.WriteFault _ j x y = absurd j
    sim_answer _ ending.Memory _ j x y = absurd j

    -- a run that goes to its end does not stop
    traced_apart : RunApart → (clock : ℤ) (array index : ℕ) → CanBeTraced drive t file → IsStopped drive t file (Index clock array index) → ⊥
    traced_apart run_apart clock array index (n, shots, x) y =
        let m : n ≡ y.m = one t n y.m x.in_order.made.stands y.made.stands in
        let fits : FitsModule y.m file x.in_order.size x.images = subst (λ k. FitsModule k file x.in_order.size x.images) m x.in_order.fits in
        let both = rounds (din_widths y.m.netlist) (fits_some (din_widths y.m.netlist) file y.size y.images y.fits.fits) file x.in_order.size y.size x.images y.images fits.fits y.fits.fits in
        let first : IsRun y.m.netlist drive (samples_of x.images) shots = subst (λ (k : NamedNetlist). IsRun k.netlist drive (samples_of x.images) shots) m x.run in
        let second : IsRun y.m.netlist drive (samples_of y.images) shots = subst (λ z. IsRun y.m.netlist drive (samples_of z) shots) both.1 first in
        run_apart y.m.netlist y.one_valuation y.one_next drive (samples_of y.images) shots clock array index second y.stops

    traced_not_stopped : RunApart → (s : Stop) → CanBeTraced drive t file → IsTraceAnswer drive t file (ending.Stopped s) → ⊥
    traced_not_stopped run_apart (Index clock array index) x y = traced_apart run_apart clock array index x y
    traced_not_stopped run_apart (Count shown wanted) x y = absurd y

    -- what stops `trace` before it is done stops `sim`
    stops_both : (e : Ending) → IsJudged e → (e ≡ ending.Done → ⊥) → IsTraceAnswer drive t file e → IsSimAnswer drive t file e
    stops_both ending.Done _ other x = absurd (other refl)
    stops_both (ending.Verilog f) _ other x = x
    stops_both (ending.Image f) _ other x = x
    stops_both (ending.Stopped (Index clock array index)) _ other x = x
    stops_both (ending.Stopped (Count shown wanted)) _ other x = absurd x
    stops_both (ending.Source f) _ other x = absurd x
    stops_both (ending.Rejected f) _ other x = absurd x
    stops_both (ending.Unable f) _ other x = absurd x
    stops_both ending.Usage j other x = absurd j
    stops_both ending.ReadFault j other x = absurd j
    stops_both ending.WriteFault j other x = absurd j
    stops_both ending.Memory j other x = absurd j

    -- an ending other than Done does not come where there is a trace
    not_traced : RunApart → (e : Ending) → IsJudged e → CanBeTraced drive t file → (e ≡ ending.Done → ⊥) → IsTraceAnswer drive t file e → ⊥
    not_traced run_apart ending.Done _ good other x = other refl
    not_traced run_apart (ending.Verilog f) _ (m, shots, good) other x = module_no_fault drive.hold t m f good.in_order.made x
    not_traced run_apart (ending.Image f) _ (m, shots, good) other x = unfit_apart m good.in_order.size good.images f good.in_order.made good.in_order.fits x
    not_traced run_apart (ending.Stopped s) _ good other x = traced_not_stopped run_apart s good x
    not_traced run_apart (ending.Source f) _ good other x = x
    not_traced run_apart (ending.Rejected f) _ good other x = x
    not_traced run_apart (ending.Unable f) _ good other x = x
    not_traced run_apart ending.Usage j good other x = j
    not_traced run_apart ending.ReadFault j good other x = j
    not_traced run_apart ending.WriteFault j good other x = j
    not_traced run_apart ending.Memory j good other x = j

    done_or : (e : Ending) → (e ≡ ending.Done) ⊎ (e ≡ ending.Done → ⊥)
    done_or ending.Done = inl refl
    done_or (ending.Verilog f) = inr (λ e. let x : ⊥ = cc in x)
    done_or (ending.Image f) = inr (λ e. let x : ⊥ = cc in x)
    done_or (ending.Stopped s) = inr (λ e. let x : ⊥ = cc in x)
    done_or (ending.Source f) = inr (λ e. let x : ⊥ = cc in x)
    done_or (ending.Rejected f) = inr (λ e. let x : ⊥ = cc in x)
    done_or (ending.Unable f) = inr (λ e. let x : ⊥ = cc in x)
    done_or ending.Usage = inr (λ e. let x : ⊥ = cc in x)
    done_or ending.ReadFault = inr (λ e. let x : ⊥ = cc in x)
    done_or ending.WriteFault = inr (λ e. let x : ⊥ = cc in x)
    done_or ending.Memory = inr (λ e. let x : ⊥ = cc in x)

    answer_by : RunApart → (a b : Ending) → IsJudged a → IsJudged b → (a ≡ ending.Done) ⊎ (a ≡ ending.Done → ⊥) → (b ≡ ending.Done) ⊎ (b ≡ ending.Done → ⊥) → IsTraceAnswer drive t file a → IsTraceAnswer drive t file b → AreAlike a b
    answer_by run_apart a b j k (inl p) (inl q) x y = alike_of a b (p ∙ sym q)
    answer_by run_apart a b j k (inl p) (inr q) x y = absurd (not_traced run_apart b k (subst (λ e. IsTraceAnswer drive t file e) p x) q y)
    answer_by run_apart a b j k (inr p) (inl q) x y = absurd (not_traced run_apart a j (subst (λ e. IsTraceAnswer drive t file e) q y) p x)
    answer_by run_apart a b j k (inr p) (inr q) x y = sim_answer a b j k (stops_both a j p x) (stops_both b k q y)

    pub trace_answer : RunApart → (a b : Ending) → IsJudged a → IsJudged b → IsTraceAnswer drive t file a → IsTraceAnswer drive t file b → AreAlike a b
    trace_answer run_apart a b j k x y = answer_by run_apart a b j k (done_or a) (done_or b) x y

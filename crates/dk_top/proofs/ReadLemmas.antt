-- What is read of a command's files.
use Rattle.std.proofs.Common.{◌≡◌, ℕ, ◌<◌, ◌≤◌, List, length, map, Option, None, Some, IfSome, sym, ap, ◌∙◌, subst, arith}
use Rattle.std.proofs.lemmas.List.{length-map}
use Rattle.dk_base.specs.Types.{width_of}
use Rattle.dk_types.specs.Typed.{Typing}
use Rattle.pointwise_ir.specs.Programs.{Program, IsProgram}
use Rattle.raster_delay.specs.Systems.{System}
use Rattle.flow_dual.specs.declared.solution.Solution.{Solution}
use Rattle.buffer_plan.specs.Plans.{Plan}
use Rattle.dk_compile.specs.Sources.{IsText}
use Rattle.dk_compile.specs.Fronts.{IsForm}
use Rattle.dk_compile.specs.Compiled.{IsPlanned}
use Rattle.pgm_codec.specs.Images.{Image}
use Rattle.pgm_rounds.specs.declared.round.Round.{Round}
use Rattle.pgm_rounds.specs.Ports.{Ports}
use Rattle.program_images.specs.Ports.{ports_from, ports_of}
use Rattle.pgm_rounds.specs.Files.{FitsFile, frame_of, frames_of}
use Rattle.dk_endings.specs.declared.ending.Ending.{Ending}
use Rattle.dk_endings.specs.declared.ending.Ending.TheVariants as ending
use Rattle.dk_compile.specs.Limits.{IsAcceptedAt, IsFaultAt}
use Rattle.dk_top.specs.Program.{ports}
use Rattle.dk_top.specs.Reading.{IsSourceEnding, IsImageEnding, IsFormAt, IsInputOf, IsRead}
use Rattle.dk_top.specs.Output.{Terms, IsGoodPair, IsAnswer}
use Rattle.dk_top.specs.Meaning.{Files, bytes_of}

-- a form expects of files what its program expects
pub ports_same : (p : Typing) (ir : Program) → IsForm p ir → ports_of ir ≡ ports p
ports_same p ir f =
    ap (λ s. ports_from s (map (λ i. i.ty) ir.inputs)) f.size ∙ ap (λ is. ports_from p.size is) f.inputs

some_inputs : (ir : Program) → IsProgram ir → 0 < length (ports_of ir).inputs
some_inputs ir is =
    let a = length-map (map (λ i. i.ty) ir.inputs) width_of in
    let b = length-map ir.inputs (λ i. i.ty) in
    let c = is.some_inputs in
    omega (arith, a, b, c)

-- whatever rounds a file is read as, these are their frames
pub input_read : ((ports : Ports) → 0 < length ports.inputs → (bytes : List ℕ) → (a b : List (List Image)) → FitsFile ports bytes a → FitsFile ports bytes b → a ≡ b) → (ir : Program) (file : List ℕ) (rounds : List Round) → IsProgram ir
    → ((images : List (List Image)) × FitsFile (ports_of ir) file images × (frames_of rounds ≡ map (map frame_of) images)) → (most : Option ℕ) → IfSome most (λ n. length file ≤ n) → IsInputOf most ir file rounds
input_read one ir file rounds is (found, fits, frames) most within = record {
  some = λ p form. (found, record { within = within; holds = subst (λ (q : Ports). FitsFile q file found) (ports_same p ir form) fits });
  frames = λ p form images other.
      let there : FitsFile (ports_of ir) file images = subst (λ (q : Ports). FitsFile q file images) (sym (ports_same p ir form)) other.holds in
      frames ∙ ap (map (map frame_of)) (one (ports_of ir) (some_inputs ir is) file found images fits there);
}

-- a text that is accepted and a file that does not fit
pub misfit_answer : (terms : Terms) (source file : List ℕ) (p : Typing) → IsAcceptedAt source terms.age p → (e : Ending) → IsImageEnding terms.most p file e → IsAnswer terms source file e
misfit_answer terms source file p accepted ending.Done is = absurd is
misfit_answer terms source file p accepted ending.Usage is = absurd is
misfit_answer terms source file p accepted ending.WriteFault is = absurd is
misfit_answer terms source file p accepted (ending.Source f) is = absurd is
misfit_answer terms source file p accepted (ending.Image f) is = record { program = p; accepted = accepted; unfit = is }
misfit_answer terms source file p accepted (ending.Verilog f) is = absurd is
misfit_answer terms source file p accepted (ending.Stopped f) is = absurd is
misfit_answer terms source file p accepted (ending.Rejected f) is = absurd is
misfit_answer terms source file p accepted (ending.Unable f) is = absurd is
misfit_answer terms source file p accepted ending.ReadFault is = tt
misfit_answer terms source file p accepted ending.Memory is = tt

-- a text that is not accepted
pub refused_answer : (terms : Terms) (source file : List ℕ) (e : Ending) → IsSourceEnding (IsFaultAt source terms.age) e → IsAnswer terms source file e
refused_answer terms source file (ending.Source f) h = h
refused_answer terms source file ending.ReadFault h = tt
refused_answer terms source file ending.Memory h = tt
refused_answer terms source file ending.Done h = absurd h
refused_answer terms source file ending.Usage h = absurd h
refused_answer terms source file ending.WriteFault h = absurd h
refused_answer terms source file (ending.Image f) h = absurd h
refused_answer terms source file (ending.Verilog f) h = absurd h
refused_answer terms source file (ending.Stopped f) h = absurd h
refused_answer terms source file (ending.Rejected f) h = absurd h
refused_answer terms source file (ending.Unable f) h = absurd h

-- a file that fits the program
pub pair_read : (terms : Terms) (source file : List ℕ) (ir : Program) (rounds : List Round) → IsFormAt source terms.age ir → IsInputOf terms.most ir file rounds → IsRead terms source file ir rounds
pair_read terms source file ir rounds is input =
    let fit = input.some is.program is.form in
    record { good = record { program = is.program; rounds = fit.0; accepted = is.accepted; fits = fit.1 }; formed = is.every; input = input }

-- the form of a planned text is that of whatever program the text is of
pub every_form : ((text : List ℕ) (p q : Typing) → IsText text p → IsText text q → p ≡ q) → (text : List ℕ) (age : ℕ) (found : Typing) (ir : Program) (s : System) (x : Solution) (plan : Plan) → IsPlanned text age found ir s x plan → (p : Typing) → IsAcceptedAt text age p → IsForm p ir
every_form one text age found ir s x plan is p accepted = subst (λ (q : Typing). IsForm q ir) (one text found p is.has.front.program accepted.accepted.program) is.has.front.form

-- the two facts of a pair
pub told_first : (told : Option Files) (name : List ℕ) (P Q : List ℕ → Type 0) → IfSome told (λ f. P (bytes_of f name) × Q (bytes_of f name)) → IfSome told (λ f. P (bytes_of f name))
told_first None name P Q h = tt
told_first (Some f) name P Q h = h.0

pub told_second : (told : Option Files) (name : List ℕ) (P Q : List ℕ → Type 0) → IfSome told (λ f. P (bytes_of f name) × Q (bytes_of f name)) → IfSome told (λ f. Q (bytes_of f name))
told_second None name P Q h = tt
told_second (Some f) name P Q h = h.1

-- what is read is good
pub read_good : (told : Option Files) (terms : Terms) (program image : List ℕ) (ir : Program) (rounds : List Round) → IfSome told (λ f. IsRead terms (bytes_of f program) (bytes_of f image) ir rounds) → IfSome told (λ f. IsGoodPair terms (bytes_of f program) (bytes_of f image))
read_good None terms program image ir rounds is = tt
read_good (Some f) terms program image ir rounds is = is.good

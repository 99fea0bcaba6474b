-- Programs that take several pixels a clock: what their text shows, what is counted of it, and why there is none.
use Rattle.std.specs.Prelude.{◌≡◌, ◌≢◌, ℕ, ◌*◌, ◌%◌, ◌<◌, ◌≤◌, List, length}
use Rattle.dk_base.specs.declared.TheConstants.{MAX_INPUTS, MAX_OUTPUTS}
use Rattle.dk_types.specs.Typed.{Typing}
use Rattle.same_phases.specs.Phases.{SplitPictures}
use Rattle.dk_compile.specs.declared.widening.WideMeasures.{WideMeasures}
use Rattle.source_fault.specs.declared.widen.WidenFault.{WidenFault}
use Rattle.source_fault.specs.declared.widen.WidenFault.TheVariants.{Width, Inputs, Outputs, Limits}
use Rattle.dk_compile.specs.declared.widening.WidenError.{WidenError}
use Rattle.dk_compile.specs.declared.widening.WidenError.TheVariants.{Source, Unable}
use Rattle.dk_compile.specs.Sources.{IsText, IsErrorBy}
use Rattle.dk_compile.specs.Limits.{IsAcceptedAt, IsFaultAt}
use Rattle.dk_compile.specs.Compiled.{HasLeastBits}

-- The text is that of a program within all limits which takes and shows the phases of the pictures of the source's program.
pub record IsWidened (source : List ℕ) (phases : ℕ) (text : List ℕ) : Type 0 where
  pub old : Typing
  pub new : Typing
  pub from : IsAcceptedAt source 0 old
  pub to : IsAcceptedAt text 0 new
  pub split : SplitPictures phases old new

-- how many definitions the text's program has, and the least buffer bits of the text and of the source
pub record HasWideMeasures (source text : List ℕ) (m : WideMeasures) : Type 0 where
  pub program : Typing
  pub is_text : IsText text program
  pub definitions : m.definitions ≡ length program.definitions
  pub bits : HasLeastBits text m.bits
  pub bits_before : HasLeastBits source m.bits_before

-- The phases divide the frame's width, and there is a port for each phase of an input and of an output.
pub record IsAble (phases : ℕ) (p : Typing) : Type 0 where
  pub width : p.size.width % phases ≡ 0
  pub inputs : phases * length p.inputs ≤ MAX_INPUTS
  pub outputs : phases * length p.outputs ≤ MAX_OUTPUTS

-- The first reason that a program has no text with its phases: the frame's width, the inputs, the outputs. After these the text itself is judged: it is over a limit of programs, or the check does not confirm it.
abbrev pub IsWidenFault : (phases : ℕ) → Typing → WidenFault → Type 0
IsWidenFault phases p (Width w) = (w ≡ p.size.width) × (p.size.width % phases ≢ 0)
IsWidenFault phases p (Inputs n) = (p.size.width % phases ≡ 0) × (n ≡ phases * length p.inputs) × (MAX_INPUTS < n)
IsWidenFault phases p (Outputs n) = (p.size.width % phases ≡ 0) × (phases * length p.inputs ≤ MAX_INPUTS) × (n ≡ phases * length p.outputs) × (MAX_OUTPUTS < n)
IsWidenFault phases p Limits = IsAble phases p

-- an error is the source's first fault, or the first reason of its program, or out of memory
abbrev pub IsWidenErrorBy : (source : List ℕ) → (phases : ℕ) → WidenError → Type 0
IsWidenErrorBy source phases (Source error) = IsErrorBy (IsFaultAt source 0) error
IsWidenErrorBy source phases (Unable fault) = (p : Typing) × IsAcceptedAt source 0 p × IsWidenFault phases p fault

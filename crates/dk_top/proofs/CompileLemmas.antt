-- What `compile` writes.
use Rattle.std.proofs.Common.{ℕ, ◌≤◌, Bool, List, Option, None, Some, IfSome}
use Rattle.dk_base.specs.declared.TheConstants.{MAX_BUFFER_BITS}
use Rattle.dk_types.specs.Typed.{Typing}
use Rattle.pointwise_ir.specs.Programs.{Program}
use Rattle.raster_delay.specs.Systems.{System}
use Rattle.flow_dual.specs.declared.solution.Solution.{Solution}
use Rattle.buffer_plan.specs.Plans.{Plan}
use Rattle.dk_compile.specs.declared.compiling.Compiled.{Compiled}
use Rattle.dk_compile.specs.Compiled.{IsPlanned}
use Rattle.dk_endings.specs.declared.ending.Ending.{Ending}
use Rattle.dk_compile.specs.Limits.{IsAcceptedAt}
use Rattle.dk_top.specs.Compiling.{IsCompiledFrom, IsCompiledText}
use Rattle.dk_top.specs.Meaning.{Files, bytes_of}
use Rattle.dk_top.specs.Texts.{HoldsOutput, HoldsText}

-- the law of planned texts
abbrev pub PlannedAccepted : Type 0
PlannedAccepted = (text : List ℕ) (age : ℕ) (p : Typing) (ir : Program) (s : System) (x : Solution) (plan : Plan) → IsPlanned text age p ir s x plan → IsAcceptedAt text age p

-- a text that is compiled is accepted
pub compiled_accepted : PlannedAccepted → (source : List ℕ) (age : ℕ) (enable : Bool) (block : Option ℕ) (c : Compiled) → (from : IsCompiledFrom source age enable block c) → IsAcceptedAt source age from.program
compiled_accepted law source age enable block c from = law source age from.program c.ir c.system c.solution c.plan from.is.planned

-- what is written is the text, or is related to it as it is to what was made
pub text_stored : (told : Option Files) (program : List ℕ) (age : ℕ) (enable : Bool) (block : Option ℕ) (text : List ℕ) (bytes : Option (List ℕ)) (result : Ending) → IfSome told (λ f. IsCompiledText (bytes_of f program) age enable block text)
    → IfSome bytes (λ b. HoldsOutput result b text) → IfSome told (λ f. IfSome bytes (HoldsText (IsCompiledText (bytes_of f program) age enable block) result))
text_stored None program age enable block text bytes result is stored = tt
text_stored (Some f) program age enable block text None result is stored = tt
text_stored (Some f) program age enable block text (Some b) result is stored = record { text = text; is_text = is; holds = stored }

-- the number of `--block` is at least 2
pub block_low : (block : Option ℕ) → IfSome block (λ n. (2 ≤ n) × (n ≤ MAX_BUFFER_BITS)) → IfSome block (λ n. 2 ≤ n)
block_low None within = tt
block_low (Some n) within = within.0

-- The plan of a text's program at an age, and the notes of its modules.
use Rattle.std.specs.Prelude.{◌≡◌, ℕ, Bool, List, length, Option, None}
use Rattle.dk_types.specs.Typed.{Typing}
use Rattle.netlist.specs.Names.{NamedNetlist}
use Rattle.pointwise_ir.specs.Programs.{Program}
use Rattle.raster_delay.specs.Systems.{System}
use Rattle.flow_dual.specs.declared.solution.Solution.{Solution}
use Rattle.buffer_plan.specs.Plans.{Plan, latency}
use Rattle.verilog_text.specs.Stands.{StandsFor}
use Rattle.cycle_sim.specs.declared.fill.Fill.{Fill}
use Rattle.pgm_codec.specs.Images.{Image}
use Rattle.stimulus.specs.Inputs.{samples_of}
use Rattle.stimulus.specs.Showing.{IsNoted as AreNotes}
use Rattle.dk_compile.specs.Compiled.{IsPlanned}
use Rattle.dk_top.specs.Compiling.{IsCompiledText, AreTextNotes, AgreeWhereValid, filled_drive}
use Rattle.dk_top.specs.Output.{Fits}

-- p is the program of the text, and this is its plan at the age
pub record HasPlan (source : List ℕ) (age : ℕ) (p : Typing) (plan : Plan) : Type 0 where
  pub ir : Program
  pub system : System
  pub solution : Solution
  pub planned : IsPlanned source age p ir system solution plan

-- A program has one plan at an age, and the notes of its modules agree.
pub record NotesAgree : Type 0 where
  pub plan : (source : List ℕ) (age : ℕ) (p q : Typing) (one other : Plan) → HasPlan source age p one → HasPlan source age q other → one ≡ other
  -- the notes of two modules have the same `valid` in each clock, and the same `dout` where it is 1
  pub agree : (source file : List ℕ) (age : ℕ) (p : Typing) (plan : Plan) (rounds : List (List Image)) → HasPlan source age p plan → Fits None p file rounds
      → (one other : List (Bool × ℕ)) → AreTextNotes source age p plan rounds one → AreTextNotes source age p plan rounds other → AgreeWhereValid one other
  -- each module of a Verilog text has notes on rounds that fit, from zeros and from ones
  pub some : (source file : List ℕ) (age : ℕ) (p : Typing) (plan : Plan) (rounds : List (List Image)) → HasPlan source age p plan → Fits None p file rounds
      → (enable : Bool) (block : Option ℕ) (text : List ℕ) (m : NamedNetlist) (fill : Fill) → IsCompiledText source age enable block text → StandsFor text m
      → (notes : List (Bool × ℕ)) × AreNotes m.netlist (filled_drive fill p.size (latency plan) (length rounds)) (samples_of rounds) notes

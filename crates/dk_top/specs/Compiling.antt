-- What a program's text is compiled to, and how it is clocked.
use Rattle.std.specs.Prelude.{◌≡◌, ℕ, Bool, false, IsTrue, List, ◌++◌, length, Option, None, Some}
use Rattle.std.specs.List.{AllZip}
use Rattle.std.specs.Option.{option_map}
use Rattle.dk_desk.specs.Calls.{IsIfTold}
use Rattle.netlist.specs.Names.{NamedNetlist}
use Rattle.buffer_plan.specs.Plans.{Plan, latency}
use Rattle.verilog_text.specs.Stands.{StandsFor}
use Rattle.cycle_sim.specs.declared.fill.Fill.{Fill}
use Rattle.pgm_codec.specs.Images.{Image}
use Rattle.stimulus.specs.Inputs.{samples_of}
use Rattle.stimulus.specs.Showing.{IsNoted as AreNotes}
use Rattle.dk_types.specs.Typed.{Typing}
use Rattle.dk_compile.specs.declared.compiling.Compiled.{Compiled}
use Rattle.dk_compile.specs.Compiled.{IsCompiled}
use Rattle.net_lines.specs.Lines.{net_lines}
pub use Rattle.test_bench.specs.Drives.{filled_drive, frame_drive}
use Rattle.dk_top.specs.Meaning.{bytes_of, reports_text, Meaning, of_text}
use Rattle.dk_top.specs.Texts.{HoldsText}
use Rattle.dk_top.specs.Program.{program_answers}

-- This is what the text is compiled to at an age, with the port `en` or without it.
pub record IsCompiledFrom (source : List ℕ) (age : ℕ) (enable : Bool) (block : Option ℕ) (c : Compiled) : Type 0 where
  pub program : Typing
  pub is : IsCompiled source age enable block program c.ir c.system c.solution c.plan c.«module» c.nets.items c.reads.items c.text.items

-- a Verilog text of the program's circuit
pub record IsCompiledText (source : List ℕ) (age : ℕ) (enable : Bool) (block : Option ℕ) (text : List ℕ) : Type 0 where
  pub compiled : Compiled
  pub from : IsCompiledFrom source age enable block compiled
  pub is : text ≡ compiled.text.items

-- the lines that name the nets of a module that the text is compiled to, with the digest of its Verilog text
pub record AreNetLines (source : List ℕ) (age : ℕ) (enable : Bool) (block : Option ℕ) (lines : List ℕ) : Type 0 where
  pub compiled : Compiled
  pub from : IsCompiledFrom source age enable block compiled
  pub are : lines ≡ net_lines compiled.ir compiled.plan compiled.«module» compiled.nets.items compiled.reads.items compiled.text.items

-- These are the notes of a module that a Verilog text of the program denotes, compiled with any options of `compile` at this age.
-- It is driven with these rounds, from zeros or from ones.
pub record AreTextNotes (source : List ℕ) (age : ℕ) (p : Typing) (plan : Plan) (rounds : List (List Image)) (notes : List (Bool × ℕ)) : Type 0 where
  pub enable : Bool
  pub block : Option ℕ
  pub text : List ℕ
  pub compiled : IsCompiledText source age enable block text
  pub «module» : NamedNetlist
  pub denotes : StandsFor text «module»
  pub fill : Fill
  pub run : AreNotes «module».netlist (filled_drive fill p.size (latency plan) (length rounds)) (samples_of rounds) notes

-- two notes of an output in a clock have the same `valid`, and the same `dout` where it is 1
pub record AgreeInClock (one other : Bool × ℕ) : Type 0 where
  pub valid : one.0 ≡ other.0
  pub dout : IsTrue one.0 → one.1 ≡ other.1

-- there are as many notes in both lists, and they agree place by place
abbrev pub AgreeWhereValid : (one other : List (Bool × ℕ)) → Type 0
AgreeWhereValid one other = AllZip AgreeInClock one other

-- The notes have gained those of the run of a module of the program's text, driven with these rounds.
pub record NotesRun (source : List ℕ) (age : ℕ) (p : Typing) (rounds : List (List Image)) (old new : Option (List (Bool × ℕ))) : Type 0 where
  pub compiled : Compiled
  pub from : IsCompiledFrom source age false None compiled
  pub gained : List (Bool × ℕ)
  pub run : AreNotes compiled.«module».netlist (frame_drive p.size (latency compiled.plan) (length rounds)) (samples_of rounds) gained
  -- the notes of each module of the program agree with them, whatever text of `compile` denotes it
  pub every : (notes : List (Bool × ℕ)) → AreTextNotes source age p compiled.plan rounds notes → AgreeWhereValid gained notes
  pub told : IsIfTold new (option_map (λ notes. notes ++ gained) old)

-- what `compile` means
abbrev pub compile_meaning : (program out : List ℕ) → (enable : Bool) → (age : ℕ) → (block : Option ℕ) → Meaning
compile_meaning program out enable age block = record (of_text program (program_answers age)) {
  out = Some out;
  stored = λ result files left bytes. HoldsText (IsCompiledText (bytes_of files program) age enable block) result bytes;
}

-- what `nets` means
abbrev pub nets_meaning : (program : List ℕ) → (enable : Bool) → (age : ℕ) → (block : Option ℕ) → Meaning
nets_meaning program enable age block = record (of_text program (program_answers age)) { reports = reports_text (λ files. AreNetLines (bytes_of files program) age enable block) }

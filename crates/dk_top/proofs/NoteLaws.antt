-- The law of notes, for the lemmas that take it.
use Rattle.std.proofs.Common.{ℕ, Bool, false, List, length, None, refl}
use Rattle.dk_types.specs.Typed.{Typing}
use Rattle.buffer_plan.specs.Plans.{Plan, latency}
use Rattle.cycle_sim.specs.declared.fill.Fill.TheVariants.{Zeros}
use Rattle.pgm_codec.specs.Images.{Image}
use Rattle.pgm_rounds.specs.Files.{FitsFile}
use Rattle.stimulus.specs.Inputs.{samples_of}
use Rattle.stimulus.specs.Showing.{IsNoted as AreNotes}
use Rattle.dk_compile.specs.declared.compiling.Compiled.{Compiled}
use Rattle.dk_top.specs.Program.{ports}
use Rattle.dk_top.specs.Output.{Fits}
use Rattle.dk_top.specs.Compiling.{IsCompiledFrom, AreTextNotes, AgreeWhereValid, frame_drive}
use Rattle.dk_top.specs.Agreement.{HasPlan}

-- the notes of two modules of a program that are driven in the same way agree
abbrev pub NotesLaw : Type 0
NotesLaw =
    (source file : List ℕ) (age : ℕ) (p : Typing) (plan : Plan) (rounds : List (List Image)) → HasPlan source age p plan → Fits None p file rounds → (one other : List (Bool × ℕ)) → AreTextNotes source age p plan rounds one → AreTextNotes source age p plan rounds other
    → AgreeWhereValid one other

-- the notes of a compiled module agree with those of each text of its program
pub every_of : NotesLaw → (source file : List ℕ) (age : ℕ) (c : Compiled) (from : IsCompiledFrom source age false None c) (rounds : List (List Image)) → FitsFile (ports from.program) file rounds → (gained : List (Bool × ℕ))
    → AreNotes (c.«module»).netlist (frame_drive (from.program).size (latency c.plan) (length rounds)) (samples_of rounds) gained → (notes : List (Bool × ℕ)) → AreTextNotes source age from.program c.plan rounds notes → AgreeWhereValid gained notes
every_of law source file age c from rounds fits gained run notes of =
    let planned : HasPlan source age from.program c.plan = record { ir = c.ir; system = c.system; solution = c.solution; planned = from.is.planned } in
    let mine : AreTextNotes source age from.program c.plan rounds gained = record {
      enable = false;
      block = None;
      text = c.text.items;
      compiled = record { compiled = c; from = from; is = refl };
      «module» = c.«module»;
      denotes = (from.is.printed).stands;
      fill = Zeros;
      run = run;
    } in
    law source file age from.program c.plan rounds planned (record { within = tt; holds = fits }) gained notes mine of

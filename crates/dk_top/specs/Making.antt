-- What is reported of a made program: it is compiled, and clocked on its image.
use Rattle.std.specs.Prelude.{◌≡◌, ℕ, ◌-◌, Bool, false, List, [], length, map, Option, None}
use Rattle.std.specs.List.{sum}
use Rattle.dk_base.specs.Stencils.{Stencils}
use Rattle.dk_types.specs.Typed.{Typing}
use Rattle.buffer_plan.specs.Plans.{bits_of, latency}
use Rattle.pgm_codec.specs.Images.{Image}
use Rattle.pgm_rounds.specs.Files.{FitsFile}
use Rattle.made_program.specs.Programs.{program_of}
use Rattle.made_program.specs.Images.{image_of}
use Rattle.made_program.specs.Summary.{summary}
use Rattle.dk_compile.specs.declared.compiling.Compiled.{Compiled}
use Rattle.dk_top.specs.Program.{ports, program_answers}
use Rattle.dk_top.specs.Output.{outputs_of, output_file, all_samples}
use Rattle.dk_top.specs.Compiling.{IsCompiledFrom, NotesRun}
use Rattle.dk_top.specs.Meaning.{reports_text, noted_at_done, Meaning, of_text}

-- The program of a number was compiled to this, its image is that of these rounds, and this is the file of the outputs.
pub record IsMade (n : ℕ) (compiled : Compiled) (rounds : List (List Image)) (file : List ℕ) : Type 0 where
  pub from : IsCompiledFrom (program_of n) 0 false None compiled
  pub fits : FitsFile (ports from.program) (image_of n) rounds
  pub file_is : file ≡ output_file from.program rounds

-- how many kept images are not inputs
abbrev pub body_count : Stencils → ℕ
body_count stencils = length stencils.images - stencils.inputs

-- the sum of the samples of the outputs, by the program's meaning
abbrev pub output_sum : Typing → List (List Image) → ℕ
output_sum p rounds = sum (all_samples (map (outputs_of p) rounds))

-- The line of a number: kept images without the inputs, live reads, bits and latency of its plan, and the sum of the samples of the outputs.
pub record IsMadeLine (n : ℕ) (line : List ℕ) : Type 0 where
  pub compiled : Compiled
  pub from : IsCompiledFrom (program_of n) 0 false None compiled
  pub rounds : List (List Image)
  pub fits : FitsFile (ports from.program) (image_of n) rounds
  pub line_is : line ≡ summary n (body_count compiled.system.stencils) (length compiled.system.stencils.reads)
      (bits_of compiled.plan) (latency compiled.plan) (output_sum from.program rounds)

-- The notes have gained those of the run on the image of a number.
pub record NotesMade (n : ℕ) (old new : Option (List (Bool × ℕ))) : Type 0 where
  pub program : Typing
  pub rounds : List (List Image)
  pub fits : FitsFile (ports program) (image_of n) rounds
  pub noted : NotesRun (program_of n) 0 program rounds old new

-- what `make` means, which reads no file
abbrev pub make_meaning : (number : ℕ) → Meaning
make_meaning number = record (of_text [] (program_answers 0)) {
  program = None;
  answers = λ files. program_answers 0 (program_of number);
  reports = reports_text (λ files. IsMadeLine number);
  notes = noted_at_done (λ files. NotesMade number);
}

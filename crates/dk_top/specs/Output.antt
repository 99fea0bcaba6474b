-- The files of images that fit a program, the first fault of those that do not, and the file that is written.
use Rattle.std.specs.Prelude.{ℕ, ◌<◌, ◌≤◌, true, List, length, map, Option, None, Some, IfSome, IsSomeAnd}
use Rattle.std.specs.List.{flat_map}
use Rattle.dk_types.specs.Typed.{Typing, types_of}
use Rattle.dk_types.specs.Meaning.{meaning_on}
use Rattle.pgm_codec.specs.Images.{Image, file_of}
use Rattle.pgm_rounds.specs.Files.{FitsFile, IsFault, joined}
use Rattle.program_images.specs.Outputs.{output_images}
use Rattle.dk_endings.specs.declared.ending.ImageFault.{ImageFault}
use Rattle.dk_endings.specs.declared.ending.ImageFault.TheVariants.{TooLong, File}
use Rattle.dk_top.specs.Program.{ports, CanBeCompiled}
use Rattle.dk_base.specs.declared.TheConstants.{MAX_PGM_BYTES}
use Rattle.dk_compile.specs.Limits.{IsAcceptedAt, IsFaultAt}
use Rattle.dk_endings.specs.declared.ending.Ending.{Ending}
use Rattle.dk_top.specs.Meaning.{bytes_of, Answers, faultless, IsAnswered, Meaning, of_both}
use Rattle.dk_top.specs.Texts.{HoldsOutput}

-- the file is within its limit, if it has one, and one of these rounds, which fit the program
pub record Fits (most : Option ℕ) (p : Typing) (file : List ℕ) (rounds : List (List Image)) : Type 0 where
  pub within : IfSome most (λ n. length file ≤ n)
  pub holds : FitsFile (ports p) file rounds

-- The first fault of a file: its length, and then its images one after another.
abbrev pub IsImageFault : (most : Option ℕ) → Typing → (file : List ℕ) → ImageFault → Type 0
IsImageFault most p file TooLong = IsSomeAnd most (λ n. n < length file)
IsImageFault most p file (File fault) = IfSome most (λ n. length file ≤ n) × IsFault (ports p) file fault

-- the images of a round's outputs, by the program's meaning
abbrev pub outputs_of : Typing → List Image → List Image
outputs_of p round = output_images p.size (types_of p) p.outputs (meaning_on p (map (λ image. image.samples) round))

-- the file that holds the program's outputs for these rounds
abbrev pub output_file : Typing → List (List Image) → List ℕ
output_file p rounds = file_of (joined (map (outputs_of p) rounds))

-- the samples of images, one image after another
abbrev pub all_samples : List (List Image) → List ℕ
all_samples rounds = flat_map (λ image. image.samples) (joined rounds)

-- on which terms a program and a file of images are accepted: the requested age of the live reads, and the most bytes of the file, if they are limited
pub record Terms : Type 0 where
  pub age : ℕ
  pub most : Option ℕ

-- those of `eval`
abbrev pub eval_terms : Terms
eval_terms = record { age = 0; most = Some MAX_PGM_BYTES }

-- those of `run`, which reads a file of any length
abbrev pub run_terms : (age : ℕ) → Terms
run_terms age = record { age = age; most = None }

-- the text is accepted, and the file fits its program
pub record IsGoodPair (terms : Terms) (source file : List ℕ) : Type 0 where
  pub program : Typing
  pub rounds : List (List Image)
  pub accepted : IsAcceptedAt source terms.age program
  pub fits : Fits terms.most program file rounds

-- the text is accepted, and this is the first fault of the file by its program
pub record IsMisfit (terms : Terms) (source file : List ℕ) (fault : ImageFault) : Type 0 where
  pub program : Typing
  pub accepted : IsAcceptedAt source terms.age program
  pub unfit : IsImageFault terms.most program file fault

-- when each ending comes for a program's text and a file of images
abbrev pub pair_answers : Terms → (source file : List ℕ) → Answers
pair_answers terms source file = record (faultless (IsGoodPair terms source file)) { source = IsFaultAt source terms.age; image = IsMisfit terms source file }

abbrev pub IsAnswer : Terms → (source file : List ℕ) → Ending → Type 0
IsAnswer terms source file result = IsAnswered (pair_answers terms source file) result

-- A fact of the program that is accepted and of the rounds of the file that fits it. The files decide both, where they are good.
abbrev pub OfPair : Terms → (source file : List ℕ) → (Typing → List (List Image) → Type 0) → Type 0
OfPair terms source file P = (p : Typing) (rounds : List (List Image)) → IsAcceptedAt source terms.age p → Fits terms.most p file rounds → P p rounds

-- what File holds, where it was created: the pictures by the program's meaning
abbrev pub IsStoredOf : Ending → Terms → (source file bytes : List ℕ) → Type 0
IsStoredOf result terms source file bytes = OfPair terms source file (λ p rounds. HoldsOutput result bytes (output_file p rounds))

-- what `eval` means
abbrev pub eval_meaning : (program image out : List ℕ) → Meaning
eval_meaning program image out = record (of_both program image true (λ source. CanBeCompiled source 0) (pair_answers eval_terms)) {
  out = Some out;
  stored = λ result files left bytes. IsStoredOf result eval_terms (bytes_of files program) (bytes_of files image) bytes;
}

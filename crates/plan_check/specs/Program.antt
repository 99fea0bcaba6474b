-- Which lines of a report are wrong by the program, and what is answered on both kinds of rules.
use Rattle.std.specs.Prelude.{◌≡◌, ℕ, ◌+◌, ◌<◌, ◌≤◌, List, [], ◌∷◌, ◌++◌, length, slice_index, slice_index_or, All}
use Rattle.dk_base.specs.declared.stencils.Image.{Image}
use Rattle.dk_base.specs.Stencils.{Stencils, numbers}
use Rattle.raster_delay.specs.Placing.{widths_of as image_widths}
use Rattle.raster_delay.specs.Systems.{System}
use Rattle.report_text.specs.declared.report.ImageLine.{ImageLine}
use Rattle.report_text.specs.Reports.{Report, names_of}
use Rattle.plan_check.specs.declared.verdict.Verdict.{Verdict}
use Rattle.plan_check.specs.declared.verdict.Verdict.TheVariants.{Yes, No}
use Rattle.plan_check.specs.First.{IsFirst}
use Rattle.plan_check.specs.Rules.{each, Keeps, Breaks}
use Rattle.plan_check.specs.Numbering.{size_number, image_number, latency_number, clocks_number, bits_number}
use Rattle.plan_check.specs.Holding.{widths_of}
use Rattle.plan_check.specs.Judging.{number_rules}

-- the name of the kept image at place k; `names` are those of all images of the program
abbrev pub kept_name : (names : List (List ℕ)) → Stencils → ℕ → List ℕ
kept_name names s k = slice_index_or names (slice_index (numbers s.images) k) []

-- kept images are among the images of these names
abbrev pub AreNamed : (names : List (List ℕ)) → List Image → Type 0
AreNamed names images = All (λ (i : Image). i.number < length names) images

-- the line at place k is that of the k-th kept image: its name and its width, where there is one
pub record IsNamed (names : List (List ℕ)) (s : Stencils) (images : List ImageLine) (k : ℕ) : Type 0 where
  pub kept : k < length s.images
  pub name_is : slice_index_or (names_of images) k [] ≡ kept_name names s k
  pub width_is : slice_index (widths_of images) k ≡ slice_index (image_widths s.images) k

pub record IsOfSize (s : Stencils) (r : Report) : Type 0 where
  pub width : r.width ≡ s.width
  pub height : r.height ≡ s.height

-- the number of live reads is the program's, where the version has it
abbrev pub HasReads : Stencils → Report → Type 0
HasReads s r = (r.version ≡ 1 → ⊥) → r.reads ≡ length s.reads

-- The rules by the program, in the order of the lines. What is missing is specified at the line that is in its place.
abbrev pub program_rules : (names : List (List ℕ)) → Stencils → Report → List (ℕ × Type 0)
program_rules names s r =
    (size_number r, IsOfSize s r)
    ∷ (each (image_number r) (length r.images) (IsNamed names s r.images)
    ++ ((latency_number r 0, length s.images ≤ length r.images)
    ∷ (each (latency_number r) (length r.latencies) (λ k. k < length s.outputs)
    ++ ((clocks_number r, length s.outputs ≤ length r.latencies)
    ∷ (bits_number r + 1, HasReads s r)
    ∷ []))))

-- the report has as many images and outputs as the program has
pub record IsOfCounts (s : Stencils) (r : Report) : Type 0 where
  pub images : length r.images ≡ length s.images
  pub latencies : length r.latencies ≡ length s.outputs

-- all lines are those of the program with the printed delays
pub record HoldsOf (names : List (List ℕ)) (s : System) (r : Report) : Type 0 where
  pub program : Keeps (program_rules names s.stencils r)
  pub numbers : Keeps (number_rules s r)

-- the line of this number breaks a rule of either kind; those by the printed numbers count only where there are as many images and outputs as the program has
pub data IsAmiss (names : List (List ℕ)) (s : System) (r : Report) (line : ℕ) : Type 0 where
  foreign : Breaks (program_rules names s.stencils r) line → IsAmiss names s r line
  wrong : IsOfCounts s.stencils r → Breaks (number_rules s r) line → IsAmiss names s r line

-- what is answered
abbrev pub JudgesOf : List (List ℕ) → System → Report → Verdict → Type 0
JudgesOf names s r Yes = HoldsOf names s r
JudgesOf names s r (No line) = IsFirst (IsAmiss names s r) line

-- Used by private functions only.
-- How far a report was found right, line after line.
use Rattle.std.specs.Prelude.{◌≡◌, ℕ, ◌<◌, ◌≤◌, [], ◌∷◌, List, length}
use Rattle.dk_base.specs.declared.TheConstants.{MAX_KEPT_IMAGES, MAX_OUTPUTS}
use Rattle.dk_base.specs.Stencils.{Stencils}
use Rattle.raster_delay.specs.Systems.{System, image_count, bits}
use Rattle.report_text.specs.declared.report.ImageLine.{ImageLine}
use Rattle.report_text.specs.Reports.{Report}
use Rattle.report_text.specs.Layout.{unless_first, reads_line, end_line}
use Rattle.plan_check.specs.Holding.{ImageHolds, LatencyHolds, delays, clocks_of}
use Rattle.plan_check.specs.Judging.{Suits}
use Rattle.plan_check.specs.Program.{IsNamed, IsOfSize}

-- A number within a limit.
pub record IsCount (limit number result : ℕ) : Type 0 where
  -- it is this number
  pub value : result ≡ number
  -- which is within the limit
  pub most : result ≤ limit

-- At most as many image lines and latency lines as a program has images and outputs.
pub record HasFewLines (r : Report) : Type 0 where
  -- the image lines
  pub images : length r.images ≤ MAX_KEPT_IMAGES
  -- the latency lines
  pub latencies : length r.latencies ≤ MAX_OUTPUTS

-- `count` lines are between the line of the bits and the flow lines, and `count` after the flow lines.
pub record SurroundsFlow (r : Report) (count : ℕ) : Type 0 where
  -- that of the reads, where the version has it
  pub before : count ≡ length (unless_first r.version (reads_line r.reads ∷ []))
  -- that of the end, where the version has it
  pub behind : count ≡ length (unless_first r.version (end_line ∷ []))
  -- it is one at most
  pub most : count ≤ 1

-- A line of each kept image, and one of each output.
pub record HaveLines (s : System) (lines : List ImageLine) (numbers : List ℕ) : Type 0 where
  -- the image lines
  pub count : length lines ≡ image_count s
  -- the latencies
  pub outputs : length numbers ≡ length s.stencils.outputs

-- A report that suits, whose image lines are right.
pub record ImagesHold (s : System) (r : Report) : Type 0 where
  -- it suits the system
  pub suits : Suits s r
  -- each image line is right
  pub images : (k : ℕ) → k < length r.images → ImageHolds s r.images k

-- One whose image lines and latency lines are right.
pub record LatenciesHold (s : System) (r : Report) : Type 0 where
  -- it suits the system
  pub suits : Suits s r
  -- each image line is right
  pub images : (k : ℕ) → k < length r.images → ImageHolds s r.images k
  -- each latency line is right
  pub latencies : (k : ℕ) → k < length r.latencies → LatencyHolds s r.images r.latencies k

-- One in which all lines before the flow lines are right.
pub record TotalsHold (s : System) (r : Report) : Type 0 where
  -- it suits the system
  pub suits : Suits s r
  -- each image line is right
  pub images : (k : ℕ) → k < length r.images → ImageHolds s r.images k
  -- each latency line is right
  pub latencies : (k : ℕ) → k < length r.latencies → LatencyHolds s r.images r.latencies k
  -- the clocks follow from the size and the latencies
  pub clocks : r.clocks ≡ clocks_of r
  -- the bits follow from the delays
  pub bits : r.bits ≡ bits s (delays r)

-- A report of the program's size and names; `names` are those of all images of the program.
pub record NamesHold (names : List (List ℕ)) (s : Stencils) (r : Report) : Type 0 where
  -- it has few lines
  pub few : HasFewLines r
  -- the frame is of the program's size
  pub size : IsOfSize s r
  -- each image line is that of the kept image at its place
  pub named : (k : ℕ) → k < length r.images → IsNamed names s r.images k

-- One that has all the images, and no output beyond the program's.
pub record CountsHold (names : List (List ℕ)) (s : Stencils) (r : Report) : Type 0 where
  -- it has few lines
  pub few : HasFewLines r
  -- the frame is of the program's size
  pub size : IsOfSize s r
  -- each image line is that of the kept image at its place
  pub named : (k : ℕ) → k < length r.images → IsNamed names s r.images k
  -- there is a line of each kept image
  pub enough : length s.images ≤ length r.images
  -- each latency line is of an output
  pub outputs : length r.latencies ≤ length s.outputs

-- What a report states, and what its values keep.
use Rattle.std.specs.Prelude.{◌≡◌, ◌≢◌, ℕ, pos, ◌+◌, ◌^◌, ◌<◌, ◌≤◌, true, nat_eq, if◌then◌else◌, List, [], ◌∷◌, length, map, slice_index_or, All}
use Rattle.std.specs.List.{AllByRecursion}
use Rattle.dk_base.specs.declared.stencils.LiveRead.{LiveRead}
use Rattle.dk_base.specs.Stencils.{IsBefore, IsOffset}
use Rattle.dk_base.specs.declared.TheConstants.{MAX_SIDE, MAX_AGE, MAX_WIDTH, MAX_DEFINITIONS, MAX_KEPT_IMAGES, MAX_OUTPUTS}
use Rattle.report_text.specs.declared.report.ImageLine.{ImageLine}
use Rattle.report_text.specs.declared.report.FlowLine.{FlowLine}
use Rattle.report_text.specs.declared.report.FlowLine.TheVariants.{Hold, Start, Read, Keep}
use Rattle.report_text.specs.declared.report.Report.{Report as TheReport}
use Rattle.source_words.specs.Words.{is_name}

-- the values of a report, with its lists as lists
pub record Report : Type 0 where
  pub version : ℕ
  pub bits_limit : ℕ
  pub latency_limit : ℕ
  pub age : ℕ
  pub width : ℕ
  pub height : ℕ
  pub images : List ImageLine
  pub latencies : List ℕ
  pub clocks : ℕ
  pub bits : ℕ
  pub reads : ℕ
  pub flow : List FlowLine

abbrev pub parts_of : TheReport → Report
parts_of r = record { version = r.version; bits_limit = r.limits.bits; latency_limit = r.limits.latency; age = r.age; width = r.width; height = r.height; images = r.images.items; latencies = r.latencies.items; clocks = r.clocks; bits = r.bits; reads = r.reads; flow = r.flow.items }

abbrev pub names_of : List ImageLine → List (List ℕ)
names_of images = map (λ i. i.name) images

-- no two of them are the same
abbrev pub AreDistinct : List (List ℕ) → Type 0
AreDistinct names = (i j : ℕ) → i < j → j < length names → slice_index_or names i [] ≢ slice_index_or names j []

-- what the names of a program's images keep: each is one of the source language, no two are the same, and at most 256 are no inputs
pub record AreNames (inputs : ℕ) (names : List (List ℕ)) : Type 0 where
  pub each : All (λ name. is_name name ≡ true) names
  pub distinct : AreDistinct names
  pub few : length names ≤ inputs + MAX_DEFINITIONS

-- the values of an image line
pub record IsImageLine (i : ImageLine) : Type 0 where
  pub name : is_name i.name ≡ true
  pub some_bits : 1 ≤ i.width
  pub most_bits : i.width ≤ MAX_WIDTH
  pub delay : i.delay < 2 ^ 64
  pub depth : i.depth < 2 ^ 64

-- a flow of at least 1
pub record IsAmount (n : ℕ) : Type 0 where
  pub some : 1 ≤ n
  pub most : n < 2 ^ 64

-- places of images below `count`, offsets within the greatest frame, and a flow of at least 1
abbrev pub IsFlowLine : (count : ℕ) → FlowLine → Type 0
IsFlowLine count (Hold g n) = (g < count) × IsAmount n
IsFlowLine count (Start f n) = (f < count) × IsAmount n
IsFlowLine count (Read f g dx dy n) = (f < count) × (g < count) × IsOffset MAX_SIDE dx × IsOffset MAX_SIDE dy × IsAmount n
IsFlowLine count (Keep f g dx dy n) = (f < count) × (g < count) × IsOffset MAX_SIDE dx × IsOffset MAX_SIDE dy × IsAmount n

-- the kinds of flow lines in their order: hold, start, read, keep
abbrev pub kind : FlowLine → ℕ
kind (Hold g n) = 0
kind (Start f n) = 1
kind (Read f g dx dy n) = 2
kind (Keep f g dx dy n) = 3

-- The live read that a flow line names, its images by their places. A line of one image counts as a read by it of the first image.
abbrev pub read_named : FlowLine → LiveRead
read_named (Hold g n) = record { f = g; g = 0; dx = pos 0; dy = pos 0 }
read_named (Start f n) = record { f = f; g = 0; dx = pos 0; dy = pos 0 }
read_named (Read f g dx dy n) = record { f = f; g = g; dx = dx; dy = dy }
read_named (Keep f g dx dy n) = record { f = f; g = g; dx = dx; dy = dy }

-- one flow line is before another: by kind, and within a kind in the order of live reads
pub record StandsBefore (a b : FlowLine) : Type 0 where
  pub kinds : kind a ≤ kind b
  pub reads : kind a ≡ kind b → IsBefore (read_named a) (read_named b)

-- each is before the next one
abbrev pub Ascend : List FlowLine → Type 0
Ascend [] = Unit {0}
Ascend (a ∷ []) = Unit {0}
Ascend (a ∷ b ∷ more) = StandsBefore a b × Ascend (b ∷ more)

-- a report of version 3 is for any number of inputs and outputs, and the others are for one of each
abbrev pub most_images : (version : ℕ) → ℕ
most_images version = if nat_eq version 3 then MAX_KEPT_IMAGES else MAX_DEFINITIONS + 1

abbrev pub most_latencies : (version : ℕ) → ℕ
most_latencies version = if nat_eq version 3 then MAX_OUTPUTS else 1

-- what version 1 lacks
pub record IsBare (r : Report) : Type 0 where
  pub bits_limit : r.bits_limit ≡ 0
  pub latency_limit : r.latency_limit ≡ 0
  pub age : r.age ≡ 0
  pub reads : r.reads ≡ 0

-- the values of a report of its version
pub record Meets (r : Report) : Type 0 where
  pub first_version : 1 ≤ r.version
  pub last_version : r.version ≤ 3
  pub bare : r.version ≡ 1 → IsBare r
  pub bits_limit : r.bits_limit < 2 ^ 64
  pub latency_limit : r.latency_limit < 2 ^ 64
  pub age : r.age ≤ MAX_AGE
  pub some_columns : 1 ≤ r.width
  pub most_columns : r.width ≤ MAX_SIDE
  pub some_rows : 1 ≤ r.height
  pub most_rows : r.height ≤ MAX_SIDE
  pub some_images : 1 ≤ length r.images
  pub image_limit : length r.images ≤ most_images r.version
  pub images : AllByRecursion IsImageLine r.images
  pub distinct : AreDistinct (names_of r.images)
  pub some_latencies : 1 ≤ length r.latencies
  pub latency_count : length r.latencies ≤ most_latencies r.version
  pub latencies : AllByRecursion (λ n. n < 2 ^ 64) r.latencies
  pub clocks : r.clocks < 2 ^ 64
  pub bits : r.bits < 2 ^ 64
  pub reads : r.reads < 2 ^ 64
  pub flow : AllByRecursion (IsFlowLine (length r.images)) r.flow
  pub ascending : Ascend r.flow

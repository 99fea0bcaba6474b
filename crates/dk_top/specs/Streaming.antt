-- What `run` leaves of a program with one input and one output: its images are read, clocked and written line by line.
use Rattle.std.specs.Prelude.{◌≡◌, ◌≢◌, ℕ, ◌+◌, ◌-◌, ◌*◌, ◌/◌, ◌^◌, ◌<◌, ◌≤◌, List, [], ◌∷◌, ◌++◌, false, length, map, take, drop, replicate, slice_index_or, Option, None, Some, ⊤}
use Rattle.std.specs.List.{flat_map, range_with_len, AllByRecursion}
use Rattle.dk_base.specs.declared.TheConstants.{MAX_FILE_IMAGES}
use Rattle.dk_base.specs.Frames.{Size, area}
use Rattle.dk_desk.specs.declared.Stage.{Stage}
use Rattle.dk_desk.specs.declared.Stage.TheVariants.{Unasked, Refused, Open}
use Rattle.dk_desk.specs.Outside.{Input}
use Rattle.dk_types.specs.Typed.{Typing, types_of}
use Rattle.dk_types.specs.Meaning.{meaning_on}
use Rattle.buffer_plan.specs.Plans.{latency}
use Rattle.pgm_codec.specs.declared.header.Header.{Header}
use Rattle.pgm_codec.specs.Answers.{Reads, Undecided}
use Rattle.pgm_codec.specs.Images.{Image, AreImages, IsRaster}
use Rattle.pgm_codec.specs.Rasters.{row_length}
use Rattle.pgm_rounds.specs.Files.{IsHeaded}
use Rattle.program_images.specs.Ports.{bits_of}
use Rattle.program_images.specs.Outputs.{output_images}
use Rattle.row_stream.specs.Lines.{Kind, head, line_at, lines}
use Rattle.row_stream.specs.Heads.{FitsHeader, IsUndecidedBefore}
use Rattle.row_stream.specs.Images.{FitsImage, samples_of}
use Rattle.row_stream.specs.Ends.{greatest}
use Rattle.dk_compile.specs.declared.compiling.Compiled.{Compiled}
use Rattle.dk_compile.specs.Limits.{IsAcceptedAt}
use Rattle.dk_endings.specs.declared.ending.Ending.{Ending}
use Rattle.dk_endings.specs.declared.ending.Ending.TheVariants as ending
pub use Rattle.dk_compile.specs.Ports.{IsOnePort}
use Rattle.dk_top.specs.Program.{ports, CanBeCompiled}
use Rattle.dk_top.specs.Compiling.{IsCompiledFrom, NotesRun}
use Rattle.dk_top.specs.Meaning.{bytes_of, Answers, IsAnswered, Notes, OnlyAtDone, created_streaming, noted_at_done, Meaning, of_both}
use Rattle.dk_top.specs.Texts.{IsPrefix}
use Rattle.dk_top.specs.Output.{Fits, output_file, run_terms, OfPair, pair_answers}

-- the bits of the first input
abbrev pub first_bits : Typing → ℕ
first_bits p = slice_index_or (ports p).inputs 0 0

-- the bytes begin with a header of the frame's size and with a maxval that the first input takes
abbrev pub IsBegun : Typing → List ℕ → Type 0
IsBegun p bytes = (header : Header) × IsHeaded p.size (first_bits p) bytes header

-- the images that are written: their size, and the greatest sample of the first output
abbrev pub output_kind : Typing → Kind
output_kind p = record { size = p.size; maxval = 2 ^ bits_of (types_of p) (slice_index_or p.outputs 0 0) - 1 }

-- the frames of this many samples
abbrev pub frame_count : Size → ℕ → ℕ
frame_count size count = (count + area size - 1) / area size

-- the samples, with zeros where the last frame has none
abbrev pub padded : Size → List ℕ → List ℕ
padded size samples = samples ++ replicate (frame_count size (length samples) * area size - length samples) 0

abbrev pub padded_frames : Size → List ℕ → List (List ℕ)
padded_frames size samples = map (λ r. take (area size) (drop (r * area size) (padded size samples))) (range_with_len 0 (frame_count size (length samples)))

-- the samples of the outputs on frames of the input, by the program's meaning, one frame after another
abbrev pub output_samples : Typing → List (List ℕ) → List ℕ
output_samples p frames =
    flat_map (λ frame. flat_map (λ (image : Image). image.samples) (output_images p.size (types_of p) p.outputs (meaning_on p (frame ∷ [])))) frames

-- what a program gives for samples of its input: its outputs on their frames
abbrev pub shown_by : Typing → List ℕ → List ℕ
shown_by p samples = output_samples p (padded_frames p.size samples)

-- The header and some whole lines of a further image, or nothing of it.
pub data OpenLines (size : Size) (bits images : ℕ) (rows : ℕ) (samples part : List ℕ) : Type 0 where
  between : rows ≡ 0 → samples ≡ [] → part ≡ [] → OpenLines size bits images rows samples part
  opened : (header : Header) (head raster : List ℕ) → images < MAX_FILE_IMAGES → FitsHeader size bits header
      → Reads head header → length head ≡ header.length → rows ≤ header.height
      → IsRaster raster header.width rows header.maxval samples → part ≡ head ++ raster → OpenLines size bits images rows samples part

-- The bytes begin with this many whole lines of images of this size and of this many bits, counted through all images, each after its header,
-- all in order. These are their samples, the part of the bytes that they take, and what follows it.
pub record LinesTaken (size : Size) (bits : ℕ) (bytes : List ℕ) (rows : ℕ) (samples front rest : List ℕ) : Type 0 where
  pub images : List Image
  pub before : List ℕ
  pub are : AreImages before images
  pub fit : AllByRecursion (FitsImage size (greatest bits)) images
  pub few : length images ≤ MAX_FILE_IMAGES
  pub open_rows : ℕ
  pub open_samples : List ℕ
  pub part : List ℕ
  pub open_lines : OpenLines size bits (length images) open_rows open_samples part
  pub rows_are : rows ≡ length images * size.height + open_rows
  pub samples_are : samples ≡ samples_of images ++ open_samples
  pub front_is : front ≡ before ++ part
  pub bytes_are : bytes ≡ front ++ rest

-- no more lines than these are there
abbrev pub AreMost : Size → (bits : ℕ) → (bytes : List ℕ) → (rows : ℕ) → Type 0
AreMost size bits bytes rows = (more : ℕ) (samples front rest : List ℕ) → LinesTaken size bits bytes more samples front rest → more ≤ rows

-- The bytes do not begin with a header that fits. The bytes up to the first that shows this were read, or all that there are.
pub record ReadsRefused (size : Size) (bits : ℕ) (last after : List ℕ) : Type 0 where
  pub none : (header : Header) → ¬ (IsHeaded size bits (last ++ after) header)
  pub before : IsUndecidedBefore last
  pub shown : Undecided last → after ≡ []

-- What is read of a header that has a fault, after this many images. After as many images as a file may have, one byte shows the fault.
pub data ReadsHeader (size : Size) (bits images : ℕ) (last after : List ℕ) : Type 0 where
  to_fault : images < MAX_FILE_IMAGES → ReadsRefused size bits last after → ReadsHeader size bits images last after
  further_byte : images ≡ MAX_FILE_IMAGES → length last ≡ 1 → ReadsHeader size bits images last after

-- What is read of a row that has a fault, after this many rows of its image: all its bytes, or as many as there are.
pub record ReadsRow (header : Header) (rows : ℕ) (last after : List ℕ) : Type 0 where
  pub inside : rows < header.height
  pub all : last ≡ take (row_length header) (last ++ after)

-- what is read after these lines in order, where a fault follows them: the next row of the open image, or the next header
abbrev pub ReadsNext : {size : Size} {bits images rows : ℕ} {samples part : List ℕ}
    → OpenLines size bits images rows samples part → (last after : List ℕ) → Type 0
ReadsNext {size = size} {bits = bits} {images = images} (between none no_samples no_part) last after = ReadsHeader size bits images last after
ReadsNext {rows = rows} (opened header head raster few fits reads exact within is part_is) last after = ReadsRow header rows last after

-- What was read of a header when a read failed: bytes that begin a header and hold none whole. After as many images as a file may have, no byte.
pub data BeginsHeader (images : ℕ) (last : List ℕ) : Type 0 where
  in_header : images < MAX_FILE_IMAGES → Undecided last → BeginsHeader images last
  no_byte : images ≡ MAX_FILE_IMAGES → last ≡ [] → BeginsHeader images last

-- What was read of a row when a read failed: fewer bytes than the row has.
pub record BeginsRow (header : Header) (rows : ℕ) (last : List ℕ) : Type 0 where
  pub inside : rows < header.height
  pub fewer : length last < row_length header

-- what was read after these lines when a read failed
abbrev pub BeginsNext : {size : Size} {bits images rows : ℕ} {samples part : List ℕ} → OpenLines size bits images rows samples part → (last : List ℕ) → Type 0
BeginsNext {images = images} (between none no_samples no_part) last = BeginsHeader images last
BeginsNext {rows = rows} (opened header head raster few fits reads exact within is part_is) last = BeginsRow header rows last

-- What is read of a file that has a fault: all lines in order before it, and then no more than the row or the header that has the fault.
-- `left` is what is left of the file.
pub record ReadsToFault (p : Typing) (file : List ℕ) (left : Option (List ℕ)) (samples : List ℕ) : Type 0 where
  pub rows : ℕ
  pub front : List ℕ
  pub last : List ℕ
  pub after : List ℕ
  pub taken : LinesTaken p.size (first_bits p) file rows samples front (last ++ after)
  pub most : AreMost p.size (first_bits p) file rows
  pub next : ReadsNext taken.open_lines last after
  pub is_left : left ≡ Some after

-- What was read of a file when a read failed. It has no fault: it is lines in order and then less than one row or header.
pub record ReadsToFailure (p : Typing) (file : List ℕ) (left : Option (List ℕ)) (samples : List ℕ) : Type 0 where
  pub read : List ℕ
  pub rest : List ℕ
  pub parts : file ≡ read ++ rest
  pub is_left : left ≡ Some rest
  pub rows : ℕ
  pub front : List ℕ
  pub last : List ℕ
  pub taken : LinesTaken p.size (first_bits p) read rows samples front last
  pub most : AreMost p.size (first_bits p) read rows
  pub next : BeginsNext taken.open_lines last

-- Of the file its first header was read, which fits, and nothing after it.
pub record ReadsFirst (p : Typing) (file : List ℕ) (left : Option (List ℕ)) : Type 0 where
  pub header : Header
  pub front : List ℕ
  pub rest : List ℕ
  pub fits : FitsHeader p.size (first_bits p) header
  pub reads : Reads front header
  pub exact : length front ≡ header.length
  pub parts : file ≡ front ++ rest
  pub is_left : left ≡ Some rest

-- how many lines of the output are whole once this many pixels came in
abbrev pub complete : Size → (latency pixels : ℕ) → ℕ
complete size latency pixels = (pixels - latency) / size.width

-- The first header, and all lines of the output that are whole once these samples came in.
abbrev pub HoldsLines : Typing → (latency : ℕ) → (samples bytes : List ℕ) → Type 0
HoldsLines p latency samples bytes = bytes ≡ head (output_kind p) ++ lines (output_kind p) (shown_by p samples) (complete p.size latency (length samples))

-- The first header, all lines before this one, and a front of this one, short of its whole.
pub record HoldsFront (p : Typing) (samples : List ℕ) (y : ℕ) (bytes : List ℕ) : Type 0 where
  pub count : ℕ
  pub inside : count < length (line_at (output_kind p) (shown_by p samples) y)
  pub holds : bytes ≡ head (output_kind p) ++ (lines (output_kind p) (shown_by p samples) y ++ take count (line_at (output_kind p) (shown_by p samples) y))

-- After a fault of the images: all lines in order before it were clocked.
pub record LeavesAtFault (p : Typing) (latency : ℕ) (file : List ℕ) (left : Option (List ℕ)) (bytes : List ℕ) : Type 0 where
  pub samples : List ℕ
  pub reads : ReadsToFault p file left samples
  pub holds : HoldsLines p latency samples bytes

-- After a failed read: a whole first header that fits was read, and all whole lines that were read were clocked.
pub record LeavesAtRead (p : Typing) (latency : ℕ) (file : List ℕ) (left : Option (List ℕ)) (bytes : List ℕ) : Type 0 where
  pub samples : List ℕ
  pub reads : ReadsToFailure p file left samples
  pub begun : IsBegun p reads.read
  pub holds : HoldsLines p latency samples bytes

-- After a failed write: a front of the first header, where only that header of the file was read; or all lines before line y and a front of it,
-- where the fewest lines were taken that make line y whole, and no header after them; or where all lines of the file were taken, and it ends after a whole image.
pub data LeavesAtWrite (p : Typing) (latency : ℕ) (file : List ℕ) (left : Option (List ℕ)) (bytes : List ℕ) : Type 0 where
  of_header : ReadsFirst p file left → (count : ℕ) → count < length (head (output_kind p))
      → bytes ≡ take count (head (output_kind p)) → LeavesAtWrite p latency file left bytes
  of_line : (y rows : ℕ) (samples front rest : List ℕ) → (taken : LinesTaken p.size (first_bits p) file rows samples front rest) → 0 < taken.open_rows → left ≡ Some rest
      → (y + 1) * p.size.width + latency ≤ rows * p.size.width → rows * p.size.width < (y + 1) * p.size.width + latency + p.size.width
      → HoldsFront p samples y bytes → LeavesAtWrite p latency file left bytes
  of_rest : (y rows : ℕ) (samples : List ℕ) → (taken : LinesTaken p.size (first_bits p) file rows samples file []) → taken.part ≡ [] → left ≡ Some []
      → rows * p.size.width < (y + 1) * p.size.width + latency → (y + 1) * p.size.width ≤ rows * p.size.width
      → HoldsFront p samples y bytes → LeavesAtWrite p latency file left bytes

-- What is said of a program that is accepted at an age and takes one image and gives one, and of its latency there.
pub record OfStream (source : List ℕ) (age : ℕ) (is : Typing → (latency : ℕ) → Type 0) : Type 0 where
  pub compiled : Compiled
  pub from : IsCompiledFrom source age false None compiled
  pub one : IsOnePort from.program
  pub holds : is from.program (latency compiled.plan)

-- what is said of the program of this text, where it is accepted at this age and takes one image and gives one
abbrev pub OnStream : (source : List ℕ) → (age : ℕ) → (Typing → Type 0) → Type 0
OnStream source age is = (p : Typing) → IsAcceptedAt source age p → IsOnePort p → is p

-- After a failed read File was created exactly where a whole first header that fits was read.
pub record CreatesAtFailure (p : Typing) (file : List ℕ) (left : Option (List ℕ)) (created : Stage) : Type 0 where
  pub samples : List ℕ
  pub reads : ReadsToFailure p file left samples
  pub begun : IsBegun p reads.read → created ≡ Open
  pub before : ¬ (IsBegun p reads.read) → created ≡ Unasked

-- After a failed read File was not created where the images were not opened, or where the program does not take one image and give one.
pub record FailsReading (age : ℕ) (source file : List ℕ) (image : Input) (created : Stage) : Type 0 where
  pub unopened : image.stage ≢ Open → created ≡ Unasked
  pub several : (p : Typing) → IsAcceptedAt source age p → ¬ (IsOnePort p) → created ≡ Unasked
  pub streamed : image.stage ≡ Open → OnStream source age (λ p. CreatesAtFailure p file image.rest created)

-- How far `run` has read the image file, for a program that takes one image and gives one. After Done: all of it.
-- After an Image fault or a failed read: no further than the first fault. Where File could not be created: the first header.
-- `image` is the slot of the image file, `created` the stage of File.
abbrev pub ReadsRun : Ending → (age : ℕ) → (source file : List ℕ) → (image : Input) → (created : Stage) → Type 0
ReadsRun ending.Done age source file image created = OnStream source age (λ p. image.rest ≡ Some [])
ReadsRun (ending.Image fault) age source file image created = OnStream source age (λ p. (samples : List ℕ) × ReadsToFault p file image.rest samples)
ReadsRun ending.ReadFault age source file image created = FailsReading age source file image created
ReadsRun ending.WriteFault age source file image created = created ≡ Refused → OnStream source age (λ p. ReadsFirst p file image.rest)
ReadsRun _ age source file image created = ⊤

-- the program has one input and one output, and the file begins with a header that fits it
abbrev pub IsStreamed : Typing → (file : List ℕ) → Type 0
IsStreamed p file = IsOnePort p × IsBegun p file

-- A fault of the images comes with a created file exactly where the images are streamed and their first header is in order.
pub record CreatesStreamed (age : ℕ) (source file : List ℕ) (stage : Stage) : Type 0 where
  pub streamed : (p : Typing) → IsAcceptedAt source age p → IsStreamed p file → stage ≡ Open
  pub whole : (p : Typing) → IsAcceptedAt source age p → ¬ (IsStreamed p file) → stage ≡ Unasked

-- whether `run` has created its file where the images have a fault or a read failed
abbrev pub CreatesRun : (age : ℕ) → (source file : List ℕ) → Ending → Stage → Type 0
CreatesRun age source file (ending.Image fault) stage = CreatesStreamed age source file stage
CreatesRun age source file ending.ReadFault stage = stage ≢ Unasked → (p : Typing) × IsAcceptedAt source age p × IsStreamed p file
CreatesRun age source file _ stage = ⊤

-- The text is accepted, and what was read of the file until a write failed is in order: its first header, if the program has one input
-- and one output; else the whole file.
pub record CanBeWritten (age : ℕ) (source file : List ℕ) : Type 0 where
  pub program : Typing
  pub accepted : IsAcceptedAt source age program
  pub begun : IsOnePort program → IsBegun program file
  pub whole : ¬ (IsOnePort program) → (rounds : List (List Image)) × Fits None program file rounds

-- When each ending of `run` comes. The images of a program with one input and one output are judged while they are clocked.
abbrev pub run_answers : (age : ℕ) → (source file : List ℕ) → Answers
run_answers age source file = record (pair_answers (run_terms age) source file) { write = CanBeWritten age source file }

abbrev pub IsRunAnswer : (age : ℕ) → (source file : List ℕ) → Ending → Type 0
IsRunAnswer age source file result = IsAnswered (run_answers age source file) result

-- what `run` notes at Done: the clocks of its module
abbrev pub NotesFrames : (age : ℕ) → (source file : List ℕ) → (old new : Notes) → Type 0
NotesFrames age source file old new = OfPair (run_terms age) source file (λ p rounds. NotesRun source age p rounds old new)

abbrev pub NotedRun : Ending → (age : ℕ) → (source file : List ℕ) → (old new : Notes) → Type 0
NotedRun result age source file old new = OnlyAtDone result (NotesFrames age source file old new)

-- A program with one input and one output writes line by line; any other writes the whole file at once.
pub data HoldsAtWrite (age : ℕ) (source file : List ℕ) (left : Option (List ℕ)) (bytes : List ℕ) : Type 0 where
  by_lines : OfStream source age (λ p late. LeavesAtWrite p late file left bytes) → HoldsAtWrite age source file left bytes
  at_once : (p : Typing) → IsAcceptedAt source age p → ¬ (IsOnePort p) → (rounds : List (List Image)) → Fits None p file rounds
      → IsPrefix bytes (output_file p rounds) → HoldsAtWrite age source file left bytes

-- What File holds after `run`, where it was created; `left` is what is left of the image file.
abbrev pub IsStoredRun : Ending → (age : ℕ) → (source file : List ℕ) → (left : Option (List ℕ)) → (bytes : List ℕ) → Type 0
IsStoredRun ending.Done age source file left bytes = OfPair (run_terms age) source file (λ p rounds. bytes ≡ output_file p rounds)
IsStoredRun (ending.Image fault) age source file left bytes = OfStream source age (λ p late. LeavesAtFault p late file left bytes)
IsStoredRun ending.ReadFault age source file left bytes = OfStream source age (λ p late. LeavesAtRead p late file left bytes)
IsStoredRun ending.WriteFault age source file left bytes = HoldsAtWrite age source file left bytes
IsStoredRun _ age source file left bytes = ⊤

-- what `run` means
abbrev pub run_meaning : (program image out : List ℕ) → (age : ℕ) → Meaning
run_meaning program image out age = record (of_both program image false (λ source. CanBeCompiled source age) (run_answers age)) {
  out = Some out;
  creation = created_streaming age program image;
  stored = λ result files left bytes. IsStoredRun result age (bytes_of files program) (bytes_of files image) left bytes;
  notes = noted_at_done (λ files. NotesFrames age (bytes_of files program) (bytes_of files image));
}

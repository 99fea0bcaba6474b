-- Used by private functions only.
-- What each call leaves of the desk.
use Rattle.std.specs.Prelude.{◌≡◌, ℕ, ◌<◌, List, Result, OnOk, OnErr, IsErr}
use Rattle.dk_desk.specs.declared.InSlot.TheVariants.{Image}
use Rattle.dk_desk.specs.declared.OutSlot.TheVariants.{File}
use Rattle.dk_desk.specs.declared.Stage.TheVariants.{Open}
use Rattle.dk_desk.specs.Outside.{Outside}
use Rattle.dk_desk.specs.Calls.{Adds, HasCauseIn, ReadsOnly, WritesFront}
use Rattle.row_stream.specs.declared.line.OutputFormat.{OutputFormat}

-- A call that only reads Image. It fails only if the count of failed reads rose.
pub record OnlyReads (failed : Type 0) (before now : Outside) : Type 0 where
  pub only : ReadsOnly Image before now
  pub cause : HasCauseIn failed before.input_failures now.input_failures

-- A call that only writes: Image is as it was, and no read failed. It fails only if the count of failed writes rose.
pub record OnlyWrites (failed : Type 0) (before now : Outside) : Type 0 where
  pub idle : now.image ≡ before.image
  pub no_read : now.input_failures ≡ before.input_failures
  pub cause : HasCauseIn failed before.output_failures now.output_failures

-- File is open for images of this format.
pub record CanWrite (format : OutputFormat) (o : Outside) : Type 0 where
  pub open_file : o.file.stage ≡ Open
  pub maxval : 0 < format.maxval

-- These bytes were added to File. If a write failed, it is the first of them.
pub record WritesBytes {T E : Type 0} (result : Result T E) (bytes : List ℕ) (before now : Outside) : Type 0 where
  pub ok : OnOk result (Adds File before bytes now)
  pub err : OnErr result (WritesFront File before bytes now)
  pub desk : OnlyWrites (IsErr result) before now

-- A call that reads and writes: Image is still open. Each failure is answered only if the count of such failures rose.
pub record ReadsAndWrites (read_fails write_fails : Type 0) (before now : Outside) : Type 0 where
  pub opened : now.image.stage ≡ Open
  pub read : HasCauseIn read_fails before.input_failures now.input_failures
  pub write : HasCauseIn write_fails before.output_failures now.output_failures

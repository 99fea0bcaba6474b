-- Why there is no further image.
use Rattle.std.specs.Prelude.{◌≡◌, ℕ, ◌-◌, ◌^◌, ◌<◌, [], ◌∷◌, true}
use Rattle.std.specs.Io.KnownBytes.{prepend_known}
use Rattle.dk_base.specs.declared.TheConstants.{MAX_FILE_IMAGES}
use Rattle.dk_base.specs.Frames.{Size}
use Rattle.dk_desk.specs.Outside.{Input}
use Rattle.pgm_rounds.specs.declared.fault.FileFault.TheVariants.{Count}
use Rattle.pgm_rounds.specs.Ports.{Ports, ports_with}
use Rattle.row_stream.specs.declared.faults.StreamFault.{StreamFault}
use Rattle.row_stream.specs.declared.faults.StreamFault.TheVariants.{Image, Read, Write}
use Rattle.row_stream.specs.Heads.{EndsHeading}

-- frames of this size for one input of this width
abbrev pub one_port : Size → ℕ → Ports
one_port size bits = ports_with size (bits ∷ [])

-- the greatest sample of this width
abbrev pub greatest : ℕ → ℕ
greatest bits = 2 ^ bits - 1

-- how the byte after the greatest number of images of a file ends a stream: it was read, or the read failed
abbrev pub EndsFull : StreamFault → (old new : Input) → Type 0
EndsFull (Image fault) old new = (byte : ℕ) × (fault ≡ Count) × (old.rest ≡ prepend_known (byte ∷ []) new.rest)
EndsFull Read old new = old.rest ≡ new.rest
EndsFull Write old new = ⊥

-- Why there is no further image after this number of images and bytes: in its header, or at a byte after the greatest number of images of a file.
pub data EndsNext (size : Size) (bits images offset : ℕ) (fault : StreamFault) (old new : Input) : Type 0 where
  in_header : images < MAX_FILE_IMAGES → EndsHeading size bits offset true fault old new → EndsNext size bits images offset fault old new
  at_byte : images ≡ MAX_FILE_IMAGES → EndsFull fault old new → EndsNext size bits images offset fault old new

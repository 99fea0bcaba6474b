-- Used by private functions only.
-- How a header is read, byte after byte.
use Rattle.std.specs.Prelude.{ℕ, ◌+◌, ◌*◌, ◌-◌, List, [], ◌∷◌, nat_eq, nat_lt, ◌||◌, if◌then◌else◌}
use Rattle.dk_base.specs.declared.TheConstants.{MAX_HEADER_BYTES, MAX_MAXVAL}
use Rattle.pgm_codec.specs.declared.reading.Stage.{Stage}
use Rattle.pgm_codec.specs.declared.reading.Stage.TheVariants.{Start, Letter, Gap, Filled, Comment, Digits, Whole, Lost}
use Rattle.pgm_codec.specs.declared.reading.Number.{Number}
use Rattle.pgm_codec.specs.declared.reading.Number.TheVariants.{Width, Height, Maxval}
use Rattle.pgm_codec.specs.declared.reading.Reading.{Reading}
use Rattle.pgm_codec.specs.declared.header.HeaderFault.{HeaderFault}
use Rattle.pgm_codec.specs.declared.header.HeaderFault.TheVariants.{Magic, LongHeader, Number as NumberFault, Range}
use Rattle.pgm_codec.specs.declared.scan.Scan.{Scan}
use Rattle.pgm_codec.specs.declared.scan.Scan.TheVariants.{More, Done, Fault}
use Rattle.dk_base.specs.Ascii.{is_white, is_digit}
use Rattle.pgm_codec.specs.Headers.{is_line_end, capped}
use Rattle.pgm_codec.specs.Scans.{reading}

abbrev pub start : Reading
start = reading Start Width 0 0 0 0 0

abbrev pub lost : Reading → Reading
lost r = reading Lost r.number r.width r.height r.value r.first r.length

abbrev pub moved : Stage → Reading → Reading
moved stage r = reading stage r.number r.width r.height r.value r.first (r.length + 1)

-- after the white space byte after a number
abbrev pub finished : Number → Reading → Reading
finished Width r = reading Filled Height r.value r.height r.value r.first (r.length + 1)
finished Height r = reading Filled Maxval r.width r.value r.value r.first (r.length + 1)
finished Maxval r = reading Whole Maxval r.width r.height r.value r.first (r.length + 1)

abbrev pub digit_after : ℕ → ℕ → ℕ
digit_after v b = capped (capped (v * 10) + (b - 48))

abbrev pub in_filling : Reading → ℕ → Reading
in_filling r b =
    if is_white b then moved Filled r
    else (if nat_eq b 35 then moved Comment r
    else (if is_digit b then reading Digits r.number r.width r.height (b - 48) r.length (r.length + 1) else lost r))

abbrev pub in_digits : Reading → ℕ → Reading
in_digits r b =
    if is_digit b then reading Digits r.number r.width r.height (digit_after r.value b) r.first (r.length + 1)
    else (if is_white b then finished r.number r else lost r)

abbrev pub step_at : Stage → Reading → ℕ → Reading
step_at Start r b = if nat_eq b 80 then moved Letter r else lost r
step_at Letter r b = if nat_eq b 53 then moved Gap r else lost r
step_at Gap r b = if is_white b then moved Filled r else lost r
step_at Filled r b = in_filling r b
step_at Comment r b = if is_line_end b then moved Filled r else moved Comment r
step_at Digits r b = in_digits r b
step_at Whole r b = lost r
step_at Lost r b = lost r

abbrev pub step : Reading → ℕ → Reading
step r b = step_at r.stage r b

-- after bytes
abbrev pub run : Reading → List ℕ → Reading
run r [] = r
run r (b ∷ bs) = run (step r b) bs

-- where the bytes end, or a byte continues no header
abbrev pub fault_at : ℕ → HeaderFault
fault_at offset = if nat_lt offset 2 then Magic else NumberFault offset

abbrev pub ranged : Reading → Scan
ranged r =
    if nat_eq r.value 0 || nat_lt MAX_MAXVAL r.value then Fault (Range r.first)
    else Done (record { width = r.width; height = r.height; maxval = r.value; length = r.length })

abbrev pub going : Reading → Scan
going r = if nat_lt r.length MAX_HEADER_BYTES then More else Fault LongHeader

abbrev pub verdict_at : Stage → Reading → Scan
verdict_at Start r = going r
verdict_at Letter r = going r
verdict_at Gap r = going r
verdict_at Filled r = going r
verdict_at Comment r = going r
verdict_at Digits r = going r
verdict_at Whole r = ranged r
verdict_at Lost r = Fault (fault_at r.length)

-- what is answered there
abbrev pub verdict : Reading → Scan
verdict r = verdict_at r.stage r

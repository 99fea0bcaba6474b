-- The limits, judged in text order.
use Rattle.std.specs.Prelude.{ℕ, suc, ◌+◌, ◌*◌, List, [], ◌∷◌, Option, Some, None, ◌&&◌, nat_lt, nat_le, nat_eq, if◌then◌else◌}
use Rattle.dk_base.specs.declared.TheConstants.{MAX_BUFFER_BITS, MAX_WIDTH}
use Rattle.verilog_text.specs.declared.written.Count.{Count}
use Rattle.verilog_text.specs.declared.written.Range.{Range}
use Rattle.verilog_text.specs.declared.written.WrittenPort.{WrittenPort}
use Rattle.verilog_text.specs.declared.written.WrittenSort.{WrittenSort}
use Rattle.verilog_text.specs.declared.written.WrittenSort.TheVariants as sort
use Rattle.verilog_text.specs.declared.written.WrittenDeclaration.{WrittenDeclaration}
use Rattle.verilog_text.specs.declared.written.WrittenRight.{WrittenRight}
use Rattle.verilog_text.specs.declared.written.WrittenRight.TheVariants as right
use Rattle.verilog_text.specs.declared.written.WrittenAssign.{WrittenAssign}
use Rattle.verilog_text.specs.declared.fault.LimitKind.TheVariants.{Width, Words, ArrayBits, Repeat}
use Rattle.verilog_text.specs.declared.fault.LimitFault.{LimitFault}
use Rattle.verilog_text.specs.Grammar.{Source}

-- the first of two
abbrev pub or_else : Option LimitFault → Option LimitFault → Option LimitFault
or_else None later = later
or_else (Some f) later = Some f

-- `[w-1:0]` with w from 1 to 64; of the two numbers the first faulty one is meant
abbrev pub width_fault : Option Range → Option LimitFault
width_fault None = None
width_fault (Some r) =
    if nat_le MAX_WIDTH r.first.value then Some (record { span = r.first.span; kind = Width })
    else (if nat_eq r.second.value 0 then None else Some (record { span = r.second.span; kind = Width }))

-- `[0:n-1]` with n from 1 to 67,108,864
abbrev pub words_fault : Range → Option LimitFault
words_fault r =
    if nat_eq r.first.value 0 then (if nat_lt r.second.value MAX_BUFFER_BITS then None else Some (record { span = r.second.span; kind = Words }))
    else Some (record { span = r.first.span; kind = Words })

-- the bits of a range, and the words of an array; one bit where no range is written
abbrev pub width_of : Option Range → ℕ
width_of None = 1
width_of (Some r) = suc r.first.value

abbrev pub depth_of : Range → ℕ
depth_of r = suc r.second.value

abbrev pub bits_of : Option Range → WrittenSort → ℕ
bits_of bits sort.Wire = 0
bits_of bits sort.Reg = 0
bits_of bits (sort.Array words) = width_of bits * depth_of words

-- all arrays so far have this many bits
abbrev pub bits_fault : WrittenDeclaration → ℕ → Option LimitFault
bits_fault d total = if nat_le total MAX_BUFFER_BITS then None else Some (record { span = d.name; kind = ArrayBits })

-- an array, after this many bits in arrays
abbrev pub sort_fault : WrittenDeclaration → WrittenSort → ℕ → Option LimitFault
sort_fault d sort.Wire before = None
sort_fault d sort.Reg before = None
sort_fault d (sort.Array words) before = or_else (words_fault words) (bits_fault d (before + bits_of d.bits (sort.Array words)))

abbrev pub declarations_fault : ℕ → List WrittenDeclaration → Option LimitFault
declarations_fault before [] = None
declarations_fault before (d ∷ ds) = or_else (width_fault d.bits) (or_else (sort_fault d d.sort before) (declarations_fault (before + bits_of d.bits d.sort) ds))

abbrev pub ports_fault : List WrittenPort → Option LimitFault
ports_fault [] = None
ports_fault (p ∷ ps) = or_else (width_fault p.bits) (ports_fault ps)

-- `{n{a}}` with n from 1 to 64
abbrev pub count_fault : Count → Option LimitFault
count_fault c = if nat_le 1 c.value && nat_le c.value MAX_WIDTH then None else Some (record { span = c.span; kind = Repeat })

abbrev pub right_fault : WrittenRight → Option LimitFault
right_fault (right.Copy a) = None
right_fault (right.Not a) = None
right_fault (right.Binary o a b) = None
right_fault (right.Choose c a b) = None
right_fault (right.Join a b) = None
right_fault (right.Repeat n a) = count_fault n
right_fault (right.Bit v k) = None
right_fault (right.Slice v m l) = None
right_fault (right.Word m i) = None

abbrev pub assigns_fault : List WrittenAssign → Option LimitFault
assigns_fault [] = None
assigns_fault (a ∷ as') = or_else (right_fault a.right) (assigns_fault as')

-- the first limit that is passed
abbrev pub limit_fault : Source → Option LimitFault
limit_fault s = or_else (ports_fault s.ports) (or_else (declarations_fault 0 s.declarations) (assigns_fault s.assigns))

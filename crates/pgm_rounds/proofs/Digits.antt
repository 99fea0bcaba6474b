-- A maxval's first digit is in its header.
use Rattle.std.proofs.Common.{List, [], ◌∷◌, ◌++◌, ℕ, ◌+◌, ◌≤◌, arith, ap, length, length-append}
use Rattle.pgm_codec.specs.Headers.{Field, Fields, last, field}
use Rattle.pgm_codec.specs.Answers.{OutOfRange}

-- the places of numbers are at most this offset
abbrev Within : ℕ → List Field → Type 0
Within limit [] = Unit {0}
Within limit (n ∷ ns) = (n.place ≤ limit) × Within limit ns

further : (a b : ℕ) (numbers : List Field) → a ≤ b → Within a numbers → Within b numbers
further a b [] l w = tt
further a b (n ∷ ns) l w = (omega (arith, w.0), further a b ns l w.1)

places : (at : ℕ) (bytes : List ℕ) (numbers : List Field) → Fields at bytes numbers → Within (at + length bytes) numbers
places at bytes numbers (last white) = tt
places at bytes numbers (field {next = next} gap digits {rest = rest} {more = more} is_gap is_numeral value place next_is fields parts) = (
  omega (arith, place, ap length parts, length-append gap (digits ++ rest)),
  further (next + length rest) (at + length bytes) more (omega (arith, next_is, ap length parts, length-append gap (digits ++ rest), length-append digits rest)) (places next rest more fields),
)

pub range_within : (bytes : List ℕ) (offset : ℕ) → OutOfRange bytes offset → offset ≤ length bytes
range_within bytes offset r =
    let text = r.heads.text in
    let within = places 2 text.rest _ text.numbers in
    omega (arith, within.1.1.0, ap length text.magic, ap length r.parts, length-append r.front r.rest)

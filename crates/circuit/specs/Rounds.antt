-- The pixels of a program's images over rounds that follow one another, and what comes in of them.
use Rattle.std.specs.Prelude.{◌≡◌, ℕ, suc, ◌+◌, ◌*◌, ◌<◌, ℤ, List, [], length, slice_index, slice_index_or}
use Rattle.std.specs.List.{All}
use Rattle.dk_base.specs.declared.ty.Ty.{Ty}
use Rattle.dk_base.specs.declared.ty.Ty.TheVariants.{Unsigned}
use Rattle.dk_base.specs.Types.{width_of}
use Rattle.dk_base.specs.Numbers.{code}
use Rattle.dk_base.specs.Frames.{area, Picture, pixel_of, picture_at}
use Rattle.wiring.specs.Netlist.{Netlist}
use Rattle.wiring.specs.Clock.{Clock}
use Rattle.wiring.specs.History.{counted, fed}
use Rattle.pointwise_ir.specs.Programs.{Program, types_of}
use Rattle.pointwise_ir.specs.Meaning.{pictures, IsRound}

-- a frame for each input, again and again
abbrev pub Rounds : Type 0
Rounds = List (List Picture)

-- each is a round of the program
abbrev pub AreRounds : Program → Rounds → Type 0
AreRounds p rounds = All (IsRound p) rounds

-- the type of image g
abbrev pub type_at : Program → ℕ → Ty
type_at p g = slice_index_or (types_of p) g (Unsigned 1)

-- the number of pixels of an image in all rounds
abbrev pub pixel_count : Program → Rounds → ℕ
pixel_count p rounds = length rounds * area p.size

-- the pictures of all images in the k-th round
abbrev pub pictures_in : Program → Rounds → (k : ℕ) → List Picture
pictures_in p rounds k = pictures p (slice_index_or rounds k [])

-- pixel q of image g, counted on through the rounds
abbrev pub pixel : Program → Rounds → (g q : ℕ) → ℤ
pixel p rounds g q = pixel_of p.size (λ k. picture_at (pictures_in p rounds k) g) q

-- and its bits
abbrev pub pixel_bits : Program → Rounds → (g q : ℕ) → ℕ
pixel_bits p rounds g q = code (width_of (type_at p g)) (pixel p rounds g q)

-- The rounds agree with what came in at these clocks, the latest first: pixel q of each input is its din of counted clock q since the last reset, as far as both are there.
abbrev pub Feeds : Netlist → Program → Rounds → List Clock → Type 0
Feeds m p rounds history = (k q j : ℕ) → k < length p.inputs → q + suc j ≡ length (counted m history) → q < pixel_count p rounds → slice_index (fed m k history) j ≡ pixel_bits p rounds k q

-- What a netlist and its frame tests gain as a test is made.
use Rattle.std.specs.Prelude.{◌≡◌, ◌<◌, ℕ, ◌+◌, List, Option, Some, IfSome}
use Rattle.dk_base.specs.Frames.{Size}
use Rattle.dk_base.specs.FrameSizes.{size_of}
use Rattle.frame_paths.specs.declared.moves.Interval.{Interval}
use Rattle.frame_paths.specs.Moves.{IsIn}
use Rattle.wiring.specs.declared.netlist.Net.{Net}
use Rattle.wiring.specs.declared.netlist.Holder.TheVariants.{OfNet}
use Rattle.wiring.specs.Netlist.{Netlist, net_width}
use Rattle.net_build.specs.Control.{is_control}
use Rattle.net_build.specs.Counters.{Starts, start_levels}
use Rattle.net_build.specs.Depth.{IsWithin}
use Rattle.net_build.specs.Draft.{IsNet}
use Rattle.net_build.specs.Registers.{register_bits}
use Rattle.edge_select.specs.declared.bands.Band.{Band}
use Rattle.edge_select.specs.declared.counters.Counters.{Counters}
use Rattle.edge_select.specs.declared.frame_tests.FrameTests.{FrameTests}
use Rattle.edge_select.specs.Bands.{IsBand}
use Rattle.edge_select.specs.Asked.{AddsFor, AddsOnly, SeparatesColumns, SeparatesRows}
use Rattle.edge_select.specs.FrameTests.{AddsBeside, AddsTests, AreCounters, AreFrameTests, CountsTests, IsApart, IsColumnTest, IsFrameTest, IsPartTest, IsRowTest, counter_bits, start_bits, test_bits}
use Rattle.edge_select.specs.Pixels.{AllPass}

-- No frame tests, for frames of this size.
pub record AreNoTests (size : Size) (t : FrameTests) : Type 0 where
  -- they are frame tests of each netlist
  pub tests : (b : Netlist) → AreFrameTests b size t
  -- they have no counters among any copies
  pub apart : (copies : List ℕ) → IsApart copies t
  -- their registers have no bits
  pub none : test_bits t ≡ 0

-- Counters, and a band of columns.
pub record HasColumns (b : Netlist) (k : Counters) (columns : Band) : Type 0 where
  -- they are the counters of their frames' pixels
  pub counters : AreCounters b (size_of k.pixel.size) k
  -- it is a band of these frames' columns
  pub band : IsBand k.pixel.size.width columns

-- Counters, a column, and a band of rows.
pub record HasRows (b : Netlist) (k : Counters) (first : ℕ) (rows : Band) : Type 0 where
  -- they are the counters of their frames' pixels
  pub counters : AreCounters b (size_of k.pixel.size) k
  -- the column is one of these frames
  pub start : first < k.pixel.size.width
  -- it is a band of their rows
  pub band : IsBand k.pixel.size.height rows

-- A register of one bit is added beside the counters.
pub record AddsBit (new old : Netlist) (k : Counters) : Type 0 where
  -- only registers beside the counters are added, and wires
  pub adds : AddsBeside new old (Some k) (Some k)
  -- the registers have one bit more
  pub bits : register_bits new ≡ register_bits old + 1

-- The counters of the frame's pixels, which are there or are added.
pub record HasCounters (new old : Netlist) (size : Size) (before : Option Counters) (k : Counters) : Type 0 where
  -- only their registers are added, and wires
  pub adds : AddsBeside new old (Some k) before
  -- they are the counters of the frame's pixels
  pub counters : AreCounters new size k
  -- the registers have the bits of added counters more
  pub bits : register_bits new + counter_bits before ≡ register_bits old + counter_bits (Some k)

-- The register of the columns of a band.
pub record HasColumnTest (new old : Netlist) (size : Size) (b : Band) (now before : FrameTests) (n : Net) : Type 0 where
  -- only registers beside the counters are added, and wires
  pub adds : AddsTests new old now before
  -- of registers those of added tests and counters
  pub registers : CountsTests new old now before
  -- no test is added but of these columns
  pub only : AddsOnly now before (λ t. t.band ≡ b) (λ t. ⊥)
  -- they are frame tests of the new netlist
  pub tests : AreFrameTests new size now
  -- the register has the bit of the column
  pub test : IsColumnTest new size (record { start = 0; band = b; net = n })

-- The register of the rows of a band, of the pixel that came this many columns ago.
pub record HasRowTest (new old : Netlist) (size : Size) (first : ℕ) (b : Band) (now before : FrameTests) (n : Net) : Type 0 where
  -- only registers beside the counters are added, and wires
  pub adds : AddsTests new old now before
  -- of registers those of added tests and counters
  pub registers : CountsTests new old now before
  -- no test is added but of these rows, from this column on
  pub only : AddsOnly now before (λ t. ⊥) (λ t. (t.start ≡ first) × (t.band ≡ b))
  -- they are frame tests of the new netlist
  pub tests : AreFrameTests new size now
  -- the register has the bit of the row
  pub test : IsRowTest new size (record { start = first; band = b; net = n })

-- The test of the columns of an interval, of the pixel that came `delay` counted clocks ago, or none where all columns pass.
pub record MakesAcross (new old : Netlist) (size : Size) (delay : ℕ) (interval : Interval) (now before : FrameTests) (net : Option Net) : Type 0 where
  -- only registers beside the counters are added, and wires
  pub adds : AddsTests new old now before
  -- of registers those of added tests and counters
  pub registers : CountsTests new old now before
  -- each added test separates these columns from the others
  pub only : AddsOnly now before (SeparatesColumns size delay (IsIn interval)) (λ t. ⊥)
  -- none is added where the interval has all columns
  pub none : ((x : ℕ) → x < size.width → IsIn interval x) → now ≡ before
  -- they are frame tests of the new netlist
  pub tests : AreFrameTests new size now
  -- the net is 1 in these columns
  pub test : IsPartTest new size delay (λ x y. IsIn interval x) net
  -- it has at most one operator on a path from rst, en and registers
  pub depth : IfSome net (λ n. IsWithin new (is_control new.enable) 1 (OfNet n))

-- The test of the rows of an interval, of the pixel that came `delay` counted clocks ago, or none where all rows pass.
pub record MakesDown (new old : Netlist) (size : Size) (delay : ℕ) (interval : Interval) (now before : FrameTests) (net : Option Net) : Type 0 where
  -- only registers beside the counters are added, and wires
  pub adds : AddsTests new old now before
  -- of registers those of added tests and counters
  pub registers : CountsTests new old now before
  -- each added test separates these rows from the others
  pub only : AddsOnly now before (λ t. ⊥) (SeparatesRows size delay (IsIn interval))
  -- none is added where the interval has all rows
  pub none : ((y : ℕ) → y < size.height → IsIn interval y) → now ≡ before
  -- they are frame tests of the new netlist
  pub tests : AreFrameTests new size now
  -- the net is 1 in these rows
  pub test : IsPartTest new size delay (λ x y. IsIn interval y) net
  -- it has at most one operator on a path from rst, en and registers
  pub depth : IfSome net (λ n. IsWithin new (is_control new.enable) 1 (OfNet n))

-- The test of the pixel that came `delay` counted clocks ago, and the frame tests that it takes.
pub record MakesFrameTest (new old : Netlist) (size : Size) (delay : ℕ) (passes : (x y : ℕ) → Type 0) (now before : FrameTests) (n : Net) : Type 0 where
  -- only registers beside the counters are added, and wires
  pub adds : AddsTests new old now before
  -- of registers those of added tests and counters
  pub registers : CountsTests new old now before
  -- each added test separates the columns, or the rows, in which some pixel passes from the others
  pub only : AddsFor size delay passes now before
  -- none is added where all pixels pass
  pub none : AllPass size.width size.height passes → now ≡ before
  -- they are frame tests of the new netlist
  pub tests : AreFrameTests new size now
  -- the net is 1 where the pixel passes
  pub test : IsFrameTest new size delay passes n
  -- it has at most two operators on a path from rst, en and registers
  pub depth : IsWithin new (is_control new.enable) 2 (OfNet n)

-- A net that is whether `last` clocks were counted since a reset, and 0 in a reset clock.
pub record MakesStart (new old : Netlist) (size : Size) (k : Option Counters) (last : ℕ) (n : Net) : Type 0 where
  -- only registers beside the counters are added, and wires
  pub adds : AddsBeside new old k k
  -- the registers have the bits of such a register more
  pub bits : register_bits new ≡ register_bits old + start_bits k size last
  -- the netlist has the net
  pub net : IsNet new n
  -- it has one bit
  pub width : net_width new n ≡ 1
  -- it is whether they were counted
  pub starts : Starts new last n
  -- it has few operators on a path from rst, en and registers
  pub depth : IsWithin new (is_control new.enable) start_levels (OfNet n)

-- The frame tests of a module: one pair of counters, and registers of one bit that test its columns and rows.
use Rattle.std.specs.Prelude.{◌≡◌, ℕ, ◌+◌, ◌-◌, ◌<◌, ◌==◌, nat_le, nat_lt, ◌&&◌, Bool, true, false, if◌then◌else◌, IsTrue, List, [], ◌∷◌, ◌++◌, length, slice_get, Option, None, Some, IfSome, All, Contains}
use Rattle.dk_base.specs.Frames.{Size, area, column, row}
use Rattle.dk_base.specs.FrameSizes.{size_of}
use Rattle.dk_base.specs.Numbers.{bit_count}
use Rattle.wiring.specs.declared.netlist.Net.{Net}
use Rattle.wiring.specs.declared.netlist.Net.TheVariants.{Reg}
use Rattle.wiring.specs.declared.netlist.Holder.{Holder}
use Rattle.wiring.specs.declared.netlist.Holder.TheVariants.{OfNet}
use Rattle.wiring.specs.Netlist.{Netlist, net_width}
use Rattle.wiring.specs.Snapshot.{Snapshot, net_value}
use Rattle.wiring.specs.Clock.{bit}
use Rattle.wiring.specs.History.{was_reset, counted}
use Rattle.net_build.specs.Includes.{Includes, InEach, AtEachEdge}
use Rattle.net_build.specs.Draft.{IsNet, UpdatedBut}
use Rattle.net_build.specs.Runs.{InEachRun, NeverStops, StillBut}
use Rattle.net_build.specs.Control.{is_control, IsControl, IsControlBut, IsControlled, AddsNoReads}
use Rattle.net_build.specs.Depth.{IsWithin, is_start}
use Rattle.net_build.specs.Logic.{Computes}
use Rattle.net_build.specs.Counters.{taken}
use Rattle.net_build.specs.Registers.{register_bits, count_bits}
use Rattle.edge_select.specs.declared.counters.Counters.{Counters}
use Rattle.edge_select.specs.declared.bands.Band.{Band}
use Rattle.edge_select.specs.declared.frame_tests.Test.{Test}
use Rattle.edge_select.specs.declared.frame_tests.FrameTests.{FrameTests}
use Rattle.edge_select.specs.Bands.{IsBand, in_band}
use Rattle.edge_select.specs.Pixels.{HasPixel, Follows, IsBitOf}
use Rattle.edge_select.specs.Counters.{TakesNext}

-- In each run of every module that includes the netlist, in each clock after a reset clock, held ones included: with t the number of counted clocks since the reset, once t is at least the delay, the net is 1 where pixel t - delay passes, and else 0. It is made of rst, en and registers.
pub record IsFrameTest (b : Netlist) (size : Size) (delay : ℕ) (passes : (x y : ℕ) → Type 0) (n : Net) : Type 0 where
  pub there : IsNet b n
  pub width : net_width b n ≡ 1
  pub value : InEachRun b (λ m before c s. IsTrue (was_reset before) → (k : ℕ) → k + delay ≡ length (counted m before) → IsBitOf (passes (column size k) (row size k)) (net_value s n))
  pub made : IsControl b (OfNet n)

-- the test is a net's, or each pixel of the frame passes
abbrev pub IsPartTest : Netlist → Size → (delay : ℕ) → (passes : (x y : ℕ) → Type 0) → Option Net → Type 0
IsPartTest b size delay passes None = (x y : ℕ) → x < size.width → y < size.height → passes x y
IsPartTest b size delay passes (Some n) = IsFrameTest b size delay passes n

-- what a register takes that is loaded where `load` is 1, or always
abbrev pub takes : Option Net → (test register : Net) → Snapshot → ℕ
takes None test register s = net_value s test
takes (Some l) test register s = if net_value s l == 1 then net_value s test else net_value s register

abbrev pub sources : Option Net → (test register : Net) → List Net
sources None test register = test ∷ []
sources (Some l) test register = l ∷ (test ∷ (register ∷ []))

-- the net is a test of a net of one of the side's coordinates: the bit of those that pass
pub record IsTestOf (new old : Netlist) (side : ℕ) (passes : ℕ → Bool) (x n : Net) : Type 0 where
  pub test : ℕ → Bool
  pub computes : Computes new old (x ∷ []) 1 (λ s. bit (test (net_value s x))) n
  pub right : (v : ℕ) → v < side → test v ≡ passes v

-- at each clock edge the register of this number takes `first` in a reset clock, and else the test where `load` is 1, or always; in a held clock, and where `load` is 0, it takes what it has
pub record TakesTest (b : Netlist) (load : Option Net) (first : ℕ) (test register : Net) : Type 0 where
  pub number : ℕ
  pub at : register ≡ Reg number
  pub value : Net
  pub edge : AtEachEdge b (λ s next. slice_get next.regs number ≡ Some (net_value s value))
  pub value_is : InEach b (λ m s. net_value s value ≡ taken b.enable first (net_value s register) (takes load test register s) s)

-- the most operators on a path to a test of a column or a row, from the counters: two tests, of the first and the last, both, and their opposite
abbrev pub band_levels : ℕ
band_levels = 4

-- A register of one bit is added. At the edge of a reset clock it takes `first`, at that of a held clock it keeps its contents, and at each other edge it takes the test where `load` is 1, or always. Besides it only wires are added, which read no array.
pub record AddsRegisterOf (new old : Netlist) (load : Option Net) (first : ℕ) (test register : Net) : Type 0 where
  pub includes : Includes new old
  pub net : IsNet new register
  pub width : net_width new register ≡ 1
  pub regs : new.regs ≡ old.regs ++ 1 ∷ []
  pub arrays : new.arrays ≡ old.arrays
  pub reads : AddsNoReads new old
  pub takes_test : TakesTest new load first test register
  pub updated : (free : List Holder) → UpdatedBut old free → UpdatedBut new free
  pub still : (copies : List ℕ) (free : List Holder) → StillBut old copies free → StillBut new copies free
  pub stops : NeverStops old → NeverStops new
  pub control : (copies : List ℕ) → IsControlled old copies → IsControlBut old copies (OfNet test) → IfSome load (λ l. IsControlBut old copies (OfNet l)) → IsWithin old is_start band_levels (OfNet test) → IfSome load (λ l. IsWithin old is_start band_levels (OfNet l)) → IsControlled new copies

-- one pair of counters, which follows the pixels without a delay, and the nets that it takes
pub record AreCounters (b : Netlist) (size : Size) (k : Counters) : Type 0 where
  pub size_is : size_of k.pixel.size ≡ size
  pub pixel : HasPixel b k.pixel
  pub follows : Follows b 0 k.pixel
  pub first : ℕ
  pub next : TakesNext b first k

-- In each clock after a reset clock, held ones included, the register is the bit of the column of pixel t, with t the number of counted clocks since the reset: whether it is in the band. No path of assigns to it has an operator.
pub record IsColumnTest (b : Netlist) (size : Size) (t : Test) : Type 0 where
  pub there : IsNet b t.net
  pub width : net_width b t.net ≡ 1
  pub value : InEachRun b (λ m before c s. IsTrue (was_reset before) → net_value s t.net ≡ bit (in_band size.width t.band (column size (length (counted m before)))))
  pub register : IsWithin b (is_control b.enable) 0 (OfNet t.net)

-- In each clock after a reset clock, held ones included, the register is the bit of the row of pixel t - start, once t is at least the start, with t the number of counted clocks since the reset: whether it is in the band. No path of assigns to it has an operator.
pub record IsRowTest (b : Netlist) (size : Size) (t : Test) : Type 0 where
  pub there : IsNet b t.net
  pub width : net_width b t.net ≡ 1
  pub value : InEachRun b (λ m before c s. IsTrue (was_reset before) → (k : ℕ) → k + t.start ≡ length (counted m before) → net_value s t.net ≡ bit (in_band size.height t.band (row size k)))
  pub register : IsWithin b (is_control b.enable) 0 (OfNet t.net)

-- In each clock after a reset clock, held ones included, the register is 1 where at least `last` clocks were counted since the reset, and else 0. No path of assigns to it has an operator.
pub record IsStartTest (b : Netlist) (last : ℕ) (register : Net) : Type 0 where
  pub there : IsNet b register
  pub width : net_width b register ≡ 1
  pub value : InEachRun b (λ m before c s. IsTrue (was_reset before) → net_value s register ≡ bit (nat_le last (length (counted m before))))
  pub depth : IsWithin b (is_control b.enable) 0 (OfNet register)

-- Some coordinate of the side is in the band, and some is not. The band is written as its interval, without the side's last coordinate: no two that are written differently have the same coordinates, or the opposite ones.
pub record Divides (side : ℕ) (b : Band) : Type 0 where
  pub inside : (x : ℕ) × (x < side) × (in_band side b x ≡ true)
  pub outside : (x : ℕ) × (x < side) × (in_band side b x ≡ false)
  pub plain : b.outside ≡ false
  pub last : b.last + 1 < side

-- A band that a register tests: one of the side's bands that divides the side.
pub record IsTested (side : ℕ) (b : Band) : Type 0 where
  -- it is a band of the side
  pub band : IsBand side b
  -- some coordinate is in it, and some is not
  pub divides : Divides side b

-- the test of columns starts with the frame, and divides the columns
pub record DividesColumns (size : Size) (t : Test) : Type 0 where
  pub start : t.start ≡ 0
  pub band : Divides size.width t.band

-- the test of rows starts in a column of the frame, and divides the rows
pub record DividesRows (size : Size) (t : Test) : Type 0 where
  pub start : t.start < size.width
  pub band : Divides size.height t.band

-- no two of these tests have the same start and the same band
abbrev pub TestsDiffer : List Test → Type 0
TestsDiffer tests = (j k : ℕ) (t u : Test) → slice_get tests j ≡ Some t → slice_get tests k ≡ Some u → t.start ≡ u.start → t.band ≡ u.band → j ≡ k

-- none of these tests has this start and this band
abbrev pub HasNone : List Test → (start : ℕ) → Band → Type 0
HasNone tests start band = (k : ℕ) (t : Test) → slice_get tests k ≡ Some t → t.start ≡ start → t.band ≡ band → ⊥

-- The counters are those of the frame's pixels, and each test is one of its columns or rows, which some of them pass and some do not. No test is there twice, and there are no counters without a test.
pub record AreFrameTests (b : Netlist) (size : Size) (tests : FrameTests) : Type 0 where
  pub size_is : size_of tests.size ≡ size
  pub counters : IfSome tests.counters (AreCounters b size)
  pub columns : All (IsColumnTest b size) tests.columns.items
  pub rows : All (IsRowTest b size) tests.rows.items
  pub columns_divide : All (DividesColumns size) tests.columns.items
  pub rows_divide : All (DividesRows size) tests.rows.items
  pub columns_differ : TestsDiffer tests.columns.items
  pub rows_differ : TestsDiffer tests.rows.items
  pub needed : tests.columns.items ≡ [] → tests.rows.items ≡ [] → tests.counters ≡ None

-- the bits of the counters of column and row
abbrev pub counter_bits : Option Counters → ℕ
counter_bits None = 0
counter_bits (Some k) = bit_count (k.pixel.size.width - 1) + bit_count (k.pixel.size.height - 1)

-- the bits of the registers of frame tests: those of the counters, and one for each test
abbrev pub test_bits : FrameTests → ℕ
test_bits tests = counter_bits tests.counters + (length tests.columns.items + length tests.rows.items)

-- registers are added for the added tests and their counters, and no other
abbrev pub CountsTests : (new old : Netlist) (now before : FrameTests) → Type 0
CountsTests new old now before = register_bits new + test_bits before ≡ register_bits old + test_bits now

-- the bits of the register that shows whether `last` clocks were counted: one where the counters of column and row show the last of them in the first frame, and else those of a count
abbrev pub start_bits : Option Counters → Size → (last : ℕ) → ℕ
start_bits None size last = count_bits last
start_bits (Some k) size last = if nat_lt 1 last && nat_le last (area size) then 1 else count_bits last

-- the counters' registers are none of the copies
pub record ArePlainly (copies : List ℕ) (k : Counters) : Type 0 where
  pub column : (r : ℕ) → k.pixel.column ≡ Reg r → Contains copies r → ⊥
  pub row : (r : ℕ) → k.pixel.row ≡ Reg r → Contains copies r → ⊥

abbrev pub AreApart : (copies : List ℕ) → Option Counters → Type 0
AreApart copies k = IfSome k (ArePlainly copies)

abbrev pub IsApart : (copies : List ℕ) → FrameTests → Type 0
IsApart copies tests = AreApart copies tests.counters

-- Registers are controlled, except the copies, and the counters are none of the copies.
pub record IsControlledBeside (b : Netlist) (copies : List ℕ) (k : Option Counters) : Type 0 where
  pub controlled : IsControlled b copies
  pub apart : AreApart copies k

-- No array is added. Each added register keeps its contents in held clocks, and is set by what is made of rst, en and registers: those added and the counters.
pub record AddsBeside (new old : Netlist) (now before : Option Counters) : Type 0 where
  pub includes : Includes new old
  pub arrays : new.arrays ≡ old.arrays
  pub reads : AddsNoReads new old
  pub updated : (free : List Holder) → UpdatedBut old free → UpdatedBut new free
  pub still : (copies : List ℕ) (free : List Holder) → StillBut old copies free → StillBut new copies free
  pub stops : NeverStops old → NeverStops new
  pub control : (copies : List ℕ) → IsControlledBeside old copies before → IsControlledBeside new copies now

abbrev pub AddsTests : (new old : Netlist) (now before : FrameTests) → Type 0
AddsTests new old now before = AddsBeside new old now.counters before.counters

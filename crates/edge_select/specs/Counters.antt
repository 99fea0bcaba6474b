-- What the counters of column and row take.
use Rattle.std.specs.Prelude.{◌≡◌, ℕ, suc, slice_get, Some, ◌-◌, ◌%◌, ◌<◌, ◌==◌, Bool, true, if◌then◌else◌, List, [], ◌∷◌, ◌++◌, length, Result, MatchResult}
use Rattle.dk_base.specs.Frames.{Size, column, row}
use Rattle.dk_base.specs.FrameSizes.{size_of}
use Rattle.dk_base.specs.Numbers.{bit_count}
use Rattle.wiring.specs.declared.netlist.Net.{Net}
use Rattle.wiring.specs.declared.netlist.Net.TheVariants.{Reg}
use Rattle.wiring.specs.declared.netlist.Holder.{Holder}
use Rattle.wiring.specs.declared.netlist.Holder.TheVariants.{OfNet}
use Rattle.wiring.specs.Netlist.{Netlist, net_width}
use Rattle.wiring.specs.Snapshot.{Snapshot, net_value}
use Rattle.net_build.specs.Includes.{Includes, AtEachEdge}
use Rattle.net_build.specs.Draft.{IsNet, IsFree, UpdatedBut, with_reg}
use Rattle.net_build.specs.Runs.{NeverStops, StillBut}
use Rattle.net_build.specs.Control.{IsControlled}
use Rattle.net_build.specs.Depth.{IsOver}
use Rattle.net_build.specs.Logic.{Computes}
use Rattle.net_build.specs.Counters.{after, control_nets, taken}
use Rattle.edge_select.specs.declared.pixel.Pixel.{Pixel}
use Rattle.edge_select.specs.declared.counters.Counters.{Counters}
use Rattle.edge_select.specs.declared.counters.Values.{Values}
use Rattle.edge_select.specs.Pixels.{AddsCounters, Follows, HasPixel, IsMadeOfBoth}

-- the row that follows, which is another one only at the last column
abbrev pub row_after : Size → (x y : ℕ) → ℕ
row_after size x y = if x == size.width - 1 then after true (size.height - 1) y else y

-- the column and the row of the pixel that follows the one of a snapshot
abbrev pub next_column : Pixel → Snapshot → ℕ
next_column p s = after true (p.size.width - 1) (net_value s p.column)

abbrev pub next_row : Pixel → Snapshot → ℕ
next_row p s = row_after (size_of p.size) (net_value s p.column) (net_value s p.row)

-- the pixel at which a count begins that comes to the first pixel of a frame after the delay
abbrev pub lead_in : (area delay : ℕ) → ℕ
lead_in area delay = (area - delay % area) % area

-- the nets on which a pixel's registers depend
abbrev pub pixel_nets : Bool → Pixel → List Net
pixel_nets enable p = control_nets enable ++ p.column ∷ (p.row ∷ [])

-- These nets are what the pixel's registers take: the place of a first pixel, or that of the pixel that follows. They are five operators after the pixel's nets.
pub record Advances (new old : Netlist) (p : Pixel) (first : ℕ) (column_net row_net : Net) : Type 0 where
  pub across : Computes new old (pixel_nets old.enable p) (bit_count (p.size.width - 1)) (λ s. taken old.enable (column (size_of p.size) first) (net_value s p.column) (next_column p s) s) column_net
  pub down : Computes new old (pixel_nets old.enable p) (bit_count (p.size.height - 1)) (λ s. taken old.enable (row (size_of p.size) first) (net_value s p.row) (next_row p s) s) row_net
  pub across_depth : IsOver new old 5 (pixel_nets old.enable p) column_net
  pub down_depth : IsOver new old 5 (pixel_nets old.enable p) row_net

-- At each clock edge the registers, which have this number and the next, take the nets `next`. These are made only of rst, en and both registers.
pub record TakesNext (b : Netlist) (first : ℕ) (k : Counters) : Type 0 where
  pub column_at : k.pixel.column ≡ Reg first
  pub row_at : k.pixel.row ≡ Reg (suc first)
  pub column : IsNet b k.next.column
  pub row : IsNet b k.next.row
  pub column_width : net_width b k.next.column ≡ bit_count (k.pixel.size.width - 1)
  pub row_width : net_width b k.next.row ≡ bit_count (k.pixel.size.height - 1)
  pub column_edge : AtEachEdge b (λ s next. slice_get next.regs first ≡ Some (net_value s k.next.column))
  pub row_edge : AtEachEdge b (λ s next. slice_get next.regs (suc first) ≡ Some (net_value s k.next.row))
  pub column_made : IsMadeOfBoth b first (OfNet k.next.column)
  pub row_made : IsMadeOfBoth b first (OfNet k.next.row)

-- Column x and row y are those of pixel k, counted from 0 through frames one after another.
pub record IsPlaceOf (size : Size) (k x y : ℕ) : Type 0 where
  -- the column of that pixel
  pub column : x ≡ column size k
  -- and its row
  pub row : y ≡ row size k
  -- the column is one of the frame
  pub in_row : x < size.width
  -- and so is the row
  pub in_column : y < size.height

-- The nets are column and row of the pixel that follows.
pub record AreNext (new old : Netlist) (p : Pixel) (v : Values) : Type 0 where
  -- the column of the pixel that follows, of the bits of a column
  pub column : Computes new old (p.column ∷ (p.row ∷ [])) (bit_count (p.size.width - 1)) (next_column p) v.column
  -- its row, of the bits of a row
  pub row : Computes new old (p.column ∷ (p.row ∷ [])) (bit_count (p.size.height - 1)) (next_row p) v.row
  -- the column is two operators after the pixel's nets
  pub column_depth : IsOver new old 2 (p.column ∷ (p.row ∷ [])) v.column
  -- the row is three
  pub row_depth : IsOver new old 3 (p.column ∷ (p.row ∷ [])) v.row

-- A netlist goes on from another, as a register is added that no clock takes yet.
pub record GoesOn (new old : Netlist) : Type 0 where
  -- it has all of the other one
  pub includes : Includes new old
  -- it never stops if that one does not
  pub stops : NeverStops old → NeverStops new
  -- what its registers take is made of rst, en and registers, but for the same copies
  pub control : (copies : List ℕ) → IsControlled old copies → IsControlled new copies

-- Two new registers for column and row of a pixel of such a frame, which take nothing yet.
pub record AreRegisters (new old : Netlist) (size : Size) (p : Pixel) : Type 0 where
  -- they have as many bits as the greatest column and row need
  pub pixel : HasPixel new p
  -- the first new one is the column
  pub column : p.column ≡ Reg (length old.regs)
  -- the second is the row
  pub row : p.row ≡ Reg (suc (length old.regs))
  -- the column takes nothing yet
  pub column_free : IsFree new (OfNet p.column)
  -- nor does the row
  pub row_free : IsFree new (OfNet p.row)
  -- nothing else is added
  pub ok : new ≡ with_reg (with_reg old (bit_count (size.width - 1))) (bit_count (size.height - 1))

-- Two new registers, in which a netlist has column and row of the pixel that came `delay` counted clocks ago.
pub record AddsPixel (new old : Netlist) (delay : ℕ) (size : Size) (p : Pixel) : Type 0 where
  -- the netlist has all of the old one
  pub includes : Includes new old
  -- the pixels are of frames of this size
  pub size_is : size_of p.size ≡ size
  -- the registers have as many bits as the greatest column and row need
  pub pixel : HasPixel new p
  -- the first new one is the column
  pub column : p.column ≡ Reg (length old.regs)
  -- the second is the row
  pub row : p.row ≡ Reg (suc (length old.regs))
  -- they follow the pixels
  pub follows : Follows new delay p
  -- each is set once, and else only wires are added, which read no array
  pub counters : AddsCounters new old (bit_count (size.width - 1)) (bit_count (size.height - 1))
  -- if all registers and arrays but some were set before, all but these are set after
  pub updated : (free : List Holder) → UpdatedBut old free → UpdatedBut new free
  -- what was still in held clocks is still, and so are the new registers
  pub still : (copies : List ℕ) (free : List Holder) → StillBut old copies free → StillBut new copies free
  -- the netlist never stops if the old one does not
  pub stops : NeverStops old → NeverStops new
  -- what registers take is made of rst, en and registers, but for the same copies
  pub control : (copies : List ℕ) → IsControlled old copies → IsControlled new copies

-- A function that adds them, in what it makes. Where memory runs out, the netlist still has all of the old one.
abbrev pub MakesPixel : {A E : Type 0} → (new old : Netlist) → Result A E → (delay : ℕ) → Size → (pixel : A → Pixel) → Type 0
MakesPixel new old result delay size pixel = MatchResult result (λ k. AddsPixel new old delay size (pixel k)) (λ e. Includes new old)

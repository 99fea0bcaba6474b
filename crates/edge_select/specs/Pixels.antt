-- The pixel at which an image is, by the nets of its column and row.
use Rattle.std.specs.Prelude.{◌≡◌, ◌⊎◌, ℕ, ℤ, suc, ◌+◌, ◌-◌, ◌<◌, IsTrue, Bool, List, [], ◌∷◌, ◌++◌, length, All, Contains}
use Rattle.dk_base.specs.Frames.{column, row}
use Rattle.dk_base.specs.FrameSizes.{size_of}
use Rattle.dk_base.specs.Numbers.{bit_count}
use Rattle.wiring.specs.declared.right.Atom.{Atom}
use Rattle.wiring.specs.declared.netlist.Net.{Net}
use Rattle.wiring.specs.declared.netlist.Net.TheVariants.{Reg}
use Rattle.wiring.specs.declared.netlist.Holder.{Holder}
use Rattle.wiring.specs.declared.netlist.Holder.TheVariants.{OfNet}
use Rattle.wiring.specs.declared.netlist.Update.TheVariants.{Set}
use Rattle.wiring.specs.Netlist.{Netlist, net_width}
use Rattle.wiring.specs.Snapshot.{Snapshot, net_value}
use Rattle.wiring.specs.History.{was_reset, counted}
use Rattle.wiring.specs.BufferBits.{atom_reads}
use Rattle.net_build.specs.Includes.{InEach}
use Rattle.net_build.specs.Draft.{IsNet}
use Rattle.net_build.specs.Runs.{InEachRun, IsStill}
use Rattle.net_build.specs.Control.{IsMadeOf, AddsNoReads}
use Rattle.net_build.specs.Counters.{control_nets}
use Rattle.edge_select.specs.declared.pixel.Pixel.{Pixel}
use Rattle.edge_select.specs.declared.step.Step.{Step}
use Rattle.edge_select.specs.Steps.{LeadBy}

-- the netlist has the nets, each with as many bits as the greatest column or row needs
pub record HasPixel (b : Netlist) (p : Pixel) : Type 0 where
  pub column : IsNet b p.column
  pub row : IsNet b p.row
  pub column_width : net_width b p.column ≡ bit_count (p.size.width - 1)
  pub row_width : net_width b p.row ≡ bit_count (p.size.height - 1)

-- The nets of a pixel, and a column and a row of its frames.
pub record HasSpot (b : Netlist) (p : Pixel) (x y : ℕ) : Type 0 where
  -- the netlist has the nets
  pub pixel : HasPixel b p
  -- the column is one of the frame
  pub in_row : x < p.size.width
  -- and so is the row
  pub in_column : y < p.size.height

-- in a valuation the nets are column and row of a pixel of the frame
pub record IsOnFrame (p : Pixel) (s : Snapshot) : Type 0 where
  pub column : net_value s p.column < p.size.width
  pub row : net_value s p.row < p.size.height

-- they are those of pixel k of frames back to back
pub record IsPixel (p : Pixel) (k : ℕ) (s : Snapshot) : Type 0 where
  pub column : net_value s p.column ≡ column (size_of p.size) k
  pub row : net_value s p.row ≡ row (size_of p.size) k

-- In each run of every module that includes the netlist, in each clock after a reset clock, held ones included: with t the number of counted clocks since the reset, the nets are column and row of pixel t - delay, once t is at least the delay. Before, they are those of some pixel. In held clocks they do not change.
pub record Follows (b : Netlist) (delay : ℕ) (p : Pixel) : Type 0 where
  pub pixel : InEachRun b (λ m before c s. IsTrue (was_reset before) → (k : ℕ) → k + delay ≡ length (counted m before) → IsPixel p k s)
  pub on_frame : InEachRun b (λ m before c s. IsTrue (was_reset before) → IsOnFrame p s)
  pub column_still : IsStill b [] (OfNet p.column)
  pub row_still : IsStill b [] (OfNet p.row)

-- made only of rst, of en and of the registers of this number and the next
abbrev pub IsMadeOfBoth : Netlist → (first : ℕ) → Holder → Type 0
IsMadeOfBoth b first h = (base : Holder → Bool) → ((n : Net) → Contains (control_nets b.enable ++ Reg first ∷ (Reg (suc first) ∷ [])) n → IsTrue (base (OfNet n))) → IsMadeOf b base h

-- Two registers of these widths are added, each set once, by what is made only of rst, en and both. Else only wires are added, which read no array.
pub record AddsCounters (new old : Netlist) (first second : ℕ) : Type 0 where
  pub arrays : new.arrays ≡ old.arrays
  pub regs : new.regs ≡ old.regs ++ first ∷ (second ∷ [])
  pub one : Atom Net
  pub two : Atom Net
  pub updates : new.updates ≡ old.updates ++ Set (length old.regs) one ∷ (Set (suc (length old.regs)) two ∷ [])
  pub one_control : All (IsMadeOfBoth new (length old.regs)) (atom_reads one)
  pub two_control : All (IsMadeOfBoth new (length old.regs)) (atom_reads two)
  pub reads : AddsNoReads new old

-- a bit that is 1 where P holds, and else 0
abbrev pub IsBitOf : Type 0 → ℕ → Type 0
IsBitOf P bit = (P × (bit ≡ 1)) ⊎ ((P → ⊥) × (bit ≡ 0))

-- the net has one bit, which is 1 in the pixels that pass and else 0, and it is made of the pixel's nets
pub record IsTest (new old : Netlist) (p : Pixel) (passes : (x y : ℕ) → Type 0) (n : Net) : Type 0 where
  pub net : IsNet new n
  pub width : net_width new n ≡ 1
  pub value : InEach new (λ m s. IsOnFrame p s → IsBitOf (passes (net_value s p.column) (net_value s p.row)) (net_value s n))
  pub made_of : (base : Holder → Bool) → IsMadeOf old base (OfNet p.column) → IsMadeOf old base (OfNet p.row) → IsMadeOf new base (OfNet n)

-- the test of the pixels that the steps lead by (dx, dy)
abbrev pub IsWay : (new old : Netlist) → Pixel → List Step → (dx dy : ℤ) → Net → Type 0
IsWay new old p steps dx dy n = IsTest new old p (LeadBy (size_of p.size) steps dx dy) n

-- at each pixel where both nets are 1
abbrev pub WhereBoth : Netlist → Pixel → (n o : Net) → Type 0 → Type 0
WhereBoth new p n o P = InEach new (λ m s. IsOnFrame p s → net_value s n ≡ 1 → net_value s o ≡ 1 → P)

-- each pixel of a frame passes
abbrev pub AllPass : (width height : ℕ) → (passes : (x y : ℕ) → Type 0) → Type 0
AllPass width height passes = (x y : ℕ) → x < width → y < height → passes x y

-- none of its pixels passes
abbrev pub NonePass : (width height : ℕ) → (passes : (x y : ℕ) → Type 0) → Type 0
NonePass width height passes = AllPass width height (λ x y. passes x y → ⊥)

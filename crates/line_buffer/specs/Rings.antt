-- How a ring is read, one age after another.
use Rattle.std.specs.Prelude.{◌≡◌, ◌==◌, ℕ, ◌+◌, ◌-◌, ◌%◌, ◌^◌, ◌<◌, nat_lt, nat_eq, IsTrue, if◌then◌else◌, List, [], ◌∷◌, slice_get, Some}
use Rattle.wiring.specs.declared.netlist.Net.{Net}
use Rattle.wiring.specs.declared.netlist.Holder.TheVariants.{OfNet}
use Rattle.wiring.specs.declared.netlist.Shape.{Shape}
use Rattle.wiring.specs.Netlist.{Netlist, net_width}
use Rattle.wiring.specs.Sizes.{IsWidth}
use Rattle.wiring.specs.Snapshot.{net_value, word_value}
use Rattle.wiring.specs.History.{was_reset}
use Rattle.net_build.specs.Includes.{Includes}
use Rattle.net_build.specs.Draft.{IsNet, AddsWires}
use Rattle.net_build.specs.Runs.{InEachRun}
use Rattle.net_build.specs.Control.{is_control, AddsReads}
use Rattle.net_build.specs.Logic.{Computes}
use Rattle.net_build.specs.Depth.{IsWithin}
use Rattle.line_buffer.specs.declared.lines.DelayLine.{DelayLine}
use Rattle.line_buffer.specs.declared.rings.RingLine.{RingLine}
use Rattle.line_buffer.specs.Lines.{IsIndex}
use Rattle.line_buffer.specs.Depths.{line_operators, ring_operators}
use Rattle.line_buffer.specs.Added.{EachAdded}
use Rattle.line_buffer.specs.Buffers.{ReadsInside, is_buffer}

-- the place of the word that was written `age` clocks before the one at the index, in a ring of n words
abbrev pub behind : (n age index : ℕ) → ℕ
behind n age index = if nat_eq age n then index else if nat_lt index age then index + (n - age) else index - age

-- the same as the gates give it, in numbers of this many bits
abbrev pub place_worth : (words age bits index : ℕ) → ℕ
place_worth words age bits index = if nat_lt index age then (index + (words - age)) % 2 ^ bits else (index + 2 ^ bits - age) % 2 ^ bits

-- the net is the index of the word that was written this many clocks before the one at the index
abbrev pub IsPlaceBehind : (new old : Netlist) → (index : Net) → (bits words age : ℕ) → Net → Type 0
IsPlaceBehind new old index bits words age n = Computes new old (index ∷ []) bits (λ s. place_worth words age bits (net_value s index)) n

-- The tap of an age in a ring of n words, in array `first`: the image's net itself at age 0, and else the word that many places before the index.
pub record IsRingTap (b : Netlist) (first n : ℕ) (index value : Net) (age : ℕ) (tap : Net) : Type 0 where
  pub net : IsNet b tap
  pub width : net_width b tap ≡ net_width b value
  pub now : age ≡ 0 → tap ≡ value
  pub word : 0 < age → InEachRun b (λ m before c s. IsTrue (was_reset (c ∷ before)) → net_value s tap ≡ word_value s first (behind n age (net_value s index)))
  pub made : 0 < age → IsWithin b (is_buffer b.enable first (first + 1)) ring_operators (OfNet tap)

abbrev pub AreRingTaps : Netlist → (first n : ℕ) → (index value : Net) → (ages : List ℕ) → List Net → Type 0
AreRingTaps b first n index value ages taps = (k age : ℕ) (tap : Net) → slice_get ages k ≡ Some age → slice_get taps k ≡ Some tap → IsRingTap b first n index value age tap

-- only wires are added, and they read only array x
pub record AddsTaps (new old : Netlist) (x : ℕ) : Type 0 where
  pub includes : Includes new old
  pub wires : AddsWires new old
  pub reads : AddsReads new old (λ y. y == x)
  pub reads_inside : EachAdded (ReadsInside new) new.assigns old.assigns

-- a delay line of n words for an image's net, with an index of this many bits
pub record IsRing (b : Netlist) (line : DelayLine) (value : Net) (bits words : ℕ) : Type 0 where
  pub shape : Shape
  pub there : slice_get b.arrays line.array ≡ Some shape
  pub deep : shape.depth ≡ words
  pub wide : IsWidth shape.width
  pub value_net : IsNet b value
  pub value_wide : net_width b value ≡ shape.width
  pub index_net : IsNet b line.index
  pub index_wide : net_width b line.index ≡ bits
  pub bits_wide : IsWidth bits
  pub fits : words - 1 < 2 ^ bits
  pub counter : IsIndex b words line.index
  pub control : IsWithin b (is_control b.enable) line_operators (OfNet line.index)
  pub oldest : IsRingTap b line.array words line.index value words line.word

-- the same of a line with its net, the bits of its index and its number of words
abbrev pub IsRingOf : Netlist → RingLine → Type 0
IsRingOf b ring = IsRing b ring.line ring.value ring.bits ring.words

-- the taps of its ages
abbrev pub IsTapOf : Netlist → RingLine → (age : ℕ) → (tap : Net) → Type 0
IsTapOf b ring age tap = IsRingTap b ring.line.array ring.words ring.line.index ring.value age tap

abbrev pub AreTapsOf : Netlist → RingLine → (ages : List ℕ) → List Net → Type 0
AreTapsOf b ring ages taps = AreRingTaps b ring.line.array ring.words ring.line.index ring.value ages taps

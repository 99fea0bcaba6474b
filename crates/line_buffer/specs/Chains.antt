-- How a chain is built, one age after another.
use Rattle.std.specs.Prelude.{◌≡◌, ℕ, zero, suc, ◌+◌, ◌-◌, ◌<◌, nat_le, nat_lt, Bool, ◌&&◌, List, [], ◌∷◌, length, map, filter, slice_get, slice_index, Some}
use Rattle.wiring.specs.declared.netlist.Net.{Net}
use Rattle.wiring.specs.declared.netlist.Holder.{Holder}
use Rattle.wiring.specs.declared.netlist.Holder.TheVariants.{OfNet, OfArray}
use Rattle.wiring.specs.declared.netlist.Shape.{Shape}
use Rattle.wiring.specs.Netlist.{Netlist, net_width}
use Rattle.net_build.specs.Draft.{IsNet}
use Rattle.net_build.specs.Control.{is_control}
use Rattle.net_build.specs.Depth.{IsWithin}
use Rattle.line_buffer.specs.declared.chains.Tap.{Tap}
use Rattle.line_buffer.specs.Places.{later, depth_of, chain_shapes, chain_place}
use Rattle.line_buffer.specs.Depths.{line_operators}
use Rattle.line_buffer.specs.Buffers.{AddsBuffer, IsBuffer, IsDelay}
use Rattle.line_buffer.specs.Indices.{is_direct, AreReadAndPut}
use Rattle.line_buffer.specs.Lines.{Delays}
use Rattle.line_buffer.specs.Fills.{AreFilled}

-- Segments one after another, for ages that ascend from above `low`: each is fed by the one before it, and its net is the tap of its age.
abbrev pub AreSegments : Netlist → (direct : ℕ → Bool) → (copies : List ℕ) → (first low : ℕ) → (feed : Net) → (ages : List ℕ) → List Net → Type 0
AreSegments b direct copies first low feed [] [] = Unit {0}
AreSegments b direct copies first low feed [] (tap ∷ taps) = ⊥
AreSegments b direct copies first low feed (high ∷ ages) [] = ⊥
AreSegments b direct copies first low feed (high ∷ ages) (tap ∷ taps) = Delays b direct copies first (high - low) feed tap × AreSegments b direct copies (first + 1) high tap ages taps

-- the copies are a register for each long array, as wide as its words
abbrev pub AreCopies : (long : (words : ℕ) → Bool) → Netlist → (copies : List ℕ) → List Shape → Type 0
AreCopies long b copies shapes = map (λ r. slice_index b.regs r) copies ≡ map (λ (s : Shape). s.width) (filter (λ (s : Shape). long s.depth) shapes)

-- rst, en, the registers, and the arrays from `first` to before `end` that are not long
abbrev pub is_short : (long : (words : ℕ) → Bool) → Netlist → (first end : ℕ) → Holder → Bool
is_short long b first end (OfNet n) = is_control b.enable (OfNet n)
is_short long b first end (OfArray x) = (nat_le first x && nat_lt x end) && is_direct long b x

-- the taps of ages above 0 are made only of these, with at most this number of operators on each path of assigns, so no path leads from the read of a long array to one
abbrev pub AreMadeOfShort : (long : (words : ℕ) → Bool) → Netlist → (most first end : ℕ) → (ages : List ℕ) → (taps : List Net) → Type 0
AreMadeOfShort long b most first end ages taps = (k age : ℕ) (tap : Net) → slice_get ages k ≡ Some age → 0 < age → slice_get taps k ≡ Some tap → IsWithin b (is_short long b first end) most (OfNet tap)

-- a segment of n words: an array is added, with a register that copies its word if it is long
pub record IsSegment (new old : Netlist) (width words : ℕ) (long : (words : ℕ) → Bool) (from net : Net) : Type 0 where
  pub copies : List ℕ
  pub adds : AddsBuffer new old ((record { width = width; depth = words }) ∷ []) copies
  pub line : Delays new (is_direct long new) copies (length old.arrays) words from net
  pub wide : AreCopies long new copies ((record { width = width; depth = words }) ∷ [])
  pub once : AreReadAndPut long new old
  pub made : IsWithin new (is_short long new (length old.arrays) (length old.arrays + 1)) line_operators (OfNet net)

-- the tap of an age that is no less: the same net at the same age, and else that of a segment
pub record IsStep (new old : Netlist) (width : ℕ) (long : (words : ℕ) → Bool) (from : Tap) (age : ℕ) (to : Tap) : Type 0 where
  pub age_is : to.age ≡ age
  pub net : IsNet new to.net
  pub wide : net_width new to.net ≡ width
  pub stays : age ≡ from.age → AddsBuffer new old [] [] × (to.net ≡ from.net)
  pub goes : from.age < age → IsSegment new old width (age - from.age) long from.net to.net

-- the net that feeds the next segment
abbrev pub last_net : Net → List Net → Net
last_net feed [] = feed
last_net feed (tap ∷ taps) = last_net tap taps

-- the taps of the ages above 0: all except the first if its age is 0
abbrev pub later_taps : List ℕ → List Net → List Net
later_taps [] taps = taps
later_taps (zero ∷ ages) [] = []
later_taps (suc age ∷ ages) [] = []
later_taps (zero ∷ ages) (tap ∷ taps) = taps
later_taps (suc age ∷ ages) (tap ∷ taps) = tap ∷ taps

-- the taps of the first ages, of which `last` is the last one
pub record IsChained (new old : Netlist) (width : ℕ) (long : (words : ℕ) → Bool) (value : Net) (ages : List ℕ) (taps : List Net) (last : Tap) : Type 0 where
  pub copies : List ℕ
  pub adds : AddsBuffer new old (chain_shapes width ages) copies
  pub copied : AreCopies long new copies (chain_shapes width ages)
  pub once : AreReadAndPut long new old
  pub segments : AreSegments new (is_direct long new) copies (length old.arrays) 0 value (later ages) (later_taps ages taps)
  pub one_each : length taps ≡ length ages
  pub nets : (k : ℕ) (tap : Net) → slice_get taps k ≡ Some tap → IsNet new tap
  pub widths : (k : ℕ) (tap : Net) → slice_get taps k ≡ Some tap → net_width new tap ≡ width
  pub now : (k : ℕ) (tap : Net) → slice_get ages k ≡ Some 0 → slice_get taps k ≡ Some tap → tap ≡ value
  pub made : AreMadeOfShort long new line_operators (length old.arrays) (length old.arrays + length (chain_shapes width ages)) ages taps
  pub age_is : last.age ≡ depth_of ages
  pub net_is : last.net ≡ last_net value (later_taps ages taps)
  pub net : IsNet new last.net
  pub wide : net_width new last.net ≡ width

-- A buffer as a chain, in which the long arrays are in block memory. Each array is read once and put once. A long one has a register that copies its word, one clock ahead; no other register takes in data.
pub record IsChain (new old : Netlist) (width : ℕ) (long : (words : ℕ) → Bool) (value : Net) (ages : List ℕ) (taps : List Net) : Type 0 where
  pub copies : List ℕ
  pub adds : AddsBuffer new old (chain_shapes width ages) copies
  pub copied : AreCopies long new copies (chain_shapes width ages)
  pub once : AreReadAndPut long new old
  pub buffer : IsBuffer new copies (chain_place (length old.arrays) ages) ages taps value
  pub delay : IsDelay new (chain_place (length old.arrays) ages) ages taps value
  pub made : AreMadeOfShort long new line_operators (length old.arrays) (length old.arrays + length (chain_shapes width ages)) ages taps
  pub fills : AreFilled new (is_direct long new) copies (length old.arrays) (length old.arrays + length (chain_shapes width ages)) value

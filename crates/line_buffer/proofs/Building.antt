-- A ring that is built.
use Rattle.std.proofs.Common.{◌≡◌, ℕ, ◌+◌, ◌-◌, ◌^◌, ◌<◌, ◌≤◌, Bool, true, List, [], ◌∷◌, length, get_or, Some, refl, sym, ap, subst, ◌∙◌, arith, lit≤}
use Rattle.std.specs.Prelude.{slice_get, All, if◌then◌else◌}
use Rattle.std.specs.List.Sorted.{IsStrictlyIncreasing}
use Rattle.std.proofs.lemmas.Option.{slice_get-get_or, slice_get_within}
use Rattle.dk_base.specs.Numbers.{IsBitCount}
use Rattle.wiring.specs.declared.netlist.Net.{Net}
use Rattle.wiring.specs.declared.netlist.Shape.{Shape}
use Rattle.wiring.specs.Sizes.{IsWidth}
use Rattle.wiring.specs.Netlist.{Netlist, net_width}
use Rattle.net_build.specs.Draft.{IsNet}
use Rattle.net_build.proofs.Drafts.{last_push}
use Rattle.net_build.proofs.Grown.{net_more, width_more}
use Rattle.line_buffer.specs.declared.lines.DelayLine.{DelayLine}
use Rattle.line_buffer.specs.Lines.{IsIndex, IsDelayLine}
use Rattle.line_buffer.specs.AddedLines.{AddsLine}
use Rattle.line_buffer.specs.Places.{last_of, depth_of, ring_shapes, ring_place}
use Rattle.std.proofs.lemmas.List.Elements.{All-head, All-tail}
use Rattle.line_buffer.proofs.Adding.{adds_none}
use Rattle.line_buffer.specs.Rings.{IsRing, AddsTaps, IsRingTap, AreRingTaps}
use Rattle.line_buffer.specs.Depths.{ring_operators}
use Rattle.line_buffer.specs.Buffers.{AddsBuffer, IsBuffer, AreMadeOfBuffer}
use Rattle.line_buffer.specs.Fills.{AreFilled}
use Rattle.line_buffer.proofs.Filling.{fills_more, fills_none, fills_one, line_takes_net}
use Rattle.line_buffer.proofs.Ages.{age_within}
use Rattle.line_buffer.proofs.Rotations.{yes_eq, no_eq}
use Rattle.line_buffer.proofs.Turning.{index_more, line_more}
use Rattle.line_buffer.proofs.Tapping.{oldest_is, taps_buffer}
use Rattle.line_buffer.proofs.Ringed.{ring_is, ring_made}

pub count_wide : (v n : ℕ) → v < 2 ^ 64 → IsBitCount v n → IsWidth n
count_wide v n low is = (is.some, is.least 64 (lit≤ tt) low)

-- no age is above the depth
pub ages_deep : (ages : List ℕ) (words : ℕ) → IsStrictlyIncreasing ages → words ≡ depth_of ages → All (λ age. age ≤ words) ages
ages_deep ages words up e k d l = subst (λ (w : ℕ). get_or ages k d ≤ w) (sym e) (age_within ages up k (get_or ages k d) (slice_get-get_or ages k d l))

module _ (b0 b1 : Netlist) (width words bits : ℕ) (value : Net) (line : DelayLine) (added : AddsLine b1 b0 width words value line) (index_wide : net_width b1 line.index ≡ bits)
    (wide : IsWidth width) (net : IsNet b0 value) (value_wide : net_width b0 value ≡ width) (some : 0 < words) (low : words - 1 < 2 ^ 64) (counted : IsBitCount (words - 1) bits) where
  value_here : net_width b1 value ≡ width
  value_here = width_more b1 b0 added.adds.includes value net.declared ∙ value_wide

  pub ring_built : IsRing b1 line value bits words
  ring_built = record {
    shape = record { width = width; depth = words };
    there = subst (λ (i : ℕ). slice_get b1.arrays i ≡ Some (record { width = width; depth = words })) (sym added.array) (subst (λ (l : List Shape). slice_get l (length b0.arrays) ≡ Some (record { width = width; depth = words })) (sym added.adds.arrays) (last_push b0.arrays (record { width = width; depth = words })));
    deep = refl;
    wide = wide;
    value_net = net_more b1 b0 added.adds.includes value net;
    value_wide = value_here;
    index_net = added.index.there;
    index_wide = index_wide;
    bits_wide = count_wide (words - 1) bits low counted;
    fits = counted.holds;
    counter = added.index.counter;
    control = added.index.control;
    oldest = subst (λ (i : ℕ). IsRingTap b1 i words line.index value words line.word) (sym added.array) (oldest_is b1 (length b0.arrays) words line.index value line.word added.word (added.word_width ∙ sym value_here) added.delays added.index.counter some added.made);
  }

  -- with its taps
  module _ (b2 : Netlist) (ages : List ℕ) (taps : List Net) (up : IsStrictlyIncreasing ages) (deep : words ≡ depth_of ages) (more : AddsTaps b2 b1 line.array) (one_each : length taps ≡ length ages) (are : AreRingTaps b2 line.array words line.index value ages taps) where
    shapes : (record { width = width; depth = words }) ∷ [] ≡ ring_shapes width ages
    shapes =
        ap (λ (d : ℕ). (record { width = width; depth = d }) ∷ []) deep
        ∙ sym (ap (λ (h : Bool). if h then [] else (record { width = width; depth = depth_of ages }) ∷ []) (no_eq (depth_of ages) 0 (λ e. omega (arith, e, deep, some))))

    pub built_adds : AddsBuffer b2 b0 (ring_shapes width ages) []
    built_adds = subst (λ (l : List Shape). AddsBuffer b2 b0 l []) shapes (taps_buffer b2 b1 b0 ((record { width = width; depth = words }) ∷ []) line.array more added.adds (omega (arith, added.array)))

    here : AreRingTaps b2 (length b0.arrays) (depth_of ages) line.index value ages taps
    here = subst (λ (w : ℕ). AreRingTaps b2 (length b0.arrays) w line.index value ages taps) deep (subst (λ (i : ℕ). AreRingTaps b2 i words line.index value ages taps) added.array are)

    tap_at : (k : ℕ) (tap : Net) → slice_get taps k ≡ Some tap → IsRingTap b2 (length b0.arrays) (depth_of ages) line.index value (get_or ages k 0) tap
    tap_at k tap et = here k (get_or ages k 0) tap (slice_get-get_or ages k 0 (omega (arith, slice_get_within taps k tap et, one_each))) et

    line_here : IsDelayLine b2 (length b0.arrays) (depth_of ages) value line.word
    line_here = subst (λ (w : ℕ). IsDelayLine b2 (length b0.arrays) w value line.word) deep (line_more b2 b1 (length b0.arrays) words value line.word more.includes added.delays)

    counter_here : IsIndex b2 (depth_of ages) line.index
    counter_here = subst (λ (w : ℕ). IsIndex b2 w line.index) deep (index_more b2 b1 words line.index more.includes added.index.counter)

    positive : 0 < depth_of ages
    positive = omega (arith, some, deep)

    pub built_buffer : IsBuffer b2 [] (ring_place (length b0.arrays) ages) ages taps value
    built_buffer = ring_is b2 ages (length b0.arrays) line.index value line.word taps up positive line_here counter_here one_each here (λ k tap et. (tap_at k tap et).net) (λ k tap et. (tap_at k tap et).width)

    pub built_fills : AreFilled b2 (λ x. true) [] (length b0.arrays) (length b0.arrays + length (ring_shapes width ages)) value
    built_fills = fills_more b2 b1 (λ x. true) [] (length b0.arrays) (length b0.arrays + length (ring_shapes width ages)) value more.includes
        (fills_one b1 (λ x. true) [] (length b0.arrays) (length b0.arrays + length (ring_shapes width ages)) value (ap (λ (n : ℕ). length b0.arrays + n) (sym (ap length shapes))) (line_takes_net b1 (λ x. true) (length b0.arrays) words value line.word refl added.delays))

    pub built_made : AreMadeOfBuffer b2 ring_operators (length b0.arrays) (length b0.arrays + length (ring_shapes width ages)) ages taps
    built_made = subst (λ (n : ℕ). AreMadeOfBuffer b2 ring_operators (length b0.arrays) (length b0.arrays + n) ages taps) (ap length shapes)
        (ring_made b2 ages (length b0.arrays) line.index value line.word taps up positive line_here counter_here one_each here (λ k tap et. (tap_at k tap et).net) (λ k tap et. (tap_at k tap et).width))

depth_from : (low m : ℕ) (ages : List ℕ) → low ≤ m → All (λ age. age ≤ m) ages → last_of low ages ≤ m
depth_from low m [] base all = base
depth_from low m (a ∷ ages) base all = depth_from a m ages (All-head (λ age. age ≤ m) a ages all) (All-tail (λ age. age ≤ m) a ages all)

pub depth_most : (ages : List ℕ) (m : ℕ) → All (λ age. age ≤ m) ages → depth_of ages ≤ m
depth_most ages m all = depth_from 0 m ages (omega arith) all

-- with no age above 0
pub still_adds : (b : Netlist) (width : ℕ) (ages : List ℕ) → depth_of ages ≡ 0 → AddsBuffer b b (ring_shapes width ages) []
still_adds b width ages none = subst (λ (l : List Shape). AddsBuffer b b l []) (sym (ap (λ (h : Bool). if h then [] else (record { width = width; depth = depth_of ages }) ∷ []) (yes_eq (depth_of ages) 0 none))) (adds_none b)

pub still_fills : (b : Netlist) (first width : ℕ) (ages : List ℕ) (value : Net) → depth_of ages ≡ 0 → AreFilled b (λ x. true) [] first (first + length (ring_shapes width ages)) value
still_fills b first width ages value none =
    let empty : length (ring_shapes width ages) ≡ 0 = ap (λ (ss : List Shape). length ss) (ap (λ (h : Bool). if h then [] else (record { width = width; depth = depth_of ages }) ∷ []) (yes_eq (depth_of ages) 0 none)) in
    fills_none b (λ x. true) [] first (first + length (ring_shapes width ages)) value (omega (arith, empty))

pub still_made : (b : Netlist) (most first end : ℕ) (ages : List ℕ) (taps : List Net) → IsStrictlyIncreasing ages → depth_of ages ≡ 0 → AreMadeOfBuffer b most first end ages taps
still_made b most first end ages taps up none k age tap ea some et = absurd (omega (arith, none, some, age_within ages up k age ea))

-- A ring is a buffer.
use Rattle.std.proofs.Common.{◌≡◌, ℕ, suc, ◌+◌, ◌-◌, ◌%◌, ◌<◌, ◌≤◌, false, List, [], length, Some, refl, sym, ap, subst, ◌∙◌, arith}
use Rattle.std.specs.Prelude.{IsTrue, slice_get, slice_set, slice_index}
use Rattle.std.specs.List.Sorted.{IsStrictlyIncreasing}
use Rattle.std.proofs.Math.ListN.{length-set}
use Rattle.wiring.specs.declared.netlist.Net.{Net}
use Rattle.wiring.specs.Netlist.{Netlist, net_width}
use Rattle.wiring.specs.Snapshot.{Contents, Snapshot, IsNext, net_value}
use Rattle.wiring.specs.Clock.{Clock}
use Rattle.wiring.specs.History.{was_reset, is_held, counted}
use Rattle.net_build.specs.Draft.{IsNet}
use Rattle.net_build.specs.Runs.{IsClockOf}
use Rattle.line_buffer.specs.Places.{Place}
use Rattle.line_buffer.specs.Lines.{IsIndex, IsDelayLine}
use Rattle.line_buffer.specs.Rings.{behind, AreRingTaps}
use Rattle.line_buffer.specs.Streams.{IsPixel, BufferIsRight, HoldsPixels}
use Rattle.line_buffer.specs.Places.{depth_of, ring_place, word_at}
use Rattle.line_buffer.specs.Depths.{ring_operators}
use Rattle.line_buffer.specs.Buffers.{IsBuffer, AreMadeOfBuffer}
use Rattle.line_buffer.proofs.Rotations.{ring_goes_on, behind_is}
use Rattle.net_build.proofs.Clocks.{now_on, number_off}
use Rattle.line_buffer.proofs.Ages.{age_within}
use Rattle.line_buffer.proofs.Turning.{words_of, line_long, line_takes, line_waits}

module _ (b : Netlist) (ages : List ℕ) (first : ℕ) (index value oldest : Net) (taps : List Net) (up : IsStrictlyIncreasing ages) (some : 0 < depth_of ages) (turning : IsDelayLine b first (depth_of ages) value oldest) (counter : IsIndex b (depth_of ages) index)
    (one_each : length taps ≡ length ages) (are : AreRingTaps b first (depth_of ages) index value ages taps) (nets : (k : ℕ) (tap : Net) → slice_get taps k ≡ Some tap → IsNet b tap) (widths : (k : ℕ) (tap : Net) → slice_get taps k ≡ Some tap → net_width b tap ≡ net_width b value) where
  module _ (m : Netlist) (from : Contents) (before : List Clock) (c : Clock) (s : Snapshot) (is : IsClockOf b m from before c s) (since : IsTrue (was_reset before)) (off : c.reset ≡ false) where
    tap_here : (k age : ℕ) (tap : Net) → slice_get ages k ≡ Some age → 0 < age → slice_get taps k ≡ Some tap → age ≤ length (counted m before) → net_value s tap ≡ word_at s.contents (ring_place first ages age (length (counted m before)))
    tap_here k age tap ea positive et passed =
        let t : ℕ = length (counted m before) in
        let at : net_value s index ≡ t % depth_of ages = counter.counts m from before c s is (now_on c before off since) ∙ ap (λ (i : ℕ). i % depth_of ages) (number_off m before c off) in
        (are k age tap ea et).word positive m from before c s is (now_on c before off since)
        ∙ ap (λ (i : ℕ). slice_index (words_of s.contents first) (behind (depth_of ages) age i)) at
        ∙ ap (slice_index (words_of s.contents first)) (behind_is t age (depth_of ages) positive (age_within ages up k age ea) passed)

    -- the array's words are a delay line
    as_words : (pixel : ℕ → ℕ) (count delay t : ℕ) (words : List ℕ) → length words ≡ depth_of ages →
        ((age q : ℕ) → 0 < age → age ≤ depth_of ages → q + age + delay ≡ t → q < count → slice_index words ((t - age) % depth_of ages) ≡ pixel q) → HoldsPixels pixel count delay t words
    as_words pixel count delay t words long held age q positive deep e lt = ap (λ (n : ℕ). slice_index words ((t - age) % n)) long ∙ held age q positive (omega (arith, deep, long)) e lt

    as_buffer : (pixel : ℕ → ℕ) (count delay t : ℕ) (words : List ℕ) → length words ≡ depth_of ages → HoldsPixels pixel count delay t words →
        (age q : ℕ) → 0 < age → age ≤ depth_of ages → q + age + delay ≡ t → q < count → slice_index words ((t - age) % depth_of ages) ≡ pixel q
    as_buffer pixel count delay t words long held age q positive deep e lt = sym (ap (λ (n : ℕ). slice_index words ((t - age) % n)) long) ∙ held age q positive (omega (arith, deep, long)) e lt

    turns : (pixel : ℕ → ℕ) (count delay : ℕ) → is_held m c ≡ false → (next : Contents) → IsNext m s next → BufferIsRight (λ age t. word_at s.contents (ring_place first ages age t)) pixel count delay (depth_of ages) (length (counted m before)) →
        IsPixel pixel count delay (length (counted m before)) (net_value s value) → BufferIsRight (λ age t. word_at next (ring_place first ages age t)) pixel count delay (depth_of ages) (suc (length (counted m before)))
    turns pixel count delay going next goes held came =
        let t : ℕ = length (counted m before) in
        let words : List ℕ = words_of s.contents first in
        let long : length words ≡ depth_of ages = line_long b first (depth_of ages) value oldest turning m from before c s is in
        let positive : 0 < length words = omega (arith, long, some) in
        let held_on : HoldsPixels pixel count delay (suc t) (slice_set words (t % length words) (net_value s value)) = ring_goes_on pixel count delay t (net_value s value) words positive (as_words pixel count delay t words long held) came in
        let stored : words_of next first ≡ slice_set words (t % length words) (net_value s value) =
        line_takes b first (depth_of ages) value oldest turning m from before c s is since off going next goes ∙ ap (λ (n : ℕ). slice_set words (t % n) (net_value s value)) (sym long) in
        let long_after : length (words_of next first) ≡ depth_of ages = ap length stored ∙ length-set words (t % length words) (net_value s value) ∙ long in
        as_buffer pixel count delay (suc t) (words_of next first) long_after (subst (HoldsPixels pixel count delay (suc t)) (sym stored) held_on)

  pub ring_is : IsBuffer b [] (ring_place first ages) ages taps value
  ring_is = record {
    one_each = one_each;
    net = nets;
    width = widths;
    now = λ k tap ea et. (are k 0 tap ea et).now refl;
    word = λ k age tap ea positive et m from before c s is since off passed. tap_here m from before c s is since off k age tap ea positive et passed;
    goes_on = λ pixel count delay m from before c s is since off going next goes held came. turns m from before c s is since off pixel count delay going next goes held came;
    waits = λ m from before c s is ready held next goes age t positive deep. ap (λ (ws : List ℕ). slice_index ws ((t - age) % depth_of ages)) (line_waits b first (depth_of ages) value oldest turning m from before c s is held next goes);
  }

  pub ring_made : AreMadeOfBuffer b ring_operators first (first + 1) ages taps
  ring_made k age tap ea positive et = (are k age tap ea et).made positive

-- with no age above 0 there is nothing to hold
pub still_is : (b : Netlist) (place : (age t : ℕ) → Place) (ages : List ℕ) (value : Net) (taps : List Net) → IsNet b value → IsStrictlyIncreasing ages → depth_of ages ≡ 0 → length taps ≡ length ages → ((k : ℕ) (tap : Net) → slice_get taps k ≡ Some tap → tap ≡ value) → IsBuffer b [] place ages taps value
still_is b place ages value taps net up none one_each same = record {
  one_each = one_each;
  net = λ k tap et. subst (IsNet b) (sym (same k tap et)) net;
  width = λ k tap et. ap (net_width b) (same k tap et);
  now = λ k tap ea et. same k tap et;
  word = λ k age tap ea positive et m from before c s is since off passed. absurd (omega (arith, none, positive, age_within ages up k age ea));
  goes_on = λ pixel count delay m from before c s is since off going next goes held came age q positive deep e lt. absurd (omega (arith, none, positive, deep));
  waits = λ m from before c s is ready held next goes age t positive deep. absurd (omega (arith, none, positive, deep));
}

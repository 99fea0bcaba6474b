-- A chain of segments is a buffer.
use Rattle.std.proofs.Common.{◌≡◌, ℕ, zero, suc, ◌+◌, ◌-◌, ◌%◌, ◌<◌, ◌≤◌, Bool, true, false, List, [], ◌∷◌, ◌++◌, length, Some, refl, sym, ap, subst, ◌∙◌, inl, inr, arith}
use Rattle.std.specs.Prelude.{IsTrue, Contains, slice_get, slice_set, slice_index, nat_le, if◌then◌else◌}
use Rattle.std.specs.List.Sorted.{IsStrictlyIncreasing}
use Rattle.std.proofs.Math.ListN.{length-set}
use Rattle.std.proofs.lemmas.Bool.{cases_lt}
use Rattle.std.proofs.lemmas.Option.{same_Some}
use Rattle.wiring.specs.declared.netlist.Net.{Net}
use Rattle.wiring.specs.Netlist.{Netlist, net_width}
use Rattle.wiring.specs.Snapshot.{Contents, Snapshot, IsNext, net_value}
use Rattle.wiring.specs.Clock.{Clock}
use Rattle.wiring.specs.History.{was_reset, is_held, counted}
use Rattle.net_build.specs.Includes.{Includes}
use Rattle.net_build.specs.Draft.{IsNet}
use Rattle.net_build.specs.Runs.{IsClockOf, IsReady}
use Rattle.line_buffer.specs.Streams.{IsPixel, HoldsPixels}
use Rattle.line_buffer.specs.Places.{last_of, later, depth_of, Ascend, segment_place, chain_place, word_at}
use Rattle.line_buffer.specs.Lines.{Delays}
use Rattle.line_buffer.specs.Buffers.{IsBuffer}
use Rattle.line_buffer.specs.Chains.{AreSegments, last_net, later_taps}
use Rattle.line_buffer.proofs.Rotations.{ring_goes_on, whole_turn}
use Rattle.line_buffer.proofs.Ages.{later_ascends, later_depth, at_least, above_low}
use Rattle.line_buffer.proofs.Turning.{words_of, delays_more, delays_long}

pub yes_le : (a b : ℕ) → a ≤ b → nat_le a b ≡ true
yes_le a b h = grind arith

pub no_le : (a b : ℕ) → b < a → nat_le a b ≡ false
no_le a b h = grind arith

-- segments as the netlist grows, and one more at the end
module _ (b a : Netlist) (direct wider : ℕ → Bool) (copies more : List ℕ) (f : Includes b a) (wide : (x : ℕ) → x < length a.arrays → IsTrue (direct x) → IsTrue (wider x)) (ready : (before : List Clock) → IsReady more before → IsReady copies before) (among : (r : ℕ) → Contains copies r → Contains more r) where
  pub segments_more : (first low : ℕ) (feed : Net) (ages : List ℕ) (taps : List Net) → AreSegments a direct copies first low feed ages taps → AreSegments b wider more first low feed ages taps
  segments_more first low feed [] [] is = tt
  segments_more first low feed [] (tap ∷ taps) is = is
  segments_more first low feed (high ∷ ages) [] is = is
  segments_more first low feed (high ∷ ages) (tap ∷ taps) is = (delays_more b a direct wider copies more first (high - low) feed tap f (wide first) ready among is.0, segments_more (first + 1) high tap ages taps is.1)

pub segments_push : (b : Netlist) (direct : ℕ → Bool) (copies : List ℕ) (first low : ℕ) (feed : Net) (ages : List ℕ) (taps : List Net) (age : ℕ) (tap : Net) → AreSegments b direct copies first low feed ages taps → Delays b direct copies (first + length ages) (age - last_of low ages) (last_net feed taps) tap →
    AreSegments b direct copies first low feed (ages ++ age ∷ []) (taps ++ tap ∷ [])
segments_push b direct copies first low feed [] [] age tap is turning = (subst (λ (x : ℕ). Delays b direct copies x (age - low) feed tap) (let e : first + 0 ≡ first = omega arith in e) turning, tt)
segments_push b direct copies first low feed [] (t ∷ taps) age tap is turning = absurd is
segments_push b direct copies first low feed (high ∷ ages) [] age tap is turning = absurd is
segments_push b direct copies first low feed (high ∷ ages) (t ∷ taps) age tap is turning =
    (is.0, segments_push b direct copies (first + 1) high t ages taps age tap is.1 (subst (λ (x : ℕ). Delays b direct copies x (age - last_of high ages) (last_net t taps) tap) (let e : first + suc (length ages) ≡ first + 1 + length ages = omega arith in e) turning))

pub segments_long : (b : Netlist) (direct : ℕ → Bool) (copies : List ℕ) (first low : ℕ) (feed : Net) (ages : List ℕ) (taps : List Net) → AreSegments b direct copies first low feed ages taps → length taps ≡ length ages
segments_long b direct copies first low feed [] [] is = refl
segments_long b direct copies first low feed [] (t ∷ taps) is = absurd is
segments_long b direct copies first low feed (high ∷ ages) [] is = absurd is
segments_long b direct copies first low feed (high ∷ ages) (t ∷ taps) is = ap suc (segments_long b direct copies (first + 1) high t ages taps is.1)

module _ (b m : Netlist) (direct : ℕ → Bool) (copies : List ℕ) (from : Contents) (before : List Clock) (c : Clock) (s : Snapshot) (clock : IsClockOf b m from before c s) where
  abbrev t : ℕ
  t = length (counted m before)

  -- each segment's words are a delay line where its part of the ages is right
  abbrev Right : (c : Contents) (pixel : ℕ → ℕ) (count delay time first low : ℕ) → List ℕ → Type 0
  Right c pixel count delay time first low ages = (age q : ℕ) → low < age → age ≤ last_of low ages → q + age + delay ≡ time → q < count → word_at c (segment_place first low ages age time) ≡ pixel q

  first_right : (c : Contents) (pixel : ℕ → ℕ) (count delay time first low high : ℕ) (ages : List ℕ) → low < high → Ascend high ages → length (words_of c first) ≡ high - low → Right c pixel count delay time first low (high ∷ ages) → HoldsPixels pixel count (delay + low) time (words_of c first)
  first_right c pixel count delay time first low high ages rises up long right age q some short e lt =
      let within : age + low ≤ high = omega (arith, short, long, rises) in
      let reach : high ≤ last_of high ages = at_least high ages up in
      let is = right (age + low) q (omega (arith, some)) (omega (arith, within, reach)) (omega (arith, e)) lt in
      let back : age + low - low ≡ age = omega arith in
      ap (λ (n : ℕ). slice_index (words_of c first) ((time - age) % n)) long
      ∙ sym (ap (λ (h : Bool). word_at c (if h then record { array = first; word = (time - (age + low - low)) % (high - low) } else segment_place (first + 1) high ages (age + low) time)) (yes_le (age + low) high within) ∙ ap (λ (a : ℕ). slice_index (words_of c first) ((time - a) % (high - low))) back)
      ∙ is

  rest_right : (c : Contents) (pixel : ℕ → ℕ) (count delay time first low high : ℕ) (ages : List ℕ) → low < high → Right c pixel count delay time first low (high ∷ ages) → Right c pixel count delay time (first + 1) high ages
  rest_right c pixel count delay time first low high ages rises right age q some deep e lt =
      sym (ap (λ (h : Bool). word_at c (if h then record { array = first; word = (time - (age - low)) % (high - low) } else segment_place (first + 1) high ages age time)) (no_le age high some))
      ∙ right age q (omega (arith, some, rises)) deep e lt

  both_right : (c : Contents) (pixel : ℕ → ℕ) (count delay time first low high : ℕ) (ages : List ℕ) → low < high → length (words_of c first) ≡ high - low → HoldsPixels pixel count (delay + low) time (words_of c first) → Right c pixel count delay time (first + 1) high ages →
      Right c pixel count delay time first low (high ∷ ages)
  both_right c pixel count delay time first low high ages rises long here rest age q some deep e lt =
      elim (cases_lt high age) as (λ _. word_at c (segment_place first low (high ∷ ages) age time) ≡ pixel q) [
        | inl beyond ↦ ap (λ (h : Bool). word_at c (if h then record { array = first; word = (time - (age - low)) % (high - low) } else segment_place (first + 1) high ages age time)) (no_le age high beyond) ∙ rest age q beyond deep e lt
        | inr within ↦
            ap (λ (h : Bool). word_at c (if h then record { array = first; word = (time - (age - low)) % (high - low) } else segment_place (first + 1) high ages age time)) (yes_le age high within)
            ∙ ap (λ (n : ℕ). slice_index (words_of c first) ((time - (age - low)) % n)) (sym long)
            ∙ here (age - low) q (omega (arith, some)) (omega (arith, long, within)) (omega (arith, some, e)) lt
      ]

  module _ (since : IsTrue (was_reset before)) (off : c.reset ≡ false) where
    -- what comes out of a segment is what went in this many clocks before
    comes_out : (pixel : ℕ → ℕ) (count delay first low high : ℕ) (feed tap : Net) → low < high → Delays b direct copies first (high - low) feed tap → HoldsPixels pixel count (delay + low) (length (counted m before)) (words_of s.contents first) →
        IsPixel pixel count (delay + high) (length (counted m before)) (net_value s tap)
    comes_out pixel count delay first low high feed tap rises turning held q e lt =
        let n : ℕ = high - low in
        let long : length (words_of s.contents first) ≡ high - low = delays_long b direct copies first (high - low) feed tap turning m from before c s clock in
        let some : 0 < high - low = omega (arith, rises) in
        let passed : high - low ≤ length (counted m before) = omega (arith, e) in
        let is = held (high - low) q some (omega (arith, long)) (omega (arith, e, rises)) lt in
        turning.gives m from before c s clock since off
        ∙ ap (slice_index (words_of s.contents first)) (sym (whole_turn (length (counted m before)) (high - low) some passed))
        ∙ sym (ap (λ (k : ℕ). slice_index (words_of s.contents first) ((length (counted m before) - (high - low)) % k)) long)
        ∙ is

    chain_turns : (pixel : ℕ → ℕ) (count delay : ℕ) → is_held m c ≡ false → (next : Contents) → IsNext m s next → (first low : ℕ) (feed : Net) (ages : List ℕ) (taps : List Net) → Ascend low ages → AreSegments b direct copies first low feed ages taps →
        Right s.contents pixel count delay (length (counted m before)) first low ages → IsPixel pixel count (delay + low) (length (counted m before)) (net_value s feed) → Right next pixel count delay (suc (length (counted m before))) first low ages
    chain_turns pixel count delay going next goes first low feed [] taps up are right came = λ age q some deep e lt. absurd (omega (arith, some, deep))
    chain_turns pixel count delay going next goes first low feed (high ∷ ages) [] up are right came = absurd are
    chain_turns pixel count delay going next goes first low feed (high ∷ ages) (tap ∷ taps) up are right came =
        let now : ℕ = length (counted m before) in
        let words : List ℕ = words_of s.contents first in
        let long : length words ≡ high - low = delays_long b direct copies first (high - low) feed tap are.0 m from before c s clock in
        let some : 0 < length words = omega (arith, long, up.0) in
        let held : HoldsPixels pixel count (delay + low) now words = first_right s.contents pixel count delay now first low high ages up.0 up.1 long right in
        let held_on : HoldsPixels pixel count (delay + low) (suc now) (slice_set words (now % length words) (net_value s feed)) = ring_goes_on pixel count (delay + low) now (net_value s feed) words some held came in
        let stored : words_of next first ≡ slice_set words (now % length words) (net_value s feed) =
        are.0.takes m from before c s clock since off going next goes ∙ ap (λ (n : ℕ). slice_set words (now % n) (net_value s feed)) (sym long) in
        let long_after : length (words_of next first) ≡ high - low = ap length stored ∙ length-set words (now % length words) (net_value s feed) ∙ long in
        both_right next pixel count delay (suc now) first low high ages up.0 long_after (subst (HoldsPixels pixel count (delay + low) (suc now)) (sym stored) held_on)
        (chain_turns pixel count delay going next goes (first + 1) high tap ages taps up.1 are.1 (rest_right s.contents pixel count delay now first low high ages up.0 right) (comes_out pixel count delay first low high feed tap up.0 are.0 held))

    -- each tap is the word at its place
    tap_here : (first low : ℕ) (feed : Net) (ages : List ℕ) (taps : List Net) → Ascend low ages → AreSegments b direct copies first low feed ages taps → (k age : ℕ) (tap : Net) → slice_get ages k ≡ Some age → age ≤ length (counted m before) → slice_get taps k ≡ Some tap →
        net_value s tap ≡ word_at s.contents (segment_place first low ages age (length (counted m before)))
    tap_here first low feed [] taps up are k age tap ea passed et = cc
    tap_here first low feed (high ∷ ages) [] up are k age tap ea passed et = absurd are
    tap_here first low feed (high ∷ ages) (x ∷ taps) up are zero age tap ea passed et =
        let same : high ≡ age = same_Some high age ea in
        let net : x ≡ tap = same_Some x tap et in
        let some : 0 < high - low = omega (arith, up.0) in
        let turn : (length (counted m before) - (high - low)) % (high - low) ≡ length (counted m before) % (high - low) = whole_turn (length (counted m before)) (high - low) some (omega (arith, passed, same)) in
        let is : net_value s x ≡ slice_index (words_of s.contents first) ((length (counted m before) - (high - low)) % (high - low)) = are.0.gives m from before c s clock since off ∙ ap (slice_index (words_of s.contents first)) (sym turn) in
        sym (ap (net_value s) net) ∙ is
        ∙ sym (ap (λ (h : Bool). word_at s.contents (if h then record { array = first; word = (length (counted m before) - (high - low)) % (high - low) } else segment_place (first + 1) high ages high (length (counted m before)))) (yes_le high high (omega arith)))
        ∙ ap (λ (a : ℕ). word_at s.contents (segment_place first low (high ∷ ages) a (length (counted m before)))) same
    tap_here first low feed (high ∷ ages) (x ∷ taps) up are (suc k) age tap ea passed et =
        let beyond : high < age = above_low high ages up.1 k age ea in
        tap_here (first + 1) high x ages taps up.1 are.1 k age tap ea passed et
        ∙ sym (ap (λ (h : Bool). word_at s.contents (if h then record { array = first; word = (length (counted m before) - (age - low)) % (high - low) } else segment_place (first + 1) high ages age (length (counted m before)))) (no_le age high beyond))

  chain_waits : IsReady copies before → IsTrue (is_held m c) → (next : Contents) → IsNext m s next → (first low : ℕ) (feed : Net) (ages : List ℕ) (taps : List Net) → Ascend low ages → AreSegments b direct copies first low feed ages taps → (age time : ℕ) → low < age → age ≤ last_of low ages →
      word_at next (segment_place first low ages age time) ≡ word_at s.contents (segment_place first low ages age time)
  chain_waits ready held next goes first low feed [] taps up are age time some deep = absurd (omega (arith, some, deep))
  chain_waits ready held next goes first low feed (high ∷ ages) [] up are age time some deep = absurd are
  chain_waits ready held next goes first low feed (high ∷ ages) (tap ∷ taps) up are age time some deep =
      elim (cases_lt high age) as (λ _. word_at next (segment_place first low (high ∷ ages) age time) ≡ word_at s.contents (segment_place first low (high ∷ ages) age time)) [
        | inl beyond ↦ both (no_le age high beyond) (chain_waits ready held next goes (first + 1) high tap ages taps up.1 are.1 age time beyond deep)
        | inr within ↦ both (yes_le age high within) (ap (λ (ws : List ℕ). slice_index ws ((time - (age - low)) % (high - low))) (are.0.waits m from before c s clock ready held next goes))
      ]
    where
      both : {h : Bool} → nat_le age high ≡ h → word_at next (if h then record { array = first; word = (time - (age - low)) % (high - low) } else segment_place (first + 1) high ages age time) ≡ word_at s.contents (if h then record { array = first; word = (time - (age - low)) % (high - low) } else segment_place (first + 1) high ages age time) →
          word_at next (segment_place first low (high ∷ ages) age time) ≡ word_at s.contents (segment_place first low (high ∷ ages) age time)
      both {h} e is = subst (λ (x : Bool). word_at next (if x then record { array = first; word = (time - (age - low)) % (high - low) } else segment_place (first + 1) high ages age time) ≡ word_at s.contents (if x then record { array = first; word = (time - (age - low)) % (high - low) } else segment_place (first + 1) high ages age time)) (sym e) is

module _ (b : Netlist) (direct : ℕ → Bool) (copies : List ℕ) (first : ℕ) (value : Net) (ages : List ℕ) (taps : List Net) (up : IsStrictlyIncreasing ages) (one_each : length taps ≡ length ages) (same : (k : ℕ) (tap : Net) → slice_get ages k ≡ Some 0 → slice_get taps k ≡ Some tap → tap ≡ value)
    (nets : (k : ℕ) (tap : Net) → slice_get taps k ≡ Some tap → IsNet b tap) (widths : (k : ℕ) (tap : Net) → slice_get taps k ≡ Some tap → net_width b tap ≡ net_width b value) (are : AreSegments b direct copies first 0 value (later ages) (later_taps ages taps)) where
  -- an age above 0 among those above 0
  found : (ages : List ℕ) (taps : List Net) (k age : ℕ) (tap : Net) → slice_get ages k ≡ Some age → 0 < age → slice_get taps k ≡ Some tap → (j : ℕ) × (slice_get (later ages) j ≡ Some age) × (slice_get (later_taps ages taps) j ≡ Some tap)
  found [] taps k age tap ea some et = cc
  found (a ∷ ages) [] k age tap ea some et = cc
  found (zero ∷ ages) (x ∷ taps) zero age tap ea some et = absurd (let e : 0 ≡ age = same_Some 0 age ea in omega (arith, e, some))
  found (zero ∷ ages) (x ∷ taps) (suc k) age tap ea some et = (k, ea, et)
  found (suc a ∷ ages) (x ∷ taps) k age tap ea some et = (k, ea, et)

  pub chain_is : IsBuffer b copies (chain_place first ages) ages taps value
  chain_is = record {
    one_each = one_each;
    net = nets;
    width = widths;
    now = same;
    word = λ k age tap ea some et m from before c s is since off passed.
        let at = found ages taps k age tap ea some et in
        tap_here b m direct copies from before c s is since off first 0 value (later ages) (later_taps ages taps) (later_ascends ages up) are at.0 age tap at.1 passed at.2;
    goes_on = λ pixel count delay m from before c s is since off going next goes held came age q some deep e lt.
        let last : last_of 0 (later ages) ≡ depth_of ages = later_depth ages in
        let start : IsPixel pixel count (delay + 0) (length (counted m before)) (net_value s value) = subst (λ (d : ℕ). IsPixel pixel count d (length (counted m before)) (net_value s value)) (let z : delay ≡ delay + 0 = omega arith in z) came in
        chain_turns b m direct copies from before c s is since off pixel count delay going next goes first 0 value (later ages) (later_taps ages taps) (later_ascends ages up) are (λ a p some' deep' e' lt'. held a p some' (omega (arith, deep', last)) e' lt') start age q some (omega (arith, deep, last)) e lt;
    waits = λ m from before c s is ready held next goes age time some deep. chain_waits b m direct copies from before c s is ready held next goes first 0 value (later ages) (later_taps ages taps) (later_ascends ages up) are age time some (omega (arith, deep, later_depth ages));
  }

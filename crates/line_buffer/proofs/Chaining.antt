-- A chain that is built, one age after another.
use Rattle.std.proofs.Common.{◌≡◌, ℕ, zero, suc, ◌+◌, ◌-◌, ◌<◌, ◌≤◌, Bool, true, false, List, [], ◌∷◌, ◌++◌, length, take, Some, None, refl, sym, ap, subst, ◌∙◌, inl, inr, arith, length-append, append-nil, map}
use Rattle.std.specs.Prelude.{IsTrue, All, Contains, Option, cond, filter, not, slice_get, slice_index, unwrap_or, nat_le, nat_lt, ◌&&◌}
use Rattle.std.specs.Option.{option_map}
use Rattle.std.specs.List.Sorted.{IsStrictlyIncreasing}
use Rattle.std.proofs.lemmas.Option.{slice_get_within, same_Some}
use Rattle.std.proofs.lemmas.List.{map-append}
use Rattle.std.proofs.lemmas.List.Elements.{All-weaker, All-contains, filter-append, Contains-append_left, Contains-append_right}
use Rattle.wiring.specs.declared.netlist.Net.{Net}
use Rattle.wiring.specs.declared.netlist.Net.TheVariants.{Reg}
use Rattle.wiring.specs.declared.netlist.Holder.{Holder}
use Rattle.wiring.specs.declared.netlist.Holder.TheVariants.{OfNet, OfArray}
use Rattle.wiring.specs.declared.netlist.Shape.{Shape}
use Rattle.wiring.specs.Netlist.{Netlist, net_width, depth}
use Rattle.net_build.specs.Includes.{Includes}
use Rattle.net_build.specs.Draft.{IsNet}
use Rattle.net_build.specs.Control.{is_control}
use Rattle.net_build.specs.Depth.{IsWithin, by_itself}
use Rattle.net_build.proofs.Depth.{within_more, within_wider}
use Rattle.wiring.proofs.Search.{at_push}
use Rattle.net_build.proofs.Grown.{net_more, width_more, depth_more}
use Rattle.net_build.proofs.Standing.{ready_first, ready_last}
use Rattle.net_build.proofs.Parts.{Includes-refl}
use Rattle.line_buffer.specs.declared.chains.Tap.{Tap}
use Rattle.line_buffer.specs.Places.{last_of, later, depth_of, segment_shapes, chain_shapes, chain_place}
use Rattle.line_buffer.specs.Depths.{line_operators}
use Rattle.line_buffer.specs.Buffers.{AddsBuffer, IsBuffer, AreMadeOfBuffer, IsAdded, is_buffer}
use Rattle.line_buffer.specs.Lines.{IsDelayLine, IsBlockLine, Delays}
use Rattle.line_buffer.specs.Chains.{AreSegments, AreCopies, is_short, AreMadeOfShort, IsSegment, IsStep, IsChained, IsChain, last_net, later_taps}
use Rattle.line_buffer.specs.Indices.{AreReadOnce, AreReadAndPut, is_long, is_direct}
use Rattle.line_buffer.specs.Fills.{AreFilled}
use Rattle.line_buffer.proofs.Filling.{segments_fill}
use Rattle.line_buffer.proofs.Adding.{adds_none, adds_joined, adds_as}
use Rattle.line_buffer.proofs.More.{and_left, and_right, and_both, le_is, is_le, lt_is, is_lt}
use Rattle.line_buffer.proofs.Turning.{line_delays, delays_more}
use Rattle.line_buffer.proofs.Blocking.{block_delays}
use Rattle.line_buffer.proofs.Delayed.{delay_is}
use Rattle.line_buffer.proofs.Ages.{later_depth}
use Rattle.line_buffer.proofs.Indexed.{both_none, both_joined, both_once}
use Rattle.line_buffer.proofs.Segments.{segments_more, segments_push, chain_is}

last_push : (low : ℕ) (xs : List ℕ) (x : ℕ) → last_of low (xs ++ x ∷ []) ≡ x
last_push low [] x = refl
last_push low (y ∷ xs) x = last_push y xs x

net_push : (feed : Net) (taps : List Net) (tap : Net) → last_net feed (taps ++ tap ∷ []) ≡ tap
net_push feed [] tap = refl
net_push feed (t ∷ taps) tap = net_push t taps tap

pub shapes_push : (width low : ℕ) (xs : List ℕ) (x : ℕ) → segment_shapes width low (xs ++ x ∷ []) ≡ segment_shapes width low xs ++ (record { width = width; depth = x - last_of low xs }) ∷ []
shapes_push width low [] x = refl
shapes_push width low (y ∷ xs) x = ap (λ (l : List Shape). (record { width = width; depth = y - low }) ∷ l) (shapes_push width y xs x)

shapes_long : (width low : ℕ) (xs : List ℕ) → length (segment_shapes width low xs) ≡ length xs
shapes_long width low [] = refl
shapes_long width low (x ∷ xs) = ap suc (shapes_long width x xs)

pub later_push : (ages : List ℕ) (age : ℕ) → 0 < age → later (ages ++ age ∷ []) ≡ later ages ++ age ∷ []
later_push [] zero some = absurd (omega (arith, some))
later_push [] (suc a) some = refl
later_push (zero ∷ ages) age some = refl
later_push (suc x ∷ ages) age some = refl

taps_push : (ages : List ℕ) (taps : List Net) (age : ℕ) (tap : Net) → length taps ≡ length ages → 0 < age → later_taps (ages ++ age ∷ []) (taps ++ tap ∷ []) ≡ later_taps ages taps ++ tap ∷ []
taps_push [] [] zero tap e some = absurd (omega (arith, some))
taps_push [] [] (suc a) tap e some = refl
taps_push [] (t ∷ taps) age tap e some = absurd (omega (arith, e))
taps_push (x ∷ ages) [] age tap e some = absurd (omega (arith, e))
taps_push (zero ∷ ages) (t ∷ taps) age tap e some = refl
taps_push (suc x ∷ ages) (t ∷ taps) age tap e some = refl

-- a wider range of arrays, in a larger netlist
wider_short : (long : (words : ℕ) → Bool) (c b : Netlist) (first end low high : ℕ) → Includes c b → low ≤ first → end ≤ high → end ≤ length b.arrays → (h : Holder) → IsTrue (is_short long b first end h) → IsTrue (is_short long c low high h)
wider_short long c b first end low high f from to within (OfNet n) is = subst (λ (e : Bool). IsTrue (is_control e (OfNet n))) (sym f.enable) is
wider_short long c b first end low high f from to within (OfArray x) is =
    let ranged : IsTrue (nat_le first x && nat_lt x end) = and_left (nat_le first x && nat_lt x end) (is_direct long b x) is in
    let l : first ≤ x = is_le first x (and_left (nat_le first x) (nat_lt x end) ranged) in
    let r : x < end = is_lt x end (and_right (nat_le first x) (nat_lt x end) ranged) in
    let short : IsTrue (is_direct long b x) = and_right (nat_le first x && nat_lt x end) (is_direct long b x) is in
    let same : depth c x ≡ depth b x = depth_more c b f x (omega (arith, r, within)) in
    and_both (nat_le low x && nat_lt x high) (is_direct long c x) (and_both (nat_le low x) (nat_lt x high) (le_is low x (omega (arith, from, l))) (lt_is x high (omega (arith, to, r))))
    (subst (λ (d : ℕ). IsTrue (not (long d))) (sym same) short)

pub made_range : (long : (words : ℕ) → Bool) (c b : Netlist) (most first end low high : ℕ) (n : Net) → Includes c b → low ≤ first → end ≤ high → end ≤ length b.arrays → IsWithin b (is_short long b first end) most (OfNet n) → IsWithin c (is_short long c low high) most (OfNet n)
made_range long c b most first end low high n f from to within is = within_more c b (is_short long c low high) f (within_wider b (is_short long b first end) (is_short long c low high) (wider_short long c b first end low high f from to within) is)

-- where none is long, these are all arrays
no_long : (b : Netlist) (first end : ℕ) (h : Holder) → IsTrue (is_short (is_long None) b first end h) → IsTrue (is_buffer b.enable first end h)
no_long b first end (OfNet n) is = is
no_long b first end (OfArray x) is = and_left (nat_le first x && nat_lt x end) true is

pub short_buffer : (b : Netlist) (most first end : ℕ) (ages : List ℕ) (taps : List Net) → AreMadeOfShort (is_long None) b most first end ages taps → AreMadeOfBuffer b most first end ages taps
short_buffer b most first end ages taps is k age tap ea some et = within_wider b (is_short (is_long None) b first end) (is_buffer b.enable first end) (no_long b first end) (is k age tap ea some et)

-- one array that is not long
one_short : (long : (words : ℕ) → Bool) (b : Netlist) (first : ℕ) → long (depth b first) ≡ false → (h : Holder) → IsTrue (is_buffer b.enable first (first + 1) h) → IsTrue (is_short long b first (first + 1) h)
one_short long b first short (OfNet n) is = is
one_short long b first short (OfArray x) is =
    let l : first ≤ x = is_le first x (and_left (nat_le first x) (nat_lt x (first + 1)) is) in
    let r : x < first + 1 = is_lt x (first + 1) (and_right (nat_le first x) (nat_lt x (first + 1)) is) in
    let same : first ≡ x = omega (arith, l, r) in
    and_both (nat_le first x && nat_lt x (first + 1)) (is_direct long b x) is
    (subst (λ (y : ℕ). IsTrue (is_direct long b y)) same (subst (λ (t : Bool). IsTrue (not t)) (sym short) refl))

pub made_short : (long : (words : ℕ) → Bool) (b : Netlist) (most first : ℕ) (n : Net) → long (depth b first) ≡ false → IsWithin b (is_buffer b.enable first (first + 1)) most (OfNet n) → IsWithin b (is_short long b first (first + 1)) most (OfNet n)
made_short long b most first n short is = within_wider b (is_buffer b.enable first (first + 1)) (is_short long b first (first + 1)) (one_short long b first short) is

-- copies of two parts
same_map : (f g : ℕ → ℕ) (xs : List ℕ) → ((r : ℕ) → Contains xs r → f r ≡ g r) → map f xs ≡ map g xs
same_map f g [] same = refl
same_map f g (x ∷ xs) same = ap (λ (y : ℕ). y ∷ map f xs) (same x (0, omega arith, refl)) ∙ ap (λ (l : List ℕ). g x ∷ l) (same_map f g xs (λ r c. same r (suc c.0, omega (arith, c.1), c.2)))

pub copies_joined : (long : (words : ℕ) → Bool) (c b : Netlist) (copies more : List ℕ) (before after : List Shape) → Includes c b → All (λ r. r < length b.regs) copies → AreCopies long b copies before → AreCopies long c more after → AreCopies long c (copies ++ more) (before ++ after)
copies_joined long c b copies more before after f there old new =
    let wide : Shape → ℕ = λ s. s.width in
    let chosen : Shape → Bool = λ s. long s.depth in
    map-append (λ r. slice_index c.regs r) copies more
    ∙ ap (λ (l : List ℕ). l ++ map (λ r. slice_index c.regs r) more) (same_map (λ r. slice_index c.regs r) (λ r. slice_index b.regs r) copies (λ r h. width_more c b f (Reg r) (All-contains (λ (k : ℕ). k < length b.regs) copies r there h)) ∙ old)
    ∙ ap (λ (l : List ℕ). map wide (filter chosen before) ++ l) new
    ∙ sym (map-append wide (filter chosen before) (filter chosen after))
    ∙ ap (map wide) (sym (filter-append chosen before after))

-- with no long array there are none
pub no_copies : (b : Netlist) (copies : List ℕ) (shapes : List Shape) → AreCopies (is_long None) b copies shapes → copies ≡ []
no_copies b copies shapes is = empty copies (is ∙ ap (map (λ (s : Shape). s.width)) (none shapes))
  where
    none : (shapes : List Shape) → filter (λ (s : Shape). is_long None s.depth) shapes ≡ []
    none [] = refl
    none (s ∷ shapes) = none shapes

    empty : (copies : List ℕ) → map (λ r. slice_index b.regs r) copies ≡ [] → copies ≡ []
    empty [] e = refl
    empty (r ∷ copies) e = cc

-- no age yet
pub chained_none : (b : Netlist) (width : ℕ) (long : (words : ℕ) → Bool) (value : Net) (newest : Tap) → IsNet b value → net_width b value ≡ width → newest.age ≡ 0 → newest.net ≡ value → IsChained b b width long value [] [] newest
chained_none b width long value newest net wide zero_age same = record {
  copies = [];
  adds = adds_none b;
  copied = refl;
  once = both_none long b b (adds_none b);
  segments = tt;
  one_each = refl;
  nets = λ k tap e. cc;
  widths = λ k tap e. cc;
  now = λ k tap ea et. cc;
  made = λ k age tap ea some et. cc;
  age_is = zero_age;
  net_is = same;
  net = subst (IsNet b) (sym same) net;
  wide = ap (net_width b) same ∙ wide;
}

module _ (old b c : Netlist) (width : ℕ) (long : (words : ℕ) → Bool) (value : Net) (ages : List ℕ) (taps : List Net) (from to : Tap) (age : ℕ) (done : IsChained b old width long value ages taps from) (step : IsStep c b width long from age to) where
  nets_push : Includes c b → (k : ℕ) (tap : Net) → slice_get (taps ++ to.net ∷ []) k ≡ Some tap → IsNet c tap
  nets_push f k tap e = elim (at_push taps to.net tap k e) as (λ _. IsNet c tap) [ inl earlier ↦ net_more c b f tap (done.nets k tap earlier) | inr last ↦ subst (IsNet c) last.1 step.net ]

  widths_push : Includes c b → (k : ℕ) (tap : Net) → slice_get (taps ++ to.net ∷ []) k ≡ Some tap → net_width c tap ≡ width
  widths_push f k tap e =
      elim (at_push taps to.net tap k e) as (λ _. net_width c tap ≡ width) [
        | inl earlier ↦ width_more c b f tap (done.nets k tap earlier).declared ∙ done.widths k tap earlier
        | inr last ↦ ap (net_width c) (sym last.1) ∙ step.wide
      ]

  long_push : length (taps ++ to.net ∷ []) ≡ length (ages ++ age ∷ [])
  long_push = length-append taps (to.net ∷ []) ∙ ap (λ (n : ℕ). n + 1) done.one_each ∙ sym (length-append ages (age ∷ []))

  -- a greater age
  module _ (beyond : from.age < age) where
    some : 0 < age
    some = omega (arith, beyond)

    segment : IsSegment c b width (age - from.age) long from.net to.net
    segment = step.goes beyond

    grows : Includes c b
    grows = segment.adds.includes

    from_is : from.age ≡ last_of 0 (later ages)
    from_is = done.age_is ∙ sym (later_depth ages)

    shapes : chain_shapes width ages ++ (record { width = width; depth = age - from.age }) ∷ [] ≡ chain_shapes width (ages ++ age ∷ [])
    shapes =
        ap (λ (a : ℕ). chain_shapes width ages ++ (record { width = width; depth = age - a }) ∷ []) from_is
        ∙ sym (shapes_push width 0 (later ages) age)
        ∙ ap (segment_shapes width 0) (sym (later_push ages age some))

    arrays_long : length b.arrays ≡ length old.arrays + length (later ages)
    arrays_long = ap length done.adds.arrays ∙ length-append old.arrays (chain_shapes width ages) ∙ ap (λ (n : ℕ). length old.arrays + n) (shapes_long width 0 (later ages))

    abbrev both : List ℕ
    both = done.copies ++ segment.copies

    -- what was read directly still is
    direct_more : (x : ℕ) → x < length b.arrays → IsTrue (is_direct long b x) → IsTrue (is_direct long c x)
    direct_more x there is = subst (λ (d : ℕ). IsTrue (not (long d))) (sym (depth_more c b grows x there)) is

    line_here : Delays c (is_direct long c) (done.copies ++ segment.copies) (length b.arrays) (age - from.age) from.net to.net
    line_here = delays_more c c (is_direct long c) (is_direct long c) segment.copies (done.copies ++ segment.copies) (length b.arrays) (age - from.age) from.net to.net (Includes-refl c) (λ there is. is) (ready_last done.copies segment.copies) (λ r h. Contains-append_right done.copies segment.copies r h) segment.line

    pushed : AreSegments c (is_direct long c) (done.copies ++ segment.copies) (length old.arrays) 0 value (later (ages ++ age ∷ [])) (later_taps (ages ++ age ∷ []) (taps ++ to.net ∷ []))
    pushed =
        subst (λ (l : List ℕ). AreSegments c (is_direct long c) both (length old.arrays) 0 value l (later_taps (ages ++ age ∷ []) (taps ++ to.net ∷ []))) (sym (later_push ages age some))
        (subst (AreSegments c (is_direct long c) both (length old.arrays) 0 value (later ages ++ age ∷ [])) (sym (taps_push ages taps age to.net done.one_each some))
        (segments_push c (is_direct long c) both (length old.arrays) 0 value (later ages) (later_taps ages taps) age to.net
        (segments_more c b (is_direct long b) (is_direct long c) done.copies both grows direct_more (ready_first done.copies segment.copies) (λ r h. Contains-append_left done.copies segment.copies r h) (length old.arrays) 0 value (later ages) (later_taps ages taps) done.segments)
        (subst (λ (x : ℕ). Delays c (is_direct long c) both x (age - last_of 0 (later ages)) (last_net value (later_taps ages taps)) to.net) arrays_long
        (subst (λ (a : ℕ). Delays c (is_direct long c) both (length b.arrays) (age - a) (last_net value (later_taps ages taps)) to.net) from_is
        (subst (λ (n : Net). Delays c (is_direct long c) both (length b.arrays) (age - from.age) n to.net) done.net_is line_here)))))

    copied_both : AreCopies long c (done.copies ++ segment.copies) (chain_shapes width (ages ++ age ∷ []))
    copied_both = subst (AreCopies long c both) shapes
        (copies_joined long c b done.copies segment.copies (chain_shapes width ages) ((record { width = width; depth = age - from.age }) ∷ []) grows (All-weaker (IsAdded b old) (λ (r : ℕ). r < length b.regs) (λ r a. a.there) done.copies done.adds.added) done.copied segment.wide)

    now_push : (k : ℕ) (tap : Net) → slice_get (ages ++ age ∷ []) k ≡ Some 0 → slice_get (taps ++ to.net ∷ []) k ≡ Some tap → tap ≡ value
    now_push k tap ea et =
        elim (at_push ages age 0 k ea) as (λ _. tap ≡ value) [
          | inl earlier ↦ elim (at_push taps to.net tap k et) as (λ _. tap ≡ value) [ inl there ↦ done.now k tap earlier there | inr last ↦ absurd (omega (arith, last.0, slice_get_within ages k 0 earlier, done.one_each)) ]
          | inr last ↦ absurd (omega (arith, last.1, some))
        ]

    high : ℕ
    high = length old.arrays + length (chain_shapes width (ages ++ age ∷ []))

    reach : length b.arrays + 1 ≤ length old.arrays + length (chain_shapes width (ages ++ age ∷ []))
    reach = omega (arith, arrays_long, shapes_long width 0 (later (ages ++ age ∷ [])), ap length (later_push ages age some), length-append (later ages) (age ∷ []))

    made_push : AreMadeOfShort long c line_operators (length old.arrays) (length old.arrays + length (chain_shapes width (ages ++ age ∷ []))) (ages ++ age ∷ []) (taps ++ to.net ∷ [])
    made_push k a tap ea positive et =
        let h : ℕ = length old.arrays + length (chain_shapes width (ages ++ age ∷ [])) in
        let first : length old.arrays ≤ length b.arrays = omega (arith, arrays_long) in
        let before : length old.arrays + length (chain_shapes width ages) ≤ h = omega (arith, reach, arrays_long, shapes_long width 0 (later ages)) in
        let within : length old.arrays + length (chain_shapes width ages) ≤ length b.arrays = omega (arith, arrays_long, shapes_long width 0 (later ages)) in
        let there : length b.arrays + 1 ≤ length c.arrays = omega (arith, ap length segment.adds.arrays, length-append b.arrays ((record { width = width; depth = age - from.age }) ∷ [])) in
        elim (at_push taps to.net tap k et) as (λ _. IsWithin c (is_short long c (length old.arrays) (length old.arrays + length (chain_shapes width (ages ++ age ∷ [])))) line_operators (OfNet tap)) [
          | inl there ↦ elim (at_push ages age a k ea) as (λ _. IsWithin c (is_short long c (length old.arrays) (length old.arrays + length (chain_shapes width (ages ++ age ∷ [])))) line_operators (OfNet tap)) [
            | inl earlier ↦ made_range long c b line_operators (length old.arrays) (length old.arrays + length (chain_shapes width ages)) (length old.arrays) h tap grows (omega arith) before within (done.made k a tap earlier positive there)
            | inr last ↦ absurd (omega (arith, last.0, slice_get_within taps k tap there, done.one_each))
          ]
          | inr last ↦ subst (λ (n : Net). IsWithin c (is_short long c (length old.arrays) h) line_operators (OfNet n)) last.1 (made_range long c c line_operators (length b.arrays) (length b.arrays + 1) (length old.arrays) h to.net (Includes-refl c) first reach there segment.made)
        ]

    pub chained_beyond : IsChained c old width long value (ages ++ age ∷ []) (taps ++ to.net ∷ []) to
    chained_beyond = record {
      copies = done.copies ++ segment.copies;
      adds = adds_as c old (chain_shapes width ages ++ (record { width = width; depth = age - from.age }) ∷ []) (chain_shapes width (ages ++ age ∷ [])) both shapes
          (adds_joined c b old ((record { width = width; depth = age - from.age }) ∷ []) (chain_shapes width ages) segment.copies done.copies segment.adds done.adds);
      copied = copied_both;
      once = both_joined long c b old ((record { width = width; depth = age - from.age }) ∷ []) segment.copies segment.adds segment.once done.once;
      segments = pushed;
      one_each = long_push;
      nets = nets_push grows;
      widths = widths_push grows;
      now = now_push;
      made = made_push;
      age_is = step.age_is ∙ sym (last_push 0 ages age);
      net_is = sym (ap (last_net value) (taps_push ages taps age to.net done.one_each some) ∙ net_push value (later_taps ages taps) to.net);
      net = step.net;
      wide = step.wide;
    }

-- the first age, which is 0
pub chained_first : (old b c : Netlist) (width : ℕ) (long : (words : ℕ) → Bool) (value : Net) (from to : Tap) → IsChained b old width long value [] [] from → IsStep c b width long from 0 to → IsChained c old width long value (0 ∷ []) (to.net ∷ []) to
chained_first old b c width long value from to done step =
    let both = step.stays (sym done.age_is) in
    let same : to.net ≡ value = both.1 ∙ done.net_is in
    record {
      copies = done.copies ++ [];
      adds = adds_joined c b old [] [] [] done.copies both.0 done.adds;
      copied = copies_joined long c b done.copies [] [] [] both.0.includes (All-weaker (IsAdded b old) (λ (r : ℕ). r < length b.regs) (λ r a. a.there) done.copies done.adds.added) done.copied refl;
      once = both_joined long c b old [] [] both.0 (both_none long c b both.0) done.once;
      segments = tt;
      one_each = refl;
      nets = λ k tap e. one k tap e;
      widths = λ k tap e. wide k tap e;
      now = λ k tap ea et. only k tap et same;
      made = λ k age tap ea some et. first k age ea some;
      age_is = step.age_is;
      net_is = same;
      net = step.net;
      wide = step.wide;
    }
  where
    one : (k : ℕ) (tap : Net) → slice_get (to.net ∷ []) k ≡ Some tap → IsNet c tap
    one zero tap e = subst (IsNet c) (same_Some to.net tap e) step.net
    one (suc k) tap e = cc

    wide : (k : ℕ) (tap : Net) → slice_get (to.net ∷ []) k ≡ Some tap → net_width c tap ≡ width
    wide zero tap e = ap (net_width c) (sym (same_Some to.net tap e)) ∙ step.wide
    wide (suc k) tap e = cc

    only : (k : ℕ) (tap : Net) → slice_get (to.net ∷ []) k ≡ Some tap → to.net ≡ value → tap ≡ value
    only zero tap e is = sym (same_Some to.net tap e) ∙ is
    only (suc k) tap e is = cc

    first : {P : Type 0} (k age : ℕ) → slice_get (0 ∷ []) k ≡ Some age → 0 < age → P
    first zero age e some = absurd (let z : 0 ≡ age = same_Some 0 age e in omega (arith, z, some))
    first (suc k) age e some = cc

-- one age more
pub chained_more : (old b c : Netlist) (width : ℕ) (long : (words : ℕ) → Bool) (value : Net) (ages : List ℕ) (taps : List Net) (from to : Tap) (age : ℕ) → IsChained b old width long value ages taps from → IsStep c b width long from age to → ((0 < length ages) → depth_of ages < age) → IsChained c old width long value (ages ++ age ∷ []) (taps ++ to.net ∷ []) to
chained_more old b c width long value [] [] from to zero done step up = chained_first old b c width long value from to done step
chained_more old b c width long value [] [] from to (suc age) done step up = chained_beyond old b c width long value [] [] from to (suc age) done step (omega (arith, done.age_is))
chained_more old b c width long value [] (t ∷ taps) from to age done step up = absurd (omega (arith, done.one_each))
chained_more old b c width long value (x ∷ ages) taps from to age done step up = chained_beyond old b c width long value (x ∷ ages) taps from to age done step (omega (arith, done.age_is, up (omega arith)))

-- what was built so is a buffer, and each segment takes what the one before it shows
pub chained_chain : (b old : Netlist) (width : ℕ) (long : (words : ℕ) → Bool) (value : Net) (ages : List ℕ) (taps : List Net) (newest : Tap) → IsStrictlyIncreasing ages → net_width b value ≡ width → IsChained b old width long value ages taps newest → IsChain b old width long value ages taps
chained_chain b old width long value ages taps newest up wide done =
    let buffer : IsBuffer b done.copies (chain_place (length old.arrays) ages) ages taps value = chain_is b (is_direct long b) done.copies (length old.arrays) value ages taps up done.one_each done.now done.nets (λ k tap e. done.widths k tap e ∙ sym wide) done.segments in
    record {
      copies = done.copies;
      adds = done.adds;
      copied = done.copied;
      once = done.once;
      buffer = buffer;
      delay = delay_is b done.copies (chain_place (length old.arrays) ages) ages taps value up buffer;
      made = done.made;
      fills = segments_fill b (is_direct long b) done.copies (length old.arrays) 0 value (later ages) (later_taps ages taps) done.segments (length old.arrays + length (chain_shapes width ages)) (ap (λ (n : ℕ). length old.arrays + n) (shapes_long width 0 (later ages)));
    }

-- the same age
pub step_none : (b : Netlist) (width : ℕ) (long : (words : ℕ) → Bool) (from : Tap) (age : ℕ) → age ≡ from.age → IsNet b from.net → net_width b from.net ≡ width → IsStep b b width long from age from
step_none b width long from age e net wide = record { age_is = sym e; net = net; wide = wide; stays = λ same. (adds_none b, refl); goes = λ beyond. absurd (omega (arith, beyond, e)) }

-- a segment that is read at the index of its write
pub line_is_segment : (c b : Netlist) (width words : ℕ) (long : (words : ℕ) → Bool) (from net : Net) → long words ≡ false → AddsBuffer c b ((record { width = width; depth = words }) ∷ []) [] → IsDelayLine c (length b.arrays) words from net → AreReadOnce c b →
    IsWithin c (is_buffer c.enable (length b.arrays) (length b.arrays + 1)) line_operators (OfNet net) → IsSegment c b width words long from net
line_is_segment c b width words long from net short adds line once made = record {
  copies = [];
  adds = adds;
  line = line_delays c (is_direct long c) (length b.arrays) words from net (subst (λ (t : Bool). IsTrue (not t)) (sym deep_short) refl) line;
  wide = sym (ap (λ (t : Bool). map (λ (s : Shape). s.width) (cond t ((record { width = width; depth = words }) ∷ []) [])) short);
  once = both_once long c b once;
  made = made_short long c line_operators (length b.arrays) net deep_short made;
}
  where
    deep_of : slice_get c.arrays (length b.arrays) ≡ Some line.shape → line.shape.depth ≡ words → depth c (length b.arrays) ≡ words
    deep_of there deep = ap (λ (o : Option Shape). unwrap_or (option_map (λ (s : Shape). s.depth) o) 0) there ∙ deep

    deep_short : long (depth c (length b.arrays)) ≡ false
    deep_short = ap long (deep_of line.there line.deep) ∙ short

-- and one that is read one clock ahead
pub block_is_segment : (c b a : Netlist) (width words : ℕ) (long : (words : ℕ) → Bool) (from net : Net) → long words ≡ true → AddsBuffer b a [] [] → AddsBuffer c b ((record { width = width; depth = words }) ∷ []) (length b.regs ∷ []) → IsBlockLine c (length b.arrays) words from (length b.regs) → AreReadAndPut long c b →
    net ≡ Reg (length b.regs) → net_width c net ≡ width → IsSegment c a width words long from net
block_is_segment c b a width words long from net at_least counted adds line once is wide = record {
  copies = length b.regs ∷ [];
  adds = adds_joined c b a ((record { width = width; depth = words }) ∷ []) [] (length b.regs ∷ []) [] adds counted;
  line = subst (λ (y : ℕ). Delays c (is_direct long c) (length b.regs ∷ []) y words from net) same (subst (λ (n : Net). Delays c (is_direct long c) (length b.regs ∷ []) (length b.arrays) words from n) (sym is) (block_delays c (is_direct long c) (length b.arrays) words from (length b.regs) line));
  wide =
      ap (λ (w : ℕ). w ∷ []) (ap (net_width c) (sym is) ∙ wide)
      ∙ sym (ap (λ (t : Bool). map (λ (s : Shape). s.width) (cond t ((record { width = width; depth = words }) ∷ []) [])) at_least);
  once = both_joined long c b a ((record { width = width; depth = words }) ∷ []) (length b.regs ∷ []) adds once (both_none long b a counted);
  made = subst (λ (n : Net). IsWithin c (is_short long c (length a.arrays) (length a.arrays + 1)) line_operators (OfNet n)) (sym is) (by_itself refl);
}
  where
    same : length b.arrays ≡ length a.arrays
    same = ap length (counted.arrays ∙ append-nil a.arrays)

-- without long arrays
pub chain_adds : (b old : Netlist) (width : ℕ) (value : Net) (ages : List ℕ) (taps : List Net) → IsChain b old width (is_long None) value ages taps → AddsBuffer b old (chain_shapes width ages) []
chain_adds b old width value ages taps is = subst (AddsBuffer b old (chain_shapes width ages)) (no_copies b is.copies (chain_shapes width ages) is.copied) is.adds

pub chain_buffer : (b old : Netlist) (width : ℕ) (value : Net) (ages : List ℕ) (taps : List Net) → IsChain b old width (is_long None) value ages taps → IsBuffer b [] (chain_place (length old.arrays) ages) ages taps value
chain_buffer b old width value ages taps is = subst (λ (l : List ℕ). IsBuffer b l (chain_place (length old.arrays) ages) ages taps value) (no_copies b is.copies (chain_shapes width ages) is.copied) is.buffer

pub chain_fills : (b old : Netlist) (width : ℕ) (value : Net) (ages : List ℕ) (taps : List Net) → IsChain b old width (is_long None) value ages taps → AreFilled b (λ x. true) [] (length old.arrays) (length old.arrays + length (chain_shapes width ages)) value
chain_fills b old width value ages taps is = subst (λ (l : List ℕ). AreFilled b (is_direct (is_long None) b) l (length old.arrays) (length old.arrays + length (chain_shapes width ages)) value) (no_copies b is.copies (chain_shapes width ages) is.copied) is.fills

pub last_take : (low : ℕ) (xs : List ℕ) (i : ℕ) → i < length xs → last_of low (take (suc i) xs) ≡ slice_index xs i
last_take low [] i l = absurd (omega (arith, l))
last_take low (x ∷ xs) zero l = refl
last_take low (x ∷ xs) (suc i) l = last_take x xs i (omega (arith, l))

-- the next age is above those before it
pub below_next : (ages : List ℕ) (i : ℕ) → IsStrictlyIncreasing ages → i < length ages → (0 < length (take i ages) → depth_of (take i ages) < slice_index ages i)
below_next ages zero up l some = absurd (omega (arith, some))
below_next ages (suc i) up l some =
    subst (λ (n : ℕ). n < slice_index ages (suc i)) (sym (last_take 0 ages i (omega (arith, l)))) (subst (λ (j : ℕ). slice_index ages i < slice_index ages j) (let e : i + 1 ≡ suc i = omega arith in e) (up i (omega (arith, l))))

-- and not below the depth
pub up_next : (ages : List ℕ) (i d : ℕ) → IsStrictlyIncreasing ages → i < length ages → d ≡ depth_of (take i ages) → d ≤ slice_index ages i
up_next ages zero d up l e = omega (arith, e)
up_next ages (suc i) d up l e = omega (arith, e, below_next ages (suc i) up l (some_taken ages i l))
  where
    some_taken : (xs : List ℕ) (i : ℕ) → suc i < length xs → 0 < length (take (suc i) xs)
    some_taken [] i l = absurd (omega (arith, l))
    some_taken (x ∷ xs) i l = omega arith

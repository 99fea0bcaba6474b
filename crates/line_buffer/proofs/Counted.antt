-- The bits of the registers that arrays need.
use Rattle.std.proofs.Common.{◌≡◌, ℕ, zero, suc, ◌+◌, ◌-◌, ◌<◌, ◌≤◌, Bool, true, false, List, [], ◌∷◌, ◌++◌, length, get_or, take, refl, sym, ap, subst, ◌∙◌, arith, map}
use Rattle.std.specs.Prelude.{◌==◌, ◌||◌, not, filter, fold, sum, sum_by, if◌then◌else◌, cond, slice_index_or}
use Rattle.std.specs.List.{list_any}
use Rattle.std.proofs.lemmas.List.{map-append, take_all}
use Rattle.std.proofs.lemmas.List.Elements.{filter-append}
use Rattle.std.proofs.lemmas.List.Folds.{list_any_more, list_any_at}
use Rattle.std.proofs.lemmas.List.Sums.{fold-append, sum_by-append, sum_by_push}
use Rattle.wiring.specs.declared.netlist.Shape.{Shape}
use Rattle.wiring.specs.Netlist.{Netlist}
use Rattle.net_build.specs.Registers.{register_bits, count_bits, with_new}
use Rattle.line_buffer.specs.declared.sharing.Turns.{Turns}
use Rattle.line_buffer.specs.Places.{later, depth_of, segment_shapes, chain_shapes, ring_shapes}
use Rattle.line_buffer.specs.SharedCounters.{line_words, block_words, index_bits, turn_bits, long_words, short_words, copy_bits, CountsTurns}
use Rattle.line_buffer.proofs.Ages.{later_depth}
use Rattle.line_buffer.proofs.Rotations.{yes_eq, no_eq}
use Rattle.line_buffer.proofs.Chaining.{shapes_push, later_push}

-- a search through the counters: none so far, none at all, and the one that is found
any_map : {X : Type 0} (f : X → ℕ) (x : ℕ) (ts : List X) → list_any (λ (y : ℕ). y == x) (map f ts) ≡ list_any (λ (t : X). f t == x) ts
any_map f x [] = refl
any_map f x (t ∷ ts) = ap (λ (h : Bool). (f t == x) || h) (any_map f x ts)

pub none_more : {X : Type 0} (f : X → ℕ) (x : ℕ) (ts : List X) (k : ℕ) (t : X) → k < length ts → t ≡ slice_index_or ts k t → (f t == x) ≡ false → list_any (λ (t : X). f t == x) (take k ts) ≡ false → list_any (λ (t : X). f t == x) (take (k + 1) ts) ≡ false
none_more f x ts k t within at other none =
    list_any_more (λ t. f t == x) ts k t within
    ∙ ap (λ (h : Bool). h || (f (get_or ts k t) == x)) none
    ∙ sym (ap (λ s. f s == x) at)
    ∙ other

pub none_at_all : {X : Type 0} (f : X → ℕ) (x : ℕ) (ts : List X) (k : ℕ) → length ts ≤ k → list_any (λ (t : X). f t == x) (take k ts) ≡ false → list_any (λ (y : ℕ). y == x) (map f ts) ≡ false
none_at_all f x ts k all none = any_map f x ts ∙ sym (ap (list_any (λ t. f t == x)) (take_all k ts all)) ∙ none

pub one_there : {X : Type 0} (f : X → ℕ) (x : ℕ) (ts : List X) (k : ℕ) (t : X) → k < length ts → t ≡ slice_index_or ts k t → (f t == x) ≡ true → list_any (λ (y : ℕ). y == x) (map f ts) ≡ true
one_there f x ts k t within at same = any_map f x ts ∙ list_any_at (λ t. f t == x) ts k t within (sym (ap (λ s. f s == x) at) ∙ same)

-- a register more
pub register_push : (new old : Netlist) (width : ℕ) → new.regs ≡ old.regs ++ width ∷ [] → register_bits new ≡ register_bits old + width
register_push new old width e = ap sum e ∙ sum_by_push (λ (n : ℕ). n) old.regs width

-- a counter that is listed after others
pub listed_new : {X : Type 0} (f : X → ℕ) (now before : List X) (t : X) (words : ℕ) → f t ≡ words → now ≡ before ++ t ∷ [] → false ≡ list_any (λ (y : ℕ). y == words) (map f before) → map f now ≡ with_new (map f before) words
listed_new f now before t words is more none =
    ap (map f) more
    ∙ map-append f before (t ∷ [])
    ∙ ap (λ (x : ℕ). map f before ++ x ∷ []) is
    ∙ subst (λ (h : Bool). map f before ++ words ∷ [] ≡ (if h then map f before else map f before ++ words ∷ [])) none refl

pub bits_pushed : {X : Type 0} (f : X → ℕ) (now before : List X) (t : X) (words new old other : ℕ) → f t ≡ words → now ≡ before ++ t ∷ [] → new ≡ old + count_bits (words - 1) → new + (index_bits (map f before) + other) ≡ old + (index_bits (map f now) + other)
bits_pushed {X} f now before t words new old other is more bits =
    let pushed : index_bits (map f now) ≡ index_bits (map f before) + count_bits (f t - 1) = ap (λ (l : List X). index_bits (map f l)) more ∙ ap index_bits (map-append f before (t ∷ [])) ∙ sum_by_push (λ (n : ℕ). count_bits (n - 1)) (map f before) (f t) in
    omega (arith, bits, pushed, ap (λ (w : ℕ). count_bits (w - 1)) is)

-- the numbers of words of two parts
words_on : (p : Shape → Bool) (first second : List Shape) → map (λ (s : Shape). s.depth) (filter p (first ++ second)) ≡ map (λ (s : Shape). s.depth) (filter p first) ++ map (λ (s : Shape). s.depth) (filter p second)
words_on p first second = ap (map (λ (s : Shape). s.depth)) (filter-append p first second) ∙ map-append (λ (s : Shape). s.depth) (filter p first) (filter p second)

copies_on : (p : Shape → Bool) (first second : List Shape) → sum_by (λ (s : Shape). s.width) (filter p (first ++ second)) ≡ sum_by (λ (s : Shape). s.width) (filter p first) + sum_by (λ (s : Shape). s.width) (filter p second)
copies_on p first second = ap (sum_by (λ (s : Shape). s.width)) (filter-append p first second) ∙ sum_by-append (λ (s : Shape). s.width) (filter p first) (filter p second)

bits_on : (rc rb ra tk tj ti both first second : ℕ) → rb + ti ≡ ra + (tj + first) → rc + tj ≡ rb + (tk + second) → both ≡ first + second → rc + ti ≡ ra + (tk + both)
bits_on rc rb ra tk tj ti both first second f g e = omega (arith, f, g, e)

-- arrays that are added after others
pub counts_on : (c b a : Netlist) (k j i : Turns) (long : ℕ → Bool) (first second : List Shape) → CountsTurns b a j i long first → CountsTurns c b k j long second → CountsTurns c a k i long (first ++ second)
counts_on c b a k j i long first second f g = record {
  lines =
      g.lines
      ∙ ap (λ (ws : List ℕ). fold with_new ws (short_words long second)) f.lines
      ∙ sym (fold-append with_new (line_words i) (short_words long first) (short_words long second))
      ∙ ap (fold with_new (line_words i)) (sym (words_on (λ (s : Shape). not (long s.depth)) first second));
  blocks =
      g.blocks
      ∙ ap (λ (ws : List ℕ). fold with_new ws (long_words long second)) f.blocks
      ∙ sym (fold-append with_new (block_words i) (long_words long first) (long_words long second))
      ∙ ap (fold with_new (block_words i)) (sym (words_on (λ (s : Shape). long s.depth) first second));
  bits = bits_on (register_bits c) (register_bits b) (register_bits a) (turn_bits k) (turn_bits j) (turn_bits i) (copy_bits long (first ++ second)) (copy_bits long first) (copy_bits long second) f.bits g.bits (copies_on (λ (s : Shape). long s.depth) first second);
}

-- no array
pub counts_none : (b : Netlist) (t : Turns) (long : ℕ → Bool) → CountsTurns b b t t long []
counts_none b t long = record { lines = refl; blocks = refl; bits = omega arith }

-- a later netlist with the same registers
pub counts_wires : (c b a : Netlist) (j i : Turns) (long : ℕ → Bool) (shapes : List Shape) → c.regs ≡ b.regs → CountsTurns b a j i long shapes → CountsTurns c a j i long shapes
counts_wires c b a j i long shapes same is = record { lines = is.lines; blocks = is.blocks; bits = ap (λ (rs : List ℕ). sum rs + turn_bits i) same ∙ is.bits }

-- other shapes that are the same
pub counts_as : (b a : Netlist) (j i : Turns) (long : ℕ → Bool) (shapes other : List Shape) → shapes ≡ other → CountsTurns b a j i long shapes → CountsTurns b a j i long other
counts_as b a j i long shapes other e is = subst (CountsTurns b a j i long) e is

-- one array that is not long
pub counts_short : (b a : Netlist) (now before : Turns) (long : ℕ → Bool) (width words : ℕ) → long words ≡ false → line_words now ≡ with_new (line_words before) words → block_words now ≡ block_words before → register_bits b + turn_bits before ≡ register_bits a + turn_bits now →
    CountsTurns b a now before long ((record { width = width; depth = words }) ∷ [])
counts_short b a now before long width words short lines blocks bits = record {
  lines = lines ∙ sym (ap (λ (h : Bool). fold with_new (line_words before) (map (λ (s : Shape). s.depth) (cond (not h) (one ∷ []) []))) short);
  blocks = blocks ∙ sym (ap (λ (h : Bool). fold with_new (block_words before) (map (λ (s : Shape). s.depth) (cond h (one ∷ []) []))) short);
  bits = omega (arith, bits, ap (λ (h : Bool). sum_by (λ (s : Shape). s.width) (cond h (one ∷ []) [])) short);
}
  where
    one : Shape
    one = record { width = width; depth = words }

pub counts_of_short : (b a : Netlist) (now before : Turns) (long : ℕ → Bool) (width words : ℕ) → long words ≡ false → CountsTurns b a now before (λ words. false) ((record { width = width; depth = words }) ∷ []) → CountsTurns b a now before long ((record { width = width; depth = words }) ∷ [])
counts_of_short b a now before long width words short is = counts_short b a now before long width words short is.lines is.blocks (omega (arith, is.bits))

-- one that is long, with its copy
pub counts_long : (c b a : Netlist) (now before : Turns) (long : ℕ → Bool) (width words : ℕ) → long words ≡ true → block_words now ≡ with_new (block_words before) words → line_words now ≡ line_words before → register_bits b + turn_bits before ≡ register_bits a + turn_bits now → c.regs ≡ b.regs ++ width ∷ [] →
    CountsTurns c a now before long ((record { width = width; depth = words }) ∷ [])
counts_long c b a now before long width words at_least blocks lines bits copied = record {
  lines = lines ∙ sym (ap (λ (h : Bool). fold with_new (line_words before) (map (λ (s : Shape). s.depth) (cond (not h) (one ∷ []) []))) at_least);
  blocks = blocks ∙ sym (ap (λ (h : Bool). fold with_new (block_words before) (map (λ (s : Shape). s.depth) (cond h (one ∷ []) []))) at_least);
  bits = omega (arith, bits, register_push c b width copied, ap (λ (h : Bool). sum_by (λ (s : Shape). s.width) (cond h (one ∷ []) [])) at_least);
}
  where
    one : Shape
    one = record { width = width; depth = words }

-- one age more of a chain
beyond_shapes : (width : ℕ) (ages : List ℕ) (from age : ℕ) → from ≡ depth_of ages → from < age → chain_shapes width ages ++ (record { width = width; depth = age - from }) ∷ [] ≡ chain_shapes width (ages ++ age ∷ [])
beyond_shapes width ages from age e beyond =
    ap (λ (a : ℕ). chain_shapes width ages ++ (record { width = width; depth = age - a }) ∷ []) (e ∙ sym (later_depth ages))
    ∙ sym (shapes_push width 0 (later ages) age)
    ∙ ap (segment_shapes width 0) (sym (later_push ages age (omega (arith, beyond))))

pub counts_more : (c b a : Netlist) (k j i : Turns) (long : ℕ → Bool) (width : ℕ) (ages : List ℕ) (from age : ℕ) → from ≡ depth_of ages → ((0 < length ages) → depth_of ages < age) → CountsTurns b a j i long (chain_shapes width ages) → (age ≡ from → CountsTurns c b k j long []) →
    (from < age → CountsTurns c b k j long ((record { width = width; depth = age - from }) ∷ [])) → CountsTurns c a k i long (chain_shapes width (ages ++ age ∷ []))
counts_more c b a k j i long width [] from zero e up done stays goes = counts_on c b a k j i long [] [] done (stays (sym e))
counts_more c b a k j i long width [] from (suc age) e up done stays goes = (let beyond : from < suc age = omega (arith, e) in
    counts_as c a k i long (chain_shapes width [] ++ (record { width = width; depth = suc age - from }) ∷ []) (chain_shapes width (suc age ∷ [])) (beyond_shapes width [] from (suc age) e beyond)
    (counts_on c b a k j i long (chain_shapes width []) ((record { width = width; depth = suc age - from }) ∷ []) done (goes beyond)))
counts_more c b a k j i long width (x ∷ ages) from age e up done stays goes = (let beyond : from < age = omega (arith, e, up (omega arith)) in
    counts_as c a k i long (chain_shapes width (x ∷ ages) ++ (record { width = width; depth = age - from }) ∷ []) (chain_shapes width ((x ∷ ages) ++ age ∷ [])) (beyond_shapes width (x ∷ ages) from age e beyond)
    (counts_on c b a k j i long (chain_shapes width (x ∷ ages)) ((record { width = width; depth = age - from }) ∷ []) done (goes beyond)))

-- the array of a ring
pub ring_one : (width words : ℕ) (ages : List ℕ) → 0 < words → words ≡ depth_of ages → (record { width = width; depth = words }) ∷ [] ≡ ring_shapes width ages
ring_one width words ages some deep =
    ap (λ (d : ℕ). (record { width = width; depth = d }) ∷ []) deep
    ∙ sym (ap (λ (h : Bool). if h then [] else (record { width = width; depth = depth_of ages }) ∷ []) (no_eq (depth_of ages) 0 (λ e. omega (arith, e, deep, some))))

pub counts_still : (b : Netlist) (t : Turns) (long : ℕ → Bool) (width : ℕ) (ages : List ℕ) → depth_of ages ≡ 0 → CountsTurns b b t t long (ring_shapes width ages)
counts_still b t long width ages none = counts_as b b t t long [] (ring_shapes width ages) (sym (ap (λ (h : Bool). if h then [] else (record { width = width; depth = depth_of ages }) ∷ []) (yes_eq (depth_of ages) 0 none))) (counts_none b t long)

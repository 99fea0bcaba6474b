-- Arrays of which a word is read and then written in each clock.
use Rattle.std.proofs.Common.{◌≡◌, ℕ, suc, ◌%◌, ◌<◌, Bool, true, false, List, [], ◌∷◌, length, Some, sym, ap, subst, ◌∙◌, inl, inr, arith}
use Rattle.std.specs.Prelude.{◌-◌, ◌==◌, Contains, if◌then◌else◌, IsTrue, slice_get, slice_set, slice_index, slice_index_or, unwrap_or}
use Rattle.std.specs.Option.{option_map}
use Rattle.std.proofs.lemmas.List.{set-get_or}
use Rattle.std.proofs.lemmas.Nat.{mod_below}
use Rattle.std.proofs.lemmas.Option.{get_or_from_slice_get, slice_get_cases, slice_get_within}
use Rattle.wiring.specs.declared.right.Atom.TheVariants as atom
use Rattle.wiring.specs.declared.netlist.Net.{Net}
use Rattle.wiring.specs.declared.netlist.Holder.TheVariants.{OfArray}
use Rattle.wiring.specs.declared.netlist.Shape.{Shape}
use Rattle.wiring.specs.Netlist.{Netlist, depth}
use Rattle.wiring.specs.Snapshot.{Contents, Snapshot, FitsContents, IsNext, net_value, word_value}
use Rattle.wiring.specs.Clock.{Clock, bit}
use Rattle.wiring.specs.History.{was_reset, is_held, counted}
use Rattle.net_build.specs.Includes.{Includes}
use Rattle.net_build.specs.Runs.{IsClockOf, IsReady, IsStill, IsKept, StaysBelow, StaysInside}
use Rattle.net_build.proofs.Parts.{at_Begins, InEach-more}
use Rattle.net_build.proofs.Stops.{inside_below}
use Rattle.net_build.proofs.Fitting.{array_long}
use Rattle.net_build.proofs.Runs.{AtEachEdge-more, InEachRun-more, clock_more, clock_contents, reset_shown}
use Rattle.net_build.specs.Counters.{unless_held, Counts, clock_number}
use Rattle.wiring.specs.declared.right.Right.TheVariants.{Word}
use Rattle.wiring.specs.declared.netlist.Update.TheVariants.{Put}
use Rattle.line_buffer.specs.Lines.{IsIndex, IsDelayLine, Delays}
use Rattle.line_buffer.specs.Depths.{line_operators}
use Rattle.line_buffer.proofs.Depth.{index_within_more}
use Rattle.line_buffer.proofs.Filling.{contains_more, right_more, unless_held_more, word_more, takes_net_more, line_takes_net, line_word}
use Rattle.net_build.proofs.Clocks.{now_on, not_reset, number_off, taken_here, by_clock}

-- what an array takes in a clock that is no reset clock
module _ (b m : Netlist) (from : Contents) (before : List Clock) (c : Clock) (s : Snapshot) (is : IsClockOf b m from before c s) where
  abbrev taken_by : ℕ → ℕ → ℕ → ℕ
  taken_by now next v = if v == 1 then 0 else unless_held b.enable now next s

  pub unless_here : (now next : ℕ) → c.reset ≡ false → unless_held b.enable now next s ≡ (if is_held m c then now else next)
  unless_here now next off =
      sym (ap (taken_by now next) (reset_shown m from before c s is.at ∙ ap bit off))
      ∙ taken_here b m from before c s is 0 now next
      ∙ ap (λ (r : Bool). by_clock r (is_held m c) 0 now next) off

pub index_more : (b a : Netlist) (n : ℕ) (index : Net) → Includes b a → IsIndex a n index → IsIndex b n index
index_more b a n index f is = record { counts = InEachRun-more (λ m before c s. IsTrue (was_reset (c ∷ before)) → net_value s index ≡ clock_number m before c % n) b a f is.counts }

pub index_below : (b : Netlist) (n : ℕ) (index : Net) → 0 < n → IsIndex b n index → StaysBelow b n index
index_below b n index some is = record { below = λ m from before c s clock since. subst (λ (v : ℕ). v < n) (sym (is.counts m from before c s clock since)) (mod_below (clock_number m before c) n some) }

-- an index from a counter up to the last word
pub index_counts : (b : Netlist) (last words : ℕ) (index : Net) → 0 < words → last ≡ words - 1 → Counts b (λ t. t % suc last) index → IsIndex b words index
index_counts b last words index some e is = subst (λ (n : ℕ). Counts b (λ t. t % n) index) (let f : suc last ≡ words = omega (arith, some, e) in f) is

abbrev pub words_of : Contents → ℕ → List ℕ
words_of c x = slice_index_or c.arrays x []

pub line_more : (b a : Netlist) (x n : ℕ) (from to : Net) → Includes b a → IsDelayLine a x n from to → IsDelayLine b x n from to
line_more b a x n from to f is = record {
  shape = is.shape;
  there = at_Begins a.arrays b.arrays x is.shape f.arrays is.there;
  deep = is.deep;
  index = is.index;
  counter = index_more b a n is.index f is.counter;
  control = index_within_more b a line_operators is.index f is.control;
  read = right_more b a to (Word x (atom.Net is.index)) f is.read;
  gives = InEach-more (λ m s. net_value s to ≡ word_value s x (net_value s is.index)) b a f is.gives;
  stored = is.stored;
  value = unless_held_more b a to from is.stored f is.value;
  put = contains_more a.updates b.updates (Put x (atom.Net is.index) (atom.Net is.stored)) f.updates is.put;
  takes = λ m s part settled. InEach-more (λ m s. net_value s is.stored ≡ unless_held a.enable (net_value s to) (net_value s from) s) b a f is.takes m s part settled ∙ ap (λ (e : Bool). unless_held e (net_value s to) (net_value s from) s) (sym f.enable);
  edge = AtEachEdge-more (λ (s : Snapshot) (next : Contents). slice_get next.arrays x ≡ Some (slice_set (slice_index_or s.contents.arrays x []) (net_value s is.index) (net_value s is.stored))) b a f is.edge;
}

-- its index is inside it
pub line_inside : (b : Netlist) (x n : ℕ) (shape : Shape) (index : Net) → 0 < n → slice_get b.arrays x ≡ Some shape → shape.depth ≡ n → IsIndex b n index → StaysInside b (x, atom.Net index)
line_inside b x n shape index some at deep counter =
    let is : depth b x ≡ n = ap (λ o. unwrap_or (option_map (λ (s : Shape). s.depth) o) 0) at ∙ deep in
    inside_below b x index (slice_get_within b.arrays x shape at) (subst (λ (d : ℕ). StaysBelow b d index) (sym is) (index_below b n index some counter))

module _ (b : Netlist) (x n : ℕ) (from to : Net) (is : IsDelayLine b x n from to) (m : Netlist) (start : Contents) (before : List Clock) (c : Clock) (s : Snapshot) (clock : IsClockOf b m start before c s) where
  words : List ℕ
  words = words_of s.contents x

  pub line_long : length (words_of s.contents x) ≡ n
  line_long =
      let fits : FitsContents m s.contents = clock_contents b m start before c s clock in
      array_long m s.contents x is.shape fits (at_Begins b.arrays m.arrays x is.shape clock.whole.includes.arrays is.there) ∙ is.deep

  gives_here : net_value s to ≡ slice_index (words_of s.contents x) (net_value s is.index)
  gives_here = is.gives m s clock.whole.includes clock.at.snapshot.settled

  stored_here : c.reset ≡ false → net_value s is.stored ≡ (if is_held m c then net_value s to else net_value s from)
  stored_here off = is.takes m s clock.whole.includes clock.at.snapshot.settled ∙ unless_here b m start before c s clock (net_value s to) (net_value s from) off

  written : (next : Contents) → IsNext m s next → words_of next x ≡ slice_set (words_of s.contents x) (net_value s is.index) (net_value s is.stored)
  written next goes = get_or_from_slice_get next.arrays x (slice_set (words_of s.contents x) (net_value s is.index) (net_value s is.stored)) [] (is.edge m s next clock.whole.includes goes)

  pub index_here : IsTrue (was_reset before) → c.reset ≡ false → net_value s is.index ≡ length (counted m before) % n
  index_here since off = is.counter.counts m start before c s clock (now_on c before off since) ∙ ap (λ (i : ℕ). i % n) (number_off m before c off)

  pub line_gives : IsTrue (was_reset before) → c.reset ≡ false → net_value s to ≡ slice_index (words_of s.contents x) (length (counted m before) % n)
  line_gives since off = gives_here ∙ ap (slice_index (words_of s.contents x)) (index_here since off)

  pub line_takes : IsTrue (was_reset before) → c.reset ≡ false → is_held m c ≡ false → (next : Contents) → IsNext m s next → words_of next x ≡ slice_set (words_of s.contents x) (length (counted m before) % n) (net_value s from)
  line_takes since off going next goes =
      written next goes
      ∙ ap (λ (i : ℕ). slice_set (words_of s.contents x) i (net_value s is.stored)) (index_here since off)
      ∙ ap (λ (v : ℕ). slice_set (words_of s.contents x) (length (counted m before) % n) v) (stored_here off ∙ ap (λ (h : Bool). if h then net_value s to else net_value s from) going)

  true_is : (h : Bool) → IsTrue h → h ≡ true
  true_is h e = e

  pub line_waits : IsTrue (is_held m c) → (next : Contents) → IsNext m s next → words_of next x ≡ words_of s.contents x
  line_waits held next goes =
      let off : c.reset ≡ false = not_reset m.enable c.reset c.enable held in
      written next goes
      ∙ ap (λ (v : ℕ). slice_set (words_of s.contents x) (net_value s is.index) v) (stored_here off ∙ ap (λ (h : Bool). if h then net_value s to else net_value s from) (true_is (is_held m c) held) ∙ gives_here)
      ∙ set-get_or (words_of s.contents x) (net_value s is.index) 0

  pub line_kept : IsTrue (is_held m c) → (next : Contents) → IsNext m s next → IsKept s next (OfArray x)
  line_kept held next goes =
      let at = is.edge m s next clock.whole.includes goes in
      let same = sym (get_or_from_slice_get next.arrays x (slice_set (words_of s.contents x) (net_value s is.index) (net_value s is.stored)) [] at) ∙ line_waits held next goes in
      elim (slice_get_cases s.contents.arrays x).1 as (λ _. slice_get next.arrays x ≡ slice_get s.contents.arrays x) [
        | inl h ↦ at ∙ ap (λ (ws : List ℕ). Some ws) (same ∙ get_or_from_slice_get s.contents.arrays x h.0 [] h.2) ∙ sym h.2
        | inr past ↦ absurd (omega (arith, past.0, slice_get_within next.arrays x _ at, goes.arrays))
      ]

pub line_still : (b : Netlist) (x n : ℕ) (from to : Net) → IsDelayLine b x n from to → IsStill b [] (OfArray x)
line_still b x n from to is = record { kept = λ m start before c s clock ready held next goes. line_kept b x n from to is m start before c s clock held next goes }

-- it does what a delay line does, in each clock
pub line_delays : (b : Netlist) (direct : ℕ → Bool) (x n : ℕ) (from to : Net) → IsTrue (direct x) → IsDelayLine b x n from to → Delays b direct [] x n from to
line_delays b direct x n from to is_direct is = record {
  shape = is.shape;
  there = is.there;
  deep = is.deep;
  gives = λ m start before c s clock since off. line_gives b x n from to is m start before c s clock since off;
  takes = λ m start before c s clock since off going next goes. line_takes b x n from to is m start before c s clock since off going next goes;
  waits = λ m start before c s clock ready held next goes. line_waits b x n from to is m start before c s clock held next goes;
  word = line_word b direct x n from to is_direct is;
  filled = line_takes_net b direct x n from to is_direct is;
}

-- as the netlist grows, and with more copies
pub delays_more : (b a : Netlist) (direct wider : ℕ → Bool) (copies more : List ℕ) (x n : ℕ) (from to : Net) → Includes b a → (x < length a.arrays → IsTrue (direct x) → IsTrue (wider x)) → ((before : List Clock) → IsReady more before → IsReady copies before) → ((r : ℕ) → Contains copies r → Contains more r) → Delays a direct copies x n from to → Delays b wider more x n from to
delays_more b a direct wider copies more x n from to f wide ready among is = record {
  shape = is.shape;
  there = at_Begins a.arrays b.arrays x is.shape f.arrays is.there;
  deep = is.deep;
  gives = λ m start before c s clock. is.gives m start before c s (clock_more b a m start before c s f clock);
  takes = λ m start before c s clock. is.takes m start before c s (clock_more b a m start before c s f clock);
  waits = λ m start before c s clock since. is.waits m start before c s (clock_more b a m start before c s f clock) (ready before since);
  word = word_more b a direct wider copies more x to f (wide (slice_get_within a.arrays x is.shape is.there)) among is.word;
  filled = takes_net_more b a direct wider copies more x from f (wide (slice_get_within a.arrays x is.shape is.there)) among is.filled;
}

pub delays_long : (b : Netlist) (direct : ℕ → Bool) (copies : List ℕ) (x n : ℕ) (from to : Net) → Delays b direct copies x n from to → (m : Netlist) (start : Contents) (before : List Clock) (c : Clock) (s : Snapshot) → IsClockOf b m start before c s → length (words_of s.contents x) ≡ n
delays_long b direct copies x n from to is m start before c s clock = array_long m s.contents x is.shape (clock_contents b m start before c s clock) (at_Begins b.arrays m.arrays x is.shape clock.whole.includes.arrays is.there) ∙ is.deep

-- What arrays take, as a netlist grows; of a ring, and of a chain.
use Rattle.std.proofs.Common.{◌≡◌, ℕ, ◌+◌, ◌-◌, ◌<◌, ◌≤◌, Bool, List, [], ◌∷◌, length, refl, sym, subst, ◌∙◌, inl, inr, arith}
use Rattle.std.specs.Prelude.{Contains, IsTrue}
use Rattle.std.proofs.lemmas.Bool.{cases_lt}
use Rattle.std.proofs.lemmas.List.Elements.{Contains-append_left}
use Rattle.wiring.specs.declared.right.Atom.TheVariants as atom
use Rattle.wiring.specs.declared.right.Right.{Right}
use Rattle.wiring.specs.declared.right.Right.TheVariants.{Choose, Word}
use Rattle.wiring.specs.declared.netlist.Net.{Net}
use Rattle.wiring.specs.declared.netlist.Net.TheVariants.{Reg}
use Rattle.wiring.specs.declared.netlist.Update.TheVariants.{Set, Put}
use Rattle.wiring.specs.Netlist.{Netlist, enable_net}
use Rattle.net_build.specs.Includes.{Begins, Includes}
use Rattle.net_build.specs.Counters.{IsLoaded}
use Rattle.line_buffer.specs.Depths.{line_operators, ahead_operators}
use Rattle.line_buffer.specs.Lines.{IsDelayLine, IsBlockLine}
use Rattle.line_buffer.specs.Chains.{AreSegments}
use Rattle.line_buffer.specs.Fills.{HasRight, IsWordAt, IsCopyOf, ShowsWord, by_read, by_copy, IsWordOf, IsUnlessHeld, Takes, IsFilled, AreFilled}
use Rattle.line_buffer.proofs.Depth.{index_within_more}

pub contains_more : {X : Type 0} (xs ys : List X) (x : X) → Begins xs ys → Contains xs x → Contains ys x
contains_more xs ys x b c = subst (λ l. Contains l x) (sym b.1) (Contains-append_left xs b.0 x c)

pub right_more : (b a : Netlist) (n : Net) (r : Right Net ℕ) → Includes b a → HasRight a n r → HasRight b n r
right_more b a n r f is = contains_more a.assigns b.assigns (record { target = n; right = r }) f.assigns is

pub unless_held_more : (b a : Netlist) (now next n : Net) → Includes b a → IsUnlessHeld a now next n → IsUnlessHeld b now next n
unless_held_more b a now next n f is = record {
  plain = λ e. is.plain (sym f.enable ∙ e);
  held = λ e. right_more b a n (Choose (atom.Net enable_net) (atom.Net next) (atom.Net now)) f (is.held (sym f.enable ∙ e));
}

pub loaded_more : (b a : Netlist) (now next n : Net) → Includes b a → IsLoaded a now next n → IsLoaded b now next n
loaded_more b a now next n f is = record {
  plain = λ e. is.plain (sym f.enable ∙ e);
  held = λ e. let h = is.held (sym f.enable ∙ e) in (h.0, contains_more a.assigns b.assigns _ f.assigns h.1, contains_more a.assigns b.assigns _ f.assigns h.2);
}

pub copy_more : (b a : Netlist) (x r : ℕ) → Includes b a → IsCopyOf a x r → IsCopyOf b x r
copy_more b a x r f is = record {
  next = is.next;
  control = index_within_more b a ahead_operators is.next f is.control;
  ahead = is.ahead;
  read = right_more b a is.ahead (Word x (atom.Net is.next)) f is.read;
  taken = is.taken;
  value = loaded_more b a (Reg r) is.ahead is.taken f is.value;
  set = contains_more a.updates b.updates (Set r (atom.Net is.taken)) f.updates is.set;
}

-- in a larger netlist, and with more copies
shown_more : (b a : Netlist) (direct wider : ℕ → Bool) (copies more : List ℕ) (x : ℕ) (index word : Net) → Includes b a → (IsTrue (direct x) → IsTrue (wider x)) → ((r : ℕ) → Contains copies r → Contains more r) → ShowsWord a direct copies x index word → ShowsWord b wider more x index word
shown_more b a direct wider copies more x index word f wide among (by_read is_direct is) = by_read (wide is_direct) (right_more b a word (Word x (atom.Net index)) f is)
shown_more b a direct wider copies more x index word f wide among (by_copy r c is) = by_copy r (among r c) (copy_more b a x r f is)

pub word_more : (b a : Netlist) (direct wider : ℕ → Bool) (copies more : List ℕ) (x : ℕ) (word : Net) → Includes b a → (IsTrue (direct x) → IsTrue (wider x)) → ((r : ℕ) → Contains copies r → Contains more r) → IsWordOf a direct copies x word → IsWordOf b wider more x word
word_more b a direct wider copies more x word f wide among is = record { index = is.index; control = index_within_more b a line_operators is.index f is.control; shown = shown_more b a direct wider copies more x is.index word f wide among is.shown }

pub takes_net_more : (b a : Netlist) (direct wider : ℕ → Bool) (copies more : List ℕ) (x : ℕ) (from : Net) → Includes b a → (IsTrue (direct x) → IsTrue (wider x)) → ((r : ℕ) → Contains copies r → Contains more r) → Takes a direct copies x from → Takes b wider more x from
takes_net_more b a direct wider copies more x from f wide among is = record {
  index = is.index;
  control = index_within_more b a line_operators is.index f is.control;
  word = is.word;
  shown = shown_more b a direct wider copies more x is.index is.word f wide among is.shown;
  stored = is.stored;
  value = unless_held_more b a is.word from is.stored f is.value;
  put = contains_more a.updates b.updates (Put x (atom.Net is.index) (atom.Net is.stored)) f.updates is.put;
}

-- without copies the word is read there
pub read_only : (b : Netlist) (direct : ℕ → Bool) (x : ℕ) (index word : Net) → ShowsWord b direct [] x index word → IsWordAt b x index word
read_only b direct x index word (by_read is_direct is) = is
read_only b direct x index word (by_copy r (i, l, e) is) = absurd (omega (arith, l))

-- in a larger netlist, with more copies, where as many arrays are read directly
pub fills_wider : (b a : Netlist) (direct wider : ℕ → Bool) (copies more : List ℕ) (first end : ℕ) (value : Net) → Includes b a → ((x : ℕ) → first ≤ x → x < end → IsTrue (direct x) → IsTrue (wider x)) → ((r : ℕ) → Contains copies r → Contains more r) → AreFilled a direct copies first end value → AreFilled b wider more first end value
fills_wider b a direct wider copies more first end value f wide among are x low high =
    let is = are x low high in
    record {
      from = is.from;
      takes = takes_net_more b a direct wider copies more x is.from f (wide x low high) among is.takes;
      net = is.net;
      word = λ lt. word_more b a direct wider copies more (x - 1) is.from f (wide (x - 1) (omega (arith, lt)) (omega (arith, lt, high))) among (is.word lt);
    }

pub fills_more : (b a : Netlist) (direct : ℕ → Bool) (copies : List ℕ) (first end : ℕ) (value : Net) → Includes b a → AreFilled a direct copies first end value → AreFilled b direct copies first end value
fills_more b a direct copies first end value f are = fills_wider b a direct direct copies copies first end value f (λ x low high is. is) (λ r c. c) are

-- no array
pub fills_none : (b : Netlist) (direct : ℕ → Bool) (copies : List ℕ) (first end : ℕ) (value : Net) → end ≤ first → AreFilled b direct copies first end value
fills_none b direct copies first end value none x low high = absurd (omega (arith, none, low, high))

-- one array, which takes the image's net
pub fills_one : (b : Netlist) (direct : ℕ → Bool) (copies : List ℕ) (first end : ℕ) (value : Net) → end ≡ first + 1 → Takes b direct copies first value → AreFilled b direct copies first end value
fills_one b direct copies first end value one is x low high =
    let same : x ≡ first = omega (arith, one, low, high) in
    record { from = value; takes = subst (λ (y : ℕ). Takes b direct copies y value) (sym same) is; net = λ e. refl; word = λ lt. absurd (omega (arith, lt, same)) }

-- a delay line takes the net that it delays, and its net is its word
pub line_takes_net : (b : Netlist) (direct : ℕ → Bool) (x n : ℕ) (from to : Net) → IsTrue (direct x) → IsDelayLine b x n from to → Takes b direct [] x from
line_takes_net b direct x n from to is_direct is = record { index = is.index; control = is.control; word = to; shown = by_read is_direct is.read; stored = is.stored; value = is.value; put = is.put }

pub line_word : (b : Netlist) (direct : ℕ → Bool) (x n : ℕ) (from to : Net) → IsTrue (direct x) → IsDelayLine b x n from to → IsWordOf b direct [] x to
line_word b direct x n from to is_direct is = record { index = is.index; control = is.control; shown = by_read is_direct is.read }

-- one in block memory
pub block_copy : (b : Netlist) (x n : ℕ) (from : Net) (r : ℕ) → IsBlockLine b x n from r → IsCopyOf b x r
block_copy b x n from r is = record { next = is.at.next; control = is.indices.next_control; ahead = is.ahead; read = is.read; taken = is.taken; value = is.loads; set = is.set }

pub block_takes_net : (b : Netlist) (direct : ℕ → Bool) (x n : ℕ) (from : Net) (r : ℕ) → IsBlockLine b x n from r → Takes b direct (r ∷ []) x from
block_takes_net b direct x n from r is = record {
  index = is.at.now;
  control = is.indices.now_control;
  word = Reg r;
  shown = by_copy r (0, omega arith, refl) (block_copy b x n from r is);
  stored = is.stored;
  value = is.value;
  put = is.put;
}

pub block_word : (b : Netlist) (direct : ℕ → Bool) (x n : ℕ) (from : Net) (r : ℕ) → IsBlockLine b x n from r → IsWordOf b direct (r ∷ []) x (Reg r)
block_word b direct x n from r is = record { index = is.at.now; control = is.indices.now_control; shown = by_copy r (0, omega arith, refl) (block_copy b x n from r is) }

-- segments, each of which takes what the one before it shows
pub segments_fill : (b : Netlist) (direct : ℕ → Bool) (copies : List ℕ) (first low : ℕ) (feed : Net) (ages : List ℕ) (taps : List Net) → AreSegments b direct copies first low feed ages taps → (end : ℕ) → end ≡ first + length ages → AreFilled b direct copies first end feed
segments_fill b direct copies first low feed [] [] are end e x from to = fills_none b direct copies first end feed (omega (arith, e)) x from to
segments_fill b direct copies first low feed [] (tap ∷ taps) are end e x from to = absurd are
segments_fill b direct copies first low feed (high ∷ ages) [] are end e x from to = absurd are
segments_fill b direct copies first low feed (high ∷ ages) (tap ∷ taps) are end e x from to =
    elim (cases_lt first x) as (λ _. IsFilled b direct copies first feed x) [
      | inl beyond ↦
          let is : IsFilled b direct copies (first + 1) tap x = segments_fill b direct copies (first + 1) high tap ages taps are.1 end (omega (arith, e)) x (omega (arith, beyond)) to in
          record {
            from = is.from;
            takes = is.takes;
            net = λ same. absurd (omega (arith, same, beyond));
            word = λ lt. elim (cases_lt (first + 1) x) as (λ _. IsWordOf b direct copies (x - 1) is.from) [
              | inl later ↦ is.word later
              | inr most ↦
                  let second : x ≡ first + 1 = omega (arith, beyond, most) in
                  subst (λ (n : Net). IsWordOf b direct copies (x - 1) n) (sym (is.net second)) (subst (λ (y : ℕ). IsWordOf b direct copies y tap) (let before : first ≡ x - 1 = omega (arith, second) in before) are.0.word)
            ];
          }
      | inr most ↦
          let same : x ≡ first = omega (arith, from, most) in
          record { from = feed; takes = subst (λ (y : ℕ). Takes b direct copies y feed) (sym same) are.0.filled; net = λ e. refl; word = λ lt. absurd (omega (arith, lt, same)) }
    ]

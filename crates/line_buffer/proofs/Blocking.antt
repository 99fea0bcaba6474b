-- Arrays that are read one clock ahead, into a register that copies their word.
use Rattle.std.proofs.Common.{◌≡◌, ◌≢◌, ◌⊎◌, ℕ, suc, ◌+◌, ◌-◌, ◌*◌, ◌%◌, ◌≤◌, Bool, true, false, List, [], ◌∷◌, length, Some, refl, sym, ap, subst, ◌∙◌, inl, inr, arith}
use Rattle.std.specs.Prelude.{if◌then◌else◌, IsTrue, slice_get, slice_set, slice_index}
use Rattle.std.proofs.lemmas.List.{set-get_or, get_or-set_other}
use Rattle.std.proofs.lemmas.Nat.{mod-mul-add}
use Rattle.std.proofs.lemmas.Option.{get_or_from_slice_get, slice_get_cases, slice_get_within}
use Rattle.wiring.specs.declared.netlist.Net.{Net}
use Rattle.wiring.specs.declared.netlist.Net.TheVariants.{Reg}
use Rattle.wiring.specs.declared.netlist.Holder.TheVariants.{OfNet, OfArray}
use Rattle.wiring.specs.Netlist.{Netlist}
use Rattle.wiring.specs.Snapshot.{Contents, Snapshot, IsNext, net_value}
use Rattle.wiring.specs.Clock.{Clock}
use Rattle.wiring.specs.History.{was_reset, is_held, counted}
use Rattle.net_build.specs.Runs.{IsClockOf, IsStill, IsKept}
use Rattle.net_build.proofs.Runs.{clock_before}
use Rattle.net_build.proofs.Clocks.{bool_cases, never, was_off, now_on, not_reset, count_of}
use Rattle.net_build.proofs.Cycling.{loaded_here}
use Rattle.line_buffer.specs.Lines.{IsBlockLine, Delays}
use Rattle.line_buffer.proofs.Rotations.{other_place}
use Rattle.line_buffer.proofs.Turning.{words_of, unless_here}
use Rattle.line_buffer.proofs.Filling.{block_takes_net, block_word}

-- the index of the next counted clock is another one
apart : (t n : ℕ) → 2 ≤ n → suc t % n ≢ t % n
apart t n two same = other_place (suc t) 1 n (omega arith) (omega (arith, two)) (omega arith) (ap (λ (i : ℕ). i % n) (let e : suc t - 1 ≡ t = omega arith in e) ∙ sym same)

module _ (b : Netlist) (x n : ℕ) (from : Net) (copy : ℕ) (is : IsBlockLine b x n from copy) (m : Netlist) (start : Contents) where
  last_is : suc (n - 1) ≡ n
  last_is = omega (arith, is.some)

  module _ (before : List Clock) (c : Clock) (s : Snapshot) (clock : IsClockOf b m start before c s) where
    now_here : IsTrue (was_reset (c ∷ before)) → net_value s is.at.now ≡ (if c.reset then n - 1 else length (counted m before) % n)
    now_here since = is.indices.cycles.now_is m start before c s clock since ∙ ap (λ (k : ℕ). if c.reset then n - 1 else length (counted m before) % k) last_is

    next_here : IsTrue (was_reset (c ∷ before)) → net_value s is.at.next ≡ (if c.reset then 0 else suc (length (counted m before)) % n)
    next_here since = is.indices.cycles.next_is m start before c s clock since ∙ ap (λ (k : ℕ). if c.reset then 0 else suc (length (counted m before)) % k) last_is

    now_off : IsTrue (was_reset before) → c.reset ≡ false → net_value s is.at.now ≡ length (counted m before) % n
    now_off since off = now_here (now_on c before off since) ∙ ap (λ (r : Bool). if r then n - 1 else length (counted m before) % n) off

    next_off : IsTrue (was_reset before) → c.reset ≡ false → net_value s is.at.next ≡ suc (length (counted m before)) % n
    next_off since off = next_here (now_on c before off since) ∙ ap (λ (r : Bool). if r then 0 else suc (length (counted m before)) % n) off

    ahead_here : net_value s is.ahead ≡ slice_index (words_of s.contents x) (net_value s is.at.next)
    ahead_here = is.reads m s clock.whole.includes clock.at.snapshot.settled

    taken_here : net_value s is.taken ≡ (if is_held m c then net_value s (Reg copy) else net_value s is.ahead)
    taken_here = is.takes m s clock.whole.includes clock.at.snapshot.settled ∙ loaded_here b m start before c s clock (net_value s (Reg copy)) (net_value s is.ahead)

    stored_here : c.reset ≡ false → net_value s is.stored ≡ (if is_held m c then net_value s (Reg copy) else net_value s from)
    stored_here off = is.stores m s clock.whole.includes clock.at.snapshot.settled ∙ unless_here b m start before c s clock (net_value s (Reg copy)) (net_value s from) off

    written : (next : Contents) → IsNext m s next → words_of next x ≡ slice_set (words_of s.contents x) (net_value s is.at.now) (net_value s is.stored)
    written next goes = get_or_from_slice_get next.arrays x (slice_set (words_of s.contents x) (net_value s is.at.now) (net_value s is.stored)) [] (is.edge m s next clock.whole.includes goes)

    copied_here : (next : Contents) → IsNext m s next → slice_index next.regs copy ≡ (if is_held m c then net_value s (Reg copy) else net_value s is.ahead)
    copied_here next goes = get_or_from_slice_get next.regs copy (net_value s is.taken) 0 (is.copies m s next clock.whole.includes goes) ∙ taken_here

  -- a word that is not written stays
  other_word : (words : List ℕ) (i j v : ℕ) → i ≢ j → slice_index (slice_set words i v) j ≡ slice_index words j
  other_word words i j v ne = get_or-set_other words i j v 0 (λ e. ne (sym e))

  held_off : (before : List Clock) (d : Clock) → d.reset ≡ true → is_held m d ≡ false
  held_off before d on = by (bool_cases (is_held m d))
    where
      by : (is_held m d ≡ true) ⊎ (is_held m d ≡ false) → is_held m d ≡ false
      by (inl e) = absurd (let g : d.reset ≡ false = not_reset m.enable d.reset d.enable (subst IsTrue (sym e) refl) in let f : true ≡ false = sym on ∙ g in cc)
      by (inr e) = e

  none_mod : 0 % n ≡ 0
  none_mod = ap (λ (i : ℕ). i % n) (let e : 0 ≡ 0 * n + 0 = omega arith in e) ∙ mod-mul-add 0 n 0 (omega (arith, is.some))

  -- the copy is the word at the index, from the reset on
  abbrev Copies : List Clock → Snapshot → Type 0
  Copies before s = net_value s (Reg copy) ≡ slice_index (words_of s.contents x) (length (counted m before) % n)

  copies_on : (before : List Clock) (d : Clock) (t s : Snapshot) → IsClockOf b m start before d t → IsNext m t s.contents → d.reset ≡ true → Copies (d ∷ before) s
  copies_on before d t s clock goes on =
      let next_is : net_value t is.at.next ≡ 0 = next_here before d t clock (since_on d before on) ∙ ap (λ (r : Bool). if r then 0 else suc (length (counted m before)) % n) on in
      let now_is : net_value t is.at.now ≡ n - 1 = now_here before d t clock (since_on d before on) ∙ ap (λ (r : Bool). if r then n - 1 else length (counted m before) % n) on in
      let none : length (counted m (d ∷ before)) % n ≡ 0 =
      ap (λ (k : ℕ). k % n) (count_of m d before ∙ ap (λ (r : Bool). if r then 0 else if is_held m d then length (counted m before) else suc (length (counted m before))) on) ∙ none_mod in
      copied_here before d t clock s.contents goes
      ∙ ap (λ (h : Bool). if h then net_value t (Reg copy) else net_value t is.ahead) (held_off before d on)
      ∙ ahead_here before d t clock
      ∙ ap (slice_index (words_of t.contents x)) next_is
      ∙ sym (other_word (words_of t.contents x) (net_value t is.at.now) 0 (net_value t is.stored) (λ e. let two = is.some in omega (arith, two, e, now_is)))
      ∙ ap (λ (ws : List ℕ). slice_index ws 0) (sym (written before d t clock s.contents goes))
      ∙ ap (slice_index (words_of s.contents x)) (sym none)
    where
      since_on : (d : Clock) (before : List Clock) → d.reset ≡ true → IsTrue (was_reset (d ∷ before))
      since_on d before on = subst (λ (r : Bool). IsTrue (if r then true else was_reset before)) (sym on) refl

  -- held clocks write the word that is there
  held_same : (before : List Clock) (d : Clock) (t : Snapshot) → IsClockOf b m start before d t → IsTrue (was_reset before) → Copies before t → is_held m d ≡ true → (next : Contents) → IsNext m t next → words_of next x ≡ words_of t.contents x
  held_same before d t clock since here held next goes =
      let off : d.reset ≡ false = not_reset m.enable d.reset d.enable (subst IsTrue (sym held) refl) in
      written before d t clock next goes
      ∙ ap (λ (i : ℕ). slice_set (words_of t.contents x) i (net_value t is.stored)) (now_off before d t clock since off)
      ∙ ap (λ (v : ℕ). slice_set (words_of t.contents x) (length (counted m before) % n) v) (stored_here before d t clock off ∙ ap (λ (h : Bool). if h then net_value t (Reg copy) else net_value t from) held ∙ here)
      ∙ set-get_or (words_of t.contents x) (length (counted m before) % n) 0

  copies_held : (before : List Clock) (d : Clock) (t s : Snapshot) → IsClockOf b m start before d t → IsNext m t s.contents → IsTrue (was_reset before) → Copies before t → d.reset ≡ false → is_held m d ≡ true → Copies (d ∷ before) s
  copies_held before d t s clock goes since here off held =
      let same : length (counted m (d ∷ before)) ≡ length (counted m before) =
      count_of m d before ∙ ap (λ (r : Bool). if r then 0 else if is_held m d then length (counted m before) else suc (length (counted m before))) off ∙ ap (λ (h : Bool). if h then length (counted m before) else suc (length (counted m before))) held in
      copied_here before d t clock s.contents goes
      ∙ ap (λ (h : Bool). if h then net_value t (Reg copy) else net_value t is.ahead) held
      ∙ here
      ∙ ap (λ (ws : List ℕ). slice_index ws (length (counted m before) % n)) (sym (held_same before d t clock since here held s.contents goes))
      ∙ ap (λ (k : ℕ). slice_index (words_of s.contents x) (k % n)) (sym same)

  copies_going : (before : List Clock) (d : Clock) (t s : Snapshot) → IsClockOf b m start before d t → IsNext m t s.contents → IsTrue (was_reset before) → d.reset ≡ false → is_held m d ≡ false → Copies (d ∷ before) s
  copies_going before d t s clock goes since off going =
      let k : ℕ = length (counted m before) in
      let more : length (counted m (d ∷ before)) ≡ suc k =
      count_of m d before ∙ ap (λ (r : Bool). if r then 0 else if is_held m d then length (counted m before) else suc (length (counted m before))) off ∙ ap (λ (h : Bool). if h then length (counted m before) else suc (length (counted m before))) going in
      copied_here before d t clock s.contents goes
      ∙ ap (λ (h : Bool). if h then net_value t (Reg copy) else net_value t is.ahead) going
      ∙ ahead_here before d t clock
      ∙ ap (slice_index (words_of t.contents x)) (next_off before d t clock since off)
      ∙ sym (other_word (words_of t.contents x) (net_value t is.at.now) (suc k % n) (net_value t is.stored) (λ e. apart k n is.some (sym e ∙ now_off before d t clock since off)))
      ∙ ap (λ (ws : List ℕ). slice_index ws (suc k % n)) (sym (written before d t clock s.contents goes))
      ∙ ap (λ (j : ℕ). slice_index (words_of s.contents x) (j % n)) (sym more)

  pub copies_word : (before : List Clock) (c : Clock) (s : Snapshot) → IsClockOf b m start before c s → IsTrue (was_reset before) → Copies before s
  copies_word [] c s clock since = absurd (never since)
  copies_word (d ∷ before) c s clock since =
      let prior = clock_before b m start before d c s clock in
      elim (bool_cases d.reset) as (λ _. Copies (d ∷ before) s) [
        | inl on ↦ copies_on before d prior.0 s prior.1 prior.3 on
        | inr off ↦
            let since_d : IsTrue (was_reset before) = was_off d before off since in
            elim (bool_cases (is_held m d)) as (λ _. Copies (d ∷ before) s) [
              | inl held ↦ copies_held before d prior.0 s prior.1 prior.3 since_d (copies_word before d prior.0 prior.1 since_d) off held
              | inr going ↦ copies_going before d prior.0 s prior.1 prior.3 since_d off going
            ]
      ]

  -- in each clock after a reset
  module _ (before : List Clock) (c : Clock) (s : Snapshot) (clock : IsClockOf b m start before c s) where
    pub block_takes : IsTrue (was_reset before) → c.reset ≡ false → is_held m c ≡ false → (next : Contents) → IsNext m s next → words_of next x ≡ slice_set (words_of s.contents x) (length (counted m before) % n) (net_value s from)
    block_takes since off going next goes =
        written before c s clock next goes
        ∙ ap (λ (i : ℕ). slice_set (words_of s.contents x) i (net_value s is.stored)) (now_off before c s clock since off)
        ∙ ap (λ (v : ℕ). slice_set (words_of s.contents x) (length (counted m before) % n) v) (stored_here before c s clock off ∙ ap (λ (h : Bool). if h then net_value s (Reg copy) else net_value s from) going)

    true_is : (h : Bool) → IsTrue h → h ≡ true
    true_is h e = e

    pub block_waits : IsTrue (was_reset before) → IsTrue (is_held m c) → (next : Contents) → IsNext m s next → words_of next x ≡ words_of s.contents x
    block_waits since held next goes = held_same before c s clock since (copies_word before c s clock since) (true_is (is_held m c) held) next goes

    pub block_kept : IsTrue (was_reset before) → IsTrue (is_held m c) → (next : Contents) → IsNext m s next → IsKept s next (OfArray x)
    block_kept since held next goes =
        let at = is.edge m s next clock.whole.includes goes in
        let same = sym (get_or_from_slice_get next.arrays x (slice_set (words_of s.contents x) (net_value s is.at.now) (net_value s is.stored)) [] at) ∙ block_waits since held next goes in
        elim (slice_get_cases s.contents.arrays x).1 as (λ _. slice_get next.arrays x ≡ slice_get s.contents.arrays x) [
          | inl h ↦ at ∙ ap (λ (ws : List ℕ). Some ws) (same ∙ get_or_from_slice_get s.contents.arrays x h.0 [] h.2) ∙ sym h.2
          | inr past ↦ absurd (omega (arith, past.0, slice_get_within next.arrays x _ at, goes.arrays))
        ]

    -- the copy keeps its word in each held clock
    pub copy_kept : IsTrue (is_held m c) → (next : Contents) → IsNext m s next → IsKept s next (OfNet (Reg copy))
    copy_kept held next goes =
        let at = is.copies m s next clock.whole.includes goes in
        let same : net_value s is.taken ≡ net_value s (Reg copy) = taken_here before c s clock ∙ ap (λ (h : Bool). if h then net_value s (Reg copy) else net_value s is.ahead) (true_is (is_held m c) held) in
        elim (slice_get_cases s.contents.regs copy).1 as (λ _. slice_get next.regs copy ≡ slice_get s.contents.regs copy) [
          | inl h ↦ at ∙ ap (λ (v : ℕ). Some v) (same ∙ get_or_from_slice_get s.contents.regs copy h.0 0 h.2) ∙ sym h.2
          | inr past ↦ absurd (omega (arith, past.0, slice_get_within next.regs copy _ at, goes.regs))
        ]

pub block_still : (b : Netlist) (x n : ℕ) (from : Net) (copy : ℕ) → IsBlockLine b x n from copy → IsStill b (copy ∷ []) (OfArray x)
block_still b x n from copy is = record { kept = λ m start before c s clock ready held next goes. block_kept b x n from copy is m start before c s clock ready held next goes }

pub copy_still : (b : Netlist) (x n : ℕ) (from : Net) (copy : ℕ) → IsBlockLine b x n from copy → IsStill b [] (OfNet (Reg copy))
copy_still b x n from copy is = record { kept = λ m start before c s clock ready held next goes. copy_kept b x n from copy is m start before c s clock held next goes }

-- it does what a delay line does, after a reset
pub block_delays : (b : Netlist) (direct : ℕ → Bool) (x n : ℕ) (from : Net) (copy : ℕ) → IsBlockLine b x n from copy → Delays b direct (copy ∷ []) x n from (Reg copy)
block_delays b direct x n from copy is = record {
  shape = is.shape;
  there = is.there;
  deep = is.deep;
  gives = λ m start before c s clock since off. copies_word b x n from copy is m start before c s clock since;
  takes = λ m start before c s clock since off going next goes. block_takes b x n from copy is m start before c s clock since off going next goes;
  waits = λ m start before c s clock ready held next goes. block_waits b x n from copy is m start before c s clock ready held next goes;
  word = block_word b direct x n from copy is;
  filled = block_takes_net b direct x n from copy is;
}

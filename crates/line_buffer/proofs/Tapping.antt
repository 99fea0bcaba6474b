-- The taps of a ring, one after another.
use Rattle.std.proofs.Common.{◌≡◌, ◌⊎◌, ℕ, zero, suc, ◌+◌, ◌-◌, ◌*◌, ◌%◌, ◌^◌, ◌<◌, ◌≤◌, ◌==◌, nat_lt, Bool, List, [], ◌∷◌, ◌++◌, length, Some, refl, sym, ap, subst, ◌∙◌, inl, inr, arith, lit≤}
use Rattle.std.specs.Prelude.{IsTrue, Contains, slice_get, unwrap_or, if◌then◌else◌}
use Rattle.std.proofs.Math.Nat.{mod-eq_of_lt}
use Rattle.std.proofs.lemmas.Bool.{cases_lt}
use Rattle.std.proofs.lemmas.Nat.{mod-mul-add}
use Rattle.std.proofs.lemmas.Option.{slice_get_within}
use Rattle.std.proofs.lemmas.List.Elements.{All-nil, All-cons}
use Rattle.wiring.specs.declared.right.Atom.{Atom}
use Rattle.wiring.specs.declared.right.Atom.TheVariants as atom
use Rattle.wiring.specs.declared.right.Operator.TheVariants.{Add, Subtract, Less}
use Rattle.wiring.specs.declared.right.Right.TheVariants.{Binary, Choose, Word}
use Rattle.wiring.specs.declared.netlist.Net.{Net}
use Rattle.wiring.specs.declared.netlist.Holder.{Holder}
use Rattle.wiring.specs.declared.netlist.Holder.TheVariants.{OfNet, OfArray}
use Rattle.wiring.specs.declared.netlist.Shape.{Shape}
use Rattle.wiring.specs.declared.netlist.Update.{Update}
use Rattle.wiring.specs.Sizes.{IsWidth, IsConstant}
use Rattle.wiring.specs.Netlist.{Netlist, net_width, depth}
use Rattle.wiring.specs.Snapshot.{Contents, Snapshot, net_value, word_value, right_accesses, update_accesses}
use Rattle.wiring.specs.Clock.{Clock, bit}
use Rattle.net_build.specs.Includes.{Includes, InEach}
use Rattle.net_build.specs.Draft.{IsNet, AddsWires, with_wire}
use Rattle.net_build.specs.Runs.{IsClockOf, StaysInside}
use Rattle.net_build.proofs.Runs.{clock_more}
use Rattle.net_build.specs.Control.{is_control}
use Rattle.net_build.specs.Depth.{IsWithin, IsOver, by_itself}
use Rattle.std.specs.Option.{option_map}
use Rattle.line_buffer.proofs.LineMade.{control_buffer, own_array}
use Rattle.wiring.specs.History.{was_reset}
use Rattle.net_build.proofs.Parts.{Includes-refl, Includes-trans, at_Begins}
use Rattle.net_build.proofs.Grown.{net_more, width_more}
use Rattle.net_build.specs.Depth.{SetsWithin}
use Rattle.net_build.proofs.Control.{sets_more}
use Rattle.net_build.proofs.Depth.{within_more, within_wider, within_deeper, within_wire}
use Rattle.wiring.proofs.Search.{at_push}
use Rattle.net_build.proofs.Stops.{inside_below}
use Rattle.net_build.proofs.Standing.{still_wires}
use Rattle.net_build.proofs.Reading.{reads_none, reads_joined, reads_weaker, none_reads, reads_word}
use Rattle.net_build.proofs.Updating.{wires_none, wires_joined, but_wires}
use Rattle.net_build.specs.Logic.{AddsLogic, Computes, IsGate}
use Rattle.line_buffer.specs.Depths.{line_operators, ring_operators}
use Rattle.line_buffer.specs.Fills.{IsWordAt}
use Rattle.line_buffer.proofs.Depth.{index_within_more}
use Rattle.line_buffer.specs.Rings.{behind, AddsTaps, IsRingTap, AreRingTaps, place_worth, IsRing}
use Rattle.line_buffer.specs.Lines.{IsIndex, IsDelayLine}
use Rattle.line_buffer.specs.Buffers.{AddsBuffer, ReadsInside, PutsInside, is_new, is_added, TakesAdded, IsAdded, is_buffer}
use Rattle.line_buffer.proofs.More.{added_same, added_as, added_weaker, added_joined, takes_wider, inside_more, none_inside, op_inside_in}
use Rattle.line_buffer.specs.declared.lines.DelayLine.{DelayLine}
use Rattle.net_build.proofs.Logic.{Source, net_source, given_source, number_source, source_more, computes_as, binary_computes, choose_computes, first_in}
use Rattle.net_build.proofs.Counting.{by_bit}
use Rattle.line_buffer.proofs.More.{le_is}
use Rattle.line_buffer.proofs.Rotations.{yes_lt, no_lt, yes_eq, no_eq, behind_below}
use Rattle.line_buffer.proofs.Turning.{index_more, index_below}

pub taps_none : (b : Netlist) (x : ℕ) → AddsTaps b b x
taps_none b x = record { includes = Includes-refl b; wires = wires_none b; reads = reads_none b b (λ y. y == x) refl; reads_inside = added_same (ReadsInside b) b.assigns b.assigns refl }

pub taps_logic : (c b : Netlist) (x : ℕ) → AddsLogic c b → AddsTaps c b x
taps_logic c b x is = record { includes = is.includes; wires = is.wires; reads = none_reads c b (λ y. y == x) is.reads; reads_inside = none_inside c b is.reads }

pub taps_joined : (c b a : Netlist) (x : ℕ) → AddsTaps c b x → AddsTaps b a x → AddsTaps c a x
taps_joined c b a x g f = record {
  includes = Includes-trans c b a g.includes f.includes;
  wires = wires_joined c b a g.wires f.wires;
  reads = reads_joined c b a (λ y. y == x) g.includes g.reads f.reads;
  reads_inside = added_joined (ReadsInside c) c.assigns b.assigns a.assigns g.includes.assigns g.reads_inside (added_weaker (ReadsInside b) (ReadsInside c) b.assigns a.assigns (λ y. inside_more c b g.includes (right_accesses y.right)) f.reads_inside);
}

-- taps of an array that was added before them
module _ (c b a : Netlist) (shapes : List Shape) (x : ℕ) (g : AddsTaps c b x) (f : AddsBuffer b a shapes []) (later : length a.arrays ≤ x) where
  wider : (y : ℕ) → IsTrue (y == x) → IsTrue (is_new a y)
  wider y h = le_is (length a.arrays) y (omega (arith, later, eq_is y x h))
    where
      eq_is : (p q : ℕ) → IsTrue (p == q) → p ≡ q
      eq_is p q h = grind arith

  same_control : (u : Update) → TakesAdded b a [] u → TakesAdded c a [] u
  same_control u is = takes_wider c b (is_added b.enable (length a.regs) (length b.regs) []) (is_added c.enable (length a.regs) (length c.regs) []) [] [] g.includes (λ h t. subst (λ (e : Bool). IsTrue (is_added e (length a.regs) (length c.regs) [] h)) (sym g.includes.enable) (subst (λ (l : List ℕ). IsTrue (is_added b.enable (length a.regs) (length l) [] h)) (sym g.wires.regs) t)) (λ r c. c) u is

  pub taps_buffer : AddsBuffer c a shapes []
  taps_buffer = record {
    includes = Includes-trans c b a g.includes f.includes;
    arrays = g.wires.arrays ∙ f.arrays;
    added = All-nil (IsAdded c a);
    updated = λ free but. but_wires c b free g.wires (f.updated free but);
    only = λ k u low at state. f.only k u low (subst (λ (us : List Update). slice_get us k ≡ Some u) g.wires.updates at) state;
    still = λ others free is. still_wires c b (others ++ []) free g.includes g.wires (f.still others free is);
    control = added_as (TakesAdded c a []) b.updates c.updates a.updates g.wires.updates (added_weaker (TakesAdded b a []) (TakesAdded c a []) b.updates a.updates same_control f.control);
    levels = added_as (SetsWithin c) b.updates c.updates a.updates g.wires.updates (added_weaker (SetsWithin b) (SetsWithin c) b.updates a.updates (sets_more c b g.includes) f.levels);
    reads_inside = added_joined (ReadsInside c) c.assigns b.assigns a.assigns g.includes.assigns g.reads_inside (added_weaker (ReadsInside b) (ReadsInside c) b.assigns a.assigns (λ y. inside_more c b g.includes (right_accesses y.right)) f.reads_inside);
    puts_inside = added_as (PutsInside c) b.updates c.updates a.updates g.wires.updates (added_weaker (PutsInside b) (PutsInside c) b.updates a.updates (λ u. inside_more c b g.includes (update_accesses u)) f.puts_inside);
    reads = reads_joined c b a (is_new a) g.includes (reads_weaker c b (λ y. y == x) (is_new a) wider g.reads) f.reads;
  }

over : (i a p : ℕ) → a ≤ i → i < p → (i + p - a) % p ≡ i - a
over i a p low high = ap (λ (n : ℕ). n % p) (let e : i + p - a ≡ 1 * p + (i - a) = omega (arith, low) in e) ∙ mod-mul-add 1 p (i - a) (omega (arith, high))

pub place_is : (words age bits index : ℕ) → 0 < age → age < words → words - 1 < 2 ^ bits → index < words → place_worth words age bits index ≡ behind words age index
place_is words age bits index some short fits low =
    elim (cases_lt index age) as (λ _. place_worth words age bits index ≡ behind words age index) [
      | inl lt ↦
          ap (λ (t : Bool). if t then (index + (words - age)) % 2 ^ bits else (index + 2 ^ bits - age) % 2 ^ bits) (yes_lt index age lt)
          ∙ mod-eq_of_lt (omega (arith, lt, short, fits))
          ∙ sym (ap (λ (t : Bool). if t then index else if nat_lt index age then index + (words - age) else index - age) (no_eq age words (λ e. omega (arith, e, short))) ∙ ap (λ (t : Bool). if t then index + (words - age) else index - age) (yes_lt index age lt))
      | inr ge ↦
          ap (λ (t : Bool). if t then (index + (words - age)) % 2 ^ bits else (index + 2 ^ bits - age) % 2 ^ bits) (no_lt index age ge)
          ∙ over index age (2 ^ bits) ge (omega (arith, low, fits))
          ∙ sym (ap (λ (t : Bool). if t then index else if nat_lt index age then index + (words - age) else index - age) (no_eq age words (λ e. omega (arith, e, short))) ∙ ap (λ (t : Bool). if t then index + (words - age) else index - age) (no_lt index age ge))
    ]

module _ (b0 b1 b2 b3 b4 : Netlist) (index low up down place : Net) (bits words age : ℕ) (aged rest again : Atom Net) (f1 : Includes b1 b0) (f2 : Includes b2 b1) (f3 : Includes b3 b2) (f4 : Includes b4 b3) (is : IsNet b0 index) (wide : net_width b0 index ≡ bits) (bit_wide : IsWidth bits) (some : 0 < age) (short : age < words) (fits : words - 1 < 2 ^ bits)
    (aged_is : aged ≡ atom.Constant (record { width = bits; value = age })) (rest_is : rest ≡ atom.Constant (record { width = bits; value = words - age })) (again_is : again ≡ atom.Constant (record { width = bits; value = age })) where
  abbrev from : List Net
  from = index ∷ []

  index_in : (b : Netlist) → Includes b b0 → Source b b0 from bits (λ s. net_value s index) (atom.Net index)
  index_in b f = given_source b b0 from bits index f is wide (first_in index [])

  age_fits : IsConstant (record { width = bits; value = age })
  age_fits = record { width = bit_wide; fits = omega (arith, short, fits) }

  rest_fits : IsConstant (record { width = bits; value = words - age })
  rest_fits = record { width = bit_wide; fits = omega (arith, some, short, fits) }

  f20 : Includes b2 b0
  f20 = Includes-trans b2 b1 b0 f2 f1

  pub place_computes : IsGate b1 b0 (Binary Less (atom.Net index) aged) low → IsGate b2 b1 (Binary Add (atom.Net index) rest) up → IsGate b3 b2 (Binary Subtract (atom.Net index) again) down → IsGate b4 b3 (Choose (atom.Net low) (atom.Net up) (atom.Net down)) place →
      Computes b4 b0 (index ∷ []) bits (λ s. place_worth words age bits (net_value s index)) place
  place_computes g1 g2 g3 g4 =
      let c1 : Computes b1 b0 from 1 (λ s. bit (nat_lt (net_value s index) age)) low = binary_computes b1 b0 b0 from f1 bits Less (λ s. net_value s index) (λ s. age) (atom.Net index) aged low (index_in b0 (Includes-refl b0)) (number_source b0 b0 from bits age aged aged_is age_fits) g1 in
      let c2 : Computes b2 b0 from bits (λ s. (net_value s index + (words - age)) % 2 ^ bits) up = binary_computes b2 b1 b0 from f2 bits Add (λ s. net_value s index) (λ s. words - age) (atom.Net index) rest up (index_in b1 f1) (number_source b1 b0 from bits (words - age) rest rest_is rest_fits) g2 in
      let c3 : Computes b3 b0 from bits (λ s. (net_value s index + 2 ^ bits - age) % 2 ^ bits) down = binary_computes b3 b2 b0 from f3 bits Subtract (λ s. net_value s index) (λ s. age) (atom.Net index) again down (index_in b2 f20) (number_source b2 b0 from bits age again again_is age_fits) g3 in
      computes_as b4 b0 from bits bits (λ s. if bit (nat_lt (net_value s index) age) == 1 then (net_value s index + (words - age)) % 2 ^ bits else (net_value s index + 2 ^ bits - age) % 2 ^ bits) (λ s. place_worth words age bits (net_value s index)) place refl
      (choose_computes b4 b3 b0 from f4 bits (λ s. bit (nat_lt (net_value s index) age)) (λ s. (net_value s index + (words - age)) % 2 ^ bits) (λ s. (net_value s index + 2 ^ bits - age) % 2 ^ bits) (atom.Net low) (atom.Net up) (atom.Net down) place
      (source_more b3 b1 b0 from 1 (λ s. bit (nat_lt (net_value s index) age)) (atom.Net low) (Includes-trans b3 b2 b1 f3 f2) (net_source b1 b0 from 1 (λ s. bit (nat_lt (net_value s index) age)) low c1))
      (source_more b3 b2 b0 from bits (λ s. (net_value s index + (words - age)) % 2 ^ bits) (atom.Net up) f3 (net_source b2 b0 from bits (λ s. (net_value s index + (words - age)) % 2 ^ bits) up c2))
      (net_source b3 b0 from bits (λ s. (net_value s index + 2 ^ bits - age) % 2 ^ bits) down c3) g4)
      (λ s. by_bit (nat_lt (net_value s index) age) ((net_value s index + (words - age)) % 2 ^ bits) ((net_value s index + 2 ^ bits - age) % 2 ^ bits))

-- the word after the index
module _ (b0 b1 b2 : Netlist) (x words age bits width : ℕ) (index place tap value : Net) (shape : Shape) (logic : AddsLogic b1 b0) (f2 : Includes b2 b1) (wired : AddsWires b2 b1) (some : 0 < age) (short : age < words) (fits : words - 1 < 2 ^ bits) (there : slice_get b0.arrays x ≡ Some shape) (deep : shape.depth ≡ words)
    (counter : IsIndex b0 words index) (index_within : IsWithin b0 (is_control b0.enable) line_operators (OfNet index)) (worth : Computes b1 b0 (index ∷ []) bits (λ s. place_worth words age bits (net_value s index)) place) (read : (b2 ≡ b1) ⊎ (b2 ≡ with_wire b1 (Word x (atom.Net place)))) (word_is : InEach b2 (λ m s. net_value s tap ≡ word_value s x (net_value s place))) where
  g20 : Includes b2 b0
  g20 = Includes-trans b2 b1 b0 f2 logic.includes

  behind_here : (m : Netlist) (from : Contents) (before : List Clock) (c : Clock) (s : Snapshot) → IsClockOf b2 m from before c s → IsTrue (was_reset (c ∷ before)) → net_value s place ≡ behind words age (net_value s index)
  behind_here m from before c s is since =
      worth.value m s (Includes-trans m b2 b1 is.whole.includes f2) is.at.snapshot.settled
      ∙ place_is words age bits (net_value s index) some short fits ((index_below b0 words index (omega (arith, short)) counter).below m from before c s (clock_more b2 b0 m from before c s g20 is) since)

  pub behind_inside : StaysInside b2 (x, atom.Net place)
  behind_inside =
      let is : depth b2 x ≡ words = ap (λ o. unwrap_or (option_map (λ (s : Shape). s.depth) o) 0) (at_Begins b0.arrays b2.arrays x shape g20.arrays there) ∙ deep in
      inside_below b2 x place (slice_get_within b2.arrays x shape (at_Begins b0.arrays b2.arrays x shape g20.arrays there))
      (record { below = λ m from before c s clock since. subst (λ (n : ℕ). net_value s place < n) (sym is) (subst (λ (v : ℕ). v < words) (sym (behind_here m from before c s clock since)) (behind_below words age (net_value s index) some (omega (arith, short)) ((index_below b0 words index (omega (arith, short)) counter).below m from before c s (clock_more b2 b0 m from before c s g20 clock) since))) })

  pub behind_taps : AddsTaps b2 b0 x
  behind_taps =
      taps_joined b2 b1 b0 x (record {
        includes = f2;
        wires = wired;
        reads = reads_word b1 b2 x (atom.Net place) (λ y. y == x) read (same x);
        reads_inside = op_inside_in b2 b2 b1 (Word x (atom.Net place)) read (All-cons (StaysInside b2) (x, atom.Net place) [] behind_inside (All-nil (StaysInside b2)));
      }) (taps_logic b1 b0 x logic)
    where
      same : (y : ℕ) → IsTrue (y == y)
      same y = grind arith

  pub behind_tap : IsNet b2 tap → net_width b2 tap ≡ net_width b2 value → IsOver b1 b0 2 (index ∷ []) place → IsWordAt b2 x place tap → IsRingTap b2 x words index value age tap
  behind_tap net wide over_index word_read = record {
    net = net;
    width = wide;
    now = λ e. absurd (omega (arith, e, some));
    word = λ positive m from before c s is since. word_is m s is.whole.includes is.at.snapshot.settled ∙ ap (word_value s x) (behind_here m from before c s is since);
    made = λ positive.
        let base : Holder → Bool = is_buffer b2.enable x (x + 1) in
        let index0 : IsWithin b0 (is_control b2.enable) line_operators (OfNet index) = subst (λ (e : Bool). IsWithin b0 (is_control e) line_operators (OfNet index)) (sym g20.enable) index_within in
        let place1 : IsWithin b1 (is_control b2.enable) ring_operators (OfNet place) = over_index (is_control b2.enable) line_operators (λ n c. one (λ (y : Net). IsWithin b0 (is_control b2.enable) line_operators (OfNet y)) n c index0) in
        let place2 : IsWithin b2 base ring_operators (OfNet place) = within_wider b2 (is_control b2.enable) base (control_buffer b2.enable x (x + 1)) (within_more b2 b1 (is_control b2.enable) f2 place1) in
        within_wire b2 tap (Word x (atom.Net place)) base ring_operators word_read
        (All-cons (IsWithin b2 base ring_operators) (OfArray x) (OfNet place ∷ []) (by_itself (own_array b2.enable x x refl)) (All-cons (IsWithin b2 base ring_operators) (OfNet place) [] place2 (All-nil (IsWithin b2 base ring_operators))));
  }
    where
      one : (P : Net → Type 0) (n : Net) → Contains (index ∷ []) n → P index → P n
      one P n (zero, l, e) p = subst P e p
      one P n (suc k, l, e) p = absurd (omega (arith, l))

pub ring_tap_more : (c b : Netlist) (x words : ℕ) (index value : Net) (age : ℕ) (tap : Net) → Includes c b → IsNet b value → IsRingTap b x words index value age tap → IsRingTap c x words index value age tap
ring_tap_more c b x words index value age tap f net is = record {
  net = net_more c b f tap is.net;
  width = width_more c b f tap is.net.declared ∙ is.width ∙ sym (width_more c b f value net.declared);
  now = is.now;
  word = λ positive m from before d s clock since. is.word positive m from before d s (clock_more c b m from before d s f clock) since;
  made = λ positive. subst (λ (e : Bool). IsWithin c (is_buffer e x (x + 1)) ring_operators (OfNet tap)) (sym f.enable) (within_more c b (is_buffer b.enable x (x + 1)) f (is.made positive));
}

pub ring_more : (c b : Netlist) (line : DelayLine) (value : Net) (bits words : ℕ) → Includes c b → IsRing b line value bits words → IsRing c line value bits words
ring_more c b line value bits words f is = record {
  shape = is.shape;
  there = at_Begins b.arrays c.arrays line.array is.shape f.arrays is.there;
  deep = is.deep;
  wide = is.wide;
  value_net = net_more c b f value is.value_net;
  value_wide = width_more c b f value is.value_net.declared ∙ is.value_wide;
  index_net = net_more c b f line.index is.index_net;
  index_wide = width_more c b f line.index is.index_net.declared ∙ is.index_wide;
  bits_wide = is.bits_wide;
  fits = is.fits;
  counter = index_more c b words line.index f is.counter;
  control = index_within_more c b line_operators line.index f is.control;
  oldest = ring_tap_more c b line.array words line.index value words line.word f is.value_net is.oldest;
}

-- the word of a turning is that of the oldest age
pub oldest_is : (b : Netlist) (x words : ℕ) (index value word : Net) → IsNet b word → net_width b word ≡ net_width b value → IsDelayLine b x words value word → IsIndex b words index → 0 < words → IsWithin b (is_buffer b.enable x (x + 1)) line_operators (OfNet word) → IsRingTap b x words index value words word
oldest_is b x words index value word net wide turning counter some made = record {
  net = net;
  width = wide;
  now = λ e. absurd (omega (arith, e, some));
  word = λ positive m from before c s is since.
      turning.gives m s is.whole.includes is.at.snapshot.settled
      ∙ ap (word_value s x) (turning.counter.counts m from before c s is since ∙ sym (counter.counts m from before c s is since) ∙ sym (ap (λ (t : Bool). if t then net_value s index else if nat_lt (net_value s index) words then net_value s index + (words - words) else net_value s index - words) (yes_eq words words refl)));
  made = λ positive. within_deeper (lit≤ tt) made;
}

-- the taps of the first ages, and one more
pub ring_taps_more : (c b : Netlist) (x words : ℕ) (index value : Net) (ages : List ℕ) (taps : List Net) (age : ℕ) (tap : Net) → Includes c b → IsNet b value → length taps ≡ length ages → AreRingTaps b x words index value ages taps → IsRingTap c x words index value age tap →
    AreRingTaps c x words index value (ages ++ age ∷ []) (taps ++ tap ∷ [])
ring_taps_more c b x words index value ages taps age tap f net long are is k a t ea et =
    elim (at_push ages age a k ea) as (λ _. IsRingTap c x words index value a t) [
      | inl earlier ↦ elim (at_push taps tap t k et) as (λ _. IsRingTap c x words index value a t) [
        | inl there ↦ ring_tap_more c b x words index value a t f net (are k a t earlier there)
        | inr last ↦ absurd (omega (arith, last.0, slice_get_within ages k a earlier, long))
      ]
      | inr last ↦ elim (at_push taps tap t k et) as (λ _. IsRingTap c x words index value a t) [
        | inl there ↦ absurd (omega (arith, last.0, slice_get_within taps k t there, long))
        | inr here ↦ subst (λ (n : ℕ). IsRingTap c x words index value n t) last.1 (subst (λ (n : Net). IsRingTap c x words index value age n) here.1 is)
      ]
    ]

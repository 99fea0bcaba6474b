-- What is added to a netlist, one part after another.
use Rattle.std.proofs.Common.{◌≡◌, ℕ, ◌<◌, ◌≤◌, nat_lt, Bool, List, [], ◌++◌, length, Some, refl, sym, ap, subst, ◌∙◌, inl, inr, arith, append_assoc, append-nil}
use Rattle.std.specs.Prelude.{slice_get, IsTrue, if◌then◌else◌, All}
use Rattle.std.proofs.lemmas.Option.{slice_get_within, slice_get_cases, same_Some}
use Rattle.wiring.specs.declared.netlist.Net.TheVariants.{Input, Output, Wire, Reg}
use Rattle.wiring.specs.declared.netlist.Holder.{Holder}
use Rattle.wiring.specs.declared.netlist.Holder.TheVariants.{OfNet, OfArray}
use Rattle.wiring.specs.declared.netlist.Shape.{Shape}
use Rattle.wiring.specs.declared.netlist.Update.{Update}
use Rattle.wiring.specs.Netlist.{Netlist, IsState, update_target}
use Rattle.wiring.specs.Snapshot.{right_accesses, update_accesses}
use Rattle.std.proofs.lemmas.List.Elements.{All-nil, All-append, All-weaker, All-contains, Contains-append_left, Contains-append_right, Contains-append_cases}
use Rattle.net_build.specs.Runs.{StillBut}
use Rattle.net_build.specs.Includes.{Includes}
use Rattle.net_build.specs.Logic.{AddsLogic}
use Rattle.net_build.specs.Depth.{SetsWithin}
use Rattle.net_build.proofs.Control.{sets_more}
use Rattle.net_build.proofs.Parts.{Includes-refl, Includes-trans, at_Begins}
use Rattle.net_build.proofs.Grown.{length_begins}
use Rattle.net_build.proofs.Reading.{reads_none, reads_joined, reads_weaker, none_reads}
use Rattle.net_build.proofs.Standing.{still_wires, still_copies}
use Rattle.net_build.proofs.Updating.{but_wires}
use Rattle.line_buffer.specs.Buffers.{AddsBuffer, ReadsInside, PutsInside, is_new, is_added, TakesAdded, IsAdded}
use Rattle.line_buffer.proofs.More.{added_same, added_weaker, added_joined, takes_wider, inside_more, none_inside, le_is, is_le, added_low, added_high, added_none, is_added_one}

state_more : (b a : Netlist) (h : Holder) → Includes b a → IsState a h → IsState b h
state_more b a (OfNet (Input k)) f is = absurd is
state_more b a (OfNet (Output k)) f is = absurd is
state_more b a (OfNet (Wire k)) f is = absurd is
state_more b a (OfNet (Reg k)) f is = omega (arith, is, length_begins a.regs b.regs f.regs)
state_more b a (OfArray x) f is = omega (arith, is, length_begins a.arrays b.arrays f.arrays)

-- registers added before, and after
added_more : (c b a : Netlist) → Includes c b → (copies : List ℕ) → All (IsAdded b a) copies → All (IsAdded c a) copies
added_more c b a f copies is = All-weaker (IsAdded b a) (IsAdded c a) (λ r x. let high = x.there in record { beyond = x.beyond; there = omega (arith, high, length_begins b.regs c.regs f.regs) }) copies is

added_since : (c b a : Netlist) → Includes b a → (copies : List ℕ) → All (IsAdded c b) copies → All (IsAdded c a) copies
added_since c b a f copies is = All-weaker (IsAdded c b) (IsAdded c a) (λ r x. let low = x.beyond in record { beyond = omega (arith, low, length_begins a.regs b.regs f.regs); there = x.there }) copies is

module _ (c b a : Netlist) (after before : List Shape) (more copies : List ℕ) (g : AddsBuffer c b after more) (f : AddsBuffer b a before copies) where
  more_arrays : length a.arrays ≤ length b.arrays
  more_arrays = length_begins a.arrays b.arrays f.includes.arrays

  wider : (x : ℕ) → IsTrue (is_new b x) → IsTrue (is_new a x)
  wider x h = le_is (length a.arrays) x (omega (arith, more_arrays, is_le (length b.arrays) x h))

  only_joined : (k : ℕ) (u : Update) → length a.updates ≤ k → slice_get c.updates k ≡ Some u → IsState a (update_target u) → ⊥
  only_joined k u low at state =
      elim (slice_get_cases b.updates k).1 as (λ _. ⊥) [
        | inl h ↦ (let same : h.0 ≡ u = same_Some h.0 u (sym (at_Begins b.updates c.updates k h.0 g.includes.updates h.2) ∙ at) in f.only k u low (subst (λ (v : Update). slice_get b.updates k ≡ Some v) same h.2) state)
        | inr past ↦ g.only k u past.0 at (state_more b a (update_target u) f.includes state)
      ]

  abbrev all : List ℕ
  all = copies ++ more

  -- the registers of each part are among those of both, and no copies of the other part
  early : (h : Holder) → IsTrue (is_added b.enable (length a.regs) (length b.regs) copies h) → IsTrue (is_added c.enable (length a.regs) (length c.regs) all h)
  early (OfNet (Input k)) is = subst (λ (e : Bool). IsTrue (nat_lt k (if e then 2 else 1))) (sym g.includes.enable) is
  early (OfNet (Output k)) is = is
  early (OfNet (Wire k)) is = is
  early (OfNet (Reg k)) is =
      let low : length a.regs ≤ k = added_low (length a.regs) (length b.regs) copies k is in
      let high : k < length b.regs = added_high (length a.regs) (length b.regs) copies k is in
      is_added_one (length a.regs) (length c.regs) all k low (omega (arith, high, length_begins b.regs c.regs g.includes.regs))
      (λ h. elim (Contains-append_cases copies more k h) as (λ _. ⊥) [
        | inl old ↦ added_none (length a.regs) (length b.regs) copies k is old
        | inr new ↦ (let past = (All-contains (IsAdded c b) more k g.added new).beyond in omega (arith, past, high))
      ])
  early (OfArray x) is = is

  late : (h : Holder) → IsTrue (is_added c.enable (length b.regs) (length c.regs) more h) → IsTrue (is_added c.enable (length a.regs) (length c.regs) all h)
  late (OfNet (Input k)) is = is
  late (OfNet (Output k)) is = is
  late (OfNet (Wire k)) is = is
  late (OfNet (Reg k)) is =
      let low : length b.regs ≤ k = added_low (length b.regs) (length c.regs) more k is in
      let high : k < length c.regs = added_high (length b.regs) (length c.regs) more k is in
      is_added_one (length a.regs) (length c.regs) all k (omega (arith, low, length_begins a.regs b.regs f.includes.regs)) high
      (λ h. elim (Contains-append_cases copies more k h) as (λ _. ⊥) [
        | inl old ↦ (let under = (All-contains (IsAdded b a) copies k f.added old).there in omega (arith, under, low))
        | inr new ↦ added_none (length b.regs) (length c.regs) more k is new
      ])
  late (OfArray x) is = is

  takes_early : (u : Update) → TakesAdded b a copies u → TakesAdded c a all u
  takes_early u is = takes_wider c b (is_added b.enable (length a.regs) (length b.regs) copies) (is_added c.enable (length a.regs) (length c.regs) all) copies all g.includes early (λ r h. Contains-append_left copies more r h) u is

  takes_late : (u : Update) → TakesAdded c b more u → TakesAdded c a all u
  takes_late u is = takes_wider c c (is_added c.enable (length b.regs) (length c.regs) more) (is_added c.enable (length a.regs) (length c.regs) all) more all (Includes-refl c) late (λ r h. Contains-append_right copies more r h) u is

  pub adds_joined : AddsBuffer c a (before ++ after) (copies ++ more)
  adds_joined = record {
    includes = Includes-trans c b a g.includes f.includes;
    arrays = g.arrays ∙ ap (λ (l : List Shape). l ++ after) f.arrays ∙ append_assoc a.arrays before after;
    added = All-append (IsAdded c a) copies more (added_more c b a g.includes copies f.added) (added_since c b a f.includes more g.added);
    updated = λ free but. g.updated free (f.updated free but);
    only = only_joined;
    still = λ others free but. subst (λ (l : List ℕ). StillBut c l free) (append_assoc others copies more) (g.still (others ++ copies) free (f.still others free but));
    control = added_joined (TakesAdded c a all) c.updates b.updates a.updates g.includes.updates (added_weaker (TakesAdded c b more) (TakesAdded c a all) c.updates b.updates takes_late g.control) (added_weaker (TakesAdded b a copies) (TakesAdded c a all) b.updates a.updates takes_early f.control);
    levels = added_joined (SetsWithin c) c.updates b.updates a.updates g.includes.updates g.levels (added_weaker (SetsWithin b) (SetsWithin c) b.updates a.updates (sets_more c b g.includes) f.levels);
    reads_inside = added_joined (ReadsInside c) c.assigns b.assigns a.assigns g.includes.assigns g.reads_inside (added_weaker (ReadsInside b) (ReadsInside c) b.assigns a.assigns (λ x. inside_more c b g.includes (right_accesses x.right)) f.reads_inside);
    puts_inside = added_joined (PutsInside c) c.updates b.updates a.updates g.includes.updates g.puts_inside (added_weaker (PutsInside b) (PutsInside c) b.updates a.updates (λ u. inside_more c b g.includes (update_accesses u)) f.puts_inside);
    reads = reads_joined c b a (is_new a) g.includes (reads_weaker c b (is_new b) (is_new a) wider g.reads) f.reads;
  }

pub adds_none : (b : Netlist) → AddsBuffer b b [] []
adds_none b = record {
  includes = Includes-refl b;
  arrays = sym (append-nil b.arrays);
  added = All-nil (IsAdded b b);
  updated = λ free but. but;
  only = λ k u low at state. absurd (omega (arith, low, slice_get_within b.updates k u at));
  still = λ others free but. still_copies b others [] free but;
  control = added_same (TakesAdded b b []) b.updates b.updates refl;
  levels = added_same (SetsWithin b) b.updates b.updates refl;
  reads_inside = added_same (ReadsInside b) b.assigns b.assigns refl;
  puts_inside = added_same (PutsInside b) b.updates b.updates refl;
  reads = reads_none b b (is_new b) refl;
}

pub adds_logic : (new old : Netlist) → AddsLogic new old → AddsBuffer new old [] []
adds_logic new old is = record {
  includes = is.includes;
  arrays = is.wires.arrays ∙ sym (append-nil old.arrays);
  added = All-nil (IsAdded new old);
  updated = λ free but. but_wires new old free is.wires but;
  only = λ k u low at state. absurd (omega (arith, low, slice_get_within new.updates k u at, ap length is.wires.updates));
  still = λ others free but. still_copies new others [] free (still_wires new old others free is.includes is.wires but);
  control = added_same (TakesAdded new old []) new.updates old.updates is.wires.updates;
  levels = added_same (SetsWithin new) new.updates old.updates is.wires.updates;
  reads_inside = none_inside new old is.reads;
  puts_inside = added_same (PutsInside new) new.updates old.updates is.wires.updates;
  reads = none_reads new old (is_new old) is.reads;
}

pub adds_as : (c a : Netlist) (shapes other : List Shape) (copies : List ℕ) → shapes ≡ other → AddsBuffer c a shapes copies → AddsBuffer c a other copies
adds_as c a shapes other copies e is = subst (λ (l : List Shape). AddsBuffer c a l copies) e is

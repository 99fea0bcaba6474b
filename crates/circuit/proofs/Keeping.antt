-- What an image's frame tests add, where their counters are none of the copies.
use Rattle.std.proofs.Common.{◌≡◌, ℕ, suc, ◌<◌, List, ◌++◌, length, Option, None, Some, subst, inl, inr, arith}
use Rattle.std.specs.Prelude.{All, Contains, IfSome}
use Rattle.std.proofs.lemmas.List.Elements.{All-contains, Contains-append_cases}
use Rattle.dk_base.specs.Frames.{Size}
use Rattle.wiring.specs.declared.netlist.Net.{Net}
use Rattle.wiring.specs.declared.netlist.Net.TheVariants.{Reg}
use Rattle.wiring.specs.declared.netlist.Holder.{Holder}
use Rattle.wiring.specs.Netlist.{Netlist, IsDeclared}
use Rattle.net_build.specs.Includes.{Includes}
use Rattle.net_build.specs.Draft.{UpdatedBut}
use Rattle.net_build.specs.Runs.{NeverStops, StillBut}
use Rattle.net_build.specs.Control.{IsControlled, AddsNoReads}
use Rattle.line_buffer.specs.Buffers.{IsAdded}
use Rattle.edge_select.specs.declared.counters.Counters.{Counters}
use Rattle.edge_select.specs.declared.frame_tests.FrameTests.{FrameTests}
use Rattle.edge_select.specs.FrameTests.{AreCounters, AreFrameTests, AddsTests, ArePlainly, AreApart, IsApart}

-- what holds of added control for these copies
pub record AddsFor (new old : Netlist) (copies : List ℕ) : Type 0 where
  pub includes : Includes new old
  pub arrays : new.arrays ≡ old.arrays
  pub reads : AddsNoReads new old
  pub updated : (free : List Holder) → UpdatedBut old free → UpdatedBut new free
  pub still : (copies : List ℕ) (free : List Holder) → StillBut old copies free → StillBut new copies free
  pub stops : NeverStops old → NeverStops new
  pub control : IsControlled new copies

pub adds_for : (new old : Netlist) (now before : FrameTests) (copies : List ℕ) → AddsTests new old now before → IsControlled old copies → IsApart copies before → AddsFor new old copies
adds_for new old now before copies adds is apart = record {
  includes = adds.includes;
  arrays = adds.arrays;
  reads = adds.reads;
  updated = adds.updated;
  still = adds.still;
  stops = adds.stops;
  control = (adds.control copies (record { controlled = is; apart = apart })).controlled;
}

pub apart_now : (new old : Netlist) (now before : FrameTests) (copies : List ℕ) → AddsTests new old now before → IsControlled old copies → IsApart copies before → IsApart copies now
apart_now new old now before copies adds is apart = (adds.control copies (record { controlled = is; apart = apart })).apart

-- copies that are added later are no counters either
module _ (new old : Netlist) (size : Size) (copies more : List ℕ) (added : All (IsAdded new old) more) where
  not_more : (n : Net) (i r : ℕ) → n ≡ Reg i → IsDeclared old n → n ≡ Reg r → Contains more r → ⊥
  not_more n i r e there f c =
      let low : r < length old.regs = subst (IsDeclared old) f there in
      let high = (All-contains (IsAdded new old) more r added c).beyond in
      omega (arith, low, high)

  plainly : (k : Counters) → AreCounters old size k → ArePlainly copies k → ArePlainly (copies ++ more) k
  plainly k is plain = record {
    column = λ r e c. elim (Contains-append_cases copies more r c) as (λ _. ⊥) [ inl h ↦ plain.column r e h | inr h ↦ not_more k.pixel.column is.first r is.next.column_at is.pixel.column.declared e h ];
    row = λ r e c. elim (Contains-append_cases copies more r c) as (λ _. ⊥) [ inl h ↦ plain.row r e h | inr h ↦ not_more k.pixel.row (suc is.first) r is.next.row_at is.pixel.row.declared e h ];
  }

  some_plainly : (o : Option Counters) → IfSome o (AreCounters old size) → AreApart copies o → AreApart (copies ++ more) o
  some_plainly None is plain = plain
  some_plainly (Some k) is plain = plainly k is plain

  pub apart_more : (tests : FrameTests) → AreFrameTests old size tests → IsApart copies tests → IsApart (copies ++ more) tests
  apart_more tests is apart = some_plainly tests.counters is.counters apart

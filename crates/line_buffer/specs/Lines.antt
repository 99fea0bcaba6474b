-- Arrays as delay lines: a word is read and then written in each clock, at an index that turns; or it is read one clock ahead, into a register.
use Rattle.std.specs.Prelude.{◌≡◌, ℕ, ◌-◌, ◌%◌, ◌≤◌, Bool, false, IsTrue, List, length, slice_get, slice_set, slice_index_or, Some, [], Contains}
use Rattle.wiring.specs.declared.right.Atom.TheVariants as atom
use Rattle.wiring.specs.declared.netlist.Net.{Net}
use Rattle.wiring.specs.declared.netlist.Net.TheVariants.{Reg}
use Rattle.wiring.specs.declared.netlist.Shape.{Shape}
use Rattle.wiring.specs.declared.netlist.Holder.TheVariants.{OfNet}
use Rattle.wiring.specs.declared.netlist.Update.TheVariants.{Set, Put}
use Rattle.wiring.specs.Netlist.{Netlist}
use Rattle.wiring.specs.Snapshot.{Contents, IsNext, net_value, word_value}
use Rattle.wiring.specs.History.{was_reset, is_held, counted}
use Rattle.net_build.specs.Includes.{InEach, AtEachEdge}
use Rattle.net_build.specs.Draft.{IsNet}
use Rattle.net_build.specs.Runs.{InEachRun, StaysBelow, IsReady}
use Rattle.net_build.specs.declared.counters.Indices.{Indices}
use Rattle.net_build.specs.Counters.{Counts, unless_held, loaded, IsLoaded, Cycles}
use Rattle.net_build.specs.Control.{is_control}
use Rattle.net_build.specs.Depth.{IsWithin}
use Rattle.line_buffer.specs.Depths.{line_operators, ahead_operators}
use Rattle.line_buffer.specs.Fills.{IsWordAt, IsUnlessHeld, IsWordOf, Takes}

-- since a reset the net is the clock's number modulo n
abbrev pub IsIndex : Netlist → ℕ → Net → Type 0
IsIndex part n net = Counts part (λ t. t % n) net

-- The array has n words. In each counted clock the one at the index is read, which is `to`, and then takes the value of `from`: what goes in comes out n clocks later. In a held clock it takes what it showed.
pub record IsDelayLine (b : Netlist) (array words : ℕ) (from to : Net) : Type 0 where
  pub shape : Shape
  pub there : slice_get b.arrays array ≡ Some shape
  pub deep : shape.depth ≡ words
  pub index : Net
  pub counter : IsIndex b words index
  pub control : IsWithin b (is_control b.enable) line_operators (OfNet index)
  pub read : IsWordAt b array index to
  pub gives : InEach b (λ m s. net_value s to ≡ word_value s array (net_value s index))
  pub stored : Net
  pub value : IsUnlessHeld b to from stored
  pub put : Contains b.updates (Put array (atom.Net index) (atom.Net stored))
  pub takes : InEach b (λ m s. net_value s stored ≡ unless_held b.enable (net_value s to) (net_value s from) s)
  pub edge : AtEachEdge b (λ s next. slice_get next.arrays array ≡ Some (slice_set (slice_index_or s.contents.arrays array []) (net_value s index) (net_value s stored)))

-- the indices of an array of n words: that of this clock's write, and that of the next counted clock
pub record AreIndices (b : Netlist) (words : ℕ) (at : Indices) : Type 0 where
  pub cycles : Cycles b (words - 1) at.now at.next
  pub now_net : IsNet b at.now
  pub next_net : IsNet b at.next
  pub now_below : StaysBelow b words at.now
  pub next_below : StaysBelow b words at.next
  pub now_control : IsWithin b (is_control b.enable) line_operators (OfNet at.now)
  pub next_control : IsWithin b (is_control b.enable) ahead_operators (OfNet at.next)

-- The array has n words, at least 2, and the register of the number `copy` copies the word at the index. In each clock that is not held the word at the next index is read, into the copy. In a counted clock the word at the index takes the value of `from`, in a held clock the copy.
pub record IsBlockLine (b : Netlist) (array words : ℕ) (from : Net) (copy : ℕ) : Type 0 where
  pub shape : Shape
  pub there : slice_get b.arrays array ≡ Some shape
  pub deep : shape.depth ≡ words
  pub some : 2 ≤ words
  pub at : Indices
  pub indices : AreIndices b words at
  pub ahead : Net
  pub read : IsWordAt b array at.next ahead
  pub reads : InEach b (λ m s. net_value s ahead ≡ word_value s array (net_value s at.next))
  pub taken : Net
  pub loads : IsLoaded b (Reg copy) ahead taken
  pub takes : InEach b (λ m s. net_value s taken ≡ loaded b.enable (net_value s (Reg copy)) (net_value s ahead) s)
  pub set : Contains b.updates (Set copy (atom.Net taken))
  pub copies : AtEachEdge b (λ s next. slice_get next.regs copy ≡ Some (net_value s taken))
  pub stored : Net
  pub value : IsUnlessHeld b (Reg copy) from stored
  pub stores : InEach b (λ m s. net_value s stored ≡ unless_held b.enable (net_value s (Reg copy)) (net_value s from) s)
  pub put : Contains b.updates (Put array (atom.Net at.now) (atom.Net stored))
  pub edge : AtEachEdge b (λ s next. slice_get next.arrays array ≡ Some (slice_set (slice_index_or s.contents.arrays array []) (net_value s at.now) (net_value s stored)))

-- What a delay line does. In each clock after a reset clock, t being its number, `to` is word t mod n of the array. In a counted clock this word then takes the value of `from`; in a held clock the words stay, after a reset if some registers are copies. `to` is a word of the array, which takes `from`.
pub record Delays (b : Netlist) (direct : ℕ → Bool) (copies : List ℕ) (array words : ℕ) (from to : Net) : Type 0 where
  pub shape : Shape
  pub there : slice_get b.arrays array ≡ Some shape
  pub deep : shape.depth ≡ words
  pub gives : InEachRun b (λ m before c s. IsTrue (was_reset before) → c.reset ≡ false → net_value s to ≡ word_value s array (length (counted m before) % words))
  pub takes : InEachRun b (λ m before c s. IsTrue (was_reset before) → c.reset ≡ false → is_held m c ≡ false → (next : Contents) → IsNext m s next →
      slice_index_or next.arrays array [] ≡ slice_set (slice_index_or s.contents.arrays array []) (length (counted m before) % words) (net_value s from))
  pub waits : InEachRun b (λ m before c s. IsReady copies before → IsTrue (is_held m c) → (next : Contents) → IsNext m s next → slice_index_or next.arrays array [] ≡ slice_index_or s.contents.arrays array [])
  pub word : IsWordOf b direct copies array to
  pub filled : Takes b direct copies array from

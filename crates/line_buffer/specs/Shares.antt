-- What is added with the counters of arrays, which arrays of the same number of words share.
use Rattle.std.specs.Prelude.{◌≡◌, ℕ, ◌+◌, ◌-◌, ◌<◌, ◌≤◌, Bool, false, true, List, [], ◌∷◌, ◌++◌, length, Result, MatchResult}
use Rattle.wiring.specs.declared.right.Atom.{Atom}
use Rattle.wiring.specs.declared.netlist.Net.{Net}
use Rattle.wiring.specs.declared.netlist.Net.TheVariants.{Reg}
use Rattle.wiring.specs.declared.netlist.Shape.{Shape}
use Rattle.wiring.specs.Netlist.{Netlist, net_width}
use Rattle.net_build.specs.Includes.{Includes}
use Rattle.net_build.specs.Draft.{IsNet}
use Rattle.net_build.specs.Registers.{register_bits, count_bits, with_new}
use Rattle.net_build.specs.Indices.{read_indices, put_indices}
use Rattle.net_build.specs.declared.counters.Indices.{Indices}
use Rattle.line_buffer.specs.declared.chains.Tap.{Tap}
use Rattle.line_buffer.specs.declared.lines.DelayLine.{DelayLine}
use Rattle.line_buffer.specs.declared.sharing.Turns.{Turns}
use Rattle.line_buffer.specs.Places.{Place, chain_place, chain_shapes, ring_place, ring_shapes}
use Rattle.line_buffer.specs.Buffers.{AddsBuffer, AreMadeOfBuffer, IsBuffer, IsDelay}
use Rattle.line_buffer.specs.Depths.{line_operators, ring_operators}
use Rattle.line_buffer.specs.Fills.{AreFilled}
use Rattle.line_buffer.specs.Indices.{AreReadAndPut, IsReadOnce}
use Rattle.line_buffer.specs.Lines.{AreIndices, IsBlockLine}
use Rattle.line_buffer.specs.AddedLines.{AddsLine}
use Rattle.line_buffer.specs.Chains.{IsChain, IsSegment, IsStep}
use Rattle.line_buffer.specs.SharedCounters.{AreTurns, CountsTurns, IsTurn, block_words, line_words, turn_bits}

-- a function that adds something: where memory runs out, the old netlist stays as well
abbrev pub Makes : {T E : Type 0} → (new old : Netlist) → Result T E → (T → Type 0) → Type 0
Makes new old result P = MatchResult result P (λ e. Includes new old)

-- a new index of arrays of this many words
pub record AddsTurn (new old : Netlist) (words : ℕ) (net : Net) : Type 0 where
  -- no array is added
  pub adds : AddsBuffer new old [] []
  -- the index goes through the words
  pub turn : IsTurn new words net
  -- its register has the bits of a count up to the last of them
  pub bits : register_bits new ≡ register_bits old + count_bits (words - 1)

-- new indices of arrays of this many words that are read one clock ahead
pub record AddsTurns (new old : Netlist) (words : ℕ) (at : Indices) : Type 0 where
  -- no array is added
  pub adds : AddsBuffer new old [] []
  -- the indices go through the words, one a clock ahead of the other
  pub indices : AreIndices new words at
  -- their register has the bits of a count up to the last of them
  pub bits : 2 ≤ words → register_bits new ≡ register_bits old + count_bits (words - 1)

-- The index of arrays of this many words is among the counters: it was, or is added.
pub record SharesTurn (new old : Netlist) (now before : Turns) (words : ℕ) (net : Net) : Type 0 where
  -- no array is added
  pub adds : AddsBuffer new old [] []
  -- the index goes through the words
  pub turn : IsTurn new words net
  -- each counter is one of its number of words
  pub turns : AreTurns new now
  -- this number of words is listed
  pub lines : line_words now ≡ with_new (line_words before) words
  -- the counters of the other kind are as before
  pub blocks : block_words now ≡ block_words before
  -- registers are added only for it
  pub bits : register_bits new + turn_bits before ≡ register_bits old + turn_bits now

-- the same of the indices of arrays that are read one clock ahead
pub record SharesTurns (new old : Netlist) (now before : Turns) (words : ℕ) (at : Indices) : Type 0 where
  -- no array is added
  pub adds : AddsBuffer new old [] []
  -- the indices go through the words, one a clock ahead of the other
  pub indices : AreIndices new words at
  -- each counter is one of its number of words
  pub turns : AreTurns new now
  -- the counters of the other kind are as before
  pub lines : line_words now ≡ line_words before
  -- this number of words is listed
  pub blocks : block_words now ≡ with_new (block_words before) words
  -- registers are added only for them
  pub bits : 2 ≤ words → register_bits new + turn_bits before ≡ register_bits old + turn_bits now

-- A delay line for the net `value` is added, whose counter is among these.
pub record SharesLine (new old : Netlist) (now before : Turns) (width words : ℕ) (value : Net) (made : DelayLine) : Type 0 where
  -- each counter is one of its number of words
  pub turns : AreTurns new now
  -- the array and its word
  pub line : AddsLine new old width words value made
  -- registers are added only for the counter
  pub counts : CountsTurns new old now before (λ words. false) ((record { width = width; depth = words }) ∷ [])

-- A delay line in block memory is added: one array of this many words, and the register that copies its word, which is the net.
pub record AddsBlockLine (new old : Netlist) (width words : ℕ) (value net : Net) : Type 0 where
  -- the register is the only copy
  pub adds : AddsBuffer new old ((record { width = width; depth = words }) ∷ []) (length old.regs ∷ [])
  -- the net's value goes in, and the register holds it later
  pub line : IsBlockLine new (length old.arrays) words value (length old.regs)
  -- the array is read and put once, if arrays of as many words are long
  pub once : (long : ℕ → Bool) → long words ≡ true → AreReadAndPut long new old
  -- the net is the register
  pub copy : net ≡ Reg (length old.regs)
  -- which is as wide as a word, and no other is added
  pub regs : new.regs ≡ old.regs ++ width ∷ []
  -- the net is there
  pub there : IsNet new net
  -- it is as wide as a word
  pub wide : net_width new net ≡ width

-- A segment of this many words is added, whose counter is among these.
pub record SharesSegment (new old : Netlist) (now before : Turns) (width words : ℕ) (long : (words : ℕ) → Bool) (from net : Net) : Type 0 where
  -- each counter is one of its number of words
  pub turns : AreTurns new now
  -- the array and the net of its word
  pub segment : IsSegment new old width words long from net
  -- registers are added only for the counter and the copy
  pub counts : CountsTurns new old now before long ((record { width = width; depth = words }) ∷ [])
  -- the net is there
  pub there : IsNet new net
  -- it is as wide as a word
  pub wide : net_width new net ≡ width

-- One age of a chain is added: a segment, or nothing where the age is that of the tap before.
pub record SharesStep (new old : Netlist) (now before : Turns) (width : ℕ) (long : (words : ℕ) → Bool) (from : Tap) (age : ℕ) (to : Tap) : Type 0 where
  -- the old netlist stays
  pub includes : Includes new old
  -- each counter is one of its number of words
  pub turns : AreTurns new now
  -- the tap of this age
  pub step : IsStep new old width long from age to
  -- no register is added for the same age
  pub stays : age ≡ from.age → CountsTurns new old now before long []
  -- only those of a segment are for a greater one
  pub goes : from.age < age → CountsTurns new old now before long ((record { width = width; depth = age - from.age }) ∷ [])

-- A buffer is added as a chain, whose counters are among these.
pub record SharesChain (new old : Netlist) (now before : Turns) (width : ℕ) (long : (words : ℕ) → Bool) (value : Net) (ages : List ℕ) (taps : List Net) : Type 0 where
  -- the old netlist stays
  pub includes : Includes new old
  -- each counter is one of its number of words
  pub turns : AreTurns new now
  -- the arrays and the taps
  pub chain : IsChain new old width long value ages taps
  -- registers are added only for the counters and the copies
  pub counts : CountsTurns new old now before long (chain_shapes width ages)

-- A buffer without copies is added, of arrays of these shapes, in which an age is at its place. Each path of assigns to a tap has at most this number of operators. `each` holds of the indices at which an array is read and put.
pub record SharesBuffer (new old : Netlist) (now before : Turns) (shapes : List Shape) (place : (age t : ℕ) → Place) (operators : ℕ) (each : (reads puts : List (Atom Net)) → Type 0) (value : Net) (ages : List ℕ) (taps : List Net) : Type 0 where
  -- the old netlist stays
  pub includes : Includes new old
  -- each counter is one of its number of words
  pub turns : AreTurns new now
  -- the arrays, and registers and wires that take in no data
  pub adds : AddsBuffer new old shapes []
  -- at which indices each array is read and put
  pub once : (x : ℕ) → length old.arrays ≤ x → x < length new.arrays → each (read_indices new x) (put_indices new x)
  -- each tap is the word at its place
  pub buffer : IsBuffer new [] place ages taps value
  -- what goes in comes out as many clocks later as the age is
  pub delay : IsDelay new place ages taps value
  -- the taps are made of the arrays, with few operators
  pub made : AreMadeOfBuffer new operators (length old.arrays) (length old.arrays + length shapes) ages taps
  -- each array takes the net or a word of the array before it
  pub fills : AreFilled new (λ x. true) [] (length old.arrays) (length old.arrays + length shapes) value
  -- registers are added only for the counters
  pub counts : CountsTurns new old now before (λ words. false) shapes

-- as a ring
abbrev pub AddsRing : (new old : Netlist) → (now before : Turns) → (width : ℕ) → (value : Net) → (ages : List ℕ) → (taps : List Net) → Type 0
AddsRing new old now before width value ages taps =
    SharesBuffer new old now before (ring_shapes width ages) (ring_place (length old.arrays) ages) ring_operators (λ reads puts. Unit {0}) value ages taps

-- as a chain in which each array is read and put at one index
abbrev pub AddsChain : (new old : Netlist) → (now before : Turns) → (width : ℕ) → (value : Net) → (ages : List ℕ) → (taps : List Net) → Type 0
AddsChain new old now before width value ages taps =
    SharesBuffer new old now before (chain_shapes width ages) (chain_place (length old.arrays) ages) line_operators IsReadOnce value ages taps

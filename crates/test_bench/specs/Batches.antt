-- Room for a batch of clocks.
use Rattle.std.specs.Prelude.{◌≡◌, ℕ, ◌+◌, ◌*◌, ◌≤◌, ◌++◌, List, length, vec_capacity, Vec}
use Rattle.std.specs.declared.alloc.Global.{Global}
use Rattle.wiring.specs.Clock.{Clock}
use Rattle.batch_sim.specs.Called.{clocks_with}
use Rattle.test_bench.specs.declared.batch.TheConstants.{BATCH_PIXELS}
use Rattle.test_bench.specs.declared.batch.Batch.{Batch}

-- a batch of pixels, and a held clock after each of them
pub record HasBatch (inputs outputs : ℕ) (batch : Batch) : Type 0 where
  pub enables : 2 * BATCH_PIXELS ≤ vec_capacity batch.enables
  pub dins : 2 * BATCH_PIXELS * inputs ≤ vec_capacity batch.dins
  pub outs : length batch.outs.items ≡ 2 * BATCH_PIXELS * outputs

-- The room for clocks is as it was, and so are the outputs.
pub record KeepsRoom (old new : Batch) : Type 0 where
  pub enables : vec_capacity new.enables ≡ vec_capacity old.enables
  pub dins : vec_capacity new.dins ≡ vec_capacity old.dins
  pub outs : new.outs.items ≡ old.outs.items

-- There is room for this many more clocks, of this many dins each.
pub record HasPlacesFor (more inputs : ℕ) (batch : Batch) : Type 0 where
  -- for their ports en
  pub enables : length batch.enables.items + more ≤ vec_capacity batch.enables
  -- and for their dins
  pub dins : length batch.dins.items + more * inputs ≤ vec_capacity batch.dins
  -- each clock so far has all dins
  pub whole : length batch.dins.items ≡ length batch.enables.items * inputs

-- A batch that was given clocks, of this many dins each.
pub record IsGiven (inputs most : ℕ) (old new : Batch) : Type 0 where
  -- it has at most `most`
  pub count : length new.enables.items ≤ most
  -- each has all dins
  pub whole : length new.dins.items ≡ length new.enables.items * inputs
  -- there is room for as many as before
  pub room : KeepsRoom old new

-- the clocks of a batch with this many dins
abbrev pub clocks_in : (inputs : ℕ) → Batch → List Clock
clocks_in inputs batch = clocks_with inputs batch.enables.items batch.dins.items

-- Numbers that were added at the end, with no memory taken.
pub record Appends (old new : Vec ℕ Global) (more : List ℕ) : Type 0 where
  -- they follow those before
  pub is : new.items ≡ old.items ++ more
  -- there is room for as many as before
  pub room : vec_capacity new ≡ vec_capacity old

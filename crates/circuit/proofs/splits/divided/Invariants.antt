use Rattle.std.proofs.Common.{◌++◌, ◌<◌, ◌≤◌, ℕ, List, drop, length, Contains}
use Rattle.std.specs.Prelude.{slice_index}
use Rattle.circuit.specs.Divided.{segments, AreDivided, AreLong}
use Rattle.circuit.proofs.splits.divided.Given as goal

abbrev pub invariant-loop-age : goal.invariant-loop-age
invariant-loop-age l = record {
  below : l.age-index < length l.ages → l.low ≤ slice_index l.ages l.age-index;
  among : (words : ℕ) → Contains (segments l.low (drop l.age-index l.ages)) words → Contains (segments 0 l.ages) words;
  goes_on : (all rest : List ℕ) → AreLong l.least all l.lengths → ((words : ℕ) → Contains (segments 0 l.ages) words → Contains all words)
      → AreDivided l.least all l.low (drop l.age-index l.ages) rest → AreDivided l.least all 0 l.ages (l.split.items ++ rest);
}

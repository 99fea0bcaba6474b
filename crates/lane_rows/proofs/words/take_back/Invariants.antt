use Rattle.std.proofs.Common.{map, ◌≡◌, ℕ, ◌-◌, List, length}
use Rattle.lane_rows.specs.Words.{words_after, IsReadUpTo, AreInside}
use Rattle.lane_rows.proofs.words.take_back.Given as goal

abbrev pub invariant-loop-done : goal.invariant-loop-done
invariant-loop-done g l = (length l.words ≡ length l.initial.words) × ((before value : List ℕ) → l.initial.words ≡ words_after before (map g.I.Lane.value l.index) value (length l.index) → AreInside (length l.index) (map g.I.Lane.value l.index) (length before) → IsReadUpTo (length l.index) before l.lost (map g.I.Lane.value l.index) (map g.I.Lane.value l.index) value → l.words ≡ words_after before (map g.I.Lane.value l.index) value (length l.index - l.done))

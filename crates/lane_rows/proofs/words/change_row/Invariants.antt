use Rattle.std.proofs.Common.{map, ◌≡◌, length}
use Rattle.lane_rows.specs.Words.{words_after, IsReadUpTo}
use Rattle.lane_rows.proofs.words.change_row.Given as goal

abbrev pub invariant-loop-t : goal.invariant-loop-t
invariant-loop-t g l = (length l.lost ≡ length l.initial.lost) × (length l.words ≡ length l.initial.words) × (l.words ≡ words_after l.initial.words (map g.I.Lane.value l.index) (map g.V.Lane.value l.value) l.t) × IsReadUpTo l.t l.initial.words l.lost (map g.I.Lane.value l.index) (map g.I.Lane.value l.index) (map g.V.Lane.value l.value)

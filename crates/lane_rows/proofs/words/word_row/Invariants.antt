use Rattle.std.proofs.Common.{map, ◌≡◌, length}
use Rattle.lane_rows.specs.Words.{words_after, IsReadUpTo}
use Rattle.lane_rows.proofs.words.word_row.Given as goal

abbrev pub invariant-loop-t : goal.invariant-loop-t
invariant-loop-t g l = (length l.to ≡ length l.initial.to) × (length l.lost ≡ length l.initial.to) × (length l.words ≡ length l.initial.words) × (l.words ≡ words_after l.initial.words (map g.I.Lane.value l.index) (map g.V.Lane.value l.value) l.t) × IsReadUpTo l.t l.initial.words l.to (map g.I.Lane.value l.read) (map g.I.Lane.value l.index) (map g.V.Lane.value l.value) × IsReadUpTo l.t l.initial.words l.lost (map g.I.Lane.value l.index) (map g.I.Lane.value l.index) (map g.V.Lane.value l.value)

use Rattle.std.proofs.Common.{◌≡◌, ℕ, ◌<◌, ◌≤◌, length, map}
use Rattle.value_rows.specs.Rows.{entry}
use Rattle.value_rows.proofs.singles.single_row.Given as goal

abbrev pub invariant-loop-k : goal.invariant-loop-k
invariant-loop-k g l = record {
  long : length l.to ≡ length l.fn.to;
  done : (j : ℕ) → j < l.k → entry (map g.L.Element.worth l.to) j ≡ g.S.Single.value l.single (entry (map g.L.Element.worth l.fn.to) j);
  rest : (j : ℕ) → l.k ≤ j → entry (map g.L.Element.worth l.to) j ≡ entry (map g.L.Element.worth l.fn.to) j;
}

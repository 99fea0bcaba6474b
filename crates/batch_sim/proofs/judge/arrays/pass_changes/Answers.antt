use Rattle.std.proofs.Common.{rules}
use Rattle.batch_sim.proofs.judge.arrays.pass_changes.Goals as goal

pub returns-then-are_same : goal.returns-then-are_same
returns-then-are_same g c = record {
  passed = λ _. record {
    reads = search rules;
    writes = search rules;
    to = c.change_row.new.lost;
    row = c.change_row.ensures.lost;
    same = search rules;
    words = c.change_row.ensures.words;
    lost_row = λ t l only. c.change_row.ensures.lost t l;
  };
  back = search rules;
}

use Rattle.std.proofs.Common.{rules}
use Rattle.batch_sim.proofs.judge.arrays.pass_words.Goals as goal

pub returns-then-are_same : goal.returns-then-are_same
returns-then-are_same g c = record {
  passed = λ _. record {
    reads = search rules;
    writes = search rules;
    to = c.word_row.new.to;
    row = c.word_row.ensures.row;
    same = search rules;
    words = c.word_row.ensures.words;
    lost_row = λ t l only. c.word_row.ensures.lost t l;
  };
  back = search rules;
}

use Rattle.trace_bench.proofs.Texts.{front_more, whole_front}
use Rattle.trace_bench.proofs.laws.trace_grows_law.Goals as goal

pub returns-clause-more : goal.returns-clause-more
returns-clause-more c = front_more

pub returns-clause-end : goal.returns-clause-end
returns-clause-end c = whole_front

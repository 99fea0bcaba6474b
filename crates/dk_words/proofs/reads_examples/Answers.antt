use Rattle.dk_words.proofs.ExampleLemmas.{reads_examples}
use Rattle.dk_words.proofs.reads_examples.Goals as goal

pub returns : goal.returns
returns c = reads_examples

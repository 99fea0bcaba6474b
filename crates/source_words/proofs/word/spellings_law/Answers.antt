use Rattle.source_words.proofs.Spellings.{spelt, listed}
use Rattle.source_words.proofs.word.spellings_law.Goals as goal

pub returns : goal.returns
returns c = record { read = spelt; listed = listed }

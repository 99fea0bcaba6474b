use Rattle.dk_words.proofs.NumberLemmas.{number-padded, padded-number}
use Rattle.dk_words.proofs.decimals_are_read_law.Goals as goal

pub returns-clause-read : goal.returns-clause-read
returns-clause-read c = number-padded

pub returns-clause-only : goal.returns-clause-only
returns-clause-only c = padded-number

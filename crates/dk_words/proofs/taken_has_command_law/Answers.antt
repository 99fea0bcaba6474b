use Rattle.dk_words.proofs.TakenLemmas.{taken_has_command}
use Rattle.dk_words.proofs.taken_has_command_law.Goals as goal

pub returns : goal.returns
returns c = taken_has_command

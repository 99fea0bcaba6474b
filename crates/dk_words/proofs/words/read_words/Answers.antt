use Rattle.dk_words.proofs.ReadLemmas.{ok_is_taken, err_is_refused}
use Rattle.dk_words.proofs.words.read_words.Goals as goal

pub returns-clause-taken : goal.returns-clause-taken
returns-clause-taken c = ok_is_taken c.try_get_matches_from.result _ _ c.in_ok-program_command.ensures c.try_get_matches_from.ensures.kinds

pub returns-clause-refused : goal.returns-clause-refused
returns-clause-refused c = err_is_refused c.try_get_matches_from.result _ _ c.in_ok-program_command.ensures c.try_get_matches_from.ensures.passes

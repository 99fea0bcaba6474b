use Rattle.dk_parser.proofs.TypeWords.{type_word_is, word_of}
use Rattle.dk_parser.proofs.Ending.{one_program, no_fault}
use Rattle.dk_parser.proofs.Total.{some}
use Rattle.dk_parser.proofs.Exclusion.{one_fault}
use Rattle.dk_parser.proofs.whole.one_judgement_law.Goals as goal

pub returns : goal.returns
returns c = record { program = one_program; none_beside = no_fault; one_fault = one_fault; some = some; type_words = λ bytes t. (type_word_is bytes t, word_of bytes t) }

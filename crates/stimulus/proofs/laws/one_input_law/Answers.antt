use Rattle.stimulus.proofs.Inputs.{one_reading, fits_apart, one_fault}
use Rattle.stimulus.proofs.laws.one_input_law.Goals as goal

pub returns-clause-rounds : goal.returns-clause-rounds
returns-clause-rounds c = λ widths some bytes s t a b x y. one_reading c.one_answer_law.ensures.header widths some bytes c.one_file_law.ensures.rounds s t a b x y

pub returns-clause-apart : goal.returns-clause-apart
returns-clause-apart c = λ widths some bytes s a f x y. fits_apart c.one_answer_law.ensures.header widths some bytes c.one_file_law.ensures.apart s a f x y

pub returns-clause-fault : goal.returns-clause-fault
returns-clause-fault c = λ widths some bytes f g x y. one_fault c.one_answer_law.ensures.header widths some bytes c.one_file_law.ensures.fault f g x y

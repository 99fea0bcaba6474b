use Rattle.pgm_rounds.proofs.Takings.{one_rounds, no_fault, one_fault}
use Rattle.pgm_rounds.proofs.laws.one_file_law.Goals as goal

pub returns-clause-rounds : goal.returns-clause-rounds
returns-clause-rounds c = λ ports some bytes a b f g.
    one_rounds c.one_reading_law.ensures.images c.one_reading_law.ensures.files c.one_answer_law.ensures.header c.one_answer_law.ensures.raster ports bytes c.one_cut_law.ensures some a b f g

pub returns-clause-apart : goal.returns-clause-apart
returns-clause-apart c = λ ports some bytes rounds f file x.
    no_fault c.one_reading_law.ensures.images c.one_reading_law.ensures.files c.one_answer_law.ensures.header c.one_answer_law.ensures.raster ports bytes some rounds f file x

pub returns-clause-fault : goal.returns-clause-fault
returns-clause-fault c = λ ports some bytes f g x y.
    one_fault c.one_reading_law.ensures.images c.one_reading_law.ensures.files c.one_answer_law.ensures.header c.one_answer_law.ensures.raster ports bytes f g x y

use Rattle.dk_compile.proofs.Once.{text_one}
use Rattle.dk_compile.proofs.Counts.{accepted_of, same_reads}
use Rattle.dk_compile.proofs.Apart.{apart}
use Rattle.dk_compile.proofs.Agreed.{agree}
use Rattle.dk_compile.proofs.Total.{judged}
use Rattle.dk_compile.proofs.laws.one_source_law.Goals as goal

pub returns-clause-program : goal.returns-clause-program
returns-clause-program c text p q h k = text_one c.one_reading_law.ensures.tokens c.one_judgement_law.ensures.program c.one_typing_law.ensures.typing text p q h k

pub returns-clause-apart : goal.returns-clause-apart
returns-clause-apart c text p f ok is =
    apart c.one_reading_law.ensures.tokens c.one_reading_law.ensures.either c.one_judgement_law.ensures.program c.one_judgement_law.ensures.none_beside c.one_typing_law.ensures.typing c.one_typing_law.ensures.either text p f ok is

pub returns-clause-fault : goal.returns-clause-fault
returns-clause-fault c text f g is of =
    agree c.one_reading_law.ensures.tokens c.one_reading_law.ensures.fault c.one_reading_law.ensures.either c.one_judgement_law.ensures.program c.one_judgement_law.ensures.one_fault c.one_judgement_law.ensures.none_beside
    c.one_typing_law.ensures.typing c.one_typing_law.ensures.fault c.one_typing_law.ensures.either text f g is of

pub returns-clause-accepted : goal.returns-clause-accepted
returns-clause-accepted c = accepted_of

pub returns-clause-reads : goal.returns-clause-reads
returns-clause-reads c text p ir s accepted form stencils = same_reads p ir form s accepted.reads stencils accepted.are_reads

pub returns-clause-some : goal.returns-clause-some
returns-clause-some c = judged c.one_reading_law.ensures.some c.faithful_law.ensures c.one_judgement_law.ensures.some c.one_typing_law.ensures.some

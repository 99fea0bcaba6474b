use Rattle.dk_compile.proofs.Stenciled.{text_stencils}
use Rattle.dk_compile.proofs.AtAge.{planned_accepted, system_once, apart_at, agree_at}
use Rattle.dk_compile.proofs.laws.one_at_age_law.Goals as goal

pub returns-clause-system : goal.returns-clause-system
returns-clause-system c text age p q a b s t one other =
    system_once c.one_source_law.ensures.accepted (text_stencils c.one_source_law.ensures.program c.one_answer_law.ensures.images c.one_answer_law.ensures.reads) c.one_source_law.ensures.apart c.one_source_law.ensures.fault c.one_limit_law.ensures.apart c.one_limit_law.ensures.fault
    text age p q a b s t one other

pub returns-clause-accepted : goal.returns-clause-accepted
returns-clause-accepted c text age p ir s x plan is = planned_accepted c.one_source_law.ensures.accepted text age p ir s x plan is

pub returns-clause-apart : goal.returns-clause-apart
returns-clause-apart c text age p f ok is =
    apart_at c.one_source_law.ensures.accepted (text_stencils c.one_source_law.ensures.program c.one_answer_law.ensures.images c.one_answer_law.ensures.reads) c.one_source_law.ensures.apart c.one_source_law.ensures.fault c.one_limit_law.ensures.apart c.one_limit_law.ensures.fault
    text age p f ok is

pub returns-clause-fault : goal.returns-clause-fault
returns-clause-fault c text age f g x y =
    agree_at c.one_source_law.ensures.accepted (text_stencils c.one_source_law.ensures.program c.one_answer_law.ensures.images c.one_answer_law.ensures.reads) c.one_source_law.ensures.apart c.one_source_law.ensures.fault c.one_limit_law.ensures.apart c.one_limit_law.ensures.fault
    text age f g x y

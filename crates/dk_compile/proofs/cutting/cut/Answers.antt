use Rattle.dk_types.specs.Typed.{typing_of}
use Rattle.dk_compile.proofs.cutting.cut.Goals as goal

pub cut_to-requires : goal.cut_to-requires
cut_to-requires c =
    let old = c.in_ok-old.old in
    let is = c.in_ok-old.ensures.planned in
    let at = c.one_at_age_law.ensures.accepted c.args.source.now 0 (typing_of old.program) old.ir old.system old.solution old.plan is in
    record { form = record { accepted = at.accepted; form = is.has.front.form } }

pub returns-clause-good : goal.returns-clause-good
returns-clause-good c =
    let old = c.in_ok-old.old in
    (typing_of old.program, c.one_at_age_law.ensures.accepted c.args.source.now 0 (typing_of old.program) old.ir old.system old.solution old.plan c.in_ok-old.ensures.planned)

use Rattle.dk_types.specs.Typed.{typing_of}
use Rattle.dk_compile.proofs.Narrowed.{planned_form, planned_own, planned_bits}
use Rattle.dk_compile.proofs.narrowing.formed.Goals as goal

pub returns-clause-form : goal.returns-clause-form
returns-clause-form c =
    let found = c.in_ok-found.found in
    let p = typing_of found.program in
    let is = c.in_ok-found.ensures.planned in
    let at = c.one_at_age_law.ensures.accepted c.args.text.now 0 p found.ir found.system found.solution found.plan is in
    planned_form c.args.text.now p found.ir found.system found.solution found.plan at is

pub returns-clause-least : goal.returns-clause-least
returns-clause-least c =
    let found = c.in_ok-found.found in
    planned_bits c.args.text.now (typing_of found.program) found.ir found.system found.solution found.plan c.in_ok-found.ensures.planned

pub returns-clause-good : goal.returns-clause-good
returns-clause-good c =
    let found = c.in_ok-found.found in
    let p = typing_of found.program in
    (p, c.one_at_age_law.ensures.accepted c.args.text.now 0 p found.ir found.system found.solution found.plan c.in_ok-found.ensures.planned)

pub returns-clause-own : goal.returns-clause-own
returns-clause-own c =
    let found = c.in_ok-found.found in
    planned_own c.args.text.now (typing_of found.program) found.ir found.system found.solution found.plan c.in_ok-found.ensures.planned

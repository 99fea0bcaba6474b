use Rattle.dk_types.specs.Typed.{typing_of}
use Rattle.dk_compile.proofs.Forms.{form_of}
use Rattle.dk_compile.proofs.reading.form.Goals as goal

pub returns-clause-form : goal.returns-clause-form
returns-clause-form c = form_of (typing_of c.in_ok-program.program) c.in_ok-inlined.inlined c.in_ok-ir.ir c.in_ok-inlined.ensures.inlined c.in_ok-inlined.ensures.keeps c.in_ok-ir.ensures.meaning

pub returns-clause-bodies : goal.returns-clause-bodies
returns-clause-bodies c = record { inlined = c.in_ok-inlined.inlined; inlining = c.in_ok-inlined.ensures.inlined; folding = c.in_ok-ir.ensures.folding }

use Rattle.std.proofs.Common.{ℕ, List, sym, subst}
use Rattle.dk_compile.specs.Correct.{IsCorrect}
use Rattle.dk_laws.proofs.compiled.correct_law.Goals as goal

pub returns : goal.returns
returns c source age enable block text is =
    let x = is.compiled in
    subst (λ (t : List ℕ). IsCorrect source age enable block t) (sym is.is)
    (c.correct_law.ensures source age enable block is.from.program x.ir x.system x.solution x.plan x.«module» x.nets.items x.reads.items x.text.items is.from.is)

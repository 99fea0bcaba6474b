use Rattle.std.proofs.Common.{subst}
use Rattle.dk_types.specs.Typed.{typing_of}
use Rattle.dk_compile.specs.declared.cutting.Judgement.{Judgement}
use Rattle.dk_compile.specs.Judged.{IsJudged}
use Rattle.dk_compile.proofs.Same.{kept_by, accepted_by}
use Rattle.dk_compile.proofs.cutting.proposed.Goals as goal

pub improved-requires-clause-keeps : goal.improved-requires-clause-keeps
improved-requires-clause-keeps c =
    let source = c.args.source.now in
    let old = source.old.now in
    let shown = c.deref-in-loop.result.now in
    let judged = subst (λ (j : Judgement). IsJudged old.ir shown j) c.in-Same.is c.in_ok-program.ensures in
    kept_by source.text.now c.in_ok-cut.cut.items shown (typing_of old.program) (typing_of c.in-Same.program) old.ir c.requires.source.has judged c.deref-in-loop.ensures.value

pub improved-requires-clause-program : goal.improved-requires-clause-program
improved-requires-clause-program c =
    let old = c.args.source.now.old.now in
    let shown = c.deref-in-loop.result.now in
    let judged = subst (λ (j : Judgement). IsJudged old.ir shown j) c.in-Same.is c.in_ok-program.ensures in
    accepted_by c.in_ok-cut.cut.items shown (typing_of c.in-Same.program) old.ir judged c.deref-in-loop.ensures.value

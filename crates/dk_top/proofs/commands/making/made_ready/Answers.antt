use Rattle.std.proofs.Common.{ℕ, List, None, false, ◌∙◌, subst}
use Rattle.dk_top.specs.Program.{CanBeCompiled}
use Rattle.dk_top.specs.Compiling.{IsCompiledFrom}
use Rattle.dk_top.specs.Reading.{IsInputOf}
use Rattle.dk_top.proofs.commands.making.made_ready.Goals as goal

pub returns-in-Ok-read_frames-clause-compiled : goal.returns-in-Ok-read_frames-clause-compiled
returns-in-Ok-read_frames-clause-compiled c =
    subst (λ (t : List ℕ). IsCompiledFrom t 0 false None c.in_ok-compiled.compiled) (c.deref.ensures.value ∙ c.in-Ok.ensures.program) c.in_ok-compiled.ensures.compiled

pub returns-in-Ok-read_frames-clause-good : goal.returns-in-Ok-read_frames-clause-good
returns-in-Ok-read_frames-clause-good c =
    subst (λ (t : List ℕ). CanBeCompiled t 0) (c.deref.ensures.value ∙ c.in-Ok.ensures.program) c.in_ok-compiled.ensures.good

pub returns-in-Ok-read_frames-clause-input : goal.returns-in-Ok-read_frames-clause-input
returns-in-Ok-read_frames-clause-input c =
    subst (λ (t : List ℕ). IsInputOf None c.in_ok-compiled.compiled.ir t c.in-Ok-read_frames.rounds.items) (c.deref-2.ensures.value ∙ c.in-Ok.ensures.image) (c.in-Ok-read_frames.ensures.input None tt)

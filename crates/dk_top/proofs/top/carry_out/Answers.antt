use Rattle.std.proofs.Common.{ap, Err, Some, ◌∙◌, inl, inr, refl}
use Rattle.dk_endings.specs.declared.ending.Ending.TheVariants as ending
use Rattle.dk_words.specs.declared.command.Asked.{Asked}
use Rattle.dk_top.specs.Command.{command_asked}
use Rattle.dk_top.proofs.Performed.{as_named, refused}
use Rattle.dk_top.proofs.top.carry_out.Goals as goal

pub returns-in-Err-Usage-clause-performs : goal.returns-in-Err-Usage-clause-performs
returns-in-Err-Usage-clause-performs g c = refused _ ending.Usage (g.D.Desk.outside c.args.desk.now) c.requires (λ e. c.in-Err-Usage.ensures.none (ap Err c.in-Err-Usage.field-0-is)) (inl refl)

pub returns-in-Err-OutOfMemory-clause-performs : goal.returns-in-Err-OutOfMemory-clause-performs
returns-in-Err-OutOfMemory-clause-performs g c = refused _ ending.Memory (g.D.Desk.outside c.args.desk.now) c.requires (λ e. absurd (let apart : ⊥ = cc in apart)) (inr refl)

pub returns-in-Ok-Run-clause-performs : goal.returns-in-Ok-Run-clause-performs
returns-in-Ok-Run-clause-performs g c = as_named _ _ _ _ _ (c.in-Ok-Run.ensures.ok ∙ ap (λ (a : Asked). Some (command_asked a)) c.in-Ok-Run.field-0-is) c.performed.ensures.performs

pub returns-in-Ok-Eval-clause-performs : goal.returns-in-Ok-Eval-clause-performs
returns-in-Ok-Eval-clause-performs g c = as_named _ _ _ _ _ (c.in-Ok-Eval.ensures.ok ∙ ap (λ (a : Asked). Some (command_asked a)) c.in-Ok-Eval.field-0-is) c.performed-in-Ok-Eval.ensures.performs

pub returns-in-Ok-Compile-clause-performs : goal.returns-in-Ok-Compile-clause-performs
returns-in-Ok-Compile-clause-performs g c = as_named _ _ _ _ _ (c.in-Ok-Compile.ensures.ok ∙ ap (λ (a : Asked). Some (command_asked a)) c.in-Ok-Compile.field-0-is) c.performed-in-Ok-Compile.ensures.performs

pub returns-in-Ok-Sim-clause-performs : goal.returns-in-Ok-Sim-clause-performs
returns-in-Ok-Sim-clause-performs g c = as_named _ _ _ _ _ (c.in-Ok-Sim.ensures.ok ∙ ap (λ (a : Asked). Some (command_asked a)) c.in-Ok-Sim.field-0-is) c.performed-in-Ok-Sim.ensures.performs

pub returns-in-Ok-Plan-clause-performs : goal.returns-in-Ok-Plan-clause-performs
returns-in-Ok-Plan-clause-performs g c = as_named _ _ _ _ _ (c.in-Ok-Plan.ensures.ok ∙ ap (λ (a : Asked). Some (command_asked a)) c.in-Ok-Plan.field-0-is) c.performed-in-Ok-Plan.ensures.performs

pub returns-in-Ok-Check-clause-performs : goal.returns-in-Ok-Check-clause-performs
returns-in-Ok-Check-clause-performs g c = as_named _ _ _ _ _ (c.in-Ok-Check.ensures.ok ∙ ap (λ (a : Asked). Some (command_asked a)) c.in-Ok-Check.field-0-is) c.performed-in-Ok-Check.ensures.performs

pub returns-in-Ok-Trace-clause-performs : goal.returns-in-Ok-Trace-clause-performs
returns-in-Ok-Trace-clause-performs g c = as_named _ _ _ _ _ (c.in-Ok-Trace.ensures.ok ∙ ap (λ (a : Asked). Some (command_asked a)) c.in-Ok-Trace.field-0-is) c.performed-in-Ok-Trace.ensures.performs

pub returns-in-Ok-Make-clause-performs : goal.returns-in-Ok-Make-clause-performs
returns-in-Ok-Make-clause-performs g c = as_named _ _ _ _ _ (c.in-Ok-Make.ensures.ok ∙ ap (λ (a : Asked). Some (command_asked a)) c.in-Ok-Make.field-0-is) c.performed-in-Ok-Make.ensures.performs

pub returns-in-Ok-Rewrite-clause-performs : goal.returns-in-Ok-Rewrite-clause-performs
returns-in-Ok-Rewrite-clause-performs g c = as_named _ _ _ _ _ (c.in-Ok-Rewrite.ensures.ok ∙ ap (λ (a : Asked). Some (command_asked a)) c.in-Ok-Rewrite.field-0-is) c.performed-in-Ok-Rewrite.ensures.performs

pub returns-in-Ok-Explain-clause-performs : goal.returns-in-Ok-Explain-clause-performs
returns-in-Ok-Explain-clause-performs g c = as_named _ _ _ _ _ (c.in-Ok-Explain.ensures.ok ∙ ap (λ (a : Asked). Some (command_asked a)) c.in-Ok-Explain.field-0-is) c.performed-in-Ok-Explain.ensures.performs

pub returns-in-Ok-Nets-clause-performs : goal.returns-in-Ok-Nets-clause-performs
returns-in-Ok-Nets-clause-performs g c = as_named _ _ _ _ _ (c.in-Ok-Nets.ensures.ok ∙ ap (λ (a : Asked). Some (command_asked a)) c.in-Ok-Nets.field-0-is) c.performed-in-Ok-Nets.ensures.performs

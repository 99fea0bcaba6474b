-- The words and the files decide one ending.
use Rattle.std.proofs.Common.{◌≡◌, inl, inr, ℕ, List, Option, None, Some, IfSome, refl, sym, subst}
use Rattle.dk_endings.specs.declared.ending.Ending.{Ending}
use Rattle.dk_endings.specs.declared.ending.Ending.TheVariants as ending
use Rattle.source_fault.specs.declared.widen.WidenFault.TheVariants as fault
use Rattle.dk_top.specs.Command.{Command, run, eval, compile, sim, trace, plan, check, make, rewrite, explain, nets}
use Rattle.made_program.specs.Programs.{program_of}
use Rattle.dk_top.specs.Simulation.{drive_of}
use Rattle.dk_top.proofs.CommandLemmas.{on_each}
use Rattle.dk_top.specs.Tracing.{trace_drive}
use Rattle.dk_top.specs.Verdict.{OnFiles, IsJudged, IsVerdict, AreAlike, HasOneVerdict, IsGood, EndsWell}
use Rattle.dk_top.specs.Meaning.{Files, bytes_of}
use Rattle.dk_top.specs.Output.{eval_terms, run_terms, IsAnswer}
use Rattle.dk_top.specs.Streaming.{IsRunAnswer}
use Rattle.dk_top.proofs.VerdictLemmas.{OneProgram, TextApart, OneTextFault, ApartAt, OneFaultAt, FileApart, OneFileFault, one_answer}
use Rattle.dk_top.proofs.SimLemmas.{OneModule, OneAgreed, ModuleApart, OneTokens, OneTree, OneRounds, RoundsApart, OneBenchFault, OneStop, ShownApart, RunApart, alike_of, sim_answer, trace_answer}
use Rattle.dk_top.proofs.PlanLemmas.{FrontAccepted, WrongApart, OneLine, program_answer, check_answer}
use Rattle.dk_top.proofs.WidenLemmas.{rewrite_answer}
use Rattle.dk_top.proofs.ExplainLemmas.{explain_answer}

-- the laws of the crates below
pub record Laws : Type 0 where
  pub one_program : OneProgram
  pub front_accepted : FrontAccepted
  pub text_apart : TextApart
  pub one_text : OneTextFault
  pub file_apart : FileApart
  pub one_file : OneFileFault
  pub one_module : OneModule
  pub agree : OneAgreed
  pub module_apart : ModuleApart
  pub tokens : OneTokens
  pub tree : OneTree
  pub rounds : OneRounds
  pub rounds_apart : RoundsApart
  pub bench_fault : OneBenchFault
  pub one_stop : OneStop
  pub shown_apart : ShownApart
  pub run_apart : RunApart
  pub apart_at : ApartAt
  pub fault_at : OneFaultAt
  pub wrong_apart : WrongApart
  pub one_line : OneLine

-- but for a failed write, the answers of `run` are those of a program and a file
written_answer : (age : ℕ) (source file : List ℕ) (e : Ending) → (e ≡ ending.WriteFault → ⊥) → IsRunAnswer age source file e → IsAnswer (run_terms age) source file e
written_answer age source file ending.Done other h = h
written_answer age source file ending.WriteFault other h = absurd (other refl)
written_answer age source file (ending.Source x) other h = h
written_answer age source file (ending.Image x) other h = h
written_answer age source file (ending.Verilog x) other h = h
written_answer age source file (ending.Stopped x) other h = h
written_answer age source file (ending.Rejected x) other h = h
written_answer age source file (ending.Unable x) other h = h
written_answer age source file ending.Usage other h = h
written_answer age source file ending.ReadFault other h = h
written_answer age source file ending.Memory other h = h

judged_answer : (age : ℕ) (source file : List ℕ) (e : Ending) → IsJudged e → IsRunAnswer age source file e → IsAnswer (run_terms age) source file e
judged_answer age source file e judged h = written_answer age source file e (λ is. subst IsJudged is judged) h

pub one_verdict : Laws → HasOneVerdict
one_verdict l (run program image out age) files a b j k x y = alike_of a b (one_answer l.one_program l.apart_at l.fault_at l.file_apart l.one_file (run_terms age) (bytes_of files program) (bytes_of files image) a b j k (judged_answer age (bytes_of files program) (bytes_of files image) a j x) (judged_answer age (bytes_of files program) (bytes_of files image) b k y))
one_verdict l (eval program image out) files a b j k x y = alike_of a b (one_answer l.one_program l.apart_at l.fault_at l.file_apart l.one_file eval_terms (bytes_of files program) (bytes_of files image) a b j k x y)
one_verdict l (compile program out enable age block) files a b j k x y = alike_of a b (program_answer l.apart_at l.fault_at age (bytes_of files program) a b j k x y)
one_verdict l (sim verilog clocks image out fill hold) files a b j k x y =
    sim_answer l.one_module l.agree l.module_apart l.tokens l.tree l.rounds l.rounds_apart l.bench_fault l.one_stop l.shown_apart (drive_of clocks fill hold) (bytes_of files verilog) (bytes_of files image) a b j k x y
one_verdict l (trace verilog clocks image vcd) files a b j k x y =
    trace_answer l.one_module l.agree l.module_apart l.tokens l.tree l.rounds l.rounds_apart l.bench_fault l.one_stop l.shown_apart (trace_drive clocks) (bytes_of files verilog) (bytes_of files image) l.run_apart a b j k x y
one_verdict l (plan program age) files a b j k x y = alike_of a b (program_answer l.apart_at l.fault_at age (bytes_of files program) a b j k x y)
one_verdict l (nets program enable age block) files a b j k x y = alike_of a b (program_answer l.apart_at l.fault_at age (bytes_of files program) a b j k x y)
one_verdict l (explain program) files a b j k x y = alike_of a b (explain_answer l.apart_at l.fault_at (bytes_of files program) a b j k x y)
one_verdict l (check program report) files a b j k x y =
    alike_of a b (check_answer l.front_accepted l.text_apart l.one_text l.wrong_apart l.one_line (bytes_of files program) (bytes_of files report) a b j k x y)
one_verdict l (make number) files a b j k x y = alike_of a b (program_answer l.apart_at l.fault_at 0 (program_of number) a b j k x y)
one_verdict l (rewrite how program out) files a b j k x y = alike_of a b (rewrite_answer l.one_program l.apart_at l.fault_at how (bytes_of files program) a b j k x y)

-- what is good is done where nothing outside fails and there is memory
module _ (one : HasOneVerdict) (command : Command) (files : Files) (good : IsGood command files) where
  done_or : (e : Ending) → IsJudged e → IsVerdict command files e → AreAlike ending.Done e
  done_or e judged is = one command files ending.Done e tt judged (good) is

  good_ends : (e : Ending) → IsVerdict command files e → (e ≡ ending.ReadFault → ⊥) → (e ≡ ending.WriteFault → ⊥) → EndsWell command files e
  good_ends ending.Done is no_read no_write = inl (inl refl)
  good_ends ending.Memory is no_read no_write = inl (inr refl)
  good_ends ending.ReadFault is no_read no_write = absurd (no_read refl)
  good_ends ending.WriteFault is no_read no_write = absurd (no_write refl)
  good_ends ending.Usage is no_read no_write = absurd is
  good_ends (ending.Source x) is no_read no_write = inl (inl (sym (done_or (ending.Source x) tt is)))
  good_ends (ending.Image x) is no_read no_write = inl (inl (sym (done_or (ending.Image x) tt is)))
  good_ends (ending.Verilog x) is no_read no_write = inl (inl (sym (done_or (ending.Verilog x) tt is)))
  good_ends (ending.Stopped x) is no_read no_write = inl (inl (sym (done_or (ending.Stopped x) tt is)))
  good_ends (ending.Rejected x) is no_read no_write = inl (inl (sym (done_or (ending.Rejected x) tt is)))
  good_ends (ending.Unable fault.Limits) is no_read no_write = inr (refl, is)
  good_ends (ending.Unable (fault.Width w)) is no_read no_write = inl (inl (sym (done_or (ending.Unable (fault.Width w)) tt is)))
  good_ends (ending.Unable (fault.Inputs n)) is no_read no_write = inl (inl (sym (done_or (ending.Unable (fault.Inputs n)) tt is)))
  good_ends (ending.Unable (fault.Outputs n)) is no_read no_write = inl (inl (sym (done_or (ending.Unable (fault.Outputs n)) tt is)))

-- the same of what is specified
pub complete_of : HasOneVerdict → (command : Option Command) (files : Option Files) (e : Ending) (Read Write : Type 0) → IfSome command (λ c. OnFiles c files (λ f. IsVerdict c f e)) → (e ≡ ending.ReadFault → Read) → (e ≡ ending.WriteFault → Write)
    → IfSome command (λ c. OnFiles c files (λ f. IsGood c f → ¬ Read → ¬ Write → EndsWell c f e))
complete_of one None files e Read Write verdict read write = tt
complete_of one (Some c) files e Read Write verdict read write =
    on_each c files (λ f. IsVerdict c f e) (λ f. IsGood c f → ¬ Read → ¬ Write → EndsWell c f e)
    (λ f is good no_read no_write. good_ends one c f good e is (λ h. no_read (read h)) (λ h. no_write (write h))) verdict

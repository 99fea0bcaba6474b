-- What a call does, put together.
use Rattle.std.proofs.Common.{◌≡◌, ◌⊎◌, inl, inr, ℕ, Option, None, Some, refl, sym, ◌∙◌, subst, arith}
use Rattle.dk_desk.specs.Outside.{Outside}
use Rattle.dk_desk.specs.Calls.{HasCauseIn}
use Rattle.dk_endings.specs.declared.ending.Ending.{Ending}
use Rattle.dk_endings.specs.declared.ending.Ending.TheVariants as ending
use Rattle.dk_top.specs.Command.{Command}
use Rattle.dk_top.specs.Reading.{WritesFault}
use Rattle.dk_top.specs.State.{IsFresh, FilesStay}
use Rattle.dk_top.specs.Performing.{Performs, PerformsWork}
use Rattle.dk_top.specs.Meaning.{Files}
use Rattle.dk_top.proofs.CommandLemmas.{order_stays, words_verdict, words_order, words_report, words_notes, words_begun, words_reads, words_left}
use Rattle.dk_top.proofs.FileLemmas.{own_unasked}

-- of the command that the words name
pub as_named : (o command : Option Command) (e : Ending) (old new : Outside) → o ≡ command → Performs command e old new → Performs o e old new
as_named o command e old new named h = subst (λ c. Performs c e old new) (sym named) h

-- of the words of a command
pub of_work : (c : Command) (e : Ending) (old new : Outside) → PerformsWork c e old new → Performs (Some c) e old new
of_work c e old new h = record {
  usage = λ is. absurd (h.taken is);
  not_taken = λ none. absurd (let f : ⊥ = cc in f);
  ends = h.ends;
  asks = h.asks;
  file = h.file;
  tells = h.tells;
}

pub same_files : (o : Option Command) (files : Option Files) → FilesStay o files files
same_files o None = tt
same_files o (Some f) = λ name other. refl

-- no failure, and no count rose
no_cause : (failure : Type 0) (n : ℕ) → (failure → ⊥) → HasCauseIn failure n n
no_cause failure n never = record { later = omega arith; only = λ h. absurd (never h); always = λ h. absurd (omega (arith, h)) }

neither : (e other : Ending) → (ending.Usage ≡ other → ⊥) → (ending.Memory ≡ other → ⊥) → (e ≡ ending.Usage) ⊎ (e ≡ ending.Memory) → e ≡ other → ⊥
neither e other usage memory (inl is) same = usage (sym is ∙ same)
neither e other usage memory (inr is) same = memory (sym is ∙ same)

-- the words are refused, or memory ran out, before anything was requested
pub refused : (o : Option Command) (e : Ending) (old : Outside) → IsFresh old → (e ≡ ending.Usage → o ≡ None) → (e ≡ ending.Usage) ⊎ (e ≡ ending.Memory) → Performs o e old old
refused o e old fresh usage either = record {
  usage = usage;
  not_taken = λ none. either;
  ends = record {
    verdict = words_verdict o old.files e usage either;
    read_fault = no_cause (e ≡ ending.ReadFault) old.input_failures (neither e ending.ReadFault (λ is. cc) (λ is. cc) either);
    write_fault = no_cause (e ≡ ending.WriteFault) old.output_failures (neither e ending.WriteFault (λ is. cc) (λ is. cc) either);
  };
  asks = record {
    asked = record { program = λ asked. absurd (asked fresh.program); image = λ asked. absurd (asked fresh.image); file = λ asked. absurd (asked fresh.file) };
    order = words_order o old.files old fresh.image;
    too_long = words_left o old.files e old.program old.image either;
    reads = words_reads o old.files e old.image old.file.stage either;
  };
  file = record {
    created = λ nothing. fresh.file;
    begun = words_begun o old.files e old.file.stage either;
    written = λ done. absurd (neither e ending.Done (λ is. cc) (λ is. cc) either done);
    output = λ opened. absurd (let fresh_file = fresh.file in let f : ⊥ = cc in f);
    files = same_files o old.files;
    files_stay = λ closed. refl;
    own = own_unasked old fresh.file;
  };
  tells = record {
    report = words_report o old.files e old.file.bytes old.report either;
    report_stays = λ nothing. refl;
    notes = words_notes o old.files e old.notes either;
    notes_stay = λ nothing. refl;
  };
}

-- and a line to Fault
pub told : (o : Option Command) (e : Ending) (old mid new : Outside) → WritesFault mid new → Performs o e old mid → Performs o e old new
told o e old mid new only h = subst (λ (x : Outside). Performs o e old x) (sym only) (record {
  usage = h.usage;
  not_taken = h.not_taken;
  ends = record { verdict = h.ends.verdict; read_fault = h.ends.read_fault; write_fault = h.ends.write_fault };
  asks = record {
    asked = record { program = h.asks.asked.program; image = h.asks.asked.image; file = h.asks.asked.file };
    order = order_stays o old.files mid (record mid { fault = new.fault; fault_failures = new.fault_failures }) refl h.asks.order;
    too_long = h.asks.too_long;
    reads = h.asks.reads;
  };
  file = record {
    created = h.file.created;
    begun = h.file.begun;
    written = h.file.written;
    output = h.file.output;
    files = h.file.files;
    files_stay = h.file.files_stay;
    own = h.file.own;
  };
  tells = record { report = h.tells.report; report_stays = h.tells.report_stays; notes = h.tells.notes; notes_stay = h.tells.notes_stay };
})

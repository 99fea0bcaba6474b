use Rattle.std.proofs.Common.{subst}
use Rattle.dk_words.specs.declared.command.Rewriting.TheVariants.{Widen}
use Rattle.dk_compile.specs.declared.widening.WidenError.{WidenError}
use Rattle.dk_compile.specs.Widened.{IsWidenErrorBy}
use Rattle.dk_top.specs.Unread.{source_ended}
use Rattle.dk_top.proofs.commands.rewriting.ending_of_widen.Goals as goal

pub returns-in-Source-clause-fault : goal.returns-in-Source-clause-fault
returns-in-Source-clause-fault c = λ source phases is.
    source_ended (Widen phases) source c.ending_of.result (c.ending_of.ensures.fault_at source 0 (subst (λ (e : WidenError). IsWidenErrorBy source phases e) c.in-Source.is is))

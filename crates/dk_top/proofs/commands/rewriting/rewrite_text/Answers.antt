use Rattle.std.proofs.Common.{sym, subst}
use Rattle.dk_words.specs.declared.command.Rewriting.{Rewriting}
use Rattle.dk_top.specs.Reading.{IsRewriteEnding}
use Rattle.dk_top.proofs.commands.rewriting.rewrite_text.Goals as goal

pub returns-in-Err-clause-fault : goal.returns-in-Err-clause-fault
returns-in-Err-clause-fault c =
    subst (λ (how : Rewriting). IsRewriteEnding how c.args.text.now c.ending_of.result) (sym c.in-Cut.is)
    (c.ending_of.ensures.fault_at c.args.text.now 0 c.in-Err.ensures.fault)

pub returns-in-Err-narrow_reported-clause-fault : goal.returns-in-Err-narrow_reported-clause-fault
returns-in-Err-narrow_reported-clause-fault c =
    subst (λ (how : Rewriting). IsRewriteEnding how c.args.text.now c.ending_of-in-Err-narrow_reported.result) (sym c.in-Narrow.is)
    (c.ending_of-in-Err-narrow_reported.ensures.fault_at c.args.text.now 0 c.in-Err-narrow_reported.ensures.fault)

pub returns-in-Err-widen_reported-clause-fault : goal.returns-in-Err-widen_reported-clause-fault
returns-in-Err-widen_reported-clause-fault c =
    subst (λ (how : Rewriting). IsRewriteEnding how c.args.text.now c.ending_of_widen.result) (sym c.in-Widen.is)
    (c.ending_of_widen.ensures.fault c.args.text.now c.in-Widen.phases c.in-Err-widen_reported.ensures.fault)

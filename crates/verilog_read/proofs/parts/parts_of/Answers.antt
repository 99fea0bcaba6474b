use Rattle.std.proofs.Common.{sym, subst}
use Rattle.std.specs.Prelude.{All}
use Rattle.verilog_text.specs.Grammar.{source_of}
use Rattle.verilog_read.specs.Within.{PortFits, DeclarationFits, AssignFits}
use Rattle.verilog_read.proofs.Limited.{source_fits}
use Rattle.verilog_read.proofs.parts.parts_of.Goals as goal

pub ports_of-requires-clause-fit : goal.ports_of-requires-clause-fit
ports_of-requires-clause-fit c = subst (All PortFits) (sym c.deref.ensures.value) (source_fits (source_of c.args.written.now) c.requires.limits).ports

pub declarations_of-requires-clause-fit : goal.declarations_of-requires-clause-fit
declarations_of-requires-clause-fit c = subst (All DeclarationFits) (sym c.deref-2.ensures.value) (source_fits (source_of c.args.written.now) c.requires.limits).declarations

pub assigns_of-requires-clause-fit : goal.assigns_of-requires-clause-fit
assigns_of-requires-clause-fit c = subst (All AssignFits) (sym c.deref-3.ensures.value) (source_fits (source_of c.args.written.now) c.requires.limits).assigns

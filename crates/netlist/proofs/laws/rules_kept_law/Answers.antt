use Rattle.std.proofs.Common.{subst, sym}
use Rattle.wiring.specs.Rules.{KeepsRules}
use Rattle.netlist.specs.Names.{NamedNetlist, HasNames}
use Rattle.netlist.proofs.Kept.{rules_kept}
use Rattle.netlist.proofs.Named.{names_kept}
use Rattle.netlist.proofs.Ruled.{passes_of, acyclic_of}
use Rattle.netlist.proofs.laws.rules_kept_law.Goals as goal

pub returns-clause-rules : goal.returns-clause-rules
returns-clause-rules c p m sizes is = subst (λ (x : NamedNetlist). KeepsRules x.netlist) (sym is.is) (rules_kept p sizes (passes_of p is.keeps) (acyclic_of p is.keeps))

pub returns-clause-names : goal.returns-clause-names
returns-clause-names c p m names is = subst (λ (x : NamedNetlist). HasNames x.netlist x.names) (sym is.is) (names_kept p names (passes_of p is.keeps))

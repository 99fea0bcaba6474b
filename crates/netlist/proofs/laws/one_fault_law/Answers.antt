use Rattle.netlist.proofs.Agreement.{faults_agree, no_fault}
use Rattle.netlist.proofs.Ruled.{passed, passes_of, acyclic_of}
use Rattle.netlist.proofs.laws.one_fault_law.Goals as goal

pub returns-clause-agree : goal.returns-clause-agree
returns-clause-agree c p f g a b = faults_agree p f g (passed p f a) (passed p g b)

pub returns-clause-apart : goal.returns-clause-apart
returns-clause-apart c p m f is a = no_fault p f (passes_of p is.keeps) (acyclic_of p is.keeps) (passed p f a)

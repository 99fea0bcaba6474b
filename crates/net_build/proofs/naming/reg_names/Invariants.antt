use Rattle.std.proofs.Common.{◌≡◌, codes}
use Rattle.net_build.specs.Naming.{made_names}
use Rattle.net_build.proofs.naming.reg_names.Given as goal

abbrev pub invariant-loop-k : goal.invariant-loop-k
invariant-loop-k l = l.names.items ≡ made_names (codes "r") l.k

use Rattle.std.proofs.Common.{◌≡◌, take}
use Rattle.net_build.specs.Naming.{made_names}
use Rattle.module_pass.proofs.naming.are_made.Given as goal

abbrev pub invariant-loop-k : goal.invariant-loop-k
invariant-loop-k l = take l.k l.names ≡ made_names l.letter l.k

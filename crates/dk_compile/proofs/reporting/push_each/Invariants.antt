use Rattle.std.proofs.Common.{◌≡◌, ◌++◌, drop}
use Rattle.std.specs.List.{flat_map}
use Rattle.dk_compile.specs.Reported.{deep_words}
use Rattle.dk_compile.proofs.reporting.push_each.Given as goal

abbrev pub invariant-loop-body : goal.invariant-loop-body
invariant-loop-body l = l.out.items ++ flat_map deep_words (drop l.body-index l.deep) ≡ l.fn.out.items ++ flat_map deep_words l.deep

use Rattle.std.proofs.Common.{take}
use Rattle.std.specs.List.{All}
use Rattle.dk_parser.specs.Tree.{tree_of, ConvertsToTypes}
use Rattle.type_faults.proofs.conversions.all_convert.Given as goal

abbrev pub invariant-loop-definition : goal.invariant-loop-definition
invariant-loop-definition l = All (λ d. ConvertsToTypes (tree_of d.body)) (take l.definition-index l.definitions)

-- Definitions in memory, and without where they lie.
use Rattle.std.proofs.Common.{List, [], ◌∷◌}
use Rattle.std.specs.List.{All, AllByRecursion}
use Rattle.std.proofs.lemmas.List.Elements.{All-from_recursion, recursion_from_All}
use Rattle.dk_parser.specs.declared.tree.Def.{Def}
use Rattle.dk_parser.specs.Tree.{tree_of, ConvertsToTypes}
use Rattle.dk_parser.specs.Programs.{definitions_as}

each : (ds : List Def) → AllByRecursion (λ d. ConvertsToTypes (tree_of d.body)) ds → AllByRecursion (λ d. ConvertsToTypes d.body) (definitions_as ds)
each [] a = tt
each (d ∷ ds) a = (a.0, each ds a.1)

pub all_convert : (ds : List Def) → All (λ d. ConvertsToTypes (tree_of d.body)) ds → All (λ d. ConvertsToTypes d.body) (definitions_as ds)
all_convert ds a = All-from_recursion (λ d. ConvertsToTypes d.body) (definitions_as ds) (each ds (recursion_from_All (λ d. ConvertsToTypes (tree_of d.body)) ds a))

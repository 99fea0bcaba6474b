use Rattle.std.proofs.Common.{subst, List}
use Rattle.std.specs.List.{All}
use Rattle.dk_parser.specs.declared.tree.Def.{Def}
use Rattle.dk_parser.specs.Tree.{tree_of, ConvertsToTypes}
use Rattle.type_faults.proofs.Convert.{all_convert}
use Rattle.type_faults.proofs.conversions.may_check.Goals as goal

pub returns : goal.returns
returns c = λ is. all_convert c.args.program.now.definitions.items (subst (λ (ds : List Def). All (λ d. ConvertsToTypes (tree_of d.body)) ds) c.deref.ensures.value (c.all_convert.ensures is))

use Rattle.dk_base.proofs.Operations.{conversion_in}
use Rattle.dk_base.specs.declared.operator.Conversion.TheVariants.{Cast}
use Rattle.value_ranges.proofs.Ends.{wrapped_between}
use Rattle.value_ranges.proofs.arithmetic.wrapped.Goals as goal

pub returns-then-is_within-clause-within : goal.returns-then-is_within-clause-within
returns-then-is_within-clause-within c = λ v is. wrapped_between c.args.ty c.args.range v c.requires (c.is_within.ensures.yes c.if-is_within.true) is

pub returns-else-is_within-clause-within : goal.returns-else-is_within-clause-within
returns-else-is_within-clause-within c = λ v is. (c.of_type.ensures.values _).1 (conversion_in Cast c.args.ty v c.requires)

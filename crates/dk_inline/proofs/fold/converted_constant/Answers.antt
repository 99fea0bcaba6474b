use Rattle.std.proofs.Common.{rules, FitsSigned}
use Rattle.std.proofs.lemmas.Int.{to_z-of_z}
use mir.Syntax.{w128}
use Rattle.dk_inline.proofs.Replacements.{convert_worth}
use Rattle.dk_inline.proofs.fold.converted_constant.Goals as goal

pub returns : goal.returns
returns c = record {
  found = let value : FitsSigned w128 c.conversion_value-value.result = search rules in
      let operand : FitsSigned w128 c.in_ok-operand.operand.value = search rules in
      rw (to_z-of_z w128 c.conversion_value-value.result value, c.conversion_value-value.ensures, to_z-of_z w128 c.in_ok-operand.operand.value operand)
      (convert_worth c.args.how _ _ _ c.args.ty c.in_ok-operand.ensures.found c.requires);
  none = search rules;
}

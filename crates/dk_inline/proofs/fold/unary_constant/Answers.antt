use Rattle.std.proofs.Common.{rules, sym, FitsSigned}
use Rattle.std.proofs.lemmas.Int.{to_z-of_z}
use mir.Syntax.{w128}
use Rattle.dk_inline.proofs.Replacements.{unary_worth}
use Rattle.dk_inline.proofs.fold.unary_constant.Goals as goal

pub returns : goal.returns
returns c = record {
  found = let value : FitsSigned w128 c.unary_value-value.result = search rules in
      let operand : FitsSigned w128 c.in_ok-operand.operand.value = search rules in
      rw (to_z-of_z w128 c.unary_value-value.result value, c.unary_value-value.ensures, to_z-of_z w128 c.in_ok-operand.operand.value operand)
      (unary_worth c.args.op _ _ _ _ c.in_ok-operand.ensures.found c.requires (sym c.in_ok-ty.ensures.value));
  none = search rules;
}

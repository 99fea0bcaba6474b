use Rattle.std.proofs.Common.{rules, sym, FitsSigned}
use Rattle.std.proofs.lemmas.Int.{to_z-of_z}
use mir.Syntax.{w128}
use Rattle.dk_inline.proofs.Replacements.{binary_worth, takes_two}
use Rattle.dk_inline.proofs.fold.binary_constant.Goals as goal

pub binary_value-value-requires : goal.binary_value-value-requires
binary_value-value-requires c =
    let left : FitsSigned w128 c.in_ok-left.left.value = search rules in
    let right : FitsSigned w128 c.in_ok-right.right.value = search rules in
    rw (to_z-of_z w128 c.in_ok-left.left.value left, to_z-of_z w128 c.in_ok-right.right.value right)
    (takes_two c.args.op _ _ _ _ _ _ _ c.in_ok-left.ensures.found c.in_ok-right.ensures.found c.requires (sym c.in_ok-ty.ensures.value))

pub returns : goal.returns
returns c = record {
  found = let value : FitsSigned w128 c.binary_value-value.result = search rules in
      let left : FitsSigned w128 c.in_ok-left.left.value = search rules in
      let right : FitsSigned w128 c.in_ok-right.right.value = search rules in
      rw (to_z-of_z w128 c.binary_value-value.result value, c.binary_value-value.ensures, to_z-of_z w128 c.in_ok-left.left.value left, to_z-of_z w128 c.in_ok-right.right.value right)
      (binary_worth c.args.op _ _ _ _ _ _ _ c.in_ok-left.ensures.found c.in_ok-right.ensures.found c.requires (sym c.in_ok-ty.ensures.value));
  none = search rules;
}

use Rattle.std.proofs.Common.{◌∙◌, ap, arith, rules, FitsSigned}
use Rattle.std.proofs.lemmas.Int.{ints, to_z-of_z}
use mir.Syntax.{w128}
use Rattle.dk_base.specs.declared.ty.Ty.TheVariants.{Unsigned}
use Rattle.dk_base.specs.Numbers.{wrap}
use Rattle.dk_base.proofs.Congruence.{code_below}
use Rattle.dk_base.specs.Types.{width_of}
use Rattle.datapath.proofs.Carried.{wrapped_code, code_small}
use Rattle.datapath.proofs.lowering.code_of.Goals as goal

pub overflow_cast-result : goal.overflow_cast-result
overflow_cast-result c =
    let value : FitsSigned w128 c.args.value = search rules in
    let is = c.wrap.ensures ∙ ap (wrap (Unsigned c.width.result)) (to_z-of_z w128 c.args.value value) ∙ wrapped_code c.args.ty _ c.args.value c.width.ensures in
    let small = code_small c.args.ty c.args.value c.requires in
    omega (arith, ints, is, small)

pub returns-clause-code : goal.returns-clause-code
returns-clause-code c =
    let value : FitsSigned w128 c.args.value = search rules in
    let is = c.wrap.ensures ∙ ap (wrap (Unsigned c.width.result)) (to_z-of_z w128 c.args.value value) ∙ wrapped_code c.args.ty _ c.args.value c.width.ensures in
    let small = code_small c.args.ty c.args.value c.requires in
    omega (arith, ints, is, small)

pub returns-clause-fits : goal.returns-clause-fits
returns-clause-fits c =
    let value : FitsSigned w128 c.args.value = search rules in
    let is = c.wrap.ensures ∙ ap (wrap (Unsigned c.width.result)) (to_z-of_z w128 c.args.value value) ∙ wrapped_code c.args.ty _ c.args.value c.width.ensures in
    let small = code_small c.args.ty c.args.value c.requires in
    let below = code_below (width_of c.args.ty) c.args.value in
    omega (arith, ints, is, small, below)

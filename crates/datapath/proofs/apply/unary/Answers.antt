use Rattle.std.proofs.Common.{◌≡◌, subst}
use Rattle.dk_base.specs.declared.ty.Ty.TheVariants.{Unsigned}
use Rattle.dk_base.specs.declared.operator.Unary.{Unary}
use Rattle.dk_base.specs.Types.{IsType}
use Rattle.datapath.specs.Expressions.{unary_result, TakesOperand}
use Rattle.datapath.proofs.Applied.{unary_makes, typed_makes}
use Rattle.datapath.proofs.apply.unary.Goals as goal

pub negation-requires : goal.negation-requires
negation-requires c = record { x = c.requires.x; ty = subst (λ (o : Unary). IsType (unary_result o c.args.x.ty)) c.in-Negate.is c.requires.ty }

pub bit_complement-requires : goal.bit_complement-requires
bit_complement-requires c = record { x = c.requires.x; ty = subst (λ (o : Unary). TakesOperand o c.args.x.ty) c.in-Not.is c.requires.takes }

pub magnitude-requires : goal.magnitude-requires
magnitude-requires c = c.requires.x

pub returns-in-Negate : goal.returns-in-Negate
returns-in-Negate c = unary_makes c.args.b.now c.negation.new.b c.args.x c.negation.result _ _ c.in-Negate.is c.negation.ensures

pub returns-in-Not : goal.returns-in-Not
returns-in-Not c =
    let bit : c.args.x.ty ≡ Unsigned 1 = subst (λ (o : Unary). TakesOperand o c.args.x.ty) c.in-Not.is c.requires.takes in
    unary_makes c.args.b.now c.bit_complement.new.b c.args.x c.bit_complement.result _ _ c.in-Not.is (typed_makes c.args.b.now c.bit_complement.new.b c.args.x c.bit_complement.result _ _ _ _ bit c.bit_complement.ensures)

pub returns-in-Abs : goal.returns-in-Abs
returns-in-Abs c = unary_makes c.args.b.now c.magnitude.new.b c.args.x c.magnitude.result _ _ c.in-Abs.is c.magnitude.ensures

use Rattle.std.proofs.Common.{subst}
use Rattle.std.specs.Prelude.{IsTrue}
use Rattle.dk_base.specs.declared.operator.Binary.{Binary}
use Rattle.dk_base.specs.Types.{IsType}
use Rattle.dk_base.specs.Operators.{are_operands, binary_result}
use Rattle.datapath.proofs.Composed.{common_turned_type}
use Rattle.datapath.proofs.Applied.{binary_makes, turned_makes}
use Rattle.datapath.proofs.apply.binary.Goals as goal

pub sum-requires : goal.sum-requires
sum-requires c = record { x = c.requires.x; y = c.requires.y; ty = subst (λ (o : Binary). IsType (binary_result o c.args.x.ty c.args.y.ty)) c.in-Add.is c.requires.ty }

pub returns-in-Add : goal.returns-in-Add
returns-in-Add c = binary_makes c.args.b.now c.sum.new.b c.args.x c.sum.result c.args.y _ _ c.in-Add.is c.sum.ensures

pub difference-requires : goal.difference-requires
difference-requires c = record { x = c.requires.x; y = c.requires.y; ty = subst (λ (o : Binary). IsType (binary_result o c.args.x.ty c.args.y.ty)) c.in-Subtract.is c.requires.ty }

pub returns-in-Subtract : goal.returns-in-Subtract
returns-in-Subtract c = binary_makes c.args.b.now c.difference.new.b c.args.x c.difference.result c.args.y _ _ c.in-Subtract.is c.difference.ensures

pub product-requires : goal.product-requires
product-requires c = record { x = c.requires.x; y = c.requires.y; ty = subst (λ (o : Binary). IsType (binary_result o c.args.x.ty c.args.y.ty)) c.in-Multiply.is c.requires.ty }

pub returns-in-Multiply : goal.returns-in-Multiply
returns-in-Multiply c = binary_makes c.args.b.now c.product.new.b c.args.x c.product.result c.args.y _ _ c.in-Multiply.is c.product.ensures

pub is_less-requires : goal.is_less-requires
is_less-requires c = record { x = c.requires.x; y = c.requires.y; ty = c.requires.common }

pub returns-in-Less : goal.returns-in-Less
returns-in-Less c = binary_makes c.args.b.now c.is_less.new.b c.args.x c.is_less.result c.args.y _ _ c.in-Less.is c.is_less.ensures

pub is_at_most-requires : goal.is_at_most-requires
is_at_most-requires c = record { x = c.requires.x; y = c.requires.y; ty = c.requires.common }

pub returns-in-LessOrEqual : goal.returns-in-LessOrEqual
returns-in-LessOrEqual c = binary_makes c.args.b.now c.is_at_most.new.b c.args.x c.is_at_most.result c.args.y _ _ c.in-LessOrEqual.is c.is_at_most.ensures

pub is_at_least-requires : goal.is_at_least-requires
is_at_least-requires c = record { x = c.requires.x; y = c.requires.y; ty = c.requires.common }

pub returns-in-GreaterOrEqual : goal.returns-in-GreaterOrEqual
returns-in-GreaterOrEqual c = binary_makes c.args.b.now c.is_at_least.new.b c.args.x c.is_at_least.result c.args.y _ _ c.in-GreaterOrEqual.is c.is_at_least.ensures

pub is_equal-requires : goal.is_equal-requires
is_equal-requires c = record { x = c.requires.x; y = c.requires.y; ty = c.requires.common }

pub returns-in-Equal : goal.returns-in-Equal
returns-in-Equal c = binary_makes c.args.b.now c.is_equal.new.b c.args.x c.is_equal.result c.args.y _ _ c.in-Equal.is c.is_equal.ensures

pub is_unequal-requires : goal.is_unequal-requires
is_unequal-requires c = record { x = c.requires.x; y = c.requires.y; ty = c.requires.common }

pub returns-in-NotEqual : goal.returns-in-NotEqual
returns-in-NotEqual c = binary_makes c.args.b.now c.is_unequal.new.b c.args.x c.is_unequal.result c.args.y _ _ c.in-NotEqual.is c.is_unequal.ensures

pub conjunction-requires : goal.conjunction-requires
conjunction-requires c = record { x = c.requires.x; y = c.requires.y; unsigned = subst (λ (o : Binary). IsTrue (are_operands o c.args.x.ty c.args.y.ty)) c.in-And.is c.requires.takes }

pub returns-in-And : goal.returns-in-And
returns-in-And c = binary_makes c.args.b.now c.conjunction.new.b c.args.x c.conjunction.result c.args.y _ _ c.in-And.is c.conjunction.ensures

pub disjunction-requires : goal.disjunction-requires
disjunction-requires c = record { x = c.requires.x; y = c.requires.y; unsigned = subst (λ (o : Binary). IsTrue (are_operands o c.args.x.ty c.args.y.ty)) c.in-Or.is c.requires.takes }

pub returns-in-Or : goal.returns-in-Or
returns-in-Or c = binary_makes c.args.b.now c.disjunction.new.b c.args.x c.disjunction.result c.args.y _ _ c.in-Or.is c.disjunction.ensures

pub exclusive_or-requires : goal.exclusive_or-requires
exclusive_or-requires c = record { x = c.requires.x; y = c.requires.y; unsigned = subst (λ (o : Binary). IsTrue (are_operands o c.args.x.ty c.args.y.ty)) c.in-Xor.is c.requires.takes }

pub returns-in-Xor : goal.returns-in-Xor
returns-in-Xor c = binary_makes c.args.b.now c.exclusive_or.new.b c.args.x c.exclusive_or.result c.args.y _ _ c.in-Xor.is c.exclusive_or.ensures

pub minimum-requires : goal.minimum-requires
minimum-requires c = record { x = c.requires.x; y = c.requires.y; ty = c.requires.common }

pub returns-in-Min : goal.returns-in-Min
returns-in-Min c = binary_makes c.args.b.now c.minimum.new.b c.args.x c.minimum.result c.args.y _ _ c.in-Min.is c.minimum.ensures

pub maximum-requires : goal.maximum-requires
maximum-requires c = record { x = c.requires.x; y = c.requires.y; ty = c.requires.common }

pub returns-in-Max : goal.returns-in-Max
returns-in-Max c = binary_makes c.args.b.now c.maximum.new.b c.args.x c.maximum.result c.args.y _ _ c.in-Max.is c.maximum.ensures

pub is_less-requires-in-Greater : goal.is_less-requires-in-Greater
is_less-requires-in-Greater c = record { x = c.requires.y; y = c.requires.x; ty = common_turned_type _ _ c.requires.common }

pub returns-in-Greater : goal.returns-in-Greater
returns-in-Greater c = binary_makes c.args.b.now c.is_less-in-Greater.new.b c.args.x c.is_less-in-Greater.result c.args.y _ _ c.in-Greater.is (turned_makes _ c.is_less-in-Greater.new.b c.args.x.bits c.args.y.bits c.is_less-in-Greater.result _ _ c.is_less-in-Greater.ensures)

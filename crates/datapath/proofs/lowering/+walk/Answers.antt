use Rattle.std.proofs.Common.{ap, refl, rules, FitsSigned, ◌∙◌}
use Rattle.std.proofs.lemmas.Int.{to_z-of_z}
use mir.Syntax.{w128}
use Rattle.pointwise_ir.specs.Trees.{tree_of}
use Rattle.datapath.proofs.Growth.{then_grows, grows_itself}
use Rattle.datapath.proofs.Carried.{operand_later}
use Rattle.datapath.proofs.Gates.{leaves_later}
use Rattle.datapath.proofs.ExpressionParts.{constant_typed, read_place, shifted_place, unary_takes, convert_type, scale_takes, binary_takes, condition_type, select_type}
use Rattle.datapath.proofs.Formed.{shifted_tree, unary_tree, convert_tree, scale_tree, binary_tree, select_tree}
use Rattle.datapath.proofs.Leafless.{no_read, shifted_leafless, unary_leafless, convert_leafless, scale_leafless, binary_leafless, select_leafless}
use Rattle.datapath.proofs.Walked.{literal_walked, read_walked, shifted_walked, unary_walked, convert_walked, scale_walked, binary_walked, select_walked}
use Rattle.datapath.proofs.lowering.«+walk».Goals as goal

pub literal-requires-clause-ty : goal.literal-requires-clause-ty
literal-requires-clause-ty t c = (constant_typed _ _ _ _ _ c.requires.part _ _ (ap tree_of c.in-Constant.is)).0

pub literal-requires-clause-value : goal.literal-requires-clause-value
literal-requires-clause-value t c =
    let value : FitsSigned w128 c.in-Constant.value = search rules in
    rw (to_z-of_z w128 c.in-Constant.value value) (constant_typed _ _ _ _ _ c.requires.part _ _ (ap tree_of c.in-Constant.is)).1

pub returns-in-Constant-clause-grows : goal.returns-in-Constant-clause-grows
returns-in-Constant-clause-grows t c = grows_itself _

pub returns-in-Constant-clause-walked : goal.returns-in-Constant-clause-walked
returns-in-Constant-clause-walked t c =
    let value : FitsSigned w128 c.in-Constant.value = search rules in
    rw c.placed.ensures (literal_walked _ _ _ _ _ _ c.literal.result c.in-Constant.value _ c.in-Constant.ty (ap tree_of c.in-Constant.is) (to_z-of_z w128 c.in-Constant.value value) (c.literal.ensures.value _) (c.literal.ensures.made _))

pub returns-in-Read-clause-grows : goal.returns-in-Read-clause-grows
returns-in-Read-clause-grows t c = grows_itself _

pub read_at-requires : goal.read_at-requires
read_at-requires t c = read_place _ _ _ _ _ c.requires.part _ _ _ _ (ap tree_of c.in-Read.is)

pub returns-in-Read-clause-walked : goal.returns-in-Read-clause-walked
returns-in-Read-clause-walked t c = rw c.leaf.ensures (read_walked _ _ _ _ _ _ _ _ _ _ _ _ (ap tree_of c.in-Read.is) refl c.requires.leaves c.read_at.ensures)

pub returns-in_err-unary-in-Unary-clause-grows : goal.returns-in_err-unary-in-Unary-clause-grows
returns-in_err-unary-in-Unary-clause-grows t c = then_grows c.walk-in-Unary.ensures.grows c.in_err-unary-in-Unary.ensures

pub returns-in_ok-unary-in-Unary-clause-grows : goal.returns-in_ok-unary-in-Unary-clause-grows
returns-in_ok-unary-in-Unary-clause-grows t c = then_grows c.walk-in-Unary.ensures.grows c.in_ok-unary-in-Unary.ensures.grows

pub returns-in_ok-unary-in-Unary-clause-walked : goal.returns-in_ok-unary-in-Unary-clause-walked
returns-in_ok-unary-in-Unary-clause-walked t c = rw c.placed-in-Unary.ensures (unary_walked _ _ _ _ _ _ _ c.in_ok-x-in-Unary.x _ _ _ (unary_tree _ _ _ _ _ c.in-Unary.is c.deref-in-Unary.ensures) c.in_ok-unary-in-Unary.ensures.grows.includes c.in_ok-x-in-Unary.ensures.walked c.in_ok-unary-in-Unary.ensures.value c.in_ok-unary-in-Unary.ensures.made)

pub returns-in_err-converted-in-Convert-clause-grows : goal.returns-in_err-converted-in-Convert-clause-grows
returns-in_err-converted-in-Convert-clause-grows t c = then_grows c.walk-in-Convert.ensures.grows c.in_err-converted-in-Convert.ensures

pub returns-in_ok-converted-in-Convert-clause-grows : goal.returns-in_ok-converted-in-Convert-clause-grows
returns-in_ok-converted-in-Convert-clause-grows t c = then_grows c.walk-in-Convert.ensures.grows c.in_ok-converted-in-Convert.ensures.grows

pub returns-in_ok-converted-in-Convert-clause-walked : goal.returns-in_ok-converted-in-Convert-clause-walked
returns-in_ok-converted-in-Convert-clause-walked t c = rw c.placed-in-Convert.ensures (convert_walked _ _ _ _ _ _ _ c.in_ok-x-in-Convert.x _ _ _ _ (convert_tree _ _ _ _ _ _ c.in-Convert.is c.deref-in-Convert.ensures) c.in_ok-converted-in-Convert.ensures.grows.includes c.in_ok-x-in-Convert.ensures.walked c.in_ok-converted-in-Convert.ensures.value c.in_ok-converted-in-Convert.ensures.made)

pub returns-in_err-scaled-in-Scale-clause-grows : goal.returns-in_err-scaled-in-Scale-clause-grows
returns-in_err-scaled-in-Scale-clause-grows t c = then_grows c.walk-in-Scale.ensures.grows c.in_err-scaled-in-Scale.ensures

pub returns-in_ok-scaled-in-Scale-clause-grows : goal.returns-in_ok-scaled-in-Scale-clause-grows
returns-in_ok-scaled-in-Scale-clause-grows t c = then_grows c.walk-in-Scale.ensures.grows c.in_ok-scaled-in-Scale.ensures.grows

pub returns-in_ok-scaled-in-Scale-clause-walked : goal.returns-in_ok-scaled-in-Scale-clause-walked
returns-in_ok-scaled-in-Scale-clause-walked t c = rw c.placed-in-Scale.ensures (scale_walked _ _ _ _ _ _ _ c.in_ok-x-in-Scale.x _ _ _ _ (scale_tree _ _ _ _ _ _ c.in-Scale.is c.deref-in-Scale.ensures) c.in_ok-scaled-in-Scale.ensures.grows.includes c.in_ok-x-in-Scale.ensures.walked c.in_ok-scaled-in-Scale.ensures.value c.in_ok-scaled-in-Scale.ensures.made)

pub shifted-requires-clause-x : goal.shifted-requires-clause-x
shifted-requires-clause-x t c = c.in_ok-x-in-Shifted.ensures.walked.carries.operand

pub shifted-requires-clause-bit : goal.shifted-requires-clause-bit
shifted-requires-clause-bit t c = shifted_place _ _ _ _ _ c.requires.part _ _ _ _ (shifted_tree _ _ _ _ _ _ _ c.in-Shifted.is c.deref.ensures)

pub shifted-requires-clause-one_bit : goal.shifted-requires-clause-one_bit
shifted-requires-clause-one_bit t c = (leaves_later _ _ _ _ c.walk.ensures.grows c.requires.leaves).one_bit

pub returns-in_err-shifted-in-Shifted-clause-grows : goal.returns-in_err-shifted-in-Shifted-clause-grows
returns-in_err-shifted-in-Shifted-clause-grows t c = then_grows c.walk.ensures.grows c.shifted.ensures.grows

pub returns-in_ok-shifted-in-Shifted-clause-grows : goal.returns-in_ok-shifted-in-Shifted-clause-grows
returns-in_ok-shifted-in-Shifted-clause-grows t c = then_grows c.walk.ensures.grows c.shifted.ensures.grows

pub returns-in_ok-shifted-in-Shifted-clause-walked : goal.returns-in_ok-shifted-in-Shifted-clause-walked
returns-in_ok-shifted-in-Shifted-clause-walked t c = rw c.placed-in-Shifted.ensures (shifted_walked _ _ _ _ _ _ _ c.in_ok-x-in-Shifted.x _ _ _ _ _ _ _ (shifted_tree _ _ _ _ _ _ _ c.in-Shifted.is c.deref.ensures) c.shifted.ensures.grows.includes c.below_edge.ensures.read c.below_edge.ensures.bit c.in_ok-x-in-Shifted.ensures.walked c.in_ok-shifted-in-Shifted.ensures.value (c.in_ok-shifted-in-Shifted.ensures.made _ _ c.in_ok-x-in-Shifted.ensures.walked.made))

pub returns-in_err-y-in-Binary-clause-grows : goal.returns-in_err-y-in-Binary-clause-grows
returns-in_err-y-in-Binary-clause-grows t c = then_grows c.walk-in-Binary.ensures.grows c.walk-in-Binary-2.ensures.grows

pub returns-in_err-binary-in-Binary-clause-grows : goal.returns-in_err-binary-in-Binary-clause-grows
returns-in_err-binary-in-Binary-clause-grows t c = then_grows (then_grows c.walk-in-Binary.ensures.grows c.walk-in-Binary-2.ensures.grows) c.in_err-binary-in-Binary.ensures

pub returns-in_ok-binary-in-Binary-clause-grows : goal.returns-in_ok-binary-in-Binary-clause-grows
returns-in_ok-binary-in-Binary-clause-grows t c = then_grows (then_grows c.walk-in-Binary.ensures.grows c.walk-in-Binary-2.ensures.grows) c.in_ok-binary-in-Binary.ensures.grows

pub returns-in_ok-binary-in-Binary-clause-walked : goal.returns-in_ok-binary-in-Binary-clause-walked
returns-in_ok-binary-in-Binary-clause-walked t c = rw c.placed-in-Binary.ensures (binary_walked _ _ _ _ _ _ _ _ c.in_ok-x-in-Binary.x c.in_ok-y-in-Binary.y _ _ _ _ (binary_tree _ _ _ _ _ _ _ _ c.in-Binary.is c.deref-in-Binary.ensures c.deref-right.ensures) c.walk-in-Binary-2.ensures.grows.includes c.in_ok-binary-in-Binary.ensures.grows.includes c.in_ok-x-in-Binary.ensures.walked c.in_ok-y-in-Binary.ensures.walked c.in_ok-binary-in-Binary.ensures.value c.in_ok-binary-in-Binary.ensures.made)

pub returns-in_err-x-in-Select-clause-grows : goal.returns-in_err-x-in-Select-clause-grows
returns-in_err-x-in-Select-clause-grows t c = then_grows c.walk-in-Select.ensures.grows c.walk-in-Select-2.ensures.grows

pub returns-in_err-y-in-Select-clause-grows : goal.returns-in_err-y-in-Select-clause-grows
returns-in_err-y-in-Select-clause-grows t c = then_grows (then_grows c.walk-in-Select.ensures.grows c.walk-in-Select-2.ensures.grows) c.walk-in-Select-3.ensures.grows

pub returns-in_err-choice-in-Select-clause-grows : goal.returns-in_err-choice-in-Select-clause-grows
returns-in_err-choice-in-Select-clause-grows t c = then_grows (then_grows (then_grows c.walk-in-Select.ensures.grows c.walk-in-Select-2.ensures.grows) c.walk-in-Select-3.ensures.grows) c.in_err-choice-in-Select.ensures

pub returns-in_ok-choice-in-Select-clause-grows : goal.returns-in_ok-choice-in-Select-clause-grows
returns-in_ok-choice-in-Select-clause-grows t c = then_grows (then_grows (then_grows c.walk-in-Select.ensures.grows c.walk-in-Select-2.ensures.grows) c.walk-in-Select-3.ensures.grows) c.in_ok-choice-in-Select.ensures.grows

pub returns-in_ok-choice-in-Select-clause-walked : goal.returns-in_ok-choice-in-Select-clause-walked
returns-in_ok-choice-in-Select-clause-walked t c = rw c.placed-in-Select.ensures (select_walked _ _ _ _ _ _ _ _ _ c.in_ok-c-in-Select.c c.in_ok-x-in-Select.x c.in_ok-y-in-Select.y _ _ _ _ (select_tree _ _ _ _ _ _ _ _ _ _ c.in-Select.is c.deref-in-Select.ensures c.deref-first.ensures c.deref-second.ensures) c.walk-in-Select-2.ensures.grows.includes c.walk-in-Select-3.ensures.grows.includes c.in_ok-choice-in-Select.ensures.grows.includes c.in_ok-c-in-Select.ensures.walked c.in_ok-x-in-Select.ensures.walked c.in_ok-y-in-Select.ensures.walked c.in_ok-choice-in-Select.ensures.value c.in_ok-choice-in-Select.ensures.made)

pub begins_law-requires-clause-leaves : goal.begins_law-requires-clause-leaves
begins_law-requires-clause-leaves t c = leaves_later _ _ _ _ c.walk-in-Binary.ensures.grows c.requires.leaves

pub begins_law-requires-in-Select-clause-leaves : goal.begins_law-requires-in-Select-clause-leaves
begins_law-requires-in-Select-clause-leaves t c = leaves_later _ _ _ _ c.walk-in-Select.ensures.grows c.requires.leaves

pub begins_law-requires-in-Select-2-clause-leaves : goal.begins_law-requires-in-Select-2-clause-leaves
begins_law-requires-in-Select-2-clause-leaves t c = leaves_later _ _ _ _ (then_grows c.walk-in-Select.ensures.grows c.walk-in-Select-2.ensures.grows) c.requires.leaves

pub returns-in-Constant-clause-folds : goal.returns-in-Constant-clause-folds
returns-in-Constant-clause-folds t c h = rw c.placed.ensures (c.literal.ensures.known, refl)

pub returns-in-Read-clause-folds : goal.returns-in-Read-clause-folds
returns-in-Read-clause-folds t c h = absurd (no_read _ _ _ _ _ (ap tree_of c.in-Read.is) h)

pub returns-in_ok-unary-in-Unary-clause-folds : goal.returns-in_ok-unary-in-Unary-clause-folds
returns-in_ok-unary-in-Unary-clause-folds t c h =
    let x = c.in_ok-x-in-Unary.ensures.folds (unary_leafless _ _ _ (unary_tree _ _ _ _ _ c.in-Unary.is c.deref-in-Unary.ensures) h) in
    let all = c.in_ok-unary-in-Unary.ensures.folds (x.0, tt) in
    rw c.placed-in-Unary.ensures (all.0, all.1 ∙ x.1)

pub returns-in_ok-converted-in-Convert-clause-folds : goal.returns-in_ok-converted-in-Convert-clause-folds
returns-in_ok-converted-in-Convert-clause-folds t c h =
    let x = c.in_ok-x-in-Convert.ensures.folds (convert_leafless _ _ _ _ (convert_tree _ _ _ _ _ _ c.in-Convert.is c.deref-in-Convert.ensures) h) in
    let all = c.in_ok-converted-in-Convert.ensures.folds (x.0, tt) in
    rw c.placed-in-Convert.ensures (all.0, all.1 ∙ x.1)

pub returns-in_ok-scaled-in-Scale-clause-folds : goal.returns-in_ok-scaled-in-Scale-clause-folds
returns-in_ok-scaled-in-Scale-clause-folds t c h =
    let x = c.in_ok-x-in-Scale.ensures.folds (scale_leafless _ _ _ _ (scale_tree _ _ _ _ _ _ c.in-Scale.is c.deref-in-Scale.ensures) h) in
    let all = c.in_ok-scaled-in-Scale.ensures.folds (x.0, tt) in
    rw c.placed-in-Scale.ensures (all.0, all.1 ∙ x.1)

pub returns-in_ok-shifted-in-Shifted-clause-folds : goal.returns-in_ok-shifted-in-Shifted-clause-folds
returns-in_ok-shifted-in-Shifted-clause-folds t c h =
    let parts = shifted_leafless _ _ _ _ _ (shifted_tree _ _ _ _ _ _ _ c.in-Shifted.is c.deref.ensures) h in
    let x = c.in_ok-x-in-Shifted.ensures.folds parts.1 in
    let all = c.in_ok-shifted-in-Shifted.ensures.folds parts.0 (x.0, tt) in
    rw c.placed-in-Shifted.ensures (all.0, all.1 ∙ x.1)

pub returns-in_ok-binary-in-Binary-clause-folds : goal.returns-in_ok-binary-in-Binary-clause-folds
returns-in_ok-binary-in-Binary-clause-folds t c h =
    let parts = binary_leafless _ _ _ _ (binary_tree _ _ _ _ _ _ _ _ c.in-Binary.is c.deref-in-Binary.ensures c.deref-right.ensures) h in
    let x = c.in_ok-x-in-Binary.ensures.folds parts.0 in
    let y = c.in_ok-y-in-Binary.ensures.folds parts.1 in
    let all = c.in_ok-binary-in-Binary.ensures.folds (x.0, (y.0, tt)) in
    rw c.placed-in-Binary.ensures (all.0, all.1 ∙ y.1 ∙ x.1)

pub returns-in_ok-choice-in-Select-clause-folds : goal.returns-in_ok-choice-in-Select-clause-folds
returns-in_ok-choice-in-Select-clause-folds t c h =
    let parts = select_leafless _ _ _ _ (select_tree _ _ _ _ _ _ _ _ _ _ c.in-Select.is c.deref-in-Select.ensures c.deref-first.ensures c.deref-second.ensures) h in
    let bit = c.in_ok-c-in-Select.ensures.folds parts.0 in
    let x = c.in_ok-x-in-Select.ensures.folds parts.1 in
    let y = c.in_ok-y-in-Select.ensures.folds parts.2 in
    let all = c.in_ok-choice-in-Select.ensures.folds (bit.0, (x.0, (y.0, tt))) in
    rw c.placed-in-Select.ensures (all.0, all.1 ∙ y.1 ∙ x.1 ∙ bit.1)

pub unary-requires : goal.unary-requires
unary-requires t c = record {
  x = c.in_ok-x-in-Unary.ensures.walked.carries.operand;
  takes = (unary_takes _ _ _ _ _ c.requires.part _ _ _ (unary_tree _ _ _ _ _ c.in-Unary.is c.deref-in-Unary.ensures) c.in_ok-x-in-Unary.ensures.walked.carries.is).0;
  ty = (unary_takes _ _ _ _ _ c.requires.part _ _ _ (unary_tree _ _ _ _ _ c.in-Unary.is c.deref-in-Unary.ensures) c.in_ok-x-in-Unary.ensures.walked.carries.is).1;
}

pub converted-requires : goal.converted-requires
converted-requires t c = record {
  x = c.in_ok-x-in-Convert.ensures.walked.carries.operand;
  ty = convert_type _ _ _ _ _ c.requires.part _ _ _ (convert_tree _ _ _ _ _ _ c.in-Convert.is c.deref-in-Convert.ensures);
}

pub scaled-requires : goal.scaled-requires
scaled-requires t c = record {
  x = c.in_ok-x-in-Scale.ensures.walked.carries.operand;
  by = (scale_takes _ _ _ _ _ c.requires.part _ _ _ _ (scale_tree _ _ _ _ _ _ c.in-Scale.is c.deref-in-Scale.ensures) c.in_ok-x-in-Scale.ensures.walked.carries.is).0;
  ty = (scale_takes _ _ _ _ _ c.requires.part _ _ _ _ (scale_tree _ _ _ _ _ _ c.in-Scale.is c.deref-in-Scale.ensures) c.in_ok-x-in-Scale.ensures.walked.carries.is).1;
}

pub binary-requires : goal.binary-requires
binary-requires t c = record {
  x = operand_later _ _ _ c.walk-in-Binary-2.ensures.grows c.in_ok-x-in-Binary.ensures.walked.carries.operand;
  y = c.in_ok-y-in-Binary.ensures.walked.carries.operand;
  takes = (binary_takes _ _ _ _ _ c.requires.part _ _ _ _ _ _ (binary_tree _ _ _ _ _ _ _ _ c.in-Binary.is c.deref-in-Binary.ensures c.deref-right.ensures) c.in_ok-x-in-Binary.ensures.walked.read c.in_ok-x-in-Binary.ensures.walked.carries.is c.in_ok-y-in-Binary.ensures.walked.carries.is).0;
  common = (binary_takes _ _ _ _ _ c.requires.part _ _ _ _ _ _ (binary_tree _ _ _ _ _ _ _ _ c.in-Binary.is c.deref-in-Binary.ensures c.deref-right.ensures) c.in_ok-x-in-Binary.ensures.walked.read c.in_ok-x-in-Binary.ensures.walked.carries.is c.in_ok-y-in-Binary.ensures.walked.carries.is).1;
  ty = (binary_takes _ _ _ _ _ c.requires.part _ _ _ _ _ _ (binary_tree _ _ _ _ _ _ _ _ c.in-Binary.is c.deref-in-Binary.ensures c.deref-right.ensures) c.in_ok-x-in-Binary.ensures.walked.read c.in_ok-x-in-Binary.ensures.walked.carries.is c.in_ok-y-in-Binary.ensures.walked.carries.is).2;
}

pub choice-requires : goal.choice-requires
choice-requires t c = record {
  condition = record { x = operand_later _ _ _ (then_grows c.walk-in-Select-2.ensures.grows c.walk-in-Select-3.ensures.grows) c.in_ok-c-in-Select.ensures.walked.carries.operand; ty = condition_type _ _ _ _ _ c.requires.part _ _ _ _ (select_tree _ _ _ _ _ _ _ _ _ _ c.in-Select.is c.deref-in-Select.ensures c.deref-first.ensures c.deref-second.ensures) c.in_ok-c-in-Select.ensures.walked.carries.is };
  x = operand_later _ _ _ c.walk-in-Select-3.ensures.grows c.in_ok-x-in-Select.ensures.walked.carries.operand;
  y = c.in_ok-y-in-Select.ensures.walked.carries.operand;
  ty = select_type _ _ _ _ _ c.requires.part _ _ _ _ _ _ _ (select_tree _ _ _ _ _ _ _ _ _ _ c.in-Select.is c.deref-in-Select.ensures c.deref-first.ensures c.deref-second.ensures) c.in_ok-c-in-Select.ensures.walked.read c.in_ok-x-in-Select.ensures.walked.read c.in_ok-x-in-Select.ensures.walked.carries.is c.in_ok-y-in-Select.ensures.walked.carries.is;
}

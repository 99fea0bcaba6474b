-- What an operator of a typed expression is applied to.
use Rattle.std.proofs.Common.{◌≡◌, ℕ, ℤ, List, sym, subst}
use Rattle.dk_base.specs.declared.ty.Ty.{Ty}
use Rattle.dk_base.specs.declared.operator.Unary.{Unary}
use Rattle.dk_base.specs.declared.operator.Binary.{Binary}
use Rattle.dk_base.specs.declared.operator.Scaling.{Scaling}
use Rattle.dk_base.specs.Types.{IsIn}
use Rattle.dk_base.specs.Frames.{Size}
use Rattle.pointwise_ir.specs.Trees.{Tree, unary, binary, scale}
use Rattle.pointwise_ir.specs.Typing.{HasType}
use Rattle.pointwise_ir.specs.Meaning.{value}
use Rattle.pointwise_ir.specs.Operands.{TakesOne, TakesTwo, TakesScaled}
use Rattle.pointwise_ir.proofs.Typed.{type_typed, value_in}
use Rattle.pointwise_eval.specs.declared.plane.Plane.{Plane}
use Rattle.pointwise_eval.specs.Planes.{all_shown, CanEvaluate}

-- the value of a typed part is in its type
part_in : (size : Size) (planes : List Plane) (e : Tree) → (can : CanEvaluate size planes e) → (a : Tree) (s : Ty) → HasType can.types a s → (v x y : ℤ) → v ≡ value size (all_shown size planes) a x y → IsIn s v
part_in size planes e can a s has v x y is =
    let P : ℤ → Type 0 = λ u. IsIn s u in
    subst P (sym is) (value_in size can.types (all_shown size planes) can.types_are can.values a s has x y)

pub takes_one : (size : Size) (planes : List Plane) (op : Unary) (a : Tree) → CanEvaluate size planes (unary op a) → (v x y : ℤ) → v ≡ value size (all_shown size planes) a x y → TakesOne op v
takes_one size planes op a can v x y is =
    let (s, has, rule) = can.typed in
    record { a = s; t = can.ty; typed = type_typed can.types can.types_are a s has; value = part_in size planes (unary op a) can a s has v x y is; rule = rule }

pub takes_two : (size : Size) (planes : List Plane) (op : Binary) (a b : Tree) → CanEvaluate size planes (binary op a b) → (v u x y : ℤ) →
    v ≡ value size (all_shown size planes) a x y → u ≡ value size (all_shown size planes) b x y → TakesTwo op v u
takes_two size planes op a b can v u x y is also =
    let (s, r, has, too, rule) = can.typed in
    record {
      a = s;
      b = r;
      t = can.ty;
      left_typed = type_typed can.types can.types_are a s has;
      right_typed = type_typed can.types can.types_are b r too;
      left = part_in size planes (binary op a b) can a s has v x y is;
      right = part_in size planes (binary op a b) can b r too u x y also;
      rule = rule;
    }

pub takes_scaled : (size : Size) (planes : List Plane) (op : Scaling) (a : Tree) (k : ℕ) → CanEvaluate size planes (scale op a k) → (v x y : ℤ) → v ≡ value size (all_shown size planes) a x y → TakesScaled op v k
takes_scaled size planes op a k can v x y is =
    let (s, has, rule) = can.typed in
    record { a = s; t = can.ty; typed = type_typed can.types can.types_are a s has; value = part_in size planes (scale op a k) can a s has v x y is; rule = rule }

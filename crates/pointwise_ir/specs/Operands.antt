-- What operators are applied to: values of types that the operators take.
use Rattle.std.specs.Prelude.{◌≡◌, ℕ, ℤ, Some}
use Rattle.dk_base.specs.declared.ty.Ty.{Ty}
use Rattle.dk_base.specs.declared.operator.Unary.{Unary}
use Rattle.dk_base.specs.declared.operator.Binary.{Binary}
use Rattle.dk_base.specs.declared.operator.Scaling.{Scaling}
use Rattle.dk_base.specs.Types.{IsType, IsIn}
use Rattle.dk_base.specs.Operators.{unary_type, binary_type, scaling_type}

pub record TakesOne (op : Unary) (v : ℤ) : Type 0 where
  pub a : Ty
  pub t : Ty
  pub typed : IsType a
  pub value : IsIn a v
  pub rule : unary_type op a ≡ Some t

pub record TakesTwo (op : Binary) (v u : ℤ) : Type 0 where
  pub a : Ty
  pub b : Ty
  pub t : Ty
  pub left_typed : IsType a
  pub right_typed : IsType b
  pub left : IsIn a v
  pub right : IsIn b u
  pub rule : binary_type op a b ≡ Some t

pub record TakesScaled (op : Scaling) (v : ℤ) (k : ℕ) : Type 0 where
  pub a : Ty
  pub t : Ty
  pub typed : IsType a
  pub value : IsIn a v
  pub rule : scaling_type op a k ≡ Some t

-- What is answered for an expression.
use Rattle.std.specs.Prelude.{◌≡◌, ◌<◌, ◌≤◌, ℤ, Option, Some, Result, MatchResult, IfOk, IfErr}
use Rattle.dk_base.specs.declared.TheConstants.{MAX_OFFSET}
use Rattle.dk_base.specs.declared.ty.Ty.{Ty}
use Rattle.dk_base.specs.declared.span.Span.{Span}
use Rattle.dk_base.specs.Types.{IsType}
use Rattle.dk_parser.specs.declared.tree.Offset.{Offset}
use Rattle.dk_parser.specs.Tree.{Tree, span_of}
use Rattle.dk_types.specs.declared.typed.TypedExpr.{TypedExpr}
use Rattle.dk_types.specs.declared.expression.Operand.{Operand}
use Rattle.dk_types.specs.declared.fault.TypeError.{TypeError}
use Rattle.dk_types.specs.Offsets.{offset_of, amount_of}
use Rattle.dk_types.specs.Scopes.{Scope}
use Rattle.dk_types.specs.Typed.{typed_of}
use Rattle.dk_types.specs.Types.{HasType}
use Rattle.dk_types.specs.Faults.{Faulty, Stops}

-- the expression is typed so
pub record IsTypedAs (scope : Scope) (e : Tree) (t : TypedExpr) : Type 0 where
  pub has : HasType scope e (typed_of t)
  pub is_type : IsType t.ty

-- an operand: the expression is typed so, and stands there
pub record IsOperand (scope : Scope) (e : Tree) (o : Operand) : Type 0 where
  pub typed : IsTypedAs scope e o.typed
  pub stands : span_of e ≡ o.span

-- the expression's typed form, or its first fault
abbrev pub Judged : Scope → Tree → Result TypedExpr TypeError → Type 0
Judged scope e r = MatchResult r (λ t. IsTypedAs scope e t) (λ stop. Stops (Faulty scope e) stop)

-- The type that an operator gives, or what is reported where it gives none.
pub record GivesType (given : Option Ty) (tells : TypeError → Type 0) (result : Result Ty TypeError) : Type 0 where
  -- it is the operator's
  pub typed : IfOk result (λ t. given ≡ Some t)
  -- it has 1 to 64 bits
  pub is_type : IfOk result (λ t. IsType t)
  -- this is reported
  pub faulty : IfErr result tells

-- the number of this offset is too great
pub record IsFarAt (offset : Option Offset) (span : Span) : Type 0 where
  pub written : Offset
  pub is : offset ≡ Some written
  pub far : MAX_OFFSET < written.amount.value
  pub stands : written.amount.span ≡ span

-- An offset as a number, or where it is too great.
pub record IsOffset (offset : Option Offset) (result : Result ℤ Span) : Type 0 where
  -- it is that number, which is not too great
  pub near : IfOk result (λ v. (v ≡ offset_of offset) × (amount_of offset ≤ MAX_OFFSET))
  -- it is too great there
  pub far : IfErr result (λ s. IsFarAt offset s)

-- Expressions, without where they lie in memory.
use Rattle.std.specs.Prelude.{ℕ, ◌+◌, ◌≤◌, max, ℤ, unsigned_abs}
use Rattle.dk_base.specs.declared.ty.Ty.{Ty}
use Rattle.dk_base.specs.declared.operator.Unary.{Unary}
use Rattle.dk_base.specs.declared.operator.Binary.{Binary}
use Rattle.dk_base.specs.declared.operator.Scaling.{Scaling}
use Rattle.dk_base.specs.declared.operator.Conversion.{Conversion}
use Rattle.pointwise_ir.specs.declared.TheConstants.{FARTHEST}
use Rattle.pointwise_ir.specs.declared.expr.Edge.{Edge}
use Rattle.pointwise_ir.specs.declared.expr.Expr.{Expr}
use Rattle.pointwise_ir.specs.declared.expr.Expr.TheVariants.{Constant, Read, Shifted', Unary', Binary', Select', Convert', Scale'}

pub data Tree : Type 0 where
  constant : ℤ → Ty → Tree
  read : Edge → ℕ → ℤ → ℤ → Tree
  shifted : Edge → ℤ → ℤ → Tree → Tree
  unary : Unary → Tree → Tree
  binary : Binary → Tree → Tree → Tree
  select : Tree → Tree → Tree → Tree
  convert : Conversion → Tree → Ty → Tree
  scale : Scaling → Tree → ℕ → Tree

abbrev pub tree_of : Expr → Tree
tree_of (Constant v t) = constant v t
tree_of (Read edge g dx dy) = read edge g dx dy
tree_of (Shifted' edge dx dy p a) = shifted edge dx dy (tree_of a)
tree_of (Unary' op p a) = unary op (tree_of a)
tree_of (Binary' op p a q b) = binary op (tree_of a) (tree_of b)
tree_of (Select' p c q a r b) = select (tree_of c) (tree_of a) (tree_of b)
tree_of (Convert' how p a t) = convert how (tree_of a) t
tree_of (Scale' op p a k) = scale op (tree_of a) k

-- a constant or a read has depth 1, any other form 1 more than its deepest operand
abbrev pub depth_of : Tree → ℕ
depth_of (constant v t) = 1
depth_of (read edge g dx dy) = 1
depth_of (shifted edge dx dy a) = depth_of a + 1
depth_of (unary op a) = depth_of a + 1
depth_of (binary op a b) = max (depth_of a) (depth_of b) + 1
depth_of (select c a b) = max (depth_of c) (max (depth_of a) (depth_of b)) + 1
depth_of (convert how a t) = depth_of a + 1
depth_of (scale op a k) = depth_of a + 1

-- An offset of at most 65,536 to either side. A frame's side is at most 4,096, so that a farther point is outside of every frame, and clamped it is the same as at 65,536.
pub record IsNear (dx dy : ℤ) : Type 0 where
  pub across : unsigned_abs dx ≤ FARTHEST
  pub down : unsigned_abs dy ≤ FARTHEST

-- each offset is near
abbrev pub AreNear : Tree → Type 0
AreNear (constant v t) = Unit {0}
AreNear (read edge g dx dy) = IsNear dx dy
AreNear (shifted edge dx dy a) = IsNear dx dy × AreNear a
AreNear (unary op a) = AreNear a
AreNear (binary op a b) = AreNear a × AreNear b
AreNear (select c a b) = AreNear c × AreNear a × AreNear b
AreNear (convert how a t) = AreNear a
AreNear (scale op a k) = AreNear a

-- P holds of each image that the expression reads
abbrev pub EachImage : (ℕ → Type 0) → Tree → Type 0
EachImage P (constant v t) = Unit {0}
EachImage P (read edge g dx dy) = P g
EachImage P (shifted edge dx dy a) = EachImage P a
EachImage P (unary op a) = EachImage P a
EachImage P (binary op a b) = EachImage P a × EachImage P b
EachImage P (select c a b) = EachImage P c × EachImage P a × EachImage P b
EachImage P (convert how a t) = EachImage P a
EachImage P (scale op a k) = EachImage P a

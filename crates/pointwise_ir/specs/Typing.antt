-- The types of expressions, one rule for each form.
use Rattle.std.specs.Prelude.{◌≡◌, List, Some, slice_get}
use Rattle.dk_base.specs.declared.ty.Ty.{Ty}
use Rattle.dk_base.specs.Types.{IsType, IsIn}
use Rattle.dk_base.specs.Operators.{unary_type, binary_type, scaling_type, select_type}
use Rattle.pointwise_ir.specs.Trees.{Tree, constant, read, shifted, unary, binary, select, convert, scale}

-- the expression has the type t, where the images have these types
abbrev pub HasType : List Ty → Tree → Ty → Type 0
HasType types (constant v s) t = IsType s × IsIn s v × (t ≡ s)
HasType types (read edge g dx dy) t = slice_get types g ≡ Some t
HasType types (shifted edge dx dy a) t = HasType types a t
HasType types (unary op a) t = (s : Ty) × HasType types a s × (unary_type op s ≡ Some t)
HasType types (binary op a b) t = (s : Ty) × (r : Ty) × HasType types a s × HasType types b r × (binary_type op s r ≡ Some t)
HasType types (select c a b) t = (q : Ty) × (s : Ty) × (r : Ty) × HasType types c q × HasType types a s × HasType types b r × (select_type q s r ≡ Some t)
HasType types (convert how a s) t = IsType s × (t ≡ s) × (r : Ty) × HasType types a r
HasType types (scale op a k) t = (s : Ty) × HasType types a s × (scaling_type op s k ≡ Some t)

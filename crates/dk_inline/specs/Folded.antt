-- Programs in which what has no read and no shift is a constant, and what such a program is the fold of.
use Rattle.std.specs.Prelude.{◌≡◌, ◌⊎◌, ℕ, ℤ, List, [], All, Some, slice_get}
use Rattle.dk_base.specs.declared.ty.Ty.{Ty}
use Rattle.dk_base.specs.declared.operator.Unary.{Unary}
use Rattle.dk_base.specs.declared.operator.Binary.{Binary}
use Rattle.dk_base.specs.declared.operator.Scaling.{Scaling}
use Rattle.dk_base.specs.declared.operator.Conversion.{Conversion}
use Rattle.dk_base.specs.Frames.{Size, Picture}
use Rattle.pointwise_ir.specs.declared.expr.Edge.{Edge}
use Rattle.pointwise_ir.specs.Trees.{Tree, constant, read, shifted, unary, binary, select, convert, scale}
use Rattle.pointwise_ir.specs.Typing.{HasType}
use Rattle.pointwise_ir.specs.Meaning.{value}
use Rattle.pointwise_ir.specs.Programs.{Program, names_of, types_of, bodies_of}

-- the first expression is the second, or a part of an operand of it
abbrev pub IsPart : (part whole : Tree) → Type 0
IsPart part (constant v t) = part ≡ constant v t
IsPart part (read edge g dx dy) = part ≡ read edge g dx dy
IsPart part (shifted edge dx dy a) = (part ≡ shifted edge dx dy a) ⊎ IsPart part a
IsPart part (unary op a) = (part ≡ unary op a) ⊎ IsPart part a
IsPart part (binary op a b) = (part ≡ binary op a b) ⊎ (IsPart part a ⊎ IsPart part b)
IsPart part (select c a b) = (part ≡ select c a b) ⊎ (IsPart part c ⊎ (IsPart part a ⊎ IsPart part b))
IsPart part (convert how a t) = (part ≡ convert how a t) ⊎ IsPart part a
IsPart part (scale op a k) = (part ≡ scale op a k) ⊎ IsPart part a

-- the expression has no read and no shift
abbrev pub IsClosed : Tree → Type 0
IsClosed (constant v t) = Unit {0}
IsClosed (read edge g dx dy) = ⊥
IsClosed (shifted edge dx dy a) = ⊥
IsClosed (unary op a) = IsClosed a
IsClosed (binary op a b) = IsClosed a × IsClosed b
IsClosed (select c a b) = IsClosed c × IsClosed a × IsClosed b
IsClosed (convert how a t) = IsClosed a
IsClosed (scale op a k) = IsClosed a

abbrev pub IsConstant : Tree → Type 0
IsConstant e = (v : ℤ) × (t : Ty) × (e ≡ constant v t)

-- each part that has no read and no shift is a constant
abbrev pub HasFoldedParts : Tree → Type 0
HasFoldedParts e = (part : Tree) → IsPart part e → IsClosed part → IsConstant part

-- that holds of each body
abbrev pub IsFolded : Program → Type 0
IsFolded p = All HasFoldedParts (bodies_of p)

-- the expression has no read and no shift, and over no images this type; and at every point this value
pub record IsWorth (e : Tree) (v : ℤ) (t : Ty) : Type 0 where
  pub closed : IsClosed e
  pub typed : HasType [] e t
  pub value : (size : Size) (known : List Picture) (x y : ℤ) → value size known e x y ≡ v

-- Each part of the first expression that has no read and no shift is the constant of its own value and type in the second, and all else stays.
pub data IsFoldOf : (old new : Tree) → Type 0 where
  to_constant : {e : Tree} {v : ℤ} {t : Ty} → IsWorth e v t → IsFoldOf e (constant v t)
  in_read : {edge : Edge} {g : ℕ} {dx dy : ℤ} → IsFoldOf (read edge g dx dy) (read edge g dx dy)
  in_shifted : {edge : Edge} {dx dy : ℤ} {a b : Tree} → IsFoldOf a b → IsFoldOf (shifted edge dx dy a) (shifted edge dx dy b)
  in_unary : {op : Unary} {a b : Tree} → (IsClosed (unary op a) → ⊥) → IsFoldOf a b → IsFoldOf (unary op a) (unary op b)
  in_binary : {op : Binary} {a b c d : Tree} → (IsClosed (binary op a b) → ⊥) → IsFoldOf a c → IsFoldOf b d → IsFoldOf (binary op a b) (binary op c d)
  in_select : {a b c d e f : Tree} → (IsClosed (select a b c) → ⊥) → IsFoldOf a d → IsFoldOf b e → IsFoldOf c f → IsFoldOf (select a b c) (select d e f)
  in_convert : {how : Conversion} {a b : Tree} {t : Ty} → (IsClosed (convert how a t) → ⊥) → IsFoldOf a b → IsFoldOf (convert how a t) (convert how b t)
  in_scale : {op : Scaling} {a b : Tree} {k : ℕ} → (IsClosed (scale op a k) → ⊥) → IsFoldOf a b → IsFoldOf (scale op a k) (scale op b k)

-- each body of the new program is the fold of the old one, and all else stays
pub record IsFolding (old new : Program) : Type 0 where
  pub size : new.size ≡ old.size
  pub inputs : new.inputs ≡ old.inputs
  pub outputs : new.outputs ≡ old.outputs
  pub names : names_of new ≡ names_of old
  pub types : types_of new ≡ types_of old
  pub bodies : (k : ℕ) (a b : Tree) → slice_get (bodies_of old) k ≡ Some a → slice_get (bodies_of new) k ≡ Some b → IsFoldOf a b

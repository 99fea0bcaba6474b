-- Expressions whose parts have values of a type, and those whose parts have types of 64 bits.
use Rattle.std.specs.Prelude.{ℤ, List}
use Rattle.dk_base.specs.declared.ty.Ty.{Ty}
use Rattle.dk_base.specs.declared.ty.Ty.TheVariants.{Signed}
use Rattle.dk_base.specs.Types.{IsType, IsIn, IsWithin}
use Rattle.dk_base.specs.Frames.{Size, Picture}
use Rattle.pointwise_ir.specs.Trees.{Tree, constant, read, shifted, unary, binary, select, convert, scale}
use Rattle.pointwise_ir.specs.Typing.{HasType}
use Rattle.pointwise_ir.specs.Meaning.{value}
use Rattle.value_ranges.specs.Parts.{EachPart}

-- each value is a number of the type
abbrev pub AreAllIn : Size → List Picture → Tree → Ty → Type 0
AreAllIn size known e t = (x y : ℤ) → IsIn t (value size known e x y)

-- so is each part's, and each value of an image that is read
abbrev pub ArePartsIn : Ty → Size → List Picture → Tree → Type 0
ArePartsIn s size known e = EachPart (IsIn s) size known e

-- the expression has a type of numbers of 64 bits, where the images have these types
abbrev pub HasNarrowType : List Ty → Tree → Type 0
HasNarrowType types e = (t : Ty) × HasType types e t × IsWithin t (Signed 64)

-- so has each part
abbrev pub AreOfNarrowTypes : List Ty → Tree → Type 0
AreOfNarrowTypes types (constant v t) = HasNarrowType types (constant v t)
AreOfNarrowTypes types (read edge g dx dy) = HasNarrowType types (read edge g dx dy)
AreOfNarrowTypes types (shifted edge dx dy a) = HasNarrowType types (shifted edge dx dy a) × AreOfNarrowTypes types a
AreOfNarrowTypes types (unary op a) = HasNarrowType types (unary op a) × AreOfNarrowTypes types a
AreOfNarrowTypes types (binary op a b) = HasNarrowType types (binary op a b) × AreOfNarrowTypes types a × AreOfNarrowTypes types b
AreOfNarrowTypes types (select c a b) = HasNarrowType types (select c a b) × AreOfNarrowTypes types c × AreOfNarrowTypes types a × AreOfNarrowTypes types b
AreOfNarrowTypes types (convert how a t) = HasNarrowType types (convert how a t) × AreOfNarrowTypes types a
AreOfNarrowTypes types (scale op a k) = HasNarrowType types (scale op a k) × AreOfNarrowTypes types a

-- the type of an expression whose parts have types of numbers of 64 bits
pub record IsNarrowType (types : List Ty) (e : Tree) (t : Ty) : Type 0 where
  pub typed : IsType t
  pub found : HasType types e t
  pub narrow : AreOfNarrowTypes types e

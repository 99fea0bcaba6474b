-- Used by private functions only.
-- Expressions that may replace others, with folded parts.
use Rattle.std.specs.Prelude.{◌≡◌, List, Option, IfSome, IfNone}
use Rattle.dk_base.specs.declared.ty.Ty.{Ty}
use Rattle.dk_base.specs.Frames.{Size}
use Rattle.pointwise_ir.specs.declared.program.Definition.{Definition}
use Rattle.pointwise_ir.specs.Trees.{Tree, constant, read, shifted, unary, binary, select, convert, scale, tree_of, AreNear}
use Rattle.pointwise_ir.specs.Typing.{HasType}
use Rattle.pointwise_ir.specs.Rewritings.{IsRewriting, IsSameBut}
use Rattle.pointwise_ir.specs.Programs.{Program}
use Rattle.dk_inline.specs.declared.fold.Constant.{Constant}
use Rattle.dk_inline.specs.Folded.{HasFoldedParts, IsConstant, IsFoldOf, IsFolded, IsFolding, IsWorth}

-- over some images the expression has a type, and its offsets are near
pub record IsTyped (e : Tree) : Type 0 where
  pub types : List Ty
  pub ty : Ty
  pub typed : HasType types e ty
  pub offsets : AreNear e

-- wherever a has a type, b may replace it
pub record StandsFor (a b : Tree) : Type 0 where
  pub rewriting : (size : Size) (types : List Ty) (t : Ty) → HasType types a t → AreNear a → IsRewriting size types t a b

-- each operand has folded parts
abbrev pub HasFoldedOperands : Tree → Type 0
HasFoldedOperands (constant v t) = Unit {0}
HasFoldedOperands (read edge g dx dy) = Unit {0}
HasFoldedOperands (shifted edge dx dy a) = HasFoldedParts a
HasFoldedOperands (unary op a) = HasFoldedParts a
HasFoldedOperands (binary op a b) = HasFoldedParts a × HasFoldedParts b
HasFoldedOperands (select c a b) = HasFoldedParts c × HasFoldedParts a × HasFoldedParts b
HasFoldedOperands (convert how a t) = HasFoldedParts a
HasFoldedOperands (scale op a k) = HasFoldedParts a

-- the new expression is the old one with folded operands
abbrev pub AreOperandsFolded : (old new : Tree) → Type 0
AreOperandsFolded (constant v t) new = new ≡ constant v t
AreOperandsFolded (read edge g dx dy) new = new ≡ read edge g dx dy
AreOperandsFolded (shifted edge dx dy a) new = (b : Tree) × (new ≡ shifted edge dx dy b) × IsFoldOf a b
AreOperandsFolded (unary op a) new = (b : Tree) × (new ≡ unary op b) × IsFoldOf a b
AreOperandsFolded (binary op a b) new = (c : Tree) × (d : Tree) × (new ≡ binary op c d) × IsFoldOf a c × IsFoldOf b d
AreOperandsFolded (select a b c) new = (d : Tree) × (e : Tree) × (f : Tree) × (new ≡ select d e f) × IsFoldOf a d × IsFoldOf b e × IsFoldOf c f
AreOperandsFolded (convert how a t) new = (b : Tree) × (new ≡ convert how b t) × IsFoldOf a b
AreOperandsFolded (scale op a k) new = (b : Tree) × (new ≡ scale op b k) × IsFoldOf a b

-- An expression is folded in its operands.
pub record FoldsOperands (old new : Tree) : Type 0 where
  -- it may replace the old one
  pub stands : StandsFor old new
  -- each operand has folded parts
  pub operands : HasFoldedOperands new
  -- and is the fold of the old one
  pub folds : AreOperandsFolded old new

-- An expression is folded.
pub record Folds (old new : Tree) : Type 0 where
  -- it may replace the old one
  pub stands : StandsFor old new
  -- its parts are folded
  pub folded : HasFoldedParts new
  -- it is the fold of the old one
  pub fold : IsFoldOf old new

-- A program is folded.
pub record FoldsProgram (old new : Program) : Type 0 where
  -- it is the same but for bodies that may replace the old ones
  pub same : IsSameBut old new
  -- each body is folded
  pub folded : IsFolded new
  -- and is the fold of the old one
  pub folding : IsFolding old new

-- An expression with a type, whose operands are folded.
pub record IsFoldable (e : Tree) : Type 0 where
  -- it has a type
  pub typed : IsTyped e
  -- each operand has folded parts
  pub operands : HasFoldedOperands e

-- The constant that an expression is, or None where it is none.
pub record IsConstantIn (e : Tree) (result : Option Constant) : Type 0 where
  -- it is the constant
  pub found : IfSome result (λ c. e ≡ constant c.value c.ty)
  -- it is none
  pub none : IfNone result (IsConstant e → ⊥)

-- The constant that an expression is worth, or None where `otherwise` is so.
pub record FindsConstant (e : Tree) (otherwise : Type 0) (result : Option Constant) : Type 0 where
  -- it is worth the constant
  pub found : IfSome result (λ c. IsWorth e c.value c.ty)
  -- None: `otherwise` is so
  pub none : IfNone result otherwise

-- d' is d with its body folded: the new body may replace that of d, and has folded parts
pub record IsFoldedImage (d d' : Definition) : Type 0 where
  pub name : d'.name ≡ d.name
  pub ty : d'.ty ≡ d.ty
  pub stands : StandsFor (tree_of d.body) (tree_of d'.body)
  pub folded : HasFoldedParts (tree_of d'.body)
  pub fold : IsFoldOf (tree_of d.body) (tree_of d'.body)

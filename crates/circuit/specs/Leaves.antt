-- The leaves of an expression, each with the steps that lead to it from the image's own pixel, in the order of the nodes.
use Rattle.std.specs.Prelude.{◌≡◌, ℕ, ◌+◌, ◌<◌, ℤ, pos, Bool, IsTrue, List, [], ◌∷◌, ◌++◌, slice_get, Some}
use Rattle.dk_base.specs.Frames.{Size, Picture, picture_at}
use Rattle.pointwise_ir.specs.declared.expr.Edge.{Edge}
use Rattle.pointwise_ir.specs.declared.expr.Edge.TheVariants.{Zero, Clamp}
use Rattle.pointwise_ir.specs.Trees.{Tree, constant, read, shifted, unary, binary, select, convert, scale}
use Rattle.edge_select.specs.declared.step.Step.{Step}
use Rattle.edge_select.specs.Steps.{Lead, LeadOn}

-- a read: the image that is read, and the steps that lead to its pixel, its own last
pub record LeafRead : Type 0 where
  pub image : ℕ
  pub steps : List Step

abbrev pub leaf_at : (g : ℕ) → List Step → LeafRead
leaf_at g steps = record { image = g; steps = steps }

abbrev pub with_step : List Step → Edge → (dx dy : ℤ) → List Step
with_step steps edge dx dy = steps ++ (record { edge = edge; dx = dx; dy = dy }) ∷ []

-- those of an expression that is at the end of these steps
abbrev pub reads_of : Tree → List Step → List LeafRead
reads_of (constant v t) steps = []
reads_of (read edge g dx dy) steps = (record { image = g; steps = with_step steps edge dx dy }) ∷ []
reads_of (shifted edge dx dy a) steps = reads_of a (with_step steps edge dx dy)
reads_of (unary op a) steps = reads_of a steps
reads_of (binary op a b) steps = reads_of a steps ++ reads_of b steps
reads_of (select c a b) steps = (reads_of c steps ++ reads_of a steps) ++ reads_of b steps
reads_of (convert how a t) steps = reads_of a steps
reads_of (scale op a k) steps = reads_of a steps

-- the steps to each shifted part that is not clamped, its own last
abbrev pub own_bit : Edge → List Step → List (List Step)
own_bit Zero steps = steps ∷ []
own_bit Clamp steps = []

abbrev pub bits_of : Tree → List Step → List (List Step)
bits_of (constant v t) steps = []
bits_of (read edge g dx dy) steps = []
bits_of (shifted edge dx dy a) steps = own_bit edge (with_step steps edge dx dy) ++ bits_of a (with_step steps edge dx dy)
bits_of (unary op a) steps = bits_of a steps
bits_of (binary op a b) steps = bits_of a steps ++ bits_of b steps
bits_of (select c a b) steps = (bits_of c steps ++ bits_of a steps) ++ bits_of b steps
bits_of (convert how a t) steps = bits_of a steps
bits_of (scale op a k) steps = bits_of a steps

-- each read is of an image before this one
abbrev pub ReadsBefore : (f : ℕ) → Tree → Type 0
ReadsBefore f (constant v t) = Unit {0}
ReadsBefore f (read edge g dx dy) = g < f
ReadsBefore f (shifted edge dx dy a) = ReadsBefore f a
ReadsBefore f (unary op a) = ReadsBefore f a
ReadsBefore f (binary op a b) = ReadsBefore f a × ReadsBefore f b
ReadsBefore f (select c a b) = ReadsBefore f c × ReadsBefore f a × ReadsBefore f b
ReadsBefore f (convert how a t) = ReadsBefore f a
ReadsBefore f (scale op a k) = ReadsBefore f a

-- Of the pixel at column x and row y: where its steps lead to a point, a read's number is the pixel there, and else 0.
pub record ReadIsRight (size : Size) (known : List Picture) (x y : ℕ) (leaf : LeafRead) (value : ℤ) : Type 0 where
  pub led : (u v : ℤ) → Lead size leaf.steps (pos x) (pos y) u v → value ≡ picture_at known leaf.image u v
  pub none : (LeadOn size leaf.steps x y → ⊥) → value ≡ pos 0

-- and the bit of a shifted part says whether they do
pub record BitIsRight (size : Size) (x y : ℕ) (steps : List Step) (bit : Bool) : Type 0 where
  pub yes : LeadOn size steps x y → IsTrue bit
  pub no : IsTrue bit → LeadOn size steps x y

-- each read from the n-th on, and each bit from the k-th on, by its place
abbrev pub ReadsRight : (size : Size) (known : List Picture) (x y : ℕ) → (ℕ → ℤ) → List LeafRead → (n : ℕ) → Type 0
ReadsRight size known x y reads leaves n = (i : ℕ) (leaf : LeafRead) → slice_get leaves i ≡ Some leaf → ReadIsRight size known x y leaf (reads (n + i))

abbrev pub BitsRight : (size : Size) (x y : ℕ) → (ℕ → Bool) → List (List Step) → (k : ℕ) → Type 0
BitsRight size x y bits all k = (i : ℕ) (steps : List Step) → slice_get all i ≡ Some steps → BitIsRight size x y steps (bits (k + i))

-- From leaves that are right to the value of the expression.
use Rattle.std.proofs.Common.{◌≡◌, ℕ, ◌+◌, Bool, true, false, refl, ap, ◌∙◌}
use Rattle.std.specs.Prelude.{ℤ, pos, ◌+ℤ◌, IsTrue, List, if◌then◌else◌}
use Rattle.dk_base.specs.Frames.{Size, in_frame, clamped, Picture}
use Rattle.dk_base.specs.Operators.{unary_value, binary_value, scaling_value, conversion_value, select_value}
use Rattle.pointwise_ir.specs.declared.expr.Edge.{Edge}
use Rattle.pointwise_ir.specs.declared.expr.Edge.TheVariants.{Zero, Clamp}
use Rattle.pointwise_ir.specs.Trees.{Tree, constant, read, shifted, unary, binary, select, convert, scale}
use Rattle.pointwise_ir.specs.Meaning.{value}
use Rattle.pointwise_ir.specs.Meaning as meant
use Rattle.pointwise_ir.specs.Reads.{EndsAt}
use Rattle.dk_base.proofs.Unclamped.{ends_here}
use Rattle.datapath.specs.Expressions.{leaf_value, edged, edge_bits, reads_in, bits_in}
use Rattle.datapath.specs.Meant.{SaysInside, AreRight}

-- a shifted part
step_is : (size : Size) (edge : Edge) (picture : Picture) (x y v : ℤ) (bit : Bool) → SaysInside size edge x y bit → ((u w : ℤ) → EndsAt size edge x y u w → v ≡ picture u w) → edged edge bit v ≡ meant.edged size edge picture x y
step_is size Zero picture x y v bit says at = ap (λ (b : Bool). if b then v else pos 0) says ∙ by (in_frame size x y) (λ inside. at x y (ends_here size x y inside))
  where
    by : (b : Bool) → (IsTrue b → v ≡ picture x y) → (if b then v else pos 0) ≡ (if b then picture x y else pos 0)
    by true h = h refl
    by false h = refl
step_is size Clamp picture x y v bit says at = at (clamped size.width x) (clamped size.height y) (refl, refl)

pub value_of_leaves : (size : Size) (known : List Picture) (e : Tree) (x y : ℤ) (reads : ℕ → ℤ) (bits : ℕ → Bool) (n k : ℕ) → AreRight size known e x y reads bits n k → leaf_value e reads bits n k ≡ value size known e x y
value_of_leaves size known (constant v t) x y reads bits n k is = refl
value_of_leaves size known (read edge g dx dy) x y reads bits n k is = is
value_of_leaves size known (shifted edge dx dy a) x y reads bits n k is =
    step_is size edge (value size known a) (x +ℤ dx) (y +ℤ dy) (leaf_value a reads bits n (k + edge_bits edge)) (bits k) is.0 (λ u v ends. value_of_leaves size known a u v reads bits n (k + edge_bits edge) (is.1 u v ends))
value_of_leaves size known (unary op a) x y reads bits n k is = ap (unary_value op) (value_of_leaves size known a x y reads bits n k is)
value_of_leaves size known (binary op a b) x y reads bits n k is =
    ap (λ (v : ℤ). binary_value op v (leaf_value b reads bits (n + reads_in a) (k + bits_in a))) (value_of_leaves size known a x y reads bits n k is.0)
    ∙ ap (binary_value op (value size known a x y)) (value_of_leaves size known b x y reads bits (n + reads_in a) (k + bits_in a) is.1)
value_of_leaves size known (select c a b) x y reads bits n k is =
    ap (λ (v : ℤ). select_value v (leaf_value a reads bits (n + reads_in c) (k + bits_in c)) (leaf_value b reads bits (n + reads_in c + reads_in a) (k + bits_in c + bits_in a))) (value_of_leaves size known c x y reads bits n k is.0)
    ∙ ap (λ (v : ℤ). select_value (value size known c x y) v (leaf_value b reads bits (n + reads_in c + reads_in a) (k + bits_in c + bits_in a))) (value_of_leaves size known a x y reads bits (n + reads_in c) (k + bits_in c) is.1)
    ∙ ap (λ (v : ℤ). select_value (value size known c x y) (value size known a x y) v) (value_of_leaves size known b x y reads bits (n + reads_in c + reads_in a) (k + bits_in c + bits_in a) is.2)
value_of_leaves size known (convert how a t) x y reads bits n k is = ap (conversion_value how t) (value_of_leaves size known a x y reads bits n k is)
value_of_leaves size known (scale op a m) x y reads bits n k is = ap (λ (v : ℤ). scaling_value op v m) (value_of_leaves size known a x y reads bits n k is)

-- Expressions without leaves, and their parts.
use Rattle.std.proofs.Common.{ℕ, ℤ, ◌≡◌, ◌+◌, subst, arith}
use Rattle.dk_base.specs.declared.ty.Ty.{Ty}
use Rattle.dk_base.specs.declared.operator.Unary.{Unary}
use Rattle.dk_base.specs.declared.operator.Binary.{Binary}
use Rattle.dk_base.specs.declared.operator.Scaling.{Scaling}
use Rattle.dk_base.specs.declared.operator.Conversion.{Conversion}
use Rattle.pointwise_ir.specs.declared.expr.Edge.{Edge}
use Rattle.pointwise_ir.specs.declared.expr.Edge.TheVariants.{Zero}
use Rattle.pointwise_ir.specs.Trees.{Tree, read, shifted, unary, binary, select, convert, scale}
use Rattle.datapath.specs.Expressions.{IsLeafless, edge_bits, reads_in, bits_in}

pub no_read : (e : Tree) (edge : Edge) (g : ℕ) (dx dy : ℤ) → e ≡ read edge g dx dy → IsLeafless e → ⊥
no_read e edge g dx dy is h = let k = (subst IsLeafless is h).0 in omega (arith, k)

pub shifted_leafless : (e : Tree) (edge : Edge) (dx dy : ℤ) (a : Tree) → e ≡ shifted edge dx dy a → IsLeafless e → (edge_bits edge ≡ 0) × IsLeafless a
shifted_leafless e edge dx dy a is h =
    let k : IsLeafless (shifted edge dx dy a) = subst IsLeafless is h in
    let sum : edge_bits edge + bits_in a ≡ 0 = k.1 in
    (omega (arith, sum), (k.0, omega (arith, sum)))

pub unary_leafless : (e : Tree) (o : Unary) (a : Tree) → e ≡ unary o a → IsLeafless e → IsLeafless a
unary_leafless e o a is h = subst IsLeafless is h

pub convert_leafless : (e : Tree) (how : Conversion) (a : Tree) (t : Ty) → e ≡ convert how a t → IsLeafless e → IsLeafless a
convert_leafless e how a t is h = subst IsLeafless is h

pub scale_leafless : (e : Tree) (o : Scaling) (a : Tree) (by : ℕ) → e ≡ scale o a by → IsLeafless e → IsLeafless a
scale_leafless e o a by is h = subst IsLeafless is h

pub binary_leafless : (e : Tree) (o : Binary) (a b : Tree) → e ≡ binary o a b → IsLeafless e → IsLeafless a × IsLeafless b
binary_leafless e o a b is h =
    let k : IsLeafless (binary o a b) = subst IsLeafless is h in
    let reads : reads_in a + reads_in b ≡ 0 = k.0 in
    let bits : bits_in a + bits_in b ≡ 0 = k.1 in
    ((omega (arith, reads), omega (arith, bits)), (omega (arith, reads), omega (arith, bits)))

pub select_leafless : (e c a b : Tree) → e ≡ select c a b → IsLeafless e → IsLeafless c × IsLeafless a × IsLeafless b
select_leafless e c a b is h =
    let k : IsLeafless (select c a b) = subst IsLeafless is h in
    let reads : reads_in c + reads_in a + reads_in b ≡ 0 = k.0 in
    let bits : bits_in c + bits_in a + bits_in b ≡ 0 = k.1 in
    ((omega (arith, reads), omega (arith, bits)), (omega (arith, reads), omega (arith, bits)), (omega (arith, reads), omega (arith, bits)))

pub unclamped : {edge : Edge} → edge ≡ Zero → edge_bits edge ≡ 0 → ⊥
unclamped {edge} is none = let k : edge_bits Zero ≡ 0 = subst (λ (x : Edge). edge_bits x ≡ 0) is none in omega (arith, k)

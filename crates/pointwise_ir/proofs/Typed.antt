-- Typed expressions: the images that they read, their types, and the ranges of their values.
use Rattle.std.proofs.Common.{◌≡◌, ℕ, ◌+◌, ◌-◌, ◌<◌, ◌≤◌, Bool, true, false, List, length, ℤ, pos, ◌+ℤ◌, Option, Some, None, slice_get, refl, sym, subst, arith, nat_le, nat_eq, if◌then◌else◌}
use Rattle.std.proofs.lemmas.Option.{slice_get_within}
use Rattle.std.proofs.lemmas.Nat.{pow_pos}
use Rattle.std.proofs.lemmas.Int.{ints}
use Rattle.dk_base.specs.declared.ty.Ty.{Ty}
use Rattle.dk_base.specs.declared.ty.Ty.TheVariants.{Unsigned, Signed}
use Rattle.dk_base.specs.declared.operator.Unary.{Unary}
use Rattle.dk_base.specs.declared.operator.Unary.TheVariants.{Negate, Not, Abs}
use Rattle.dk_base.specs.declared.operator.Scaling.{Scaling}
use Rattle.dk_base.specs.declared.operator.Scaling.TheVariants.{Divide, ShiftLeft, ShiftRight}
use Rattle.dk_base.specs.Types.{IsType, IsIn, width_of, is_bit, common_type, shifted_type, negation_type}
use Rattle.dk_base.specs.Operators.{limited, unary_type, scaling_type, select_type}
use Rattle.dk_base.specs.Frames.{Size, in_frame, clamped, Picture}
use Rattle.dk_base.proofs.Ranges.{common_some}
use Rattle.dk_base.proofs.Operations.{binary_typed, unary_in, binary_in, scaling_in, conversion_in, select_in}
use Rattle.pointwise_ir.specs.declared.expr.Edge.{Edge}
use Rattle.pointwise_ir.specs.declared.expr.Edge.TheVariants.{Zero, Clamp}
use Rattle.pointwise_ir.specs.Trees.{Tree, constant, read, shifted, unary, binary, select, convert, scale, EachImage}
use Rattle.pointwise_ir.specs.Typing.{HasType}
use Rattle.dk_base.specs.Frames.{framed, picture_at}
use Rattle.pointwise_ir.specs.Meaning.{edged, value}

-- a typed expression reads images that are there
pub reads_there : (types : List Ty) (e : Tree) (t : Ty) → HasType types e t → EachImage (λ g. g < length types) e
reads_there types (constant v s) t has = tt
reads_there types (read edge g dx dy) t has = slice_get_within types g t has
reads_there types (shifted edge dx dy a) t has = reads_there types a t has
reads_there types (unary op a) t (s, h, is) = reads_there types a s h
reads_there types (binary op a b) t (s, r, h, k, is) = (reads_there types a s h, reads_there types b r k)
reads_there types (select c a b) t (q, s, r, g, h, k, is) = (reads_there types c q g, reads_there types a s h, reads_there types b r k)
reads_there types (convert how a s) t (ok, is, r, h) = reads_there types a r h
reads_there types (scale op a k) t (s, h, is) = reads_there types a s h

if_some : (b : Bool) (o : Option Ty) (t : Ty) → (if b then o else None) ≡ Some t → (b ≡ true) × (o ≡ Some t)
if_some true o t h = (refl, h)
if_some false o t h = absurd (let e : ⊥ = cc in e)

some_is : (s t : Ty) → Some s ≡ Some t → s ≡ t
some_is s t h = cc

limited_typed : (s t : Ty) → 1 ≤ width_of s → limited s ≡ Some t → IsType t
limited_typed s t some h =
    let p = if_some (nat_le (width_of s) 64) (Some s) t h in
    let most : width_of s ≤ 64 = grind (arith, p.0) in
    let P : Ty → Type 0 = λ u. IsType u in
    subst P (some_is s t p.1) (record { some = some; most = most })

same_type : (s t : Ty) → s ≡ t → IsType s → IsType t
same_type s t e ok = let P : Ty → Type 0 = λ u. IsType u in subst P e ok

unary_typed : (op : Unary) (a t : Ty) → IsType a → unary_type op a ≡ Some t → IsType t
unary_typed Negate a t ok h = limited_typed (negation_type a) t (let some : 1 ≤ width_of a + 1 = omega arith in some) h
unary_typed Not a t ok h = same_type a t (some_is a t (if_some (is_bit a) (Some a) t h).1) ok
unary_typed Abs a t ok h = same_type (Unsigned (width_of a)) t (some_is _ t h) (record { some = ok.some; most = ok.most })

shifted_some : (a : Ty) (k : ℕ) → 1 ≤ width_of a → 1 ≤ width_of (shifted_type a k)
shifted_some (Unsigned n) k h = omega arith
shifted_some (Signed n) k h = omega arith

pub scaling_typed : (op : Scaling) (a t : Ty) (k : ℕ) → IsType a → scaling_type op a k ≡ Some t → IsType t
scaling_typed Divide a t k ok h = divided (nat_eq k 0) h
  where
    divided : (b : Bool) → (if b then None else Some a) ≡ Some t → IsType t
    divided true e = absurd (let f : ⊥ = cc in f)
    divided false e = same_type a t (some_is a t e) ok
scaling_typed ShiftLeft a t k ok h = limited_typed (shifted_type a k) t (shifted_some a k ok.some) (if_some (nat_le k 63) (limited (shifted_type a k)) t h).1
scaling_typed ShiftRight a t k ok h = same_type a t (some_is a t (if_some (nat_le k 63) (Some a) t h).1) ok

select_typed : (q a b t : Ty) → IsType a → select_type q a b ≡ Some t → IsType t
select_typed q a b t ok h = limited_typed (common_type a b) t (common_some a b ok.some) (if_some (is_bit q) (limited (common_type a b)) t h).1

-- each of the types is one of values
abbrev pub AreTypes : List Ty → Type 0
AreTypes types = (g : ℕ) (t : Ty) → slice_get types g ≡ Some t → IsType t

-- the type of an expression is one of values
pub type_typed : (types : List Ty) → AreTypes types → (e : Tree) (t : Ty) → HasType types e t → IsType t
type_typed types ok (constant v s) t (typed, inside, is) = same_type s t (sym is) typed
type_typed types ok (read edge g dx dy) t has = ok g t has
type_typed types ok (shifted edge dx dy a) t has = type_typed types ok a t has
type_typed types ok (unary op a) t (s, h, is) = unary_typed op s t (type_typed types ok a s h) is
type_typed types ok (binary op a b) t (s, r, h, k, is) = (binary_typed op s r t (type_typed types ok a s h) is).typed
type_typed types ok (select c a b) t (q, s, r, g, h, k, is) = select_typed q s r t (type_typed types ok a s h) is
type_typed types ok (convert how a s) t (typed, is, r, h) = same_type s t (sym is) typed
type_typed types ok (scale op a k) t (s, h, is) = scaling_typed op s t k (type_typed types ok a s h) is

-- 0 is a number of each type
pub zero_in : (t : Ty) → IsIn t (pos 0)
zero_in (Unsigned n) = let p = pow_pos n in record { least = omega (arith, ints); greatest = omega (arith, ints, p) }
zero_in (Signed n) = let p = pow_pos (n - 1) in record { least = omega (arith, ints); greatest = omega (arith, ints, p) }

pub framed_in : (size : Size) (t : Ty) (p : Picture) → ((x y : ℤ) → IsIn t (p x y)) → (x y : ℤ) → IsIn t (framed size p x y)
framed_in size t p all x y = elim (in_frame size x y) as (λ b. IsIn t (if b then p x y else pos 0)) [ true ↦ all x y | false ↦ zero_in t ]

edged_in : (size : Size) (edge : Edge) (t : Ty) (p : Picture) → ((x y : ℤ) → IsIn t (p x y)) → (x y : ℤ) → IsIn t (edged size edge p x y)
edged_in size Zero t p all x y = framed_in size t p all x y
edged_in size Clamp t p all x y = all (clamped size.width x) (clamped size.height y)

moved : (s t : Ty) (v : ℤ) → s ≡ t → IsIn s v → IsIn t v
moved s t v e h = let P : Ty → Type 0 = λ u. IsIn u v in subst P e h

-- the values of each image are in its type
abbrev pub AreIn : List Ty → List Picture → Type 0
AreIn types known = (g : ℕ) (t : Ty) → slice_get types g ≡ Some t → (x y : ℤ) → IsIn t (picture_at known g x y)

-- the value of an expression is in its type
pub value_in : (size : Size) (types : List Ty) (known : List Picture) → AreTypes types → AreIn types known → (e : Tree) (t : Ty) → HasType types e t → (x y : ℤ) → IsIn t (value size known e x y)
value_in size types known ok are (constant v s) t (typed, inside, is) x y = moved s t v (sym is) inside
value_in size types known ok are (read edge g dx dy) t has x y = edged_in size edge t (picture_at known g) (are g t has) (x +ℤ dx) (y +ℤ dy)
value_in size types known ok are (shifted edge dx dy a) t has x y = edged_in size edge t (value size known a) (value_in size types known ok are a t has) (x +ℤ dx) (y +ℤ dy)
value_in size types known ok are (unary op a) t (s, h, is) x y = unary_in op s t (value size known a x y) (type_typed types ok a s h) is (value_in size types known ok are a s h x y)
value_in size types known ok are (binary op a b) t (s, r, h, k, is) x y =
    binary_in op s r t (value size known a x y) (value size known b x y) (type_typed types ok a s h) (type_typed types ok b r k) is
    (value_in size types known ok are a s h x y) (value_in size types known ok are b r k x y)
value_in size types known ok are (select c a b) t (q, s, r, g, h, k, is) x y =
    select_in q s r t (value size known c x y) (value size known a x y) (value size known b x y) is (value_in size types known ok are a s h x y) (value_in size types known ok are b r k x y)
value_in size types known ok are (convert how a s) t (typed, is, r, h) x y = moved s t _ (sym is) (conversion_in how s (value size known a x y) typed)
value_in size types known ok are (scale op a k) t (s, h, is) x y = scaling_in op s t (value size known a x y) k (type_typed types ok a s h) is (value_in size types known ok are a s h x y)

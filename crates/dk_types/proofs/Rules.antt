-- From what the code finds to the rules on types and faults of expressions.
use Rattle.std.proofs.Common.{◌≡◌, ◌⊎◌, inl, inr, ℕ, ◌<◌, ◌≤◌, Bool, true, false, nat_eq, nat_lt, nat_le, Option, Some, None, if◌then◌else◌, refl, sym, ap, ◌∙◌, subst, arith, Fits, w64, w32, List, ℤ, zero, suc}
use Rattle.std.proofs.Common.{SFits, to_z, of_z}
use Rattle.std.proofs.lemmas.Int.{to_z-of_z}
use Rattle.dk_base.specs.declared.span.Span.{Span}
use Rattle.dk_base.specs.declared.ty.Ty.{Ty}
use Rattle.dk_base.specs.declared.ty.Ty.TheVariants.{Unsigned}
use Rattle.dk_base.specs.declared.operator.Conversion.TheVariants.{Cast, Saturate}
use Rattle.dk_base.specs.declared.operator.Unary.{Unary}
use Rattle.dk_base.specs.declared.operator.Binary.{Binary}
use Rattle.dk_base.specs.declared.operator.Scaling.{Scaling}
use Rattle.dk_base.specs.Types.{IsType, width_of, is_signed, is_bit, common_type, negation_type, shifted_type}
use Rattle.dk_base.specs.Numbers.{bit_count, IsBitCount}
use Rattle.dk_base.specs.Operators.{limited, unary_type, is_bitwise, are_operands, binary_type, scaling_type, select_type}
use Rattle.dk_parser.specs.declared.tree.Literal.{Literal}
use Rattle.dk_parser.specs.declared.tree.TypeWord.{TypeWord}
use Rattle.dk_parser.specs.declared.tree.Offset.{Offset}
use Rattle.dk_parser.specs.declared.tree.ImageRead.{ImageRead}
use Rattle.dk_parser.specs.declared.tree.Expr.{Expr}
use Rattle.dk_parser.specs.Tree.{Tree, span_of, tree_of}
use Rattle.dk_parser.specs.Tree as T
use Rattle.dk_types.specs.declared.fault.TypeFault.{TypeFault}
use Rattle.dk_types.specs.declared.fault.TypeError.{TypeError}
use Rattle.dk_types.specs.declared.fault.TypeError.TheVariants.{Fault, OutOfMemory}
use Rattle.dk_types.specs.declared.fault.TypeFaultKind.TheVariants.{UnknownImage, OffsetRange, WidthTooGreat, NotOneBit, SignedBits, ZeroDivisor, ShiftRange}
use Rattle.dk_types.specs.declared.typed.TypedExpr.{TypedExpr}
use Rattle.dk_types.specs.declared.typed.TypedNode.{TypedNode}
use Rattle.dk_types.specs.declared.typed.TypedNode as N
use Rattle.dk_types.specs.Typed.{Typed, constant, fetch, single, double, scaled, converted, chosen, type_of, typed_at, typed_of}
use Rattle.dk_types.specs.Scopes.{Scope, IsImage, IsUnknown}
use Rattle.dk_types.specs.Offsets.{amount_of, offset_of, signed}
use Rattle.dk_types.specs.Types.{HasType}
use Rattle.dk_types.specs.Types as H
use Rattle.dk_types.specs.Faults.{Faulty, Stops, at}
use Rattle.dk_types.specs.Faults as F
use Rattle.dk_types.specs.Found.{IsFarAt}

-- what is specified by this error
pub told : (P : TypeFault → Type 0) (x : TypeError) (f g : TypeFault) → x ≡ Fault f → g ≡ f → P g → Stops P x
told P x f g e q h = let R : TypeError → Type 0 = λ y. Stops P y in subst R (ap Fault q ∙ sym e) h

none_false : {A : Type 0} (b : Bool) (t : A) → (if b then Some t else None) ≡ None → b ≡ false
none_false true t h = absurd (let e : ⊥ = cc in e)
none_false false t h = refl

none_true : {A : Type 0} (b : Bool) (t : A) → (if b then None else Some t) ≡ None → b ≡ true
none_true true t h = refl
none_true false t h = absurd (let e : ⊥ = cc in e)

none_wide : (t : Ty) → limited t ≡ None → 64 < width_of t
none_wide t h = let e = none_false (nat_le (width_of t) 64) t h in grind (arith, e)

-- the type and the span of a tree
pub type_at : (t : Ty) (n : TypedNode) → type_of (typed_at t n) ≡ t
type_at t (N.Number v) = refl
type_at t (N.Read r) = refl
type_at t (N.Unary' o p u a) = refl
type_at t (N.Binary' o p u a q w b) = refl
type_at t (N.Scale' o p u a k) = refl
type_at t (N.Convert' o p u a) = refl
type_at t (N.Select' p u c q w a r z b) = refl

-- one operand
abbrev pub unary_fault : Unary → Span → Span → TypeFault
unary_fault Unary.Negate s p = at s WidthTooGreat
unary_fault Unary.Not s p = at p NotOneBit
unary_fault Unary.Abs s p = at s WidthTooGreat

unary_refused : (scope : Scope) (s : Span) (o : Unary) (a : Tree) (e : Typed) → HasType scope a e
    → unary_type o (type_of e) ≡ None → Faulty scope (T.unary s o a) (unary_fault o s (span_of a))
unary_refused scope s Unary.Negate a e h n = F.wide_negation h (none_wide (negation_type (type_of e)) n)
unary_refused scope s Unary.Not a e h n = F.not_a_bit h (none_false (is_bit (type_of e)) (type_of e) n)
unary_refused scope s Unary.Abs a e h n = absurd (let e : ⊥ = cc in e)

pub not_bit : (o : Unary) (s p : Span) → o ≡ Unary.Not → unary_fault o s p ≡ at p NotOneBit
not_bit o s p e = ap (λ x. unary_fault x s p) e

pub other_than_not : (o : Unary) → (o ≡ Unary.Negate) ⊎ (o ≡ Unary.Abs) → o ≡ Unary.Not → ⊥
other_than_not o (inl e) n = absurd (let d : Unary.Negate ≡ Unary.Not = sym e ∙ n in cc)
other_than_not o (inr e) n = absurd (let d : Unary.Abs ≡ Unary.Not = sym e ∙ n in cc)

pub not_not : (o : Unary) (s p : Span) → (o ≡ Unary.Not → ⊥) → unary_fault o s p ≡ at s WidthTooGreat
not_not Unary.Negate s p n = refl
not_not Unary.Not s p n = absurd (n refl)
not_not Unary.Abs s p n = refl

pub told_unary : (scope : Scope) (s p : Span) (o : Unary) (a : Tree) (e : Typed) (t : Ty) (r : Option Ty) (x : TypeError) (f : TypeFault)
    → x ≡ Fault f → unary_fault o s p ≡ f → r ≡ unary_type o t → r ≡ None
    → HasType scope a e → type_of e ≡ t → span_of a ≡ p → Stops (Faulty scope (T.unary s o a)) x
told_unary scope s p o a e t r x f xe fe re n h te pe =
    let none : unary_type o (type_of e) ≡ None = cc in
    told (Faulty scope (T.unary s o a)) x f (unary_fault o s (span_of a)) xe (ap (unary_fault o s) pe ∙ fe) (unary_refused scope s o a e h none)

-- two operands
pub told_left : (scope : Scope) (s p : Span) (o : Binary) (a b : Tree) (e f : Typed) (l : Ty) (x : TypeError)
    → x ≡ Fault (at p SignedBits) → is_bitwise o ≡ true → is_signed l ≡ true
    → HasType scope a e → HasType scope b f → type_of e ≡ l → span_of a ≡ p → Stops (Faulty scope (T.binary s o a b)) x
told_left scope s p o a b e f l x xe bits sign h g te pe =
    told (Faulty scope (T.binary s o a b)) x (at p SignedBits) (at (span_of a) SignedBits) xe (ap (λ q. at q SignedBits) pe) (F.signed_left h g bits (ap is_signed te ∙ sign))

pub told_right : (scope : Scope) (s q : Span) (o : Binary) (a b : Tree) (e f : Typed) (l r : Ty) (x : TypeError)
    → x ≡ Fault (at q SignedBits) → is_bitwise o ≡ true → is_signed l ≡ false → is_signed r ≡ true
    → HasType scope a e → HasType scope b f → type_of e ≡ l → type_of f ≡ r → span_of b ≡ q → Stops (Faulty scope (T.binary s o a b)) x
told_right scope s q o a b e f l r x xe bits plain sign h g te tf qe =
    told (Faulty scope (T.binary s o a b)) x (at q SignedBits) (at (span_of b) SignedBits) xe (ap (λ z. at z SignedBits) qe) (F.signed_right h g bits (ap is_signed te ∙ plain) (ap is_signed tf ∙ sign))

pub told_binary : (scope : Scope) (s : Span) (o : Binary) (a b : Tree) (e f : Typed) (l r : Ty) (found : Option Ty) (x : TypeError)
    → x ≡ Fault (at s WidthTooGreat) → are_operands o l r ≡ true → found ≡ binary_type o l r → found ≡ None
    → HasType scope a e → HasType scope b f → type_of e ≡ l → type_of f ≡ r → Stops (Faulty scope (T.binary s o a b)) x
told_binary scope s o a b e f l r found x xe fits re n h g te tf =
    let operands : are_operands o (type_of e) (type_of f) ≡ true = ap (λ z. are_operands o z (type_of f)) te ∙ (ap (are_operands o l) tf ∙ fits) in
    let none : binary_type o (type_of e) (type_of f) ≡ None =
    ap (λ z. binary_type o z (type_of f)) te ∙ (ap (binary_type o l) tf ∙ (sym re ∙ n)) in
    told (Faulty scope (T.binary s o a b)) x (at s WidthTooGreat) (at s WidthTooGreat) xe refl (F.wide_result h g operands none)

-- a division or a shift
abbrev shift_fault : Span → Literal → Bool → TypeFault
shift_fault s k true = at k.span ShiftRange
shift_fault s k false = at s WidthTooGreat

abbrev pub scale_fault : Scaling → Span → Literal → TypeFault
scale_fault Scaling.ShiftLeft s k = shift_fault s k (nat_lt 63 k.value)
scale_fault Scaling.ShiftRight s k = shift_fault s k (nat_lt 63 k.value)
scale_fault Scaling.Divide s k = at k.span ZeroDivisor

zero_is : (n : ℕ) → nat_eq n 0 ≡ true → n ≡ 0
zero_is n h = grind (arith, h)

left_is_none : Scaling.ShiftLeft ≡ Scaling.Divide → ⊥
left_is_none e = cc

right_is_none : Scaling.ShiftRight ≡ Scaling.Divide → ⊥
right_is_none e = cc

scale_refused : (scope : Scope) (s : Span) (o : Scaling) (a : Tree) (k : Literal) (e : Typed) → HasType scope a e
    → scaling_type o (type_of e) k.value ≡ None → Faulty scope (T.scale s o a k) (scale_fault o s k)
scale_refused scope s Scaling.Divide a k e h n = F.zero_divisor h (zero_is k.value (none_true (nat_eq k.value 0) (type_of e) n))
scale_refused scope s Scaling.ShiftRight a k e h n =
    let far : nat_le k.value 63 ≡ false = none_false (nat_le k.value 63) (type_of e) n in
    let q : nat_lt 63 k.value ≡ true = grind (arith, far) in
    rw q (F.far_shift {k = k} h right_is_none (grind (arith, far)))
scale_refused scope s Scaling.ShiftLeft a k e h n = by (nat_le k.value 63) refl
  where
    by : (b : Bool) → nat_le k.value 63 ≡ b → Faulty scope (T.scale s Scaling.ShiftLeft a k) (scale_fault Scaling.ShiftLeft s k)
    by true near =
        let q : nat_lt 63 k.value ≡ false = grind (arith, near) in
        let n' : limited (shifted_type (type_of e) k.value) ≡ None = rw near at n in
        rw q (F.wide_shift {k = k} h (grind (arith, near)) (none_wide (shifted_type (type_of e) k.value) n'))
    by false far =
        let q : nat_lt 63 k.value ≡ true = grind (arith, far) in
        rw q (F.far_shift {k = k} h left_is_none (grind (arith, far)))

pub divided : (o : Scaling) (s : Span) (k : Literal) → o ≡ Scaling.Divide → scale_fault o s k ≡ at k.span ZeroDivisor
divided o s k e = ap (λ x. scale_fault x s k) e

pub is_shift : (o : Scaling) → (o ≡ Scaling.ShiftLeft) ⊎ (o ≡ Scaling.ShiftRight) → o ≡ Scaling.Divide → ⊥
is_shift o (inl e) n = left_is_none (sym e ∙ n)
is_shift o (inr e) n = right_is_none (sym e ∙ n)

pub shifted_far : (o : Scaling) (s : Span) (k : Literal) → (o ≡ Scaling.Divide → ⊥) → 63 < k.value → scale_fault o s k ≡ at k.span ShiftRange
shifted_far Scaling.ShiftLeft s k n h = let q : nat_lt 63 k.value ≡ true = grind arith in rw q refl
shifted_far Scaling.ShiftRight s k n h = let q : nat_lt 63 k.value ≡ true = grind arith in rw q refl
shifted_far Scaling.Divide s k n h = absurd (n refl)

pub shifted_near : (o : Scaling) (s : Span) (k : Literal) → (o ≡ Scaling.Divide → ⊥) → k.value ≤ 63 → scale_fault o s k ≡ at s WidthTooGreat
shifted_near Scaling.ShiftLeft s k n h = let q : nat_lt 63 k.value ≡ false = grind arith in rw q refl
shifted_near Scaling.ShiftRight s k n h = let q : nat_lt 63 k.value ≡ false = grind arith in rw q refl
shifted_near Scaling.Divide s k n h = absurd (n refl)

pub told_scale : (scope : Scope) (s : Span) (o : Scaling) (a : Tree) (k : Literal) (e : Typed) (t : Ty) (r : Option Ty) (x : TypeError) (f : TypeFault)
    → x ≡ Fault f → scale_fault o s k ≡ f → r ≡ scaling_type o t k.value → r ≡ None
    → HasType scope a e → type_of e ≡ t → Stops (Faulty scope (T.scale s o a k)) x
told_scale scope s o a k e t r x f xe fe re n h te =
    let none : scaling_type o (type_of e) k.value ≡ None =
    ap (λ z. scaling_type o z k.value) te ∙ (sym re ∙ n) in
    told (Faulty scope (T.scale s o a k)) x f (scale_fault o s k) xe fe (scale_refused scope s o a k e h none)

-- a choice
pub told_condition : (scope : Scope) (s p : Span) (c a b : Tree) (d e f : Typed) (q : Ty) (x : TypeError)
    → x ≡ Fault (at p NotOneBit) → is_bit q ≡ false
    → HasType scope c d → HasType scope a e → HasType scope b f → type_of d ≡ q → span_of c ≡ p → Stops (Faulty scope (T.select s c a b)) x
told_condition scope s p c a b d e f q x xe bit h g i td pe =
    told (Faulty scope (T.select s c a b)) x (at p NotOneBit) (at (span_of c) NotOneBit) xe (ap (λ z. at z NotOneBit) pe) (F.condition h g i (ap is_bit td ∙ bit))

pub told_choice : (scope : Scope) (s : Span) (c a b : Tree) (d e f : Typed) (q l r : Ty) (found : Option Ty) (x : TypeError)
    → x ≡ Fault (at s WidthTooGreat) → is_bit q ≡ true → found ≡ select_type q l r → found ≡ None
    → HasType scope c d → HasType scope a e → HasType scope b f → type_of d ≡ q → type_of e ≡ l → type_of f ≡ r → Stops (Faulty scope (T.select s c a b)) x
told_choice scope s c a b d e f q l r found x xe bit re n h g i td te tf =
    let none : select_type q l r ≡ None = sym re ∙ n in
    let wide : limited (common_type l r) ≡ None = rw bit at none in
    let w : 64 < width_of (common_type (type_of e) (type_of f)) = rw (te, tf) (none_wide (common_type l r) wide) in
    told (Faulty scope (T.select s c a b)) x (at s WidthTooGreat) (at s WidthTooGreat) xe refl (F.wide_choice h g i (ap is_bit td ∙ bit) w)

-- expressions as they are made
pub number_is : (scope : Scope) (s : Span) (v b : ℕ) → Fits w64 v → b ≡ bit_count v → HasType scope (T.number s v) (constant (Unsigned b) v)
number_is scope s v b h e =
    let P : ℕ → Type 0 = λ n. HasType scope (T.number s v) (constant (Unsigned n) v) in
    subst P (sym e) (H.literal (omega (arith, h.fits)))

pub bits_are : (v b : ℕ) → Fits w64 v → IsBitCount v b → IsType (Unsigned b)
bits_are v b h c = record { some = c.some; most = c.least 64 (omega arith) (omega (arith, h.fits)) }

pub unary_is : (scope : Scope) (s : Span) (o : Unary) (a : Tree) (x y : TypedExpr) (t : Ty)
    → y ≡ x → unary_type o x.ty ≡ Some t → HasType scope a (typed_of x)
    → HasType scope (T.unary s o a) (single t o (typed_of y))
unary_is scope s o a x y t ye k h =
    let R : TypedExpr → Type 0 = λ z. HasType scope (T.unary s o a) (single t o (typed_of z)) in
    subst R (sym ye) (H.unary h (ap (unary_type o) (type_at x.ty x.node) ∙ k))

pub binary_is : (scope : Scope) (s : Span) (o : Binary) (a b : Tree) (x y x' y' : TypedExpr) (t : Ty)
    → x' ≡ x → y' ≡ y → binary_type o x.ty y.ty ≡ Some t → HasType scope a (typed_of x) → HasType scope b (typed_of y)
    → HasType scope (T.binary s o a b) (double t o (typed_of x') (typed_of y'))
binary_is scope s o a b x y x' y' t xe ye k h g =
    let R : TypedExpr → Type 0 = λ z. HasType scope (T.binary s o a b) (double t o (typed_of z) (typed_of y')) in
    let S : TypedExpr → Type 0 = λ z. HasType scope (T.binary s o a b) (double t o (typed_of x) (typed_of z)) in
    let typed : binary_type o (type_of (typed_of x)) (type_of (typed_of y)) ≡ Some t =
    ap (λ z. binary_type o z (type_of (typed_of y))) (type_at x.ty x.node) ∙ (ap (binary_type o x.ty) (type_at y.ty y.node) ∙ k) in
    subst R (sym xe) (subst S (sym ye) (H.binary h g typed))

pub scale_is : (scope : Scope) (s : Span) (o : Scaling) (a : Tree) (k : Literal) (x y : TypedExpr) (t : Ty)
    → y ≡ x → scaling_type o x.ty k.value ≡ Some t → HasType scope a (typed_of x)
    → HasType scope (T.scale s o a k) (scaled t o (typed_of y) k.value)
scale_is scope s o a k x y t ye w h =
    let R : TypedExpr → Type 0 = λ z. HasType scope (T.scale s o a k) (scaled t o (typed_of z) k.value) in
    subst R (sym ye) (H.scale h (ap (λ z. scaling_type o z k.value) (type_at x.ty x.node) ∙ w))

pub cast_is : (scope : Scope) (s : Span) (a : Tree) (w : TypeWord) (x y : TypedExpr) (t : Ty)
    → y ≡ x → t ≡ w.ty → IsType t → HasType scope a (typed_of x) → HasType scope (T.cast s a w) (converted t Cast (typed_of y))
cast_is scope s a w x y t ye te k h =
    let R : TypedExpr → Type 0 = λ z. HasType scope (T.cast s a w) (converted t Cast (typed_of z)) in
    let Q : Ty → Type 0 = λ u. HasType scope (T.cast s a w) (converted u Cast (typed_of x)) in
    subst R (sym ye) (subst Q (sym te) (H.cast h (subst IsType te k)))

pub saturate_is : (scope : Scope) (s : Span) (a : Tree) (w : TypeWord) (x y : TypedExpr) (t : Ty)
    → y ≡ x → t ≡ w.ty → IsType t → HasType scope a (typed_of x) → HasType scope (T.sat s a w) (converted t Saturate (typed_of y))
saturate_is scope s a w x y t ye te k h =
    let R : TypedExpr → Type 0 = λ z. HasType scope (T.sat s a w) (converted t Saturate (typed_of z)) in
    let Q : Ty → Type 0 = λ u. HasType scope (T.sat s a w) (converted u Saturate (typed_of x)) in
    subst R (sym ye) (subst Q (sym te) (H.saturate h (subst IsType te k)))

pub select_is : (scope : Scope) (s : Span) (c a b : Tree) (x y z x' y' z' : TypedExpr) (t : Ty)
    → x' ≡ x → y' ≡ y → z' ≡ z → select_type x.ty y.ty z.ty ≡ Some t
    → HasType scope c (typed_of x) → HasType scope a (typed_of y) → HasType scope b (typed_of z)
    → HasType scope (T.select s c a b) (chosen t (typed_of x') (typed_of y') (typed_of z'))
select_is scope s c a b x y z x' y' z' t xe ye ze k h g i =
    let R : TypedExpr → Type 0 = λ v. HasType scope (T.select s c a b) (chosen t (typed_of v) (typed_of y') (typed_of z')) in
    let S : TypedExpr → Type 0 = λ v. HasType scope (T.select s c a b) (chosen t (typed_of x) (typed_of v) (typed_of z')) in
    let Q : TypedExpr → Type 0 = λ v. HasType scope (T.select s c a b) (chosen t (typed_of x) (typed_of y) (typed_of v)) in
    let typed : select_type (type_of (typed_of x)) (type_of (typed_of y)) (type_of (typed_of z)) ≡ Some t =
    ap (λ v. select_type v (type_of (typed_of y)) (type_of (typed_of z))) (type_at x.ty x.node)
    ∙ (ap (λ v. select_type x.ty v (type_of (typed_of z))) (type_at y.ty y.node) ∙ (ap (select_type x.ty y.ty) (type_at z.ty z.node) ∙ k)) in
    subst R (sym xe) (subst S (sym ye) (subst Q (sym ze) (H.select h g i typed)))

-- reads
pub told_unknown : (scope : Scope) (s : Span) (r : ImageRead) (name : _) (x : TypeError)
    → x ≡ Fault (at r.name.span UnknownImage) → name ≡ r.name.text → IsUnknown scope name → Stops (Faulty scope (T.read s r)) x
told_unknown scope s r name x xe ne h =
    told (Faulty scope (T.read s r)) x (at r.name.span UnknownImage) (at r.name.span UnknownImage) xe refl (F.unknown (subst (IsUnknown scope) ne h))

pub image_at : (scope : Scope) (r : ImageRead) (name : _) (g : ℕ) (t : Ty) → name ≡ r.name.text → IsImage scope name g t → IsImage scope r.name.text g t
image_at scope r name g t e h = let P : List ℕ → Type 0 = λ n. IsImage scope n g t in subst P e h

pub told_far_in_x : (scope : Scope) (s p : Span) (r : ImageRead) (g : ℕ) (t : Ty) (x : TypeError)
    → x ≡ Fault (at p OffsetRange) → IsImage scope r.name.text g t → IsFarAt r.x p → Stops (Faulty scope (T.read s r)) x
told_far_in_x scope s p r g t x xe i f =
    told (Faulty scope (T.read s r)) x (at p OffsetRange) (at f.written.amount.span OffsetRange) xe (ap (λ q. at q OffsetRange) f.stands) (F.far_in_x i f.is f.far)

pub told_far_in_y : (scope : Scope) (s p : Span) (r : ImageRead) (g : ℕ) (t : Ty) (x : TypeError)
    → x ≡ Fault (at p OffsetRange) → IsImage scope r.name.text g t → amount_of r.x ≤ 64 → IsFarAt r.y p → Stops (Faulty scope (T.read s r)) x
told_far_in_y scope s p r g t x xe i n f =
    told (Faulty scope (T.read s r)) x (at p OffsetRange) (at f.written.amount.span OffsetRange) xe (ap (λ q. at q OffsetRange) f.stands) (F.far_in_y i n f.is f.far)

pub read_is : (scope : Scope) (s : Span) (r : ImageRead) (g : ℕ) (t : Ty) (dx dy : ℤ)
    → IsImage scope r.name.text g t → dx ≡ offset_of r.x → amount_of r.x ≤ 64 → dy ≡ offset_of r.y → amount_of r.y ≤ 64
    → HasType scope (T.read s r) (fetch t (record { image = g; dx = dx; dy = dy; clamped = r.clamped }))
read_is scope s r g t dx dy i xe xn ye yn =
    let P : ℤ → Type 0 = λ v. HasType scope (T.read s r) (fetch t (record { image = g; dx = v; dy = dy; clamped = r.clamped })) in
    let Q : ℤ → Type 0 = λ v. HasType scope (T.read s r) (fetch t (record { image = g; dx = offset_of r.x; dy = v; clamped = r.clamped })) in
    subst P (sym xe) (subst Q (sym ye) (H.read i xn yn))

-- an offset fits the code's numbers
signed_fits : (b : Bool) (n : ℕ) → n ≤ 64 → SFits w32 (signed b n)
signed_fits false n h = record { sfits = omega arith }
signed_fits true zero h = record { sfits = omega arith }
signed_fits true (suc n) h = record { sfits = omega arith }

offset_fits : (x : Option Offset) → amount_of x ≤ 64 → SFits w32 (offset_of x)
offset_fits None h = record { sfits = omega arith }
offset_fits (Some o) h = signed_fits o.negative o.amount.value h

pub stored : (v : ℤ) (x : Option Offset) → (v ≡ offset_of x) × (amount_of x ≤ 64) → to_z w32 (of_z w32 v) ≡ offset_of x
stored v x h = ap (λ z. to_z w32 (of_z w32 z)) h.0 ∙ to_z-of_z w32 (offset_of x) (offset_fits x h.1)

-- what stops an operand stops the whole
lifted : (P Q : TypeFault → Type 0) → ((f : TypeFault) → P f → Q f) → (x : TypeError) → Stops P x → Stops Q x
lifted P Q g (Fault f) h = g f h
lifted P Q g OutOfMemory h = tt

module _ (scope : Scope) (s : Span) (x : TypeError) where
  pub stops_unary : (o : Unary) (l : Expr) (a : Tree) → tree_of l ≡ a → Stops (Faulty scope (tree_of l)) x → Stops (Faulty scope (T.unary s o a)) x
  stops_unary o l a e h = let P : Tree → Type 0 = λ t. Stops (Faulty scope (T.unary s o t)) x in
      subst P e (lifted (Faulty scope (tree_of l)) (Faulty scope (T.unary s o (tree_of l))) (λ f g. F.in_unary g) x h)

  pub stops_left : (o : Binary) (l : Expr) (a b : Tree) → tree_of l ≡ a → Stops (Faulty scope (tree_of l)) x → Stops (Faulty scope (T.binary s o a b)) x
  stops_left o l a b e h = let P : Tree → Type 0 = λ t. Stops (Faulty scope (T.binary s o t b)) x in
      subst P e (lifted (Faulty scope (tree_of l)) (Faulty scope (T.binary s o (tree_of l) b)) (λ f g. F.in_left g) x h)

  pub stops_right : (o : Binary) (l r : Expr) (a b : Tree) (t : Typed) → tree_of l ≡ a → tree_of r ≡ b → HasType scope (tree_of l) t
      → Stops (Faulty scope (tree_of r)) x → Stops (Faulty scope (T.binary s o a b)) x
  stops_right o l r a b t d e i h =
      let P : Tree → Type 0 = λ u. Stops (Faulty scope (T.binary s o u b)) x in
      let Q : Tree → Type 0 = λ u. Stops (Faulty scope (T.binary s o (tree_of l) u)) x in
      subst P d (subst Q e (lifted (Faulty scope (tree_of r)) (Faulty scope (T.binary s o (tree_of l) (tree_of r))) (λ f g. F.in_right i g) x h))

  pub stops_scale : (o : Scaling) (k : Literal) (l : Expr) (a : Tree) → tree_of l ≡ a → Stops (Faulty scope (tree_of l)) x → Stops (Faulty scope (T.scale s o a k)) x
  stops_scale o k l a e h = let P : Tree → Type 0 = λ t. Stops (Faulty scope (T.scale s o t k)) x in
      subst P e (lifted (Faulty scope (tree_of l)) (Faulty scope (T.scale s o (tree_of l) k)) (λ f g. F.in_scale g) x h)

  pub stops_cast : (w : TypeWord) (l : Expr) (a : Tree) → tree_of l ≡ a → Stops (Faulty scope (tree_of l)) x → Stops (Faulty scope (T.cast s a w)) x
  stops_cast w l a e h = let P : Tree → Type 0 = λ t. Stops (Faulty scope (T.cast s t w)) x in
      subst P e (lifted (Faulty scope (tree_of l)) (Faulty scope (T.cast s (tree_of l) w)) (λ f g. F.in_cast g) x h)

  pub stops_saturate : (w : TypeWord) (l : Expr) (a : Tree) → tree_of l ≡ a → Stops (Faulty scope (tree_of l)) x → Stops (Faulty scope (T.sat s a w)) x
  stops_saturate w l a e h = let P : Tree → Type 0 = λ t. Stops (Faulty scope (T.sat s t w)) x in
      subst P e (lifted (Faulty scope (tree_of l)) (Faulty scope (T.sat s (tree_of l) w)) (λ f g. F.in_saturate g) x h)

  pub stops_condition : (l : Expr) (c a b : Tree) → tree_of l ≡ c → Stops (Faulty scope (tree_of l)) x → Stops (Faulty scope (T.select s c a b)) x
  stops_condition l c a b e h = let P : Tree → Type 0 = λ t. Stops (Faulty scope (T.select s t a b)) x in
      subst P e (lifted (Faulty scope (tree_of l)) (Faulty scope (T.select s (tree_of l) a b)) (λ f g. F.in_condition g) x h)

  pub stops_first : (l m : Expr) (c a b : Tree) (d : Typed) → tree_of l ≡ c → tree_of m ≡ a → HasType scope (tree_of l) d
      → Stops (Faulty scope (tree_of m)) x → Stops (Faulty scope (T.select s c a b)) x
  stops_first l m c a b d ce ae i h =
      let P : Tree → Type 0 = λ t. Stops (Faulty scope (T.select s t a b)) x in
      let Q : Tree → Type 0 = λ t. Stops (Faulty scope (T.select s (tree_of l) t b)) x in
      subst P ce (subst Q ae (lifted (Faulty scope (tree_of m)) (Faulty scope (T.select s (tree_of l) (tree_of m) b)) (λ f g. F.in_first i g) x h))

  pub stops_second : (l m n : Expr) (c a b : Tree) (d e : Typed) → tree_of l ≡ c → tree_of m ≡ a → tree_of n ≡ b
      → HasType scope (tree_of l) d → HasType scope (tree_of m) e → Stops (Faulty scope (tree_of n)) x → Stops (Faulty scope (T.select s c a b)) x
  stops_second l m n c a b d e ce ae be i j h =
      let P : Tree → Type 0 = λ t. Stops (Faulty scope (T.select s t a b)) x in
      let Q : Tree → Type 0 = λ t. Stops (Faulty scope (T.select s (tree_of l) t b)) x in
      let R : Tree → Type 0 = λ t. Stops (Faulty scope (T.select s (tree_of l) (tree_of m) t)) x in
      subst P ce (subst Q ae (subst R be (lifted (Faulty scope (tree_of n)) (Faulty scope (T.select s (tree_of l) (tree_of m) (tree_of n))) (λ f g. F.in_second i j g) x h)))

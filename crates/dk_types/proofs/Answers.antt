-- The one answer for each expression: its types and its first fault are that answer.
use Rattle.std.proofs.Common.{◌≡◌, ℕ, ◌<◌, ◌≤◌, Bool, true, false, not, ◌&&◌, ◌||◌, nat_lt, nat_le, Option, Some, None, Result, Ok, Err, slice_get, if◌then◌else◌, refl, sym, arith}
use Rattle.dk_base.specs.declared.span.Span.{Span}
use Rattle.dk_base.specs.declared.ty.Ty.{Ty}
use Rattle.dk_base.specs.declared.operator.Conversion.{Conversion}
use Rattle.dk_base.specs.declared.operator.Conversion.TheVariants.{Cast, Saturate}
use Rattle.dk_base.specs.declared.operator.Unary.{Unary}
use Rattle.dk_base.specs.declared.operator.Binary.{Binary}
use Rattle.dk_base.specs.declared.operator.Scaling.{Scaling}
use Rattle.dk_base.specs.Types.{IsType, width_of, is_signed, is_bit, common_type, negation_type, shifted_type}
use Rattle.dk_base.specs.Operators.{limited, literal_type, unary_type, is_bitwise, are_operands, binary_result, binary_type, scaling_type, select_type}
use Rattle.dk_parser.specs.declared.tree.Literal.{Literal}
use Rattle.dk_parser.specs.declared.tree.Offset.{Offset}
use Rattle.dk_parser.specs.declared.tree.ImageRead.{ImageRead}
use Rattle.dk_parser.specs.Tree.{Tree, span_of}
use Rattle.dk_parser.specs.Tree as T
use Rattle.dk_types.specs.declared.fault.TypeFault.{TypeFault}
use Rattle.dk_types.specs.declared.fault.TypeFaultKind.TheVariants.{UnknownImage, OffsetRange, WidthTooGreat, NotOneBit, SignedBits, ZeroDivisor, ShiftRange}
use Rattle.dk_types.specs.Typed.{Typed, constant, fetch, single, double, scaled, converted, chosen, type_of}
use Rattle.dk_types.specs.Scopes.{Scope, image_of, types_in}
use Rattle.dk_types.specs.Offsets.{amount_of, offset_of}
use Rattle.dk_types.specs.Types.{HasType}
use Rattle.dk_types.specs.Types as H
use Rattle.dk_types.specs.Faults.{Faulty, at}
use Rattle.dk_types.specs.Faults as F

abbrev pub Answer : Type 0 → Type 0
Answer T = Result T TypeFault

-- reads
abbrev far : Option Offset → Option Span
far None = None
far (Some o) = if nat_lt 64 o.amount.value then Some o.amount.span else None

pub near : (x : Option Offset) → amount_of x ≤ 64 → far x ≡ None
near None h = refl
near (Some o) h = let e : nat_lt 64 o.amount.value ≡ false = grind arith in rw e refl

pub is_far : (o : Offset) → 64 < o.amount.value → far (Some o) ≡ Some o.amount.span
is_far o h = let e : nat_lt 64 o.amount.value ≡ true = grind arith in rw e refl

abbrev offsets_answer : Option Span → Option Span → Typed → Answer Typed
offsets_answer (Some s) y t = Err (at s OffsetRange)
offsets_answer None (Some s) t = Err (at s OffsetRange)
offsets_answer None None t = Ok t

abbrev type_answer : ImageRead → ℕ → Option Ty → Answer Typed
type_answer r g None = Err (at r.name.span UnknownImage)
type_answer r g (Some t) = offsets_answer (far r.x) (far r.y) (fetch t (record { image = g; dx = offset_of r.x; dy = offset_of r.y; clamped = r.clamped }))

abbrev image_answer : Scope → ImageRead → Option ℕ → Answer Typed
image_answer scope r None = Err (at r.name.span UnknownImage)
image_answer scope r (Some g) = type_answer r g (slice_get (types_in scope) g)

-- operators
abbrev unary_own : Span → Unary → Span → Typed → Option Ty → Answer Typed
unary_own s o p e (Some t) = Ok (single t o e)
unary_own s Unary.Negate p e None = Err (at s WidthTooGreat)
unary_own s Unary.Not p e None = Err (at p NotOneBit)
unary_own s Unary.Abs p e None = Err (at s WidthTooGreat)

abbrev unary_answer : Span → Unary → Span → Answer Typed → Answer Typed
unary_answer s o p (Err f) = Err f
unary_answer s o p (Ok e) = unary_own s o p e (unary_type o (type_of e))

abbrev binary_result_of : Span → Binary → Typed → Typed → Option Ty → Answer Typed
binary_result_of s o e f (Some t) = Ok (double t o e f)
binary_result_of s o e f None = Err (at s WidthTooGreat)

abbrev binary_own : Span → Binary → Span → Span → Typed → Typed → (left right : Bool) → Answer Typed
binary_own s o p q e f true right = Err (at p SignedBits)
binary_own s o p q e f false true = Err (at q SignedBits)
binary_own s o p q e f false false = binary_result_of s o e f (binary_type o (type_of e) (type_of f))

abbrev is_barred : Binary → Ty → Bool
is_barred o t = is_bitwise o && is_signed t

abbrev binary_answer : Span → Binary → Span → Span → Answer Typed → Answer Typed → Answer Typed
binary_answer s o p q (Err f) b = Err f
binary_answer s o p q (Ok e) (Err f) = Err f
binary_answer s o p q (Ok e) (Ok f) = binary_own s o p q e f (is_barred o (type_of e)) (is_barred o (type_of f))

abbrev shift_own : Span → Literal → Bool → Answer Typed
shift_own s k true = Err (at k.span ShiftRange)
shift_own s k false = Err (at s WidthTooGreat)

abbrev scale_own : Span → Scaling → Literal → Typed → Option Ty → Answer Typed
scale_own s o k e (Some t) = Ok (scaled t o e k.value)
scale_own s Scaling.Divide k e None = Err (at k.span ZeroDivisor)
scale_own s Scaling.ShiftLeft k e None = shift_own s k (nat_lt 63 k.value)
scale_own s Scaling.ShiftRight k e None = shift_own s k (nat_lt 63 k.value)

abbrev scale_answer : Span → Scaling → Literal → Answer Typed → Answer Typed
scale_answer s o k (Err f) = Err f
scale_answer s o k (Ok e) = scale_own s o k e (scaling_type o (type_of e) k.value)

abbrev pub is_type : Ty → Bool
is_type t = nat_le 1 (width_of t) && nat_le (width_of t) 64

abbrev conversion_answer : Conversion → Ty → Answer Typed → Answer Typed
conversion_answer o t (Err f) = Err f
conversion_answer o t (Ok e) = Ok (converted t o e)

abbrev select_own : Span → Span → Typed → Typed → Typed → Bool → Option Ty → Answer Typed
select_own s p d e f false t = Err (at p NotOneBit)
select_own s p d e f true None = Err (at s WidthTooGreat)
select_own s p d e f true (Some t) = Ok (chosen t d e f)

abbrev select_answer : Span → Span → Answer Typed → Answer Typed → Answer Typed → Answer Typed
select_answer s p (Err f) a b = Err f
select_answer s p (Ok d) (Err f) b = Err f
select_answer s p (Ok d) (Ok e) (Err f) = Err f
select_answer s p (Ok d) (Ok e) (Ok f) = select_own s p d e f (is_bit (type_of d)) (limited (common_type (type_of e) (type_of f)))

abbrev pub answer : Scope → Tree → Answer Typed
answer scope (T.number s v) = Ok (constant (literal_type v) v)
answer scope (T.read s r) = image_answer scope r (image_of scope r.name.text)
answer scope (T.unary s o a) = unary_answer s o (span_of a) (answer scope a)
answer scope (T.binary s o a b) = binary_answer s o (span_of a) (span_of b) (answer scope a) (answer scope b)
answer scope (T.scale s o a k) = scale_answer s o k (answer scope a)
answer scope (T.cast s a w) = conversion_answer Cast w.ty (answer scope a)
answer scope (T.sat s a w) = conversion_answer Saturate w.ty (answer scope a)
answer scope (T.select s c a b) = select_answer s (span_of c) (answer scope c) (answer scope a) (answer scope b)

-- tests
pub true_or_false : {P : Type 0} → true ≡ false → P
true_or_false e = absurd (let f : ⊥ = cc in f)

pub type_is : (t : Ty) → IsType t → is_type t ≡ true
type_is t h =
    let a : nat_le 1 (width_of t) ≡ true = grind (arith, h.some) in
    let b : nat_le (width_of t) 64 ≡ true = grind (arith, h.most) in
    rw (a, b) refl

both : (a b : Bool) → (a && b) ≡ true → (a ≡ true) × (b ≡ true)
both true b h = (refl, h)
both false b h = true_or_false (sym h)

pub is_a_type : (t : Ty) → is_type t ≡ true → IsType t
is_a_type t h =
    let p = both (nat_le 1 (width_of t)) (nat_le (width_of t) 64) h in
    let a = p.0 in let b = p.1 in
    record { some = grind (arith, a); most = grind (arith, b) }

too_wide : (t : Ty) → 64 < width_of t → limited t ≡ None
too_wide t h = let e : nat_le (width_of t) 64 ≡ false = grind arith in rw e refl

if_some : {A : Type 0} (b : Bool) (o : Option A) (t : A) → (if b then o else None) ≡ Some t → (b ≡ true) × (o ≡ Some t)
if_some true o t h = (refl, h)
if_some false o t h = absurd (let e : ⊥ = cc in e)

none_barred : (o : Binary) (a b : Ty) → are_operands o a b ≡ true → (is_barred o a ≡ false) × (is_barred o b ≡ false)
none_barred o a b h = by (is_bitwise o) (is_signed a) (is_signed b) h
  where
    by : (p x y : Bool) → not (p && (x || y)) ≡ true → ((p && x) ≡ false) × ((p && y) ≡ false)
    by true true y h = true_or_false (sym h)
    by true false true h = true_or_false (sym h)
    by true false false h = (refl, refl)
    by false x y h = (refl, refl)

takes_operands : (o : Binary) (a b t : Ty) → binary_type o a b ≡ Some t → are_operands o a b ≡ true
takes_operands o a b t h =
    let p = if_some (are_operands o a b && nat_le (width_of (common_type a b)) 64) (limited (binary_result o a b)) t h in
    (both (are_operands o a b) (nat_le (width_of (common_type a b)) 64) p.0).0

bit_and_wide : (c a b t : Ty) → select_type c a b ≡ Some t → (is_bit c ≡ true) × (limited (common_type a b) ≡ Some t)
bit_and_wide c a b t h = if_some (is_bit c) (limited (common_type a b)) t h

shift_refused : (o : Scaling) (a : Ty) (k : ℕ) → (o ≡ Scaling.Divide → ⊥) → 63 < k → scaling_type o a k ≡ None
shift_refused Scaling.ShiftLeft a k n h = let e : nat_le k 63 ≡ false = grind arith in rw e refl
shift_refused Scaling.ShiftRight a k n h = let e : nat_le k 63 ≡ false = grind arith in rw e refl
shift_refused Scaling.Divide a k n h = absurd (n refl)

shift_far : (s : Span) (o : Scaling) (k : Literal) (e : Typed) → (o ≡ Scaling.Divide → ⊥) → 63 < k.value → scale_own s o k e None ≡ Err (at k.span ShiftRange)
shift_far s Scaling.ShiftLeft k e n h = let q : nat_lt 63 k.value ≡ true = grind arith in rw q refl
shift_far s Scaling.ShiftRight k e n h = let q : nat_lt 63 k.value ≡ true = grind arith in rw q refl
shift_far s Scaling.Divide k e n h = absurd (n refl)

shift_wide : (a : Ty) (k : ℕ) → k ≤ 63 → 64 < width_of (shifted_type a k) → scaling_type Scaling.ShiftLeft a k ≡ None
shift_wide a k h w = let e : nat_le k 63 ≡ true = grind arith in rw e (too_wide (shifted_type a k) w)

-- the type that an expression has is the answer
pub typed_answer : {scope : Scope} {e : Tree} {t : Typed} → HasType scope e t → answer scope e ≡ Ok t
typed_answer (H.literal h) = refl
typed_answer (H.read {r = r} i x y) = rw (i.number, i.type, near r.x x, near r.y y) refl
typed_answer (H.unary h k) = rw (typed_answer h, k) refl
typed_answer (H.binary {o = o} {e = e} {f = f} {t = t} h g k) =
    let n = none_barred o (type_of e) (type_of f) (takes_operands o (type_of e) (type_of f) t k) in
    rw (typed_answer h, typed_answer g, n.0, n.1, k) refl
typed_answer (H.scale h k) = rw (typed_answer h, k) refl
typed_answer (H.cast h k) = rw (typed_answer h) refl
typed_answer (H.saturate h k) = rw (typed_answer h) refl
typed_answer (H.select {d = d} {e = e} {f = f} {t = t} h g i k) =
    let p = bit_and_wide (type_of d) (type_of e) (type_of f) t k in
    rw (typed_answer h, typed_answer g, typed_answer i, p.0, p.1) refl

-- the first fault is the answer
pub faulty_answer : {scope : Scope} {e : Tree} {f : TypeFault} → Faulty scope e f → answer scope e ≡ Err f
faulty_answer (F.unknown h) = rw h refl
faulty_answer (F.far_in_x {r = r} {o = o} i x h) = rw (i.number, i.type, x, is_far o h) refl
faulty_answer (F.far_in_y {r = r} {o = o} i n y h) = rw (i.number, i.type, near r.x n, y, is_far o h) refl
faulty_answer (F.in_unary h) = rw (faulty_answer h) refl
faulty_answer (F.not_a_bit h b) = rw (typed_answer h, b) refl
faulty_answer (F.wide_negation {e = e} h w) = rw (typed_answer h, too_wide (negation_type (type_of e)) w) refl
faulty_answer (F.in_left h) = rw (faulty_answer h) refl
faulty_answer (F.in_right h g) = rw (typed_answer h, faulty_answer g) refl
faulty_answer (F.signed_left h g b s) = rw (typed_answer h, typed_answer g, b, s) refl
faulty_answer (F.signed_right h g b s u) = rw (typed_answer h, typed_answer g, b, s, u) refl
faulty_answer (F.wide_result {o = o} {e = e} {f = f} h g k n) =
    let p = none_barred o (type_of e) (type_of f) k in
    rw (typed_answer h, typed_answer g, p.0, p.1, n) refl
faulty_answer (F.in_scale h) = rw (faulty_answer h) refl
faulty_answer (F.zero_divisor h z) = rw (typed_answer h, z) refl
faulty_answer (F.far_shift {s = s} {o = o} {k = k} {e = e} h n b) = rw (typed_answer h, shift_refused o (type_of e) k.value n b) (shift_far s o k e n b)
faulty_answer (F.wide_shift {k = k} {e = e} h b w) =
    let q : nat_lt 63 k.value ≡ false = grind arith in
    rw (typed_answer h, shift_wide (type_of e) k.value b w, q) refl
faulty_answer (F.in_cast h) = rw (faulty_answer h) refl
faulty_answer (F.in_saturate h) = rw (faulty_answer h) refl
faulty_answer (F.in_condition h) = rw (faulty_answer h) refl
faulty_answer (F.in_first h g) = rw (typed_answer h, faulty_answer g) refl
faulty_answer (F.in_second h g i) = rw (typed_answer h, typed_answer g, faulty_answer i) refl
faulty_answer (F.condition h g i b) = rw (typed_answer h, typed_answer g, typed_answer i, b) refl
faulty_answer (F.wide_choice {e = e} {f = f} h g i b w) =
    rw (typed_answer h, typed_answer g, typed_answer i, b, too_wide (common_type (type_of e) (type_of f)) w) refl

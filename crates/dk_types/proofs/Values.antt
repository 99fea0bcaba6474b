-- The values of expressions and images are in their types.
use Rattle.std.proofs.Common.{◌≡◌, ℕ, zero, suc, ◌-◌, ◌≤◌, Bool, true, false, nat_eq, nat_le, ℤ, pos, ◌+ℤ◌, List, [], ◌∷◌, ◌++◌, length, map, Option, Some, None, if◌then◌else◌, refl, sym, ap, ◌∙◌, subst, arith, append-nil, append_assoc, length-append}
use Rattle.std.proofs.lemmas.Int.{ints}
use Rattle.std.proofs.lemmas.Nat.{pow_pos}
use Rattle.dk_base.specs.declared.ty.Ty.{Ty}
use Rattle.dk_base.specs.declared.ty.Ty.TheVariants.{Unsigned, Signed}
use Rattle.dk_base.specs.declared.operator.Unary.{Unary}
use Rattle.dk_base.specs.declared.operator.Unary.TheVariants.{Negate, Not, Abs}
use Rattle.dk_base.specs.declared.operator.Scaling.{Scaling}
use Rattle.dk_base.specs.declared.operator.Scaling.TheVariants.{Divide, ShiftLeft, ShiftRight}
use Rattle.dk_base.specs.Types.{IsType, IsIn, width_of, is_bit, common_type, negation_type, magnitude_type, shifted_type}
use Rattle.dk_base.specs.Numbers.{bit_count}
use Rattle.dk_base.specs.Operators.{limited, unary_type, scaling_type, select_type}
use Rattle.dk_base.specs.Frames.{Size, Picture, in_frame, clamped}
use Rattle.dk_base.proofs.BitCounts.{bit_count_is, bit_count_type, bit_count_in}
use Rattle.dk_base.proofs.Ranges.{common_some}
use Rattle.dk_base.proofs.Operations.{binary_typed, binary_in, unary_in, scaling_in, conversion_in, select_in, converts_in}
use Rattle.dk_types.specs.declared.typed.TypedInput.{TypedInput}
use Rattle.dk_types.specs.declared.typed.TypedRead.{TypedRead}
use Rattle.dk_types.specs.Typed.{Typed, constant, fetch, single, double, scaled, converted, chosen, type_of, Definition, Typing, declared_or, image_type, input_types, types_of}
use Rattle.dk_base.specs.Types.{IsPort}
use Rattle.dk_types.specs.Types.{Takes}
use Rattle.dk_types.specs.Kept.{IsReadOf, IsWell, AreWell, ArePorts, IsTyped}
use Rattle.dk_base.specs.Frames.{picture_at, framed}
use Rattle.dk_types.specs.Meaning.{read_value, value, pictures, meaning, AreIn, AreTypes}

-- types of results
limited_type : (s t : Ty) → 1 ≤ width_of s → limited s ≡ Some t → IsType t
limited_type s t some h = by (nat_le (width_of s) 64) refl h
  where
    by : (b : Bool) → nat_le (width_of s) 64 ≡ b → (if b then Some s else None) ≡ Some t → IsType t
    by true e g = let q : s ≡ t = cc in subst IsType q (record { some = some; most = grind (arith, e) })
    by false e g = absurd (let f : ⊥ = cc in f)

kept_type : (b : Bool) (a t : Ty) → IsType a → (if b then Some a else None) ≡ Some t → IsType t
kept_type true a t ok h = let q : a ≡ t = cc in subst IsType q ok
kept_type false a t ok h = absurd (let f : ⊥ = cc in f)

left_type : (b : Bool) (a t : Ty) → IsType a → (if b then None else Some a) ≡ Some t → IsType t
left_type true a t ok h = absurd (let f : ⊥ = cc in f)
left_type false a t ok h = let q : a ≡ t = cc in subst IsType q ok

unary_typed : (o : Unary) (a t : Ty) → IsType a → unary_type o a ≡ Some t → IsType t
unary_typed Negate a t ok h = limited_type (negation_type a) t (omega arith) h
unary_typed Not a t ok h = kept_type (is_bit a) a t ok h
unary_typed Abs a t ok h = let q : magnitude_type a ≡ t = cc in subst IsType q (record { some = ok.some; most = ok.most })

shifted_some : (a : Ty) (k : ℕ) → 1 ≤ width_of a → 1 ≤ width_of (shifted_type a k)
shifted_some (Unsigned n) k h = omega arith
shifted_some (Signed n) k h = omega arith

under : (b : Bool) (o : Option Ty) (t : Ty) → (if b then o else None) ≡ Some t → o ≡ Some t
under true o t h = h
under false o t h = absurd (let f : ⊥ = cc in f)

scaling_typed : (o : Scaling) (a t : Ty) (k : ℕ) → IsType a → scaling_type o a k ≡ Some t → IsType t
scaling_typed Divide a t k ok h = left_type (nat_eq k 0) a t ok h
scaling_typed ShiftLeft a t k ok h = limited_type (shifted_type a k) t (shifted_some a k ok.some) (under (nat_le k 63) (limited (shifted_type a k)) t h)
scaling_typed ShiftRight a t k ok h = kept_type (nat_le k 63) a t ok h

select_typed : (c a b t : Ty) → IsType a → select_type c a b ≡ Some t → IsType t
select_typed c a b t ok h = limited_type (common_type a b) t (common_some a b ok.some) (under (is_bit c) (limited (common_type a b)) t h)

pub well_typed : (types : List Ty) → AreTypes types → (e : Typed) → IsWell types e → IsType (type_of e)
well_typed types are (constant t v) h = subst IsType (sym h.1) (bit_count_type v (bit_count v) h.0 (bit_count_is v (bit_count v) h.0 refl))
well_typed types are (fetch t r) h = are r.image t h.image
well_typed types are (single t o a) h = unary_typed o (type_of a) t (well_typed types are a h.0) h.1
well_typed types are (double t o a b) h = (binary_typed o (type_of a) (type_of b) t (well_typed types are a h.0) h.2).typed
well_typed types are (scaled t o a k) h = scaling_typed o (type_of a) t k (well_typed types are a h.0) h.1
well_typed types are (converted t o a) h = h.1
well_typed types are (chosen t c a b) h = select_typed (type_of c) (type_of a) (type_of b) t (well_typed types are a h.1) h.3

-- values
zero_in : (t : Ty) → IsIn t (pos 0)
zero_in (Unsigned n) = let p = pow_pos n in record { least = omega (arith, ints); greatest = omega (arith, ints, p) }
zero_in (Signed n) = let p = pow_pos (n - 1) in record { least = omega (arith, ints, p); greatest = omega (arith, ints, p) }

one_of : (t : Ty) (b : Bool) (v u : ℤ) → IsIn t v → IsIn t u → IsIn t (if b then v else u)
one_of t true v u h k = h
one_of t false v u h k = k

framed_in : (size : Size) (t : Ty) (p : Picture) → ((x y : ℤ) → IsIn t (p x y)) → (x y : ℤ) → IsIn t (framed size p x y)
framed_in size t p h x y = one_of t (in_frame size x y) (p x y) (pos 0) (h x y) (zero_in t)

read_in : (size : Size) (types : List Ty) (known : List Picture) → AreIn types known → (t : Ty) (r : TypedRead) → IsReadOf types t r → (x y : ℤ) → IsIn t (read_value size known r x y)
read_in size types known h t r i x y =
    one_of t r.clamped _ _ (h r.image t i.image (clamped size.width (x +ℤ r.dx)) (clamped size.height (y +ℤ r.dy)))
    (framed_in size t (picture_at known r.image) (h r.image t i.image) (x +ℤ r.dx) (y +ℤ r.dy))

pub value_in : (size : Size) (types : List Ty) (known : List Picture) (e : Typed) → AreTypes types → AreIn types known → IsWell types e → (x y : ℤ) → IsIn (type_of e) (value size known e x y)
value_in size types known (constant t v) are h w x y =
    let P : Ty → Type 0 = λ u. IsIn u (pos v) in subst P (sym w.1) (bit_count_in v (bit_count v) (bit_count_is v (bit_count v) w.0 refl))
value_in size types known (fetch t r) are h w x y = read_in size types known h t r w x y
value_in size types known (single t o a) are h w x y = unary_in o (type_of a) t (value size known a x y) (well_typed types are a w.0) w.1 (value_in size types known a are h w.0 x y)
value_in size types known (double t o a b) are h w x y =
    binary_in o (type_of a) (type_of b) t (value size known a x y) (value size known b x y) (well_typed types are a w.0) (well_typed types are b w.1) w.2
    (value_in size types known a are h w.0 x y) (value_in size types known b are h w.1 x y)
value_in size types known (scaled t o a k) are h w x y = scaling_in o (type_of a) t (value size known a x y) k (well_typed types are a w.0) w.1 (value_in size types known a are h w.0 x y)
value_in size types known (converted t o a) are h w x y = conversion_in o t (value size known a x y) w.1
value_in size types known (chosen t c a b) are h w x y =
    select_in (type_of c) (type_of a) (type_of b) t (value size known c x y) (value size known a x y) (value size known b x y) w.3
    (value_in size types known a are h w.1 x y) (value_in size types known b are h w.2 x y)

-- images
pub image_in : (size : Size) (types : List Ty) (known : List Picture) (d : Definition) → AreTypes types → AreIn types known → IsWell types d.body → Takes d.declared (type_of d.body)
    → (x y : ℤ) → IsIn (image_type d) (framed size (value size known d.body) x y)
image_in size types known d are h w f = framed_in size (image_type d) (value size known d.body) (λ x y. by d.declared f (value_in size types known d.body are h w x y))
  where
    by : {v : ℤ} (u : Option Ty) → Takes u (type_of d.body) → IsIn (type_of d.body) v → IsIn (declared_or u (type_of d.body)) v
    by None g k = k
    by {v} (Some u) g k = converts_in (type_of d.body) u v g.fits k

image_is_type : (types : List Ty) (d : Definition) → AreTypes types → IsWell types d.body → Takes d.declared (type_of d.body) → IsType (image_type d)
image_is_type types d are w f = by d.declared f
  where
    by : (u : Option Ty) → Takes u (type_of d.body) → IsType (declared_or u (type_of d.body))
    by None g = well_typed types are d.body w
    by (Some u) g = g.is_type

types_more : (types : List Ty) (t : Ty) → AreTypes types → IsType t → AreTypes (types ++ t ∷ [])
types_more [] t are ok zero u h = let q : t ≡ u = cc in subst IsType q ok
types_more [] t are ok (suc g) u h = absurd (let f : ⊥ = cc in f)
types_more (s ∷ types) t are ok zero u h = are zero u h
types_more (s ∷ types) t are ok (suc g) u h = types_more types t (λ k v e. are (suc k) v e) ok g u h

pictures_more : (types : List Ty) (known : List Picture) (t : Ty) (p : Picture) → length known ≡ length types → AreIn types known → ((x y : ℤ) → IsIn t (p x y)) → AreIn (types ++ t ∷ []) (known ++ p ∷ [])
pictures_more [] [] t p e are h zero u q x y = let s : t ≡ u = cc in let P : Ty → Type 0 = λ z. IsIn z (p x y) in subst P s (h x y)
pictures_more [] [] t p e are h (suc g) u q x y = absurd (let f : ⊥ = cc in f)
pictures_more [] (k ∷ known) t p e are h g u q x y = absurd (omega arith)
pictures_more (s ∷ types) [] t p e are h g u q x y = absurd (omega arith)
pictures_more (s ∷ types) (k ∷ known) t p e are h zero u q x y = are zero u q x y
pictures_more (s ∷ types) (k ∷ known) t p e are h (suc g) u q x y = pictures_more types known t p (omega arith) (λ j v f. are (suc j) v f) h g u q x y

images_in : (size : Size) (types : List Ty) (known : List Picture) (ds : List Definition) → length known ≡ length types → AreTypes types → AreIn types known → AreWell types ds
    → AreIn (types ++ map image_type ds) (pictures size known ds)
images_in size types known [] e are h w = let P : List Ty → Type 0 = λ l. AreIn l known in subst P (sym (append-nil types)) h
images_in size types known (d ∷ ds) e are h w =
    let next = known ++ framed size (value size known d.body) ∷ [] in
    let P : List Ty → Type 0 = λ l. AreIn l (pictures size next ds) in
    let a = length-append types (image_type d ∷ []) in
    let b = length-append known (framed size (value size known d.body) ∷ []) in
    subst P (append_assoc types (image_type d ∷ []) (map image_type ds))
    (images_in size (types ++ image_type d ∷ []) next ds (omega arith) (types_more types (image_type d) are (image_is_type types d are w.0 w.1))
    (pictures_more types known (image_type d) (framed size (value size known d.body)) e h (image_in size types known d are h w.0 w.1)) w.2)

port_type : (t : Ty) → IsPort t → IsType t
port_type (Unsigned n) h = record { some = h.0; most = omega (arith, h.1) }
port_type (Signed n) h = absurd h

input_are_types : (is : List TypedInput) → ArePorts is → AreTypes (input_types is)
input_are_types [] h g t e = absurd (let f : ⊥ = cc in f)
input_are_types (i ∷ is) h zero t e = let q : i.ty ≡ t = cc in subst IsType q (port_type i.ty h.0)
input_are_types (i ∷ is) h (suc g) t e = input_are_types is h.1 g t e

inputs_long : (is : List TypedInput) → length (input_types is) ≡ length is
inputs_long [] = refl
inputs_long (i ∷ is) = ap suc (inputs_long is)

pub meaning_in : (p : Typing) (inputs : List Picture) → IsTyped p → length inputs ≡ length p.inputs → AreIn (input_types p.inputs) inputs → AreIn (types_of p) (meaning p inputs)
meaning_in p inputs h e k =
    images_in p.size (input_types p.inputs) inputs p.definitions (e ∙ sym (inputs_long p.inputs)) (input_are_types p.inputs h.inputs) k h.bodies

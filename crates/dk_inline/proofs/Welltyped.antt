-- Inlined bodies have the types of their definitions, and near offsets.
use Rattle.std.proofs.Common.{◌≡◌, ℕ, zero, suc, ◌+◌, ◌≤◌, Bool, true, false, ℤ, pos, unsigned_abs, List, [], ◌∷◌, ◌++◌, length, map, take, slice_get, slice_index_or, Option, Some, None, refl, ap, sym, ◌∙◌, subst, arith, if◌then◌else◌, inl, inr, append-nil, append_assoc, length-append, add-zero}
use Rattle.std.proofs.lemmas.List.{length-map}
use Rattle.std.proofs.lemmas.Int.{ints}
use Rattle.std.proofs.lemmas.Option.{slice_get_within}
use Rattle.dk_base.specs.declared.ty.Ty.{Ty}
use Rattle.dk_base.specs.Types.{IsType, IsIn}
use Rattle.dk_base.specs.Numbers.{bit_count}
use Rattle.dk_base.proofs.BitCounts.{bit_count_is, bit_count_type, bit_count_in}
use Rattle.dk_types.specs.declared.typed.TypedRead.{TypedRead}
use Rattle.dk_types.specs.Typed.{Typed, fetch, single, double, scaled, converted, chosen, type_of, Definition, Typing, image_type, declared_or, input_types}
use Rattle.dk_types.specs.Typed as T
use Rattle.dk_types.specs.Types.{Takes}
use Rattle.dk_types.specs.Kept.{IsNear, IsReadOf, IsWell, AreWell, IsTyped}
use Rattle.pointwise_ir.specs.Trees.{Tree, constant, read, shifted, unary, binary, select, convert, scale, AreNear}
use Rattle.pointwise_ir.specs.Trees as R
use Rattle.pointwise_ir.specs.Typing.{HasType}
use Rattle.pointwise_ir.proofs.Defined.{last_entry}
use Rattle.dk_inline.specs.Inlined.{Substitute, itself, body, read_of, inlined, declared_as, inlined_body, substitute_of, substitutes}
use Rattle.dk_inline.proofs.Substituted.{input, definition}

-- the type of a read stays where there are more images
pub entry_more : {A : Type 0} (xs ys : List A) (g : ℕ) (x : A) → slice_get xs g ≡ Some x → slice_get (xs ++ ys) g ≡ Some x
entry_more [] ys g x h = absurd (let f : ⊥ = cc in f)
entry_more (y ∷ xs) ys zero x h = h
entry_more (y ∷ xs) ys (suc g) x h = entry_more xs ys g x h

type_more : (ts us : List Ty) (e : Tree) (t : Ty) → HasType ts e t → HasType (ts ++ us) e t
type_more ts us (constant v s) t h = h
type_more ts us (read edge g dx dy) t h = entry_more ts us g t h
type_more ts us (shifted edge dx dy a) t h = type_more ts us a t h
type_more ts us (unary op a) t (s, h, k) = (s, type_more ts us a s h, k)
type_more ts us (binary op a b) t (s, r, h, g, k) = (s, r, type_more ts us a s h, type_more ts us b r g, k)
type_more ts us (select c a b) t (q, s, r, h, g, f, k) = (q, s, r, type_more ts us c q h, type_more ts us a s g, type_more ts us b r f, k)
type_more ts us (convert how a s) t (ok, is, r, h) = (ok, is, r, type_more ts us a r h)
type_more ts us (scale op a k) t (s, h, is) = (s, type_more ts us a s h, is)

-- what is in place of an image has its type
abbrev pub Fits : List Ty → Ty → Substitute → Type 0
Fits ts t itself = Unit {0}
Fits ts t (body e) = HasType ts e t × AreNear e

abbrev pub AreFitting : List Ty → List Substitute → Type 0
AreFitting ts images = (g : ℕ) (t : Ty) → slice_get ts g ≡ Some t → Fits ts t (slice_index_or images g itself)

near : (v : ℤ) → IsNear v → unsigned_abs v ≤ 65536
near v h = omega (arith, ints, h.least, h.most)

near_read : (ts : List Ty) (t : Ty) (r : TypedRead) → IsReadOf ts t r → R.IsNear r.dx r.dy
near_read ts t r h = record { across = near r.dx h.near_in_x; down = near r.dy h.near_in_y }

read_fits : (ts : List Ty) (t : Ty) (r : TypedRead) (s : Substitute) → IsReadOf ts t r → Fits ts t s → HasType ts (read_of s r) t × AreNear (read_of s r)
read_fits ts t r itself h f = (h.image, near_read ts t r h)
read_fits ts t r (body e) h f = (f.0, (near_read ts t r h, f.1))

-- an inlined expression has the expression's type
pub inlined_fits : (ts : List Ty) (images : List Substitute) → AreFitting ts images → (e : Typed) → IsWell ts e → HasType ts (inlined images e) (type_of e) × AreNear (inlined images e)
inlined_fits ts images fit (T.constant t v) w =
    let P : Ty → Type 0 = λ u. IsType u × IsIn u (pos v) in
    let is = bit_count_is v (bit_count v) w.0 refl in
    let both = subst P (sym w.1) (bit_count_type v (bit_count v) w.0 is, bit_count_in v (bit_count v) is) in
    ((both.0, both.1, refl), tt)
inlined_fits ts images fit (fetch t r) w = read_fits ts t r (slice_index_or images r.image itself) w (fit r.image t w.image)
inlined_fits ts images fit (single t o a) w =
    let f = inlined_fits ts images fit a w.0 in
    ((type_of a, f.0, w.1), f.1)
inlined_fits ts images fit (double t o a b) w =
    let f = inlined_fits ts images fit a w.0 in
    let g = inlined_fits ts images fit b w.1 in
    ((type_of a, type_of b, f.0, g.0, w.2), (f.1, g.1))
inlined_fits ts images fit (scaled t o a k) w =
    let f = inlined_fits ts images fit a w.0 in
    ((type_of a, f.0, w.1), f.1)
inlined_fits ts images fit (converted t o a) w =
    let f = inlined_fits ts images fit a w.0 in
    ((w.1, refl, type_of a, f.0), f.1)
inlined_fits ts images fit (chosen t c a b) w =
    let f = inlined_fits ts images fit c w.0 in
    let g = inlined_fits ts images fit a w.1 in
    let h = inlined_fits ts images fit b w.2 in
    ((type_of c, type_of a, type_of b, f.0, g.0, h.0, w.3), (f.1, g.1, h.1))

declared_fits : (ts : List Ty) (o : Option Ty) (e : Tree) (t : Ty) → Takes o t → HasType ts e t × AreNear e → HasType ts (declared_as o e) (declared_or o t) × AreNear (declared_as o e)
declared_fits ts None e t takes h = h
declared_fits ts (Some u) e t takes h = ((takes.is_type, refl, t, h.0), h.1)

-- an inlined body has the image's type
pub body_fits : (ts : List Ty) (images : List Substitute) → AreFitting ts images → (d : Definition) → IsWell ts d.body → Takes d.declared (type_of d.body) → HasType ts (inlined_body images d) (image_type d) × AreNear (inlined_body images d)
body_fits ts images fit d w takes = declared_fits ts d.declared (inlined images d.body) (type_of d.body) takes (inlined_fits ts images fit d.body w)

substitute_fits : (ts : List Ty) (images : List Substitute) (d : Definition) → HasType ts (inlined_body images d) (image_type d) × AreNear (inlined_body images d) → Fits ts (image_type d) (substitute_of images d)
substitute_fits ts images d h = by d.inline
  where
    by : (b : Bool) → Fits ts (image_type d) (if b then body (inlined_body images d) else itself)
    by true = h
    by false = tt

fits_more : (ts us : List Ty) (t : Ty) (s : Substitute) → Fits ts t s → Fits (ts ++ us) t s
fits_more ts us t itself h = tt
fits_more ts us t (body e) h = (type_more ts us e t h.0, h.1)

-- one image more
fitting_more : (ts : List Ty) (t : Ty) (all : List Substitute) → AreFitting ts all → Fits ts t (slice_index_or all (length ts) itself) → AreFitting (ts ++ t ∷ []) all
fitting_more ts t all fit last g s is = elim (last_entry ts t s g is) [
  | inl e ↦ fits_more ts (t ∷ []) s (slice_index_or all g itself) (fit g s e)
  | inr e ↦
      let P : ℕ → Type 0 = λ n. Fits (ts ++ t ∷ []) s (slice_index_or all n itself) in
      let Q : Ty → Type 0 = λ u. Fits (ts ++ t ∷ []) u (slice_index_or all (length ts) itself) in
      subst P (sym e.0) (subst Q e.1 (fits_more ts (t ∷ []) t (slice_index_or all (length ts) itself) last))
]

-- definitions over images of the types ts, where `all` has what is in place of each
fits_from : (all : List Substitute) (ds : List Definition) (ts : List Ty) → AreWell ts ds → ((k : ℕ) (d : Definition) → slice_get ds k ≡ Some d → slice_index_or all (length ts + k) itself ≡ substitute_of all d) → AreFitting ts all →
    (k : ℕ) (d : Definition) → slice_get ds k ≡ Some d → HasType (ts ++ map image_type (take k ds)) (inlined_body all d) (image_type d) × AreNear (inlined_body all d)
fits_from all [] ts well stand fit k d is = absurd (let f : ⊥ = cc in f)
fits_from all (c ∷ ds) ts well stand fit zero d is =
    let same : c ≡ d = cc in
    let P : Definition → Type 0 = λ x. HasType (ts ++ []) (inlined_body all x) (image_type x) × AreNear (inlined_body all x) in
    let Q : List Ty → Type 0 = λ us. HasType us (inlined_body all c) (image_type c) in
    let b = body_fits ts all fit c well.0 well.1 in
    subst P same (subst Q (sym (append-nil ts)) b.0, b.1)
fits_from all (c ∷ ds) ts well stand fit (suc k) d is =
    let b = body_fits ts all fit c well.0 well.1 in
    let here : slice_index_or all (length ts) itself ≡ substitute_of all c = ap (λ n. slice_index_or all n itself) (sym (add-zero (length ts))) ∙ stand zero c refl in
    let P : Substitute → Type 0 = λ s. Fits ts (image_type c) s in
    let fit' = fitting_more ts (image_type c) all fit (subst P (sym here) (substitute_fits ts all c b)) in
    let longer : length (ts ++ image_type c ∷ []) ≡ length ts + 1 = length-append ts (image_type c ∷ []) in
    let stand' : (j : ℕ) (e : Definition) → slice_get ds j ≡ Some e → slice_index_or all (length (ts ++ image_type c ∷ []) + j) itself ≡ substitute_of all e = λ j e there.
    let place : length (ts ++ image_type c ∷ []) + j ≡ length ts + suc j = omega (arith, longer) in
    ap (λ n. slice_index_or all n itself) place ∙ stand (suc j) e there in
    let rest = fits_from all ds (ts ++ image_type c ∷ []) well.2 stand' fit' k d is in
    let Q : List Ty → Type 0 = λ us. HasType us (inlined_body all d) (image_type d) in
    (subst Q (append_assoc ts (image_type c ∷ []) (map image_type (take k ds))) rest.0, rest.1)

-- the inlined body of the k-th definition has its image's type over the images before it
pub typed_at : (p : Typing) → IsTyped p → (k : ℕ) (d : Definition) → slice_get p.definitions k ≡ Some d →
    HasType (input_types p.inputs ++ map image_type (take k p.definitions)) (inlined_body (substitutes p) d) (image_type d) × AreNear (inlined_body (substitutes p) d)
typed_at p typed k d is =
    let ts = input_types p.inputs in
    let long : length ts ≡ length p.inputs = length-map p.inputs _ in
    let stand : (j : ℕ) (e : Definition) → slice_get p.definitions j ≡ Some e → slice_index_or (substitutes p) (length ts + j) itself ≡ substitute_of (substitutes p) e = λ j e there.
    ap (λ n. slice_index_or (substitutes p) (n + j) itself) long ∙ definition p typed j e there in
    let fit : AreFitting ts (substitutes p) = λ g t there.
    let P : Substitute → Type 0 = λ s. Fits ts t s in
    subst P (sym (input p g (let lt = slice_get_within ts g t there in omega (arith, lt, long)))) tt in
    fits_from (substitutes p) p.definitions ts typed.bodies stand fit k d is

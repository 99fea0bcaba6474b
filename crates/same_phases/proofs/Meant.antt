-- The pictures of a typed program: each is its body's value over the pictures of all images.
use Rattle.std.proofs.Common.{pos, ◌≡◌, ℕ, zero, suc, ◌+◌, ◌<◌, List, [], ◌∷◌, ◌++◌, length, ◌+ℤ◌, Some, slice_get, refl, ap, sym, ◌∙◌, arith, length-append, add-zero}
use Rattle.std.proofs.Math.ListN.{get_or-append}
use Rattle.std.proofs.Math.Seq.{get_or-append_seam}
use Rattle.std.proofs.lemmas.List.{length-map}
use Rattle.std.proofs.lemmas.Option.{slice_get_within}
use Rattle.std.specs.Prelude.{if◌then◌else◌}
use Rattle.dk_base.specs.declared.ty.Ty.{Ty}
use Rattle.dk_base.specs.Frames.{Size, Picture, clamped}
use Rattle.dk_base.specs.Operators.{unary_value, binary_value, scaling_value, conversion_value, select_value}
use Rattle.dk_types.specs.declared.typed.TypedRead.{TypedRead}
use Rattle.dk_types.specs.Typed.{Typed, constant, fetch, single, double, scaled, converted, chosen, Definition, Typing, image_type, input_types}
use Rattle.dk_types.specs.Kept.{IsWell, AreWell, IsTyped}
use Rattle.dk_base.specs.Frames.{picture_at, framed}
use Rattle.dk_types.specs.Meaning.{read_value, value, pictures, meaning}
use Rattle.pointwise_ir.proofs.Agreement.{Agree, framed_agrees}

read_agrees : (size : Size) (one other : List Picture) (r : TypedRead) → Agree (picture_at one r.image) (picture_at other r.image) → Agree (read_value size one r) (read_value size other r)
read_agrees size one other r same x y =
    let u = x +ℤ r.dx in
    let v = y +ℤ r.dy in
    ap (λ p. if r.clamped then p else framed size (picture_at one r.image) u v) (same (clamped size.width u) (clamped size.height v))
    ∙ ap (λ p. if r.clamped then picture_at other r.image (clamped size.width u) (clamped size.height v) else p) (framed_agrees size (picture_at one r.image) (picture_at other r.image) same u v)

-- the pictures agree at each image below n
abbrev pub AgreeBelow : ℕ → (one other : List Picture) → Type 0
AgreeBelow n one other = (g : ℕ) → g < n → Agree (picture_at one g) (picture_at other g)

value_agrees : (size : Size) (ts : List Ty) (one other : List Picture) → AgreeBelow (length ts) one other → (e : Typed) → IsWell ts e → Agree (value size one e) (value size other e)
value_agrees size ts one other same (constant t v) well x y = refl
value_agrees size ts one other same (fetch t r) well x y = read_agrees size one other r (same r.image (slice_get_within ts r.image t well.image)) x y
value_agrees size ts one other same (single t o a) well x y = ap (unary_value o) (value_agrees size ts one other same a well.0 x y)
value_agrees size ts one other same (double t o a b) well x y =
    ap (λ v. binary_value o v (value size one b x y)) (value_agrees size ts one other same a well.0 x y)
    ∙ ap (binary_value o (value size other a x y)) (value_agrees size ts one other same b well.1 x y)
value_agrees size ts one other same (scaled t o a k) well x y = ap (λ v. scaling_value o v k) (value_agrees size ts one other same a well.0 x y)
value_agrees size ts one other same (converted t o a) well x y = ap (conversion_value o t) (value_agrees size ts one other same a well.0 x y)
value_agrees size ts one other same (chosen t c a b) well x y =
    ap (λ v. select_value v (value size one a x y) (value size one b x y)) (value_agrees size ts one other same c well.0 x y)
    ∙ ap (λ v. select_value (value size other c x y) v (value size one b x y)) (value_agrees size ts one other same a well.1 x y)
    ∙ ap (select_value (value size other c x y) (value size other a x y)) (value_agrees size ts one other same b well.2 x y)

-- the pictures that are there first stay
pub first_pictures : (size : Size) (ds : List Definition) (known : List Picture) (g : ℕ) → g < length known → picture_at (pictures size known ds) g ≡ picture_at known g
first_pictures size [] known g lt = refl
first_pictures size (d ∷ ds) known g lt =
    let p = framed size (value size known d.body) in
    let longer : g < length (known ++ p ∷ []) = omega (arith, lt, length-append known (p ∷ [])) in
    first_pictures size ds (known ++ p ∷ []) g longer ∙ get_or-append known (p ∷ []) (λ _ _. pos 0) g lt

pub length-pictures : (size : Size) (ds : List Definition) (known : List Picture) → length (pictures size known ds) ≡ length known + length ds
length-pictures size [] known = omega arith
length-pictures size (d ∷ ds) known =
    let p = framed size (value size known d.body) in
    let rest = length-pictures size ds (known ++ p ∷ []) in
    let longer = length-append known (p ∷ []) in
    omega (arith, rest, longer)

picture_from : (size : Size) (ds : List Definition) (ts : List Ty) (known : List Picture) → length known ≡ length ts → AreWell ts ds → (k : ℕ) (d : Definition) → slice_get ds k ≡ Some d →
    Agree (picture_at (pictures size known ds) (length known + k)) (framed size (value size (pictures size known ds) d.body))
picture_from size [] ts known long well k d is x y = absurd (let no : ⊥ = cc in no)
picture_from size (c ∷ ds) ts known long well zero d is x y =
    let p = framed size (value size known c.body) in
    let all = pictures size (known ++ p ∷ []) ds in
    let same : c ≡ d = cc in
    let longer : length (known ++ p ∷ []) ≡ length known + 1 = length-append known (p ∷ []) in
    let there : length known < length (known ++ p ∷ []) = omega (arith, longer) in
    let here : picture_at all (length known) ≡ p = first_pictures size ds (known ++ p ∷ []) (length known) there ∙ get_or-append_seam known p [] (λ _ _. pos 0) in
    let agree : AgreeBelow (length ts) known all = λ g lt x y.
    sym (ap (λ (q : Picture). q x y) (first_pictures size (c ∷ ds) known g (let h : g < length known = omega (arith, lt, long) in h))) in
    ap (λ k. picture_at all k x y) (add-zero (length known)) ∙ ap (λ (q : Picture). q x y) here
    ∙ framed_agrees size (value size known c.body) (value size all c.body) (value_agrees size ts known all agree c.body well.0) x y
    ∙ ap (λ (b : Definition). framed size (value size all b.body) x y) same
picture_from size (c ∷ ds) ts known long well (suc k) d is x y =
    let p = framed size (value size known c.body) in
    let a : length (known ++ p ∷ []) ≡ length known + 1 = length-append known (p ∷ []) in
    let b : length (ts ++ image_type c ∷ []) ≡ length ts + 1 = length-append ts (image_type c ∷ []) in
    let place : length (known ++ p ∷ []) + k ≡ length known + suc k = omega (arith, a) in
    ap (λ j. picture_at (pictures size known (c ∷ ds)) j x y) (sym place)
    ∙ picture_from size ds (ts ++ image_type c ∷ []) (known ++ p ∷ []) (omega (arith, a, b, long)) well.2 k d is x y

-- of a whole program
pub input_picture : (p : Typing) (round : List Picture) → length round ≡ length p.inputs → (g : ℕ) → g < length p.inputs → picture_at (meaning p round) g ≡ picture_at round g
input_picture p round long g lt = first_pictures p.size p.definitions round g (omega (arith, lt, long))

pub definition_picture : (p : Typing) → IsTyped p → (round : List Picture) → length round ≡ length p.inputs → (k : ℕ) (d : Definition) → slice_get p.definitions k ≡ Some d →
    Agree (picture_at (meaning p round) (length p.inputs + k)) (framed p.size (value p.size (meaning p round) d.body))
definition_picture p typed round long k d is x y =
    let types : length (input_types p.inputs) ≡ length p.inputs = length-map p.inputs _ in
    ap (λ n. picture_at (meaning p round) (n + k) x y) (sym long) ∙ picture_from p.size p.definitions (input_types p.inputs) round (long ∙ sym types) typed.bodies k d is x y

pub long_meaning : (p : Typing) (round : List Picture) → length round ≡ length p.inputs → length (meaning p round) ≡ length p.inputs + length p.definitions
long_meaning p round long = length-pictures p.size p.definitions round ∙ ap (λ n. n + length p.definitions) long

-- Inlining keeps the pictures of the images that stay.
use Rattle.std.proofs.Common.{◌≡◌, ℕ, zero, suc, ◌+◌, ◌-◌, ◌<◌, ◌≤◌, List, [], ◌∷◌, ◌++◌, length, map, take, ℤ, pos, ◌+ℤ◌, Option, Some, None, slice_get, refl, ap, sym, ◌∙◌, subst, arith, ◌⊎◌, inl, inr}
use Rattle.std.specs.Prelude.{Bool, true, false, if◌then◌else◌}
use Rattle.std.proofs.lemmas.Bool.{cases_lt}
use Rattle.std.proofs.lemmas.List.{length-map}
use Rattle.std.proofs.lemmas.Option.{slice_get_within}
use Rattle.dk_base.specs.declared.ty.Ty.{Ty}
use Rattle.dk_base.specs.declared.operator.Conversion.TheVariants.{Cast}
use Rattle.dk_base.specs.Types.{IsIn}
use Rattle.dk_base.specs.Frames.{Size, IsFrame, Picture, clamped}
use Rattle.dk_base.specs.Operators.{unary_value, binary_value, scaling_value, conversion_value, select_value}
use Rattle.dk_base.proofs.Codes.{number_code}
use Rattle.dk_base.proofs.Operations.{converts_in}
use Rattle.dk_types.specs.declared.typed.TypedRead.{TypedRead}
use Rattle.dk_types.specs.Typed.{Typed, constant, fetch, single, double, scaled, converted, chosen, type_of, Definition, Typing, image_type, input_types, types_of}
use Rattle.dk_types.specs.Types.{Takes}
use Rattle.dk_types.specs.Kept.{IsWell, IsTyped}
use Rattle.dk_types.specs.Meaning.{read_value, meaning, AreIn, AreTypes}
use Rattle.dk_types.specs.Meaning as T
use Rattle.dk_types.proofs.Values.{value_in, meaning_in}
use Rattle.pointwise_ir.specs.declared.program.Input.{Input}
use Rattle.pointwise_ir.specs.Trees.{Tree}
use Rattle.pointwise_ir.specs.Programs.{Program, bodies_of, IsProgram}
use Rattle.dk_base.specs.Frames.{framed, picture_at}
use Rattle.pointwise_ir.specs.Meaning.{edged, value, pictures, IsRound}
use Rattle.pointwise_ir.proofs.Agreement.{Agree, framed_agrees, edged_agrees}
use Rattle.pointwise_ir.proofs.Defined.{types_are}
use Rattle.pointwise_ir.proofs.Pictured.{first_pictures, length-pictures, mapped_entry, picture_of_body}
use Rattle.dk_inline.specs.Inlined.{Substitute, itself, body, edge_of, read_of, inlined, declared_as, inlined_body, substitute_of, substitutes, is_output, stays, body_of, bodies_from, Stays}
use Rattle.dk_inline.specs.Answers.{IsInlining}
use Rattle.dk_inline.proofs.Framed.{edged_framed}
use Rattle.dk_inline.proofs.Meant.{input_picture, definition_picture, long_meaning}
use Rattle.dk_inline.proofs.Substituted.{substitute_at, input, definition, past, well_at, earlier}

-- what is in place of image g has its picture p, over these pictures of the new program
abbrev pub Shows : Size → List Picture → ℕ → Picture → Substitute → Type 0
Shows size new g p itself = Agree (picture_at new g) p
Shows size new g p (body e) = Agree (framed size (value size new e)) p

-- the same for each image below n
abbrev pub ShowBelow : Size → (new old : List Picture) → List Substitute → ℕ → Type 0
ShowBelow size new old known n = (h : ℕ) → h < n → Shows size new h (picture_at old h) (substitute_at known h)

-- expressions
by_edge : (size : Size) (is_clamped : Bool) (p : Picture) (u v : ℤ) → edged size (edge_of is_clamped) p u v ≡ (if is_clamped then p (clamped size.width u) (clamped size.height v) else framed size p u v)
by_edge size true p u v = refl
by_edge size false p u v = refl

read_shows : (size : Size) → IsFrame size.width size.height → (new old : List Picture) (r : TypedRead) (s : Substitute) → Shows size new r.image (picture_at old r.image) s →
    Agree (value size new (read_of s r)) (read_value size old r)
read_shows size frame new old r itself shows x y =
    edged_agrees size (edge_of r.clamped) (picture_at new r.image) (picture_at old r.image) shows (x +ℤ r.dx) (y +ℤ r.dy)
    ∙ by_edge size r.clamped (picture_at old r.image) (x +ℤ r.dx) (y +ℤ r.dy)
read_shows size frame new old r (body e) shows x y =
    edged_framed size frame (edge_of r.clamped) (value size new e) (x +ℤ r.dx) (y +ℤ r.dy)
    ∙ edged_agrees size (edge_of r.clamped) (framed size (value size new e)) (picture_at old r.image) shows (x +ℤ r.dx) (y +ℤ r.dy)
    ∙ by_edge size r.clamped (picture_at old r.image) (x +ℤ r.dx) (y +ℤ r.dy)

pub inlined_value : (size : Size) → IsFrame size.width size.height → (ts : List Ty) (known : List Substitute) (new old : List Picture) → ShowBelow size new old known (length ts) → (e : Typed) → IsWell ts e →
    Agree (value size new (inlined known e)) (T.value size old e)
inlined_value size frame ts known new old shows (constant t v) well x y = refl
inlined_value size frame ts known new old shows (fetch t r) well x y = read_shows size frame new old r (substitute_at known r.image) (shows r.image (slice_get_within ts r.image t well.image)) x y
inlined_value size frame ts known new old shows (single t o a) well x y = ap (unary_value o) (inlined_value size frame ts known new old shows a well.0 x y)
inlined_value size frame ts known new old shows (double t o a b) well x y =
    ap (λ v. binary_value o v (value size new (inlined known b) x y)) (inlined_value size frame ts known new old shows a well.0 x y)
    ∙ ap (binary_value o (T.value size old a x y)) (inlined_value size frame ts known new old shows b well.1 x y)
inlined_value size frame ts known new old shows (scaled t o a k) well x y = ap (λ v. scaling_value o v k) (inlined_value size frame ts known new old shows a well.0 x y)
inlined_value size frame ts known new old shows (converted t o a) well x y = ap (conversion_value o t) (inlined_value size frame ts known new old shows a well.0 x y)
inlined_value size frame ts known new old shows (chosen t c a b) well x y =
    ap (λ v. select_value v (value size new (inlined known a) x y) (value size new (inlined known b) x y)) (inlined_value size frame ts known new old shows c well.0 x y)
    ∙ ap (λ v. select_value (T.value size old c x y) v (value size new (inlined known b) x y)) (inlined_value size frame ts known new old shows a well.1 x y)
    ∙ ap (select_value (T.value size old c x y) (T.value size old a x y)) (inlined_value size frame ts known new old shows b well.2 x y)

-- a declared type keeps each value of the body's type
declared_value : (size : Size) (new : List Picture) (t : Ty) (v : ℤ) → IsIn t v → (u : Option Ty) → Takes u t → (e : Tree) (x y : ℤ) → value size new e x y ≡ v → value size new (declared_as u e) x y ≡ v
declared_value size new t v inside None takes e x y is = is
declared_value size new t v inside (Some u) takes e x y is = ap (conversion_value Cast u) is ∙ number_code u v takes.is_type (converts_in t u v takes.fits inside)

-- types
prefix_of_map : {A B : Type 0} (f : A → B) (ys : List A) (k g : ℕ) (t : B) → slice_get (map f (take k ys)) g ≡ Some t → slice_get (map f ys) g ≡ Some t
prefix_of_map f [] zero g t is = is
prefix_of_map f [] (suc k) g t is = is
prefix_of_map f (y ∷ ys) zero g t is = absurd (let no : ⊥ = cc in no)
prefix_of_map f (y ∷ ys) (suc k) zero t is = is
prefix_of_map f (y ∷ ys) (suc k) (suc g) t is = prefix_of_map f ys k g t is

prefix_of : {A B : Type 0} (f : A → B) (xs : List B) (ys : List A) (k g : ℕ) (t : B) → slice_get (xs ++ map f (take k ys)) g ≡ Some t → slice_get (xs ++ map f ys) g ≡ Some t
prefix_of f [] ys k g t is = prefix_of_map f ys k g t is
prefix_of f (x ∷ xs) ys k zero t is = is
prefix_of f (x ∷ xs) ys k (suc g) t is = prefix_of f xs ys k g t is

all_types : (p : Typing) (ir : Program) → IsInlining p ir → IsProgram ir → AreTypes (types_of p)
all_types p ir inlining is = let Q : List Ty → Type 0 = λ ts. AreTypes ts in subst Q inlining.types (types_are ir.inputs ir.images is.inputs is.images)

long_inputs : (p : Typing) (ir : Program) → IsInlining p ir → length ir.inputs ≡ length p.inputs
long_inputs p ir inlining = sym (length-map ir.inputs (λ i. i.ty)) ∙ ap length inlining.inputs ∙ length-map p.inputs (λ i. i.ty)

round_in : (p : Typing) (ir : Program) → IsInlining p ir → (round : List Picture) → IsRound ir round → AreIn (input_types p.inputs) round
round_in p ir inlining round are g t there x y =
    let (i, input, same) = mapped_entry (λ (i : Input). i.ty) ir.inputs g t (ap (λ ts. slice_get ts g) inlining.inputs ∙ there) in
    let Q : Ty → Type 0 = λ u. IsIn u (picture_at round g x y) in
    subst Q same ((are.pictures g i input).values x y)

values_in : (p : Typing) (ir : Program) → IsTyped p → IsInlining p ir → (round : List Picture) → IsRound ir round → AreIn (types_of p) (meaning p round)
values_in p ir typed inlining round are = meaning_in p round typed (are.one_each ∙ long_inputs p ir inlining) (round_in p ir inlining round are)

-- the body of a definition
abbrev pub ShowsBefore : (p : Typing) (ir : Program) (round : List Picture) → ℕ → Type 0
ShowsBefore p ir round n = ShowBelow p.size (pictures ir round) (meaning p round) (substitutes p) n

body_value : (p : Typing) (ir : Program) → IsTyped p → IsInlining p ir → IsProgram ir → (round : List Picture) → IsRound ir round → (k : ℕ) (d : Definition) → slice_get p.definitions k ≡ Some d →
    ShowsBefore p ir round (length p.inputs + k) → Agree (value p.size (pictures ir round) (inlined_body (substitutes p) d)) (T.value p.size (meaning p round) d.body)
body_value p ir typed inlining is round are k d there shows x y =
    let ts = input_types p.inputs ++ map image_type (take k p.definitions) in
    let well = well_at p typed k d there in
    let most = earlier p k in
    let known : AreTypes ts = λ g t h. all_types p ir inlining is g t (prefix_of image_type (input_types p.inputs) p.definitions k g t h) in
    let inside : AreIn ts (meaning p round) = λ g t h. values_in p ir typed inlining round are g t (prefix_of image_type (input_types p.inputs) p.definitions k g t h) in
    declared_value p.size (pictures ir round) (type_of d.body) (T.value p.size (meaning p round) d.body x y) (value_in p.size ts (meaning p round) d.body known inside well.0 x y)
    d.declared well.1 (inlined (substitutes p) d.body) x y
    (inlined_value p.size typed.frame ts (substitutes p) (pictures ir round) (meaning p round) (λ h lt. shows h (omega (arith, lt, most))) d.body well.0 x y)

-- the new program's images
bodies_at : (p : Typing) (ds : List Definition) (j k : ℕ) (d : Definition) → slice_get ds k ≡ Some d → slice_get (bodies_from p j ds) k ≡ Some (body_of p (j + k) d)
bodies_at p [] j k d is = absurd (let no : ⊥ = cc in no)
bodies_at p (c ∷ ds) j zero d is =
    let same : c ≡ d = cc in
    ap (λ b. Some (body_of p j b)) same ∙ ap (λ i. Some (body_of p i d)) (let e : j ≡ j + 0 = omega arith in e)
bodies_at p (c ∷ ds) j (suc k) d is = bodies_at p ds (suc j) k d is ∙ ap (λ i. Some (body_of p i d)) (let e : suc j + k ≡ j + suc k = omega arith in e)

length-bodies : (p : Typing) (ds : List Definition) (j : ℕ) → length (bodies_from p j ds) ≡ length ds
length-bodies p [] j = refl
length-bodies p (d ∷ ds) j = ap suc (length-bodies p ds (suc j))

-- an image that stays has its inlined body's picture
stays_picture : (p : Typing) (ir : Program) → IsInlining p ir → IsProgram ir → (round : List Picture) → IsRound ir round → (k : ℕ) (d : Definition) → slice_get p.definitions k ≡ Some d → stays p k d ≡ true →
    Agree (picture_at (pictures ir round) (length p.inputs + k)) (framed p.size (value p.size (pictures ir round) (inlined_body (substitutes p) d)))
stays_picture p ir inlining is round are k d there stay =
    let e = inlined_body (substitutes p) d in
    let whole : body_of p k d ≡ e = ap (λ b. if b then e else Tree.constant (pos 0) (image_type d)) stay in
    let listed : slice_get (bodies_of ir) k ≡ Some e = ap (λ bs. slice_get bs k) inlining.bodies ∙ bodies_at p p.definitions 0 k d there ∙ ap (λ i. Some (body_of p i d)) (let first : 0 + k ≡ k = omega arith in first) ∙ ap Some whole in
    let place : length p.inputs + k ≡ length ir.inputs + k = ap (λ n. n + k) (sym (long_inputs p ir inlining)) in
    let Q : Size → Type 0 = λ s. Agree (picture_at (pictures ir round) (length p.inputs + k)) (framed s (value s (pictures ir round) e)) in
    subst Q inlining.size (picture_of_body ir is round are.one_each (length p.inputs + k) e (k, place, listed))

-- its inlined body, framed, has the old picture
body_shows : (p : Typing) (ir : Program) → IsTyped p → IsInlining p ir → IsProgram ir → (round : List Picture) → IsRound ir round → (k : ℕ) (d : Definition) → slice_get p.definitions k ≡ Some d →
    ShowsBefore p ir round (length p.inputs + k) → Agree (framed p.size (value p.size (pictures ir round) (inlined_body (substitutes p) d))) (picture_at (meaning p round) (length p.inputs + k))
body_shows p ir typed inlining is round are k d there shows x y =
    let new = pictures ir round in
    let old = meaning p round in
    framed_agrees p.size (value p.size new (inlined_body (substitutes p) d)) (T.value p.size old d.body) (body_value p ir typed inlining is round are k d there shows) x y
    ∙ sym (definition_picture p typed round (are.one_each ∙ long_inputs p ir inlining) k d there x y)

-- images
definition_shows : (p : Typing) (ir : Program) → IsTyped p → IsInlining p ir → IsProgram ir → (round : List Picture) → IsRound ir round → (k : ℕ) (d : Definition) → slice_get p.definitions k ≡ Some d →
    ShowsBefore p ir round (length p.inputs + k) → Shows p.size (pictures ir round) (length p.inputs + k) (picture_at (meaning p round) (length p.inputs + k)) (substitute_of (substitutes p) d)
definition_shows p ir typed inlining is round are k d there shows = by d.inline refl
  where
    by : (b : Bool) → d.inline ≡ b → Shows p.size (pictures ir round) (length p.inputs + k) (picture_at (meaning p round) (length p.inputs + k)) (if b then body (inlined_body (substitutes p) d) else itself)
    by true h = body_shows p ir typed inlining is round are k d there shows
    by false h = λ x y. stays_picture p ir inlining is round are k d there (ap (λ b. if b then is_output p (length p.inputs + k) else true) h) x y ∙ body_shows p ir typed inlining is round are k d there shows x y

input_shows : (p : Typing) (ir : Program) → IsInlining p ir → (round : List Picture) → IsRound ir round → (g : ℕ) → g < length p.inputs → Agree (picture_at (pictures ir round) g) (picture_at (meaning p round) g)
input_shows p ir inlining round are g lt x y =
    let long = are.one_each ∙ long_inputs p ir inlining in
    ap (λ (q : Picture). q x y) (first_pictures ir.size (bodies_of ir) round g (omega (arith, lt, long)))
    ∙ sym (ap (λ (q : Picture). q x y) (input_picture p round long g lt))

-- past all images both are 0
zero_past : (known : List Picture) (g : ℕ) → length known ≤ g → picture_at known g ≡ (λ _ _. pos 0)
zero_past [] g ge = refl
zero_past (q ∷ known) zero ge = absurd (omega arith)
zero_past (q ∷ known) (suc g) ge = zero_past known g (omega (arith, ge))

past_shows : (p : Typing) (ir : Program) → IsInlining p ir → (round : List Picture) → IsRound ir round → (g : ℕ) → length p.inputs + length p.definitions ≤ g → Agree (picture_at (pictures ir round) g) (picture_at (meaning p round) g)
past_shows p ir inlining round are g ge x y =
    let long = are.one_each ∙ long_inputs p ir inlining in
    let bodies_long : length (bodies_of ir) ≡ length p.definitions = ap length inlining.bodies ∙ length-bodies p p.definitions 0 in
    let new_long : length (pictures ir round) ≡ length round + length (bodies_of ir) = length-pictures ir.size (bodies_of ir) round in
    let old_long = long_meaning p round long in
    ap (λ (q : Picture). q x y) (zero_past (pictures ir round) g (omega (arith, ge, long, bodies_long, new_long)))
    ∙ sym (ap (λ (q : Picture). q x y) (zero_past (meaning p round) g (omega (arith, ge, old_long))))

-- the k-th of a list, if there are this many
entry : {A : Type 0} (xs : List A) (k : ℕ) → ((x : A) × (slice_get xs k ≡ Some x)) ⊎ (length xs ≤ k)
entry [] k = inr (omega arith)
entry (x ∷ xs) zero = inl (x, refl)
entry (x ∷ xs) (suc k) = elim (entry xs k) [ inl e ↦ inl e | inr ge ↦ inr (omega (arith, ge)) ]

-- an image shows where those before it do
image_shows : (p : Typing) (ir : Program) → IsTyped p → IsInlining p ir → IsProgram ir → (round : List Picture) → IsRound ir round → (g : ℕ) → ShowsBefore p ir round g →
    Shows p.size (pictures ir round) g (picture_at (meaning p round) g) (substitute_at (substitutes p) g)
image_shows p ir typed inlining is round are g shows = elim (cases_lt g (length p.inputs)) [
  | inl lt ↦ stands (input p g lt) (input_shows p ir inlining round are g lt)
  | inr ge ↦
      let place : length p.inputs + (g - length p.inputs) ≡ g = omega (arith, ge) in
      elim (entry p.definitions (g - length p.inputs)) [
        | inl e ↦
            let k = g - length p.inputs in
            let Q : ℕ → Type 0 = λ n. ShowsBefore p ir round n in
            let R : ℕ → Type 0 = λ n. Shows p.size (pictures ir round) n (picture_at (meaning p round) n) (substitute_at (substitutes p) n) in
            let S : Substitute → Type 0 = λ s. Shows p.size (pictures ir round) (length p.inputs + k) (picture_at (meaning p round) (length p.inputs + k)) s in
            subst R place (subst S (sym (definition p typed k e.0 e.1)) (definition_shows p ir typed inlining is round are k e.0 e.1 (subst Q (sym place) shows)))
        | inr end ↦ (let after : length p.inputs + length p.definitions ≤ g = omega (arith, ge, end) in stands (past p g after) (past_shows p ir inlining round are g after))
      ]
]
  where
    stands : substitute_at (substitutes p) g ≡ itself → Agree (picture_at (pictures ir round) g) (picture_at (meaning p round) g) → Shows p.size (pictures ir round) g (picture_at (meaning p round) g) (substitute_at (substitutes p) g)
    stands same agree = let S : Substitute → Type 0 = λ s. Shows p.size (pictures ir round) g (picture_at (meaning p round) g) s in subst S (sym same) agree

-- one after another
all_show : (p : Typing) (ir : Program) → IsTyped p → IsInlining p ir → IsProgram ir → (round : List Picture) → IsRound ir round → (n : ℕ) → ShowsBefore p ir round n
all_show p ir typed inlining is round are zero h lt = absurd (omega (arith, lt))
all_show p ir typed inlining is round are (suc n) h lt = image_shows p ir typed inlining is round are h (λ j low. all_show p ir typed inlining is round are n j (omega (arith, low, lt)))

pub meaning_kept : (p : Typing) (ir : Program) → IsTyped p → IsInlining p ir → IsProgram ir → (round : List Picture) → IsRound ir round → (g : ℕ) → Stays p g →
    (x y : ℤ) → picture_at (pictures ir round) g x y ≡ picture_at (meaning p round) g x y
meaning_kept p ir typed inlining is round are g (inl lt) x y = input_shows p ir inlining round are g lt x y
meaning_kept p ir typed inlining is round are g (inr (k, d, place, there, stay)) x y =
    let shows = all_show p ir typed inlining is round are (length p.inputs + k) in
    let Q : ℕ → Type 0 = λ n. picture_at (pictures ir round) n x y ≡ picture_at (meaning p round) n x y in
    subst Q (sym place) (stays_picture p ir inlining is round are k d there stay x y ∙ body_shows p ir typed inlining is round are k d there shows x y)

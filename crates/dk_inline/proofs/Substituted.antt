-- What is in place of each image, over the list of all.
use Rattle.std.proofs.Common.{◌≡◌, ℕ, zero, suc, ◌+◌, ◌<◌, ◌≤◌, List, [], ◌∷◌, ◌++◌, length, map, take, Some, slice_get, refl, ap, sym, ◌∙◌, subst, arith, append-nil, append_assoc, length-append, add-zero}
use Rattle.std.proofs.Math.ListN.{get_or-append}
use Rattle.std.proofs.Math.Seq.{get_or-append_seam}
use Rattle.std.proofs.lemmas.List.{length-map}
use Rattle.std.proofs.lemmas.Option.{slice_get_within}
use Rattle.std.specs.Prelude.{slice_index_or, if◌then◌else◌}
use Rattle.dk_base.specs.declared.ty.Ty.{Ty}
use Rattle.dk_types.specs.declared.typed.TypedInput.{TypedInput}
use Rattle.dk_types.specs.Typed.{Typed, fetch, single, double, scaled, converted, chosen, type_of, Definition, Typing, image_type, input_types}
use Rattle.dk_types.specs.Typed as T
use Rattle.dk_types.specs.Types.{Takes}
use Rattle.dk_types.specs.Kept.{IsWell, AreWell, IsTyped}
use Rattle.pointwise_ir.specs.Trees.{unary, binary, select, convert, scale}
use Rattle.dk_inline.specs.Inlined.{Substitute, itself, body, read_of, inlined, declared_as, inlined_body, substitute_of, substitutes_from, substitutes}
use Rattle.dk_inline.proofs.ListPlaces.{past_end, length-taken}

-- what is in place of image g
abbrev pub substitute_at : List Substitute → ℕ → Substitute
substitute_at known g = slice_index_or known g itself

-- the two lists have the same in place of each image below n
abbrev pub AreSame : ℕ → (one other : List Substitute) → Type 0
AreSame n one other = (g : ℕ) → g < n → substitute_at one g ≡ substitute_at other g

-- An expression depends only on what is in place of the images that it may read.
pub inlined_same : (ts : List Ty) (one other : List Substitute) → AreSame (length ts) one other → (e : Typed) → IsWell ts e → inlined one e ≡ inlined other e
inlined_same ts one other same (T.constant t v) well = refl
inlined_same ts one other same (fetch t r) well = ap (λ s. read_of s r) (same r.image (slice_get_within ts r.image t well.image))
inlined_same ts one other same (single t o a) well = ap (unary o) (inlined_same ts one other same a well.0)
inlined_same ts one other same (double t o a b) well =
    ap (λ l. binary o l (inlined one b)) (inlined_same ts one other same a well.0) ∙ ap (binary o (inlined other a)) (inlined_same ts one other same b well.1)
inlined_same ts one other same (scaled t o a k) well = ap (λ l. scale o l k) (inlined_same ts one other same a well.0)
inlined_same ts one other same (converted t o a) well = ap (λ l. convert o l t) (inlined_same ts one other same a well.0)
inlined_same ts one other same (chosen t c a b) well =
    ap (λ l. select l (inlined one a) (inlined one b)) (inlined_same ts one other same c well.0)
    ∙ ap (λ l. select (inlined other c) l (inlined one b)) (inlined_same ts one other same a well.1)
    ∙ ap (select (inlined other c) (inlined other a)) (inlined_same ts one other same b well.2)

pub body_same : (ts : List Ty) (one other : List Substitute) → AreSame (length ts) one other → (d : Definition) → IsWell ts d.body → inlined_body one d ≡ inlined_body other d
body_same ts one other same d well = ap (declared_as d.declared) (inlined_same ts one other same d.body well)

pub substitute_same : (ts : List Ty) (one other : List Substitute) → AreSame (length ts) one other → (d : Definition) → IsWell ts d.body → substitute_of one d ≡ substitute_of other d
substitute_same ts one other same d well = ap (λ e. if d.inline then body e else itself) (body_same ts one other same d well)

-- what comes first stays
pub first_stay : (ds : List Definition) (known : List Substitute) (g : ℕ) → g < length known → substitute_at (substitutes_from known ds) g ≡ substitute_at known g
first_stay [] known g lt = refl
first_stay (d ∷ ds) known g lt =
    let s = substitute_of known d in
    let longer : g < length (known ++ s ∷ []) = omega (arith, lt, length-append known (s ∷ [])) in
    first_stay ds (known ++ s ∷ []) g longer ∙ get_or-append known (s ∷ []) itself g lt

pub length-substitutes : (ds : List Definition) (known : List Substitute) → length (substitutes_from known ds) ≡ length known + length ds
length-substitutes [] known = omega arith
length-substitutes (d ∷ ds) known =
    let s = substitute_of known d in
    let rest = length-substitutes ds (known ++ s ∷ []) in
    let longer = length-append known (s ∷ []) in
    omega (arith, rest, longer)

-- A definition is replaced by what it is over the list of all.
pub definition_from : (ds : List Definition) (ts : List Ty) (known : List Substitute) → length known ≡ length ts → AreWell ts ds → (k : ℕ) (d : Definition) → slice_get ds k ≡ Some d →
    substitute_at (substitutes_from known ds) (length known + k) ≡ substitute_of (substitutes_from known ds) d
definition_from [] ts known long well k d is = absurd (let no : ⊥ = cc in no)
definition_from (c ∷ ds) ts known long well zero d is =
    let s = substitute_of known c in
    let all = substitutes_from (known ++ s ∷ []) ds in
    let same : c ≡ d = cc in
    let longer : length (known ++ s ∷ []) ≡ length known + 1 = length-append known (s ∷ []) in
    let there : length known < length (known ++ s ∷ []) = omega (arith, longer) in
    let here : substitute_at all (length known) ≡ s = first_stay ds (known ++ s ∷ []) (length known) there ∙ get_or-append_seam known s [] itself in
    let agree : AreSame (length ts) known all = λ g lt. sym (first_stay (c ∷ ds) known g (let h : g < length known = omega (arith, lt, long) in h)) in
    ap (substitute_at all) (add-zero (length known)) ∙ here ∙ substitute_same ts known all agree c well.0 ∙ ap (substitute_of all) same
definition_from (c ∷ ds) ts known long well (suc k) d is =
    let s = substitute_of known c in
    let a : length (known ++ s ∷ []) ≡ length known + 1 = length-append known (s ∷ []) in
    let b : length (ts ++ image_type c ∷ []) ≡ length ts + 1 = length-append ts (image_type c ∷ []) in
    let place : length (known ++ s ∷ []) + k ≡ length known + suc k = omega (arith, a) in
    ap (substitute_at (substitutes_from known (c ∷ ds))) (sym place) ∙ definition_from ds (ts ++ image_type c ∷ []) (known ++ s ∷ []) (omega (arith, a, b, long)) well.2 k d is

-- a definition's body reads only the images before it, and its declared type takes it
pub well_from : (ds : List Definition) (ts : List Ty) → AreWell ts ds → (k : ℕ) (d : Definition) → slice_get ds k ≡ Some d → IsWell (ts ++ map image_type (take k ds)) d.body × Takes d.declared (type_of d.body)
well_from [] ts well k d is = absurd (let no : ⊥ = cc in no)
well_from (c ∷ ds) ts well zero d is =
    let same : c ≡ d = cc in
    let P : Definition → Type 0 = λ x. IsWell (ts ++ []) x.body × Takes x.declared (type_of x.body) in
    let Q : List Ty → Type 0 = λ us. IsWell us c.body in
    subst P same (subst Q (sym (append-nil ts)) well.0, well.1)
well_from (c ∷ ds) ts well (suc k) d is =
    let rest = well_from ds (ts ++ image_type c ∷ []) well.2 k d is in
    let Q : List Ty → Type 0 = λ us. IsWell us d.body in
    (subst Q (append_assoc ts (image_type c ∷ []) (map image_type (take k ds))) rest.0, rest.1)

-- inputs are replaced by themselves
inputs_stay : (is : List TypedInput) (g : ℕ) → substitute_at (map (λ i. itself) is) g ≡ itself
inputs_stay [] g = refl
inputs_stay (i ∷ is) zero = refl
inputs_stay (i ∷ is) (suc g) = inputs_stay is g

-- of a whole program
pub long : (p : Typing) → length (substitutes p) ≡ length p.inputs + length p.definitions
long p =
    let a : length (map (λ (i : TypedInput). itself) p.inputs) ≡ length p.inputs = length-map p.inputs _ in
    length-substitutes p.definitions (map (λ i. itself) p.inputs) ∙ ap (λ n. n + length p.definitions) a

pub input : (p : Typing) (g : ℕ) → g < length p.inputs → substitute_at (substitutes p) g ≡ itself
input p g lt =
    let a : length (map (λ (i : TypedInput). itself) p.inputs) ≡ length p.inputs = length-map p.inputs _ in
    first_stay p.definitions (map (λ i. itself) p.inputs) g (omega (arith, lt, a)) ∙ inputs_stay p.inputs g

pub definition : (p : Typing) → IsTyped p → (k : ℕ) (d : Definition) → slice_get p.definitions k ≡ Some d → substitute_at (substitutes p) (length p.inputs + k) ≡ substitute_of (substitutes p) d
definition p typed k d is =
    let known = map (λ (i : TypedInput). itself) p.inputs in
    let a : length known ≡ length p.inputs = length-map p.inputs _ in
    let b : length (input_types p.inputs) ≡ length p.inputs = length-map p.inputs _ in
    ap (λ n. substitute_at (substitutes p) (n + k)) (sym a) ∙ definition_from p.definitions (input_types p.inputs) known (a ∙ sym b) typed.bodies k d is

pub past : (p : Typing) (g : ℕ) → length p.inputs + length p.definitions ≤ g → substitute_at (substitutes p) g ≡ itself
past p g ge = past_end (substitutes p) g itself (let e = long p in omega (arith, ge, e))

pub well_at : (p : Typing) → IsTyped p → (k : ℕ) (d : Definition) → slice_get p.definitions k ≡ Some d → IsWell (input_types p.inputs ++ map image_type (take k p.definitions)) d.body × Takes d.declared (type_of d.body)
well_at p typed k d is = well_from p.definitions (input_types p.inputs) typed.bodies k d is

-- the images that the k-th definition may read are those before it
pub earlier : (p : Typing) (k : ℕ) → length (input_types p.inputs ++ map image_type (take k p.definitions)) ≤ length p.inputs + k
earlier p k =
    let a = length-append (input_types p.inputs) (map image_type (take k p.definitions)) in
    let b : length (input_types p.inputs) ≡ length p.inputs = length-map p.inputs _ in
    let c : length (map image_type (take k p.definitions)) ≡ length (take k p.definitions) = length-map (take k p.definitions) _ in
    let t = length-taken k p.definitions in
    omega (arith, a, b, c, t)

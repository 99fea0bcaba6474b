-- The pictures of a program: what they are, the ranges of their values, and what they depend on.
use Rattle.std.proofs.Common.{◌≡◌, ℕ, zero, suc, ◌+◌, ◌<◌, ◌≤◌, Bool, true, false, List, [], ◌∷◌, ◌++◌, length, map, take, ℤ, pos, Some, slice_get, refl, ap, sym, ◌∙◌, subst, arith, inl, inr, add-zero, append-nil, append_assoc, length-append, if◌then◌else◌}
use Rattle.std.proofs.Math.ListN.{get_or-append}
use Rattle.std.proofs.lemmas.List.{length-map}
use Rattle.std.proofs.Math.Seq.{get_or-append_seam}
use Rattle.std.proofs.lemmas.Option.{slice_get_within}
use Rattle.std.proofs.lemmas.Bool.{cases_lt}
use Rattle.dk_base.specs.declared.ty.Ty.{Ty}
use Rattle.dk_base.specs.Types.{IsIn}
use Rattle.dk_base.specs.Frames.{Size, in_frame, Picture}
use Rattle.pointwise_ir.specs.declared.program.Input.{Input}
use Rattle.pointwise_ir.specs.declared.program.Definition.{Definition}
use Rattle.pointwise_ir.specs.Trees.{Tree, tree_of, EachImage}
use Rattle.pointwise_ir.specs.Programs.{Program, bodies_of, types_of, all_types, IsBody, IsProgram}
use Rattle.dk_base.specs.Frames.{framed, picture_at}
use Rattle.pointwise_ir.specs.Meaning.{value, pictures_from, pictures, IsPicture, IsRound, AgreeInside}
use Rattle.pointwise_ir.proofs.Agreement.{Agree, framed_agrees, value_agrees, each_weaker, pictures_agree}
use Rattle.pointwise_ir.proofs.Typed.{reads_there, AreTypes, AreIn, type_typed, framed_in, value_in}
use Rattle.pointwise_ir.proofs.Defined.{last_entry, types_more, DefinedFrom, first_defined, rest_defined, inputs_typed}

-- the pictures that are there first stay
pub first_pictures : (size : Size) (bodies : List Tree) (known : List Picture) (g : ℕ) → g < length known → picture_at (pictures_from size known bodies) g ≡ picture_at known g
first_pictures size [] known g lt = refl
first_pictures size (e ∷ bodies) known g lt =
    let p = framed size (value size known e) in
    let longer : g < length (known ++ p ∷ []) = omega (arith, lt, length-append known (p ∷ [])) in
    first_pictures size bodies (known ++ p ∷ []) g longer ∙ get_or-append known (p ∷ []) (λ _ _. pos 0) g lt

pub length-pictures : (size : Size) (bodies : List Tree) (known : List Picture) → length (pictures_from size known bodies) ≡ length known + length bodies
length-pictures size [] known = omega arith
length-pictures size (e ∷ bodies) known =
    let p = framed size (value size known e) in
    let rest = length-pictures size bodies (known ++ p ∷ []) in
    let longer = length-append known (p ∷ []) in
    omega (arith, rest, longer)

-- each image's picture is its body's value over all the pictures
pub picture_is : (size : Size) (bodies : List Tree) (known : List Picture) → ((k : ℕ) (e : Tree) → slice_get bodies k ≡ Some e → EachImage (λ g. g < length known + k) e) →
    (k : ℕ) (e : Tree) → slice_get bodies k ≡ Some e → Agree (picture_at (pictures_from size known bodies) (length known + k)) (framed size (value size (pictures_from size known bodies) e))
picture_is size [] known reads k e is x y = absurd (let no : ⊥ = cc in no)
picture_is size (b ∷ bodies) known reads zero e is x y =
    let p = framed size (value size known b) in
    let all = pictures_from size (known ++ p ∷ []) bodies in
    let same : b ≡ e = cc in
    let long : length (known ++ p ∷ []) ≡ length known + 1 = length-append known (p ∷ []) in
    let there : length known < length (known ++ p ∷ []) = omega (arith, long) in
    let here : picture_at all (length known) ≡ p = first_pictures size bodies (known ++ p ∷ []) (length known) there ∙ get_or-append_seam known p [] (λ _ _. pos 0) in
    let agree : (g : ℕ) → g < length known + zero → Agree (picture_at known g) (picture_at all g) = λ g lt x y.
    sym (ap (λ (q : Picture). q x y) (first_pictures size (b ∷ bodies) known g (let h : g < length known = omega (arith, lt) in h))) in
    ap (λ k. picture_at all k x y) (add-zero (length known)) ∙ ap (λ (q : Picture). q x y) here
    ∙ framed_agrees size (value size known b) (value size all b) (value_agrees size (λ g. g < length known + zero) known all agree b (reads zero b refl)) x y
    ∙ ap (λ c. framed size (value size all c) x y) same
picture_is size (b ∷ bodies) known reads (suc k) e is x y =
    let p = framed size (value size known b) in
    let long : length (known ++ p ∷ []) ≡ length known + 1 = length-append known (p ∷ []) in
    let at : (j : ℕ) → length (known ++ p ∷ []) + j ≡ length known + suc j = λ j. omega (arith, long) in
    let more : (j : ℕ) (f : Tree) → slice_get bodies j ≡ Some f → EachImage (λ g. g < length (known ++ p ∷ []) + j) f = λ j f h.
    each_weaker (λ g. g < length known + suc j) (λ g. g < length (known ++ p ∷ []) + j) (λ g lt. (let e = at j in omega (arith, lt, e))) f (reads (suc j) f h) in
    ap (λ j. picture_at (pictures_from size known (b ∷ bodies)) j x y) (sym (at k)) ∙ picture_is size bodies (known ++ p ∷ []) more k e is x y

-- of a list of images by the list of what is taken of each
pub mapped_entry : {A B : Type 0} (f : A → B) (xs : List A) (k : ℕ) (y : B) → slice_get (map f xs) k ≡ Some y → (x : A) × (slice_get xs k ≡ Some x) × (f x ≡ y)
mapped_entry f [] k y is = absurd (let e : ⊥ = cc in e)
mapped_entry f (x ∷ xs) zero y is = (x, refl, let e : f x ≡ y = cc in e)
mapped_entry f (x ∷ xs) (suc k) y is = mapped_entry f xs k y is

length-taken : {A : Type 0} (k : ℕ) (xs : List A) → length (take k xs) ≤ k
length-taken zero [] = omega arith
length-taken zero (x ∷ xs) = omega arith
length-taken (suc k) [] = omega arith
length-taken (suc k) (x ∷ xs) = let l = length-taken k xs in omega (arith, l)

-- a body reads images before its own
pub reads_earlier : (p : Program) → IsProgram p → (k : ℕ) (e : Tree) → slice_get (bodies_of p) k ≡ Some e → EachImage (λ g. g < length p.inputs + k) e
reads_earlier p is k e at =
    let (d, there, same) = mapped_entry (λ d. tree_of d.body) p.images k e at in
    let defined = is.images k d there in
    let types = all_types p.inputs (take k p.images) in
    let long : length types ≤ length p.inputs + k =
    let a = length-append (map (λ i. i.ty) p.inputs) (map (λ d. d.ty) (take k p.images)) in
    let b : length (map (λ i. i.ty) p.inputs) ≡ length p.inputs = length-map p.inputs _ in
    let c : length (map (λ d. d.ty) (take k p.images)) ≡ length (take k p.images) = length-map (take k p.images) _ in
    let t = length-taken k p.images in
    omega (arith, a, b, c, t) in
    let P : Tree → Type 0 = λ f. EachImage (λ g. g < length p.inputs + k) f in
    subst P same (each_weaker (λ g. g < length types) (λ g. g < length p.inputs + k) (λ g lt. omega (arith, lt, long)) (tree_of d.body) (reads_there types (tree_of d.body) d.ty defined.typed))

-- the picture of an image that is no input
pub picture_of_body : (p : Program) → IsProgram p → (round : List Picture) → length round ≡ length p.inputs → (f : ℕ) (e : Tree) → IsBody p f e →
    Agree (picture_at (pictures p round) f) (framed p.size (value p.size (pictures p round) e))
picture_of_body p is round long f e (k, here, at) x y =
    let reads : (j : ℕ) (b : Tree) → slice_get (bodies_of p) j ≡ Some b → EachImage (λ g. g < length round + j) b = λ j b h.
    each_weaker (λ g. g < length p.inputs + j) (λ g. g < length round + j) (λ g lt. omega (arith, lt, long)) b (reads_earlier p is j b h) in
    let there : f ≡ length round + k = omega (arith, here, long) in
    ap (λ j. picture_at (pictures p round) j x y) there ∙ picture_is p.size (bodies_of p) round reads k e at x y

-- pictures with values in their types, and 0 outside the frame
abbrev pub ArePictures : Size → List Ty → List Picture → Type 0
ArePictures size types known = (g : ℕ) (t : Ty) → slice_get types g ≡ Some t → IsPicture size t (picture_at known g)

-- a picture in the frame, of values in the type
pub framed_picture : (size : Size) (t : Ty) (q : Picture) → ((x y : ℤ) → IsIn t (q x y)) → IsPicture size t (framed size q)
framed_picture size t q all = record {
  values = framed_in size t q all;
  outside = λ x y out. ap (λ b. if b then q x y else pos 0) out;
}

-- one picture more
pub more_pictures : (size : Size) (types : List Ty) (s : Ty) (known : List Picture) (q : Picture) → length known ≡ length types → ArePictures size types known → IsPicture size s q → ArePictures size (types ++ s ∷ []) (known ++ q ∷ [])
more_pictures size types s known q long are also g t is = elim (last_entry types s t g is) [
  | inl before ↦
      let within = slice_get_within types g t before in
      let there : g < length known = omega (arith, within, long) in
      let P : Picture → Type 0 = λ r. IsPicture size t r in
      subst P (sym (get_or-append known (q ∷ []) (λ _ _. pos 0) g there)) (are g t before)
  | inr last ↦
      let here : length known ≡ g = omega (arith, last.0, long) in
      let seam : picture_at (known ++ q ∷ []) g ≡ q = ap (picture_at (known ++ q ∷ [])) (sym here) ∙ get_or-append_seam known q [] (λ _ _. pos 0) in
      let P : Picture → Type 0 = λ r. IsPicture size t r in
      let Q : Ty → Type 0 = λ u. IsPicture size u q in
      subst P (sym seam) (subst Q last.1 also)
]

pub pictures_typed : (size : Size) (images : List Definition) (types : List Ty) (known : List Picture) → AreTypes types → DefinedFrom types images → length known ≡ length types → ArePictures size types known →
    ArePictures size (types ++ map (λ d. d.ty) images) (pictures_from size known (map (λ d. tree_of d.body) images))
pictures_typed size [] types known ok defined long are g t is = are g t (let P : List Ty → Type 0 = λ ts. slice_get ts g ≡ Some t in subst P (append-nil types) is)
pictures_typed size (d ∷ images) types known ok defined long are g t is =
    let q = framed size (value size known (tree_of d.body)) in
    let first = first_defined types d images defined in
    let inside : AreIn types known = λ h s at. (are h s at).values in
    let also : IsPicture size d.ty q = framed_picture size d.ty (value size known (tree_of d.body)) (value_in size types known ok inside (tree_of d.body) d.ty first.typed) in
    let ok' = types_more types d.ty ok (type_typed types ok (tree_of d.body) d.ty first.typed) in
    let a = length-append known (q ∷ []) in
    let b = length-append types (d.ty ∷ []) in
    let long' : length (known ++ q ∷ []) ≡ length (types ++ d.ty ∷ []) = omega (arith, a, b, long) in
    let P : List Ty → Type 0 = λ ts. slice_get ts g ≡ Some t in
    pictures_typed size images (types ++ d.ty ∷ []) (known ++ q ∷ []) ok' (rest_defined types d images defined) long' (more_pictures size types d.ty known q long are also) g t
    (subst P (sym (append_assoc types (d.ty ∷ []) (map (λ d. d.ty) images))) is)

-- the pictures of a program have values in their types
pub values_in : (p : Program) → IsProgram p → (round : List Picture) → IsRound p round → ArePictures p.size (types_of p) (pictures p round)
values_in p is round are g t at =
    let types = map (λ (i : Input). i.ty) p.inputs in
    let long : length round ≡ length types = are.one_each ∙ sym (length-map p.inputs (λ i. i.ty)) in
    let first : ArePictures p.size types round = λ h s there.
    let (i, input, same) = mapped_entry (λ (i : Input). i.ty) p.inputs h s there in
    let P : Ty → Type 0 = λ u. IsPicture p.size u (picture_at round h) in
    subst P same (are.pictures h i input) in
    pictures_typed p.size p.images types round (inputs_typed p.inputs is.inputs) is.images long first g t at

-- a picture outside of a round
past : (known : List Picture) (g : ℕ) → length known ≤ g → picture_at known g ≡ (λ _ _. pos 0)
past [] g h = refl
past (q ∷ known) zero h = absurd (omega arith)
past (q ∷ known) (suc g) h = past known g (omega (arith, h))

-- rounds with the same pixels agree at all points
rounds_agree : (p : Program) (one other : List Picture) → IsRound p one → IsRound p other → AgreeInside p.size one other → (g : ℕ) → Agree (picture_at one g) (picture_at other g)
rounds_agree p one other is also same g x y = elim (cases_lt g (length p.inputs)) [
  | inl lt ↦
      let there = input_at p.inputs g lt in
      at (is.pictures g there.0 there.1) (also.pictures g there.0 there.1) (in_frame p.size x y) refl
  | inr ge ↦
      ap (λ (q : Picture). q x y) (past one g (let h : length one ≤ g = (let l = is.one_each in omega (arith, ge, l)) in h))
      ∙ sym (ap (λ (q : Picture). q x y) (past other g (let h : length other ≤ g = (let l = also.one_each in omega (arith, ge, l)) in h)))
]
  where
    input_at : (xs : List Input) (k : ℕ) → k < length xs → (i : Input) × (slice_get xs k ≡ Some i)
    input_at [] k lt = absurd (omega arith)
    input_at (i ∷ xs) zero lt = (i, refl)
    input_at (i ∷ xs) (suc k) lt = input_at xs k (omega (arith, lt))

    at : {t : Ty} → IsPicture p.size t (picture_at one g) → IsPicture p.size t (picture_at other g) → (b : Bool) → in_frame p.size x y ≡ b → picture_at one g x y ≡ picture_at other g x y
    at h k true inside = same g x y inside
    at h k false outside = h.outside x y outside ∙ sym (k.outside x y outside)

pub pixels_decide : (p : Program) (one other : List Picture) → IsRound p one → IsRound p other → AgreeInside p.size one other → (g : ℕ) → Agree (picture_at (pictures p one) g) (picture_at (pictures p other) g)
pixels_decide p one other is also same g x y = pictures_agree p.size (bodies_of p) one other (is.one_each ∙ sym also.one_each) (rounds_agree p one other is also same) g x y

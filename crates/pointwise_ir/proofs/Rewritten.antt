-- A program with bodies that may replace the old ones keeps the meaning.
use Rattle.std.proofs.Common.{◌≡◌, ℕ, zero, suc, ◌+◌, ◌<◌, ◌≤◌, List, [], ◌∷◌, ◌++◌, length, map, take, ℤ, ◌+ℤ◌, Some, slice_get, refl, ap, sym, ◌∙◌, subst, arith, append-nil, append_assoc, length-append}
use Rattle.std.specs.Prelude.{◌↔◌, IsTrue, Contains}
use Rattle.std.specs.List.{All}
use Rattle.std.specs.Option.{option_map}
use Rattle.std.proofs.lemmas.List.{length-map}
use Rattle.std.proofs.lemmas.Option.{slice_get-map}
use Rattle.dk_base.specs.declared.ty.Ty.{Ty}
use Rattle.dk_base.specs.Frames.{Size, in_frame, Picture, IsFrame}
use Rattle.dk_base.specs.Stencils.{IsDistinct}
use Rattle.pointwise_ir.specs.declared.program.Input.{Input}
use Rattle.pointwise_ir.specs.declared.program.Definition.{Definition}
use Rattle.pointwise_ir.specs.Trees.{Tree, tree_of}
use Rattle.dk_base.specs.Types.{IsPort}
use Rattle.pointwise_ir.specs.Programs.{Program, bodies_of, types_of, all_types, IsBody, IsOutput, IsProgram}
use Rattle.pointwise_ir.specs.Typing.{HasType}
use Rattle.dk_base.specs.Frames.{framed, picture_at}
use Rattle.pointwise_ir.specs.Meaning.{value, pictures_from, pictures, IsPicture, IsRound}
use Rattle.pointwise_ir.specs.Reads.{Reads, IsLive, Kept}
use Rattle.pointwise_ir.specs.Passes.{KeepsMeaning}
use Rattle.pointwise_ir.specs.Rewritings.{IsRewritten, AreRewritten, IsSameBut}
use Rattle.pointwise_ir.proofs.Agreement.{Agree, framed_agrees, value_agrees, each_any, one_more}
use Rattle.pointwise_ir.proofs.Typed.{AreTypes, type_typed, value_in}
use Rattle.pointwise_ir.proofs.Defined.{DefinedFrom, first_defined, rest_defined, types_more, inputs_typed}
use Rattle.pointwise_ir.proofs.Pictured.{ArePictures, more_pictures, framed_picture, mapped_entry}

same_names : (size : Size) (ts : List Ty) (old new : List Definition) → AreRewritten size ts old new → map (λ d. d.name) new ≡ map (λ d. d.name) old
same_names size ts [] [] are = refl
same_names size ts [] (e ∷ new) are = absurd are
same_names size ts (d ∷ old) [] are = absurd are
same_names size ts (d ∷ old) (e ∷ new) are = ap (λ n. n ∷ map (λ d. d.name) new) are.0.name ∙ ap (λ ns. d.name ∷ ns) (same_names size (ts ++ d.ty ∷ []) old new are.1)

same_types : (size : Size) (ts : List Ty) (old new : List Definition) → AreRewritten size ts old new → map (λ d. d.ty) new ≡ map (λ d. d.ty) old
same_types size ts [] [] are = refl
same_types size ts [] (e ∷ new) are = absurd are
same_types size ts (d ∷ old) [] are = absurd are
same_types size ts (d ∷ old) (e ∷ new) are = ap (λ n. n ∷ map (λ d. d.ty) new) are.0.ty ∙ ap (λ ns. d.ty ∷ ns) (same_types size (ts ++ d.ty ∷ []) old new are.1)

taken_rewritten : (size : Size) (ts : List Ty) (old new : List Definition) (k : ℕ) → AreRewritten size ts old new → map (λ d. d.ty) (take k new) ≡ map (λ d. d.ty) (take k old)
taken_rewritten size ts [] [] zero are = refl
taken_rewritten size ts [] [] (suc k) are = refl
taken_rewritten size ts [] (e ∷ new) k are = absurd are
taken_rewritten size ts (d ∷ old) [] k are = absurd are
taken_rewritten size ts (d ∷ old) (e ∷ new) zero are = refl
taken_rewritten size ts (d ∷ old) (e ∷ new) (suc k) are = ap (λ n. n ∷ map (λ d. d.ty) (take k new)) are.0.ty ∙ ap (λ ns. d.ty ∷ ns) (taken_rewritten size (ts ++ d.ty ∷ []) old new k are.1)

-- the old image of a new one
old_of : (size : Size) (ts : List Ty) (old new : List Definition) (k : ℕ) (e : Definition) → AreRewritten size ts old new → slice_get new k ≡ Some e →
    (d : Definition) × (slice_get old k ≡ Some d) × IsRewritten size (ts ++ map (λ d. d.ty) (take k old)) d e
old_of size ts [] [] k e are is = absurd (let f : ⊥ = cc in f)
old_of size ts [] (c ∷ new) k e are is = absurd are
old_of size ts (d ∷ old) [] k e are is = absurd are
old_of size ts (d ∷ old) (c ∷ new) zero e are is =
    let same : c ≡ e = cc in
    let P : Definition → Type 0 = λ x. IsRewritten size (ts ++ []) d x in
    let Q : List Ty → Type 0 = λ us. IsRewritten size us d c in
    (d, refl, subst P same (subst Q (sym (append-nil ts)) are.0))
old_of size ts (d ∷ old) (c ∷ new) (suc k) e are is =
    let (x, there, rest) = old_of size (ts ++ d.ty ∷ []) old new k e are.1 is in
    let Q : List Ty → Type 0 = λ us. IsRewritten size us x e in
    (x, there, subst Q (append_assoc ts (d.ty ∷ []) (map (λ d. d.ty) (take k old))) rest)

-- the new image of an old one
new_of : (size : Size) (ts : List Ty) (old new : List Definition) (k : ℕ) (d : Definition) → AreRewritten size ts old new → slice_get old k ≡ Some d →
    (e : Definition) × (slice_get new k ≡ Some e) × IsRewritten size (ts ++ map (λ d. d.ty) (take k old)) d e
new_of size ts [] [] k d are is = absurd (let f : ⊥ = cc in f)
new_of size ts [] (c ∷ new) k d are is = absurd are
new_of size ts (b ∷ old) [] k d are is = absurd are
new_of size ts (b ∷ old) (c ∷ new) zero d are is =
    let same : b ≡ d = cc in
    let P : Definition → Type 0 = λ x. IsRewritten size (ts ++ []) x c in
    let Q : List Ty → Type 0 = λ us. IsRewritten size us b c in
    (c, refl, subst P same (subst Q (sym (append-nil ts)) are.0))
new_of size ts (b ∷ old) (c ∷ new) (suc k) d are is =
    let (x, there, rest) = new_of size (ts ++ b.ty ∷ []) old new k d are.1 is in
    let Q : List Ty → Type 0 = λ us. IsRewritten size us d x in
    (x, there, subst Q (append_assoc ts (b.ty ∷ []) (map (λ d. d.ty) (take k old))) rest)

-- the pictures stay
pictures_stay : (size : Size) (old new : List Definition) (ts : List Ty) (one other : List Picture) → AreTypes ts → DefinedFrom ts old → AreRewritten size ts old new → length one ≡ length ts → length other ≡ length one →
    ArePictures size ts one → ((g : ℕ) → Agree (picture_at other g) (picture_at one g)) →
    (g : ℕ) → Agree (picture_at (pictures_from size other (map (λ d. tree_of d.body) new)) g) (picture_at (pictures_from size one (map (λ d. tree_of d.body) old)) g)
pictures_stay size [] [] ts one other ok defined are long same_long inside same g x y = same g x y
pictures_stay size [] (e ∷ new) ts one other ok defined are long same_long inside same g x y = absurd are
pictures_stay size (d ∷ old) [] ts one other ok defined are long same_long inside same g x y = absurd are
pictures_stay size (d ∷ old) (e ∷ new) ts one other ok defined are long same_long inside same g x y =
    let a = tree_of d.body in
    let b = tree_of e.body in
    let p = framed size (value size one a) in
    let q = framed size (value size other b) in
    let first = first_defined ts d old defined in
    let values = λ (h : ℕ) (s : Ty) (there : slice_get ts h ≡ Some s). (inside h s there).values in
    let still : Agree (value size other b) (value size one a) = λ u v.
    value_agrees size (λ _. Unit {0}) other one (λ h _. same h) b (each_any (λ _. Unit {0}) (λ _. tt) b) u v ∙ are.0.body.values one values u v in
    let also : Agree q p = framed_agrees size (value size other b) (value size one a) still in
    let more : IsPicture size d.ty p = framed_picture size d.ty (value size one a) (value_in size ts one ok values a d.ty first.typed) in
    let ok' = types_more ts d.ty ok (type_typed ts ok a d.ty first.typed) in
    let l = length-append one (p ∷ []) in
    let m = length-append other (q ∷ []) in
    let n = length-append ts (d.ty ∷ []) in
    let long' : length (one ++ p ∷ []) ≡ length (ts ++ d.ty ∷ []) = omega (arith, l, n, long) in
    let same_long' : length (other ++ q ∷ []) ≡ length (one ++ p ∷ []) = omega (arith, l, m, same_long) in
    pictures_stay size old new (ts ++ d.ty ∷ []) (one ++ p ∷ []) (other ++ q ∷ []) ok' (rest_defined ts d old defined) are.1 long' same_long' (more_pictures size ts d.ty one p long inside more) (one_more other one q p same_long same also) g x y

-- the body of an image, after and before
body_before : (old new : Program) → IsSameBut old new → (f : ℕ) (e : Tree) → IsBody new f e → (a : Tree) × IsBody old f a × ((x y : ℤ) (g : ℕ) (u v : ℤ) → Reads old.size e x y g u v ↔ Reads old.size a x y g u v)
body_before old new are f e (k, here, listed) =
    let (c, there, is) = mapped_entry (λ (d : Definition). tree_of d.body) new.images k e listed in
    let (d, found, rest) = old_of old.size (map (λ i. i.ty) old.inputs) old.images new.images k c are.images there in
    let P : Tree → Type 0 = λ t. (x y : ℤ) (g : ℕ) (u v : ℤ) → Reads old.size t x y g u v ↔ Reads old.size (tree_of d.body) x y g u v in
    (tree_of d.body, (k, here ∙ ap (λ (xs : List Input). length xs + k) are.inputs, slice_get-map (λ (d : Definition). tree_of d.body) old.images k ∙ ap (option_map (λ (d : Definition). tree_of d.body)) found), subst P is rest.body.reads)

body_after : (old new : Program) → IsSameBut old new → (f : ℕ) (a : Tree) → IsBody old f a → (e : Tree) × IsBody new f e × ((x y : ℤ) (g : ℕ) (u v : ℤ) → Reads old.size e x y g u v ↔ Reads old.size a x y g u v)
body_after old new are f a (k, here, listed) =
    let (d, there, is) = mapped_entry (λ (d : Definition). tree_of d.body) old.images k a listed in
    let (c, found, rest) = new_of old.size (map (λ i. i.ty) old.inputs) old.images new.images k d are.images there in
    let P : Tree → Type 0 = λ t. (x y : ℤ) (g : ℕ) (u v : ℤ) → Reads old.size (tree_of c.body) x y g u v ↔ Reads old.size t x y g u v in
    (tree_of c.body, (k, here ∙ sym (ap (λ (xs : List Input). length xs + k) are.inputs), slice_get-map (λ (d : Definition). tree_of d.body) new.images k ∙ ap (option_map (λ (d : Definition). tree_of d.body)) found), subst P is rest.body.reads)

live_before : (old new : Program) → IsSameBut old new → (f g : ℕ) (dx dy : ℤ) → IsLive new f g dx dy → IsLive old f g dx dy
live_before old new are f g dx dy (e, is, x, y, inside, reads) =
    let (a, body, both) = body_before old new are f e is in
    let P : Size → Type 0 = λ s. IsTrue (in_frame s x y) in
    let Q : Size → Type 0 = λ s. Reads s e x y g (x +ℤ dx) (y +ℤ dy) in
    (a, body, x, y, subst P are.size inside, (both x y g (x +ℤ dx) (y +ℤ dy)).0 (subst Q are.size reads))

live_after : (old new : Program) → IsSameBut old new → (f g : ℕ) (dx dy : ℤ) → IsLive old f g dx dy → IsLive new f g dx dy
live_after old new are f g dx dy (a, is, x, y, inside, reads) =
    let (e, body, both) = body_after old new are f a is in
    let P : Size → Type 0 = λ s. IsTrue (in_frame s x y) in
    let Q : Size → Type 0 = λ s. Reads s e x y g (x +ℤ dx) (y +ℤ dy) in
    (e, body, x, y, subst P (sym are.size) inside, subst Q (sym are.size) ((both x y g (x +ℤ dx) (y +ℤ dy)).1 reads))

kept_before : (old new : Program) → IsSameBut old new → (g : ℕ) → Kept new g → Kept old g
kept_before old new are _ (Kept.input g lt) = Kept.input g (let P : List Input → Type 0 = λ xs. g < length xs in subst P are.inputs lt)
kept_before old new are _ (Kept.output g is) = Kept.output g (let P : List ℕ → Type 0 = λ xs. Contains xs g in subst P are.outputs is)
kept_before old new are _ (Kept.reached f g dx dy kept live) = Kept.reached f g dx dy (kept_before old new are f kept) (live_before old new are f g dx dy live)

kept_after : (old new : Program) → IsSameBut old new → (g : ℕ) → Kept old g → Kept new g
kept_after old new are _ (Kept.input g lt) = Kept.input g (let P : List Input → Type 0 = λ xs. g < length xs in subst P (sym are.inputs) lt)
kept_after old new are _ (Kept.output g is) = Kept.output g (let P : List ℕ → Type 0 = λ xs. Contains xs g in subst P (sym are.outputs) is)
kept_after old new are _ (Kept.reached f g dx dy kept live) = Kept.reached f g dx dy (kept_after old new are f kept) (live_after old new are f g dx dy live)

-- the pictures of a round have values in the inputs' types
round_pictures : (p : Program) (round : List Picture) → IsRound p round → ArePictures p.size (map (λ i. i.ty) p.inputs) round
round_pictures p round is g t there =
    let (i, input, same) = mapped_entry (λ (i : Input). i.ty) p.inputs g t there in
    let P : Ty → Type 0 = λ u. IsPicture p.size u (picture_at round g) in
    subst P same (is.pictures g i input)

meaning_stays : (old new : Program) → IsProgram old → IsSameBut old new → (round : List Picture) → IsRound old round → (g : ℕ) → Agree (picture_at (pictures new round) g) (picture_at (pictures old round) g)
meaning_stays old new is are round ok g x y =
    let types = map (λ (i : Input). i.ty) old.inputs in
    let long : length round ≡ length types = ok.one_each ∙ sym (length-map old.inputs (λ i. i.ty)) in
    ap (λ s. picture_at (pictures_from s round (bodies_of new)) g x y) are.size
    ∙ pictures_stay old.size old.images new.images types round round (inputs_typed old.inputs is.inputs) is.images are.images long refl (round_pictures old round ok) (λ h u v. refl) g x y

-- the law of a pass holds
pub keeps_meaning : (old new : Program) → IsProgram old → IsSameBut old new → KeepsMeaning old new
keeps_meaning old new is are = record {
  size = are.size;
  inputs = are.inputs;
  outputs = are.outputs;
  names =
      ap (λ xs. map (λ i. i.name) xs ++ map (λ d. d.name) new.images) are.inputs
      ∙ ap (λ ns. map (λ i. i.name) old.inputs ++ ns) (same_names old.size (map (λ i. i.ty) old.inputs) old.images new.images are.images);
  types = all_same old new are;
  meaning = λ round ok g x y. meaning_stays old new is are round ok g x y;
  kept = λ g. (kept_before old new are g, kept_after old new are g);
  live = λ f g dx dy kept. (live_before old new are f g dx dy, live_after old new are f g dx dy);
}
  where
    all_same : (old new : Program) → IsSameBut old new → types_of new ≡ types_of old
    all_same old new are =
        ap (λ xs. map (λ i. i.ty) xs ++ map (λ d. d.ty) new.images) are.inputs
        ∙ ap (λ ns. map (λ i. i.ty) old.inputs ++ ns) (same_types old.size (map (λ i. i.ty) old.inputs) old.images new.images are.images)

-- and it is a program
pub still_program : (old new : Program) → IsProgram old → IsSameBut old new → IsProgram new
still_program old new is are =
    let types = map (λ (i : Input). i.ty) old.inputs in
    let inputs_same : length new.inputs ≡ length old.inputs = ap length are.inputs in
    let images_same : length new.images ≡ length old.images = sym (length-map new.images (λ d. d.ty)) ∙ ap length (same_types old.size types old.images new.images are.images) ∙ length-map old.images (λ d. d.ty) in
    record {
      frame = let P : Size → Type 0 = λ s. IsFrame s.width s.height in subst P (sym are.size) is.frame;
      some_inputs = omega (arith, is.some_inputs, inputs_same);
      most_inputs = omega (arith, is.most_inputs, inputs_same);
      inputs = let P : List Input → Type 0 = λ xs. All (λ i. IsPort i.ty) xs in subst P (sym are.inputs) is.inputs;
      most_images = omega (arith, is.most_images, inputs_same, images_same);
      images = λ k e there.
          let (d, found, rest) = old_of old.size types old.images new.images k e are.images there in
          let same : all_types new.inputs (take k new.images) ≡ all_types old.inputs (take k old.images) =
          ap (λ xs. map (λ i. i.ty) xs ++ map (λ d. d.ty) (take k new.images)) are.inputs ∙ ap (λ ts. types ++ ts) (taken_rewritten old.size types old.images new.images k are.images) in
          let P : List Ty → Type 0 = λ ts. HasType ts (tree_of e.body) e.ty in
          let Q : Ty → Type 0 = λ t. HasType (all_types old.inputs (take k old.images)) (tree_of e.body) t in
          let deep = (is.images k d found).depth in
          let less = rest.body.depth in
          record { typed = subst P (sym same) (subst Q (sym rest.ty) rest.body.typed); depth = omega (arith, deep, less); offsets = rest.body.offsets };
      some_outputs = let P : List ℕ → Type 0 = λ xs. 1 ≤ length xs in subst P (sym are.outputs) is.some_outputs;
      most_outputs = let P : List ℕ → Type 0 = λ xs. length xs ≤ 8 in subst P (sym are.outputs) is.most_outputs;
      distinct = let P : List ℕ → Type 0 = λ xs. IsDistinct xs in subst P (sym are.outputs) is.distinct;
      outputs =
          let P : List ℕ → Type 0 = λ xs. All (IsOutput (types_of new)) xs in
          let Q : List Ty → Type 0 = λ ts. All (IsOutput ts) old.outputs in
          subst P (sym are.outputs) (subst Q (sym (keeps_meaning old new is are).types) is.outputs);
    }

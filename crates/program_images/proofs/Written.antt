-- The images of the outputs, one after another.
use Rattle.std.proofs.Common.{◌≡◌, ◌∙◌, sym, ap, refl, subst, [], ◌∷◌, ◌++◌, List, ℕ, zero, suc, ◌+◌, ◌-◌, ◌^◌, ◌<◌, ◌≤◌, arith, length, map, take, get_or, append_assoc, append-nil, add-one, Some, slice_get, ℤ, pos, negsuc, unsigned_abs, ◌-ℤ◌, SFits, to_z, of_z}
use mir.Syntax.{w128}
use Rattle.std.specs.List.{flat_map, range_with_len, All, AllByRecursion}
use Rattle.std.proofs.Math.Pow.{pow_pos, pow_mono}
use Rattle.std.proofs.lemmas.Int.{ints, to_z-of_z}
use Rattle.std.proofs.lemmas.List.{length-map}
use Rattle.std.proofs.lemmas.Option.{slice_get_within, get_or_from_slice_get}
use Rattle.std.proofs.lemmas.Grind.{flat_map-append}
use Rattle.dk_base.specs.declared.ty.Ty.{Ty}
use Rattle.dk_base.specs.declared.ty.Ty.TheVariants.{Unsigned, Signed}
use Rattle.dk_base.specs.Types.{width_of, IsIn, greatest_of}
use Rattle.dk_base.specs.Frames.{Size, Picture, raster}
use Rattle.pgm_codec.specs.Images.{Image, header_of, raster_of, file_of}
use Rattle.dk_base.specs.Types.{IsPort}
use Rattle.pointwise_ir.specs.Programs.{Program, IsProgram, IsOutput, types_of}
use Rattle.dk_base.specs.Frames.{picture_at}
use Rattle.pointwise_ir.specs.Meaning.{IsPicture}
use Rattle.dk_frames.specs.declared.frame.Frame.{Frame}
use Rattle.pointwise_eval.specs.Rounds.{frame_of, output_frames}
use Rattle.program_images.specs.Ports.{bits_of}
use Rattle.program_images.specs.Outputs.{output_images}
use Rattle.program_images.specs.Writing.{IsOutputFrame, AreOutputFrames, image_with, images_with}

-- the greatest number of a port's type
pub greatest_small : (n : ℕ) → n ≤ 16 → 2 ^ n - 1 < 65536
greatest_small n l = let top : 2 ^ n ≤ 2 ^ 16 = pow_mono l in let some : 0 < 2 ^ n = pow_pos n in omega (arith, top, some)

small_fits : (m : ℕ) → m < 65536 → SFits w128 (pos m)
small_fits m l = record { sfits = omega arith }

stored : (z : ℤ) (m : ℕ) → z ≡ pos m → m < 65536 → unsigned_abs (to_z w128 (of_z w128 z)) ≡ m
stored z m e l = ap (λ x. unsigned_abs (to_z w128 (of_z w128 x))) e ∙ ap (λ x. unsigned_abs x) (to_z-of_z w128 (pos m) (small_fits m l))

less_one : (m : ℕ) → 0 < m → pos m -ℤ pos 1 ≡ pos (m - 1)
less_one m l = omega (arith, ints)

greatest_port : (t : Ty) (z : ℤ) → IsPort t → z ≡ greatest_of t → unsigned_abs (to_z w128 (of_z w128 z)) ≡ 2 ^ width_of t - 1
greatest_port (Unsigned n) z port e = stored z (2 ^ n - 1) (e ∙ less_one (2 ^ n) (pow_pos n)) (greatest_small n port.1)
greatest_port (Signed n) z port e = absurd port

same_type : (types : List Ty) (g : ℕ) (s t : Ty) → slice_get types g ≡ Some s → slice_get types g ≡ Some t → s ≡ t
same_type types g s t a b = sym (get_or_from_slice_get types g s s a) ∙ get_or_from_slice_get types g t s b

pub bits_are : (types : List Ty) (g : ℕ) (t : Ty) → slice_get types g ≡ Some t → width_of t ≡ bits_of types g
bits_are types g t e = ap (λ x. width_of x) (sym (get_or_from_slice_get types g t (Unsigned 0) e))

pub greatest_output : (types : List Ty) (g : ℕ) (t : Ty) (z : ℤ) → IsOutput types g → slice_get types g ≡ Some t → z ≡ greatest_of t → unsigned_abs (to_z w128 (of_z w128 z)) ≡ 2 ^ bits_of types g - 1
greatest_output types g t z o there e =
    let port : IsPort t = subst (λ x. IsPort x) (same_type types g o.ty t o.there there) o.port in
    greatest_port t z port e ∙ ap (λ n. 2 ^ n - 1) (bits_are types g t there)

pub port_some : (t : Ty) → IsPort t → 0 < 2 ^ width_of t - 1
port_some (Unsigned n) port = let one : 2 ^ 1 ≤ 2 ^ n = pow_mono port.0 in omega (arith, one)
port_some (Signed n) port = absurd port

pub output_some : (types : List Ty) (g : ℕ) → IsOutput types g → 0 < 2 ^ bits_of types g - 1
output_some types g o = subst (λ n. 0 < 2 ^ n - 1) (bits_are types g o.ty o.there) (port_some o.ty o.port)

-- one image more
next_images : (types : List Ty) (gs : List ℕ) (fs : List Frame) (k : ℕ) (f : Frame) → k < length gs → k < length fs → f ≡ get_or fs k f
    → images_with types (take (suc k) gs) (take (suc k) fs) ≡ images_with types (take k gs) (take k fs) ++ image_with (bits_of types (get_or gs k 0)) f ∷ []
next_images types [] fs k f a b e = absurd (omega arith)
next_images types (g ∷ gs) [] k f a b e = absurd (omega arith)
next_images types (g ∷ gs) (h ∷ fs) zero f a b e = ap (λ (x : Frame). image_with (bits_of types g) x ∷ []) (sym e)
next_images types (g ∷ gs) (h ∷ fs) (suc k) f a b e = ap (λ x. image_with (bits_of types g) h ∷ x) (next_images types gs fs k f (omega arith) (omega arith) e)

abbrev bytes_of : Image → List ℕ
bytes_of q = header_of q.width q.height q.maxval ++ raster_of q.maxval q.samples

one_more : (qs : List Image) (q : Image) → file_of (qs ++ q ∷ []) ≡ file_of qs ++ bytes_of q
one_more qs q = flat_map-append (λ (x : Image). bytes_of x) qs (q ∷ []) ∙ ap (λ x. file_of qs ++ x) (append-nil (bytes_of q))

pub added : (types : List Ty) (gs : List ℕ) (fs : List Frame) (k m : ℕ) (f : Frame) (file old new : List ℕ) → k < length gs → k < length fs → f ≡ get_or fs k f → m ≡ 2 ^ bits_of types (get_or gs k 0) - 1
    → old ≡ file ++ file_of (images_with types (take k gs) (take k fs)) → new ≡ old ++ (header_of f.width f.height m ++ raster_of m f.samples)
    → new ≡ file ++ file_of (images_with types (take (k + 1) gs) (take (k + 1) fs))
added types gs fs k m f file old new a b e greatest before after =
    let q = image_with (bits_of types (get_or gs k 0)) f in
    let images = images_with types (take k gs) (take k fs) in
    after ∙ ap (λ n. old ++ (header_of f.width f.height n ++ raster_of n f.samples)) greatest ∙ ap (λ x. x ++ bytes_of q) before ∙ append_assoc file (file_of images) (bytes_of q)
    ∙ ap (λ x. file ++ x) (sym (one_more images q)) ∙ ap (λ x. file ++ file_of x) (sym (next_images types gs fs k f a b e))
    ∙ ap (λ n. file ++ file_of (images_with types (take n gs) (take n fs))) (sym (add-one k))

-- the samples of a picture whose values have a type
mapped : {X Y : Type 0} (P : Y → Type 0) (f : X → Y) (xs : List X) → ((x : X) → P (f x)) → AllByRecursion P (map f xs)
mapped P f [] h = tt
mapped P f (x ∷ xs) h = (h x, mapped P f xs h)

together : {X : Type 0} (P : X → Type 0) (xs ys : List X) → AllByRecursion P xs → AllByRecursion P ys → AllByRecursion P (xs ++ ys)
together P [] ys a b = b
together P (x ∷ xs) ys a b = (a.0, together P xs ys a.1 b)

flat_mapped : {X Y : Type 0} (P : Y → Type 0) (f : X → List Y) (xs : List X) → ((x : X) → AllByRecursion P (f x)) → AllByRecursion P (flat_map f xs)
flat_mapped P f [] h = tt
flat_mapped P f (x ∷ xs) h = together P (f x) (flat_map f xs) (h x) (flat_mapped P f xs h)

everywhere : (m : ℕ) (xs : List ℕ) → AllByRecursion (λ s. s ≤ m) xs → All (λ s. s ≤ m) xs
everywhere m [] a k d l = absurd (omega arith)
everywhere m (x ∷ xs) a zero d l = a.0
everywhere m (x ∷ xs) a (suc k) d l = everywhere m xs a.1 k d (omega arith)

in_port : (t : Ty) (v : ℤ) → IsPort t → IsIn t v → unsigned_abs v ≤ 2 ^ width_of t - 1
in_port (Unsigned n) (pos m) port i = let l = i.greatest in omega (arith, ints, l)
in_port (Unsigned n) (negsuc m) port i = let l = i.least in absurd (omega (arith, ints, l))
in_port (Signed n) v port i = absurd port

pub raster_bounded : (size : Size) (t : Ty) (picture : Picture) → IsPort t → ((x y : ℤ) → IsIn t (picture x y)) → AllByRecursion (λ s. s ≤ 2 ^ width_of t - 1) (raster size picture)
unfolding raster
raster_bounded size t picture port values =
    flat_mapped (λ s. s ≤ 2 ^ width_of t - 1) (λ y. map (λ x. unsigned_abs (picture (pos x) (pos y))) (range_with_len 0 size.width)) (range_with_len 0 size.height)
    (λ y. mapped (λ s. s ≤ 2 ^ width_of t - 1) (λ x. unsigned_abs (picture (pos x) (pos y))) (range_with_len 0 size.width) (λ x. in_port t (picture (pos x) (pos y)) port (values (pos x) (pos y))))

entry_of : (f : ℕ → Frame) (gs : List ℕ) (k : ℕ) (r : Frame) (g : ℕ) → slice_get (map f gs) k ≡ Some r → slice_get gs k ≡ Some g → f g ≡ r
entry_of f [] k r g a b = absurd (let e : ⊥ = cc in e)
entry_of f (h ∷ gs) zero r g a b = let e : h ≡ g = cc in let d : f h ≡ r = cc in ap (λ x. f x) (sym e) ∙ d
entry_of f (h ∷ gs) (suc k) r g a b = entry_of f gs k r g a b

pub outputs_fit : (p : Program) → IsProgram p → (known : List Picture) → ((g : ℕ) (t : Ty) → slice_get (types_of p) g ≡ Some t → IsPicture p.size t (picture_at known g)) → AreOutputFrames p (output_frames p known)
outputs_fit p is known values = record {
  one_each = length-map p.outputs (λ g. frame_of p.size (picture_at known g));
  each = λ k f g here there.
      let o : IsOutput (types_of p) g = subst (λ x. IsOutput (types_of p) x) (get_or_from_slice_get p.outputs k g g there) (is.outputs k g (slice_get_within p.outputs k g there)) in
      subst (λ x. IsOutputFrame p.size (bits_of (types_of p) g) x) (entry_of (λ g. frame_of p.size (picture_at known g)) p.outputs k f g here there) (fits g o);
}
  where
    fits : (g : ℕ) → IsOutput (types_of p) g → IsOutputFrame p.size (bits_of (types_of p) g) (frame_of p.size (picture_at known g))
    fits g o = record {
      width = refl;
      height = refl;
      values = subst (λ n. All (λ s. s ≤ 2 ^ n - 1) (raster p.size (picture_at known g))) (bits_are (types_of p) g o.ty o.there)
          (everywhere (2 ^ width_of o.ty - 1) (raster p.size (picture_at known g)) (raster_bounded p.size o.ty (picture_at known g) o.port (values g o.ty o.there).values));
    }

pub images_are : (types : List Ty) (size : Size) (known : List Picture) (gs : List ℕ) → images_with types gs (map (λ g. frame_of size (picture_at known g)) gs) ≡ output_images size types gs known
images_are types size known [] = refl
images_are types size known (g ∷ gs) = ap (λ x. image_with (bits_of types g) (frame_of size (picture_at known g)) ∷ x) (images_are types size known gs)

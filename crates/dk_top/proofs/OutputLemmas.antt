-- What a form evaluates to is the program's meaning.
use Rattle.std.proofs.Common.{◌≡◌, ℕ, suc, ◌<◌, List, [], ◌∷◌, ◌++◌, length, map, get_or, refl, sym, ap, ◌∙◌, subst, arith}
use Rattle.std.specs.Prelude.{Contains}
use Rattle.std.specs.List.{flat_map, All, AllByRecursion}
use Rattle.std.proofs.lemmas.List.Concat.{flat_map-append}
use Rattle.std.proofs.lemmas.List.{get_or_default}
use Rattle.dk_base.specs.Frames.{Size, picture_of, picture_at}
use Rattle.dk_types.specs.Typed.{Typing, types_of}
use Rattle.dk_types.specs.Meaning.{meaning}
use Rattle.pointwise_ir.specs.Programs.{Program, IsProgram}
use Rattle.pointwise_ir.specs.Programs as P
use Rattle.pointwise_ir.specs.Meaning.{pictures, IsRound}
use Rattle.dk_frames.specs.declared.frame.Frame.{Frame}
use Rattle.pointwise_eval.specs.Rounds.{AreFrames, round_of}
use Rattle.pointwise_eval.proofs.Rendered.{round_is}
use Rattle.dk_compile.specs.Sources.{IsText}
use Rattle.dk_compile.specs.Fronts.{IsForm}
use Rattle.pgm_codec.specs.Images.{Image, file_of, header_of, raster_of}
use Rattle.pgm_rounds.specs.declared.round.Round.{Round}
use Rattle.program_images.specs.Ports.{bits_of}
use Rattle.pgm_rounds.specs.Files.{joined, frame_of, frames_of}
use Rattle.program_images.specs.Outputs.{image_of, output_images}
use Rattle.dk_top.specs.Output.{outputs_of, output_file}
use Rattle.dk_top.proofs.RoundLemmas.{pieces_of_map}
use Rattle.dk_top.proofs.TextLemmas.{output_stays}

-- two maps that agree on a list's members
map_same : {A B : Type 0} (F G : A → B) (xs : List A) → ((k : ℕ) (d : A) → k < length xs → F (get_or xs k d) ≡ G (get_or xs k d)) → map F xs ≡ map G xs
map_same F G [] same = refl
map_same F G (x ∷ xs) same = ap (λ y. y ∷ map F xs) (same 0 x (omega arith)) ∙ ap (λ ys. G x ∷ ys) (map_same F G xs (λ k d lt. same (suc k) d (omega (arith, lt))))

-- the file of images in groups
pub file_joined : (groups : List (List Image)) → file_of (joined groups) ≡ flat_map file_of groups
file_joined [] = refl
file_joined (g ∷ gs) = flat_map-append (λ (p : Image). header_of p.width p.height p.maxval ++ raster_of p.maxval p.samples) g (joined gs) ∙ ap (λ ys. file_of g ++ ys) (file_joined gs)

-- the pictures of a round of images
round_pictures : (size : Size) (images : List Image) → round_of size (map frame_of images) ≡ map (picture_of size) (map (λ i. i.samples) images)
round_pictures size [] = refl
round_pictures size (i ∷ is) = ap (λ rest. picture_of size i.samples ∷ rest) (round_pictures size is)

-- the outputs of a round, by a form and by the program
pub outputs_same : (text : List ℕ) (p : Typing) (ir : Program) → IsText text p → IsForm p ir → IsProgram ir → (images : List Image) → AreFrames ir (map frame_of images)
    → output_images ir.size (P.types_of ir) ir.outputs (pictures ir (round_of ir.size (map frame_of images))) ≡ outputs_of p images
outputs_same text p ir is form program images frames =
    let round = round_of ir.size (map frame_of images) in
    let ok : IsRound ir round = round_is ir (map frame_of images) program frames in
    let member : (k d : ℕ) → k < length ir.outputs → Contains p.outputs (get_or ir.outputs k d) = λ k d lt.
    let P : List ℕ → Type 0 = λ os. Contains os (get_or ir.outputs k d) in
    subst P form.outputs (k, lt, get_or_default ir.outputs k _ d lt) in
    map_same _ (λ g. image_of ir.size (bits_of (P.types_of ir) g) (picture_at (meaning p round) g)) ir.outputs (λ k d lt.
    let g = get_or ir.outputs k d in
    ap (image_of ir.size (bits_of (P.types_of ir) g)) (λ i x y. form.meaning round ok g (output_stays text p is g (member k d lt)) x y i))
    ∙ ap (λ s. output_images s (P.types_of ir) ir.outputs (meaning p (round_of s (map frame_of images)))) form.size
    ∙ ap (λ ts. output_images p.size ts ir.outputs (meaning p (round_of p.size (map frame_of images)))) form.types
    ∙ ap (λ os. output_images p.size (types_of p) os (meaning p (round_of p.size (map frame_of images)))) form.outputs
    ∙ ap (λ r. output_images p.size (types_of p) p.outputs (meaning p r)) (round_pictures p.size images)

-- what holds of the frames of each round holds of its images
pub each_images : (Q : List Frame → Type 0) (rounds : List Round) (images : List (List Image)) → frames_of rounds ≡ map (map frame_of) images → All (λ r. Q r.frames.items) rounds → AllByRecursion (λ round. Q (map frame_of round)) images
each_images Q [] [] same all = tt
each_images Q [] (i ∷ is) same all = absurd (let e : ⊥ = cc in e)
each_images Q (r ∷ rs) [] same all = absurd (let e : ⊥ = cc in e)
each_images Q (r ∷ rs) (i ∷ is) same all =
    let first : r.frames.items ≡ map frame_of i = cc in
    let rest : frames_of rs ≡ map (map frame_of) is = cc in
    (subst Q first (all 0 r (omega arith)), each_images Q rs is rest (λ k d lt. all (suc k) d (omega (arith, lt))))

-- pieces that agree on each
pub pieces_same : {A B : Type 0} (F G : A → List B) (Q : A → Type 0) (xs : List A) → ((x : A) → Q x → F x ≡ G x) → AllByRecursion Q xs → flat_map F xs ≡ flat_map G xs
pieces_same F G Q [] same all = refl
pieces_same F G Q (x ∷ xs) same all = ap (λ ys. ys ++ flat_map F xs) (same x all.0) ∙ ap (λ ys. G x ++ ys) (pieces_same F G Q xs same all.1)

-- the file that is written, round by round
pub file_rounds : (p : Typing) (images : List (List Image)) → output_file p images ≡ flat_map (λ round. file_of (outputs_of p round)) images
file_rounds p images = file_joined (map (outputs_of p) images) ∙ pieces_of_map file_of (outputs_of p) images

-- the evaluated file is that of the program's meaning
pub evaluated_is : (text : List ℕ) (p : Typing) (ir : Program) → IsText text p → IsForm p ir → IsProgram ir → (rounds : List Round) (images : List (List Image)) → frames_of rounds ≡ map (map frame_of) images → All (λ r. AreFrames ir r.frames.items) rounds
    → flat_map (λ (r : Round). file_of (output_images ir.size (P.types_of ir) ir.outputs (pictures ir (round_of ir.size r.frames.items)))) rounds ≡ output_file p images
evaluated_is text p ir is form program rounds images frames all =
    let F : List Frame → List ℕ = λ fs. file_of (output_images ir.size (P.types_of ir) ir.outputs (pictures ir (round_of ir.size fs))) in
    sym (pieces_of_map F (λ (r : Round). r.frames.items) rounds) ∙ ap (flat_map F) frames ∙ pieces_of_map F (map frame_of) images
    ∙ pieces_same (λ round. F (map frame_of round)) (λ round. file_of (outputs_of p round)) (λ round. AreFrames ir (map frame_of round)) images
    (λ round there. ap file_of (outputs_same text p ir is form program round there)) (each_images (AreFrames ir) rounds images frames all)
    ∙ sym (file_rounds p images)

-- The rounds that are read of a file of images, one for each image.
use Rattle.std.proofs.Common.{◌≡◌, ◌∙◌, sym, ap, refl, subst, [], ◌∷◌, ◌++◌, List, ℕ, ◌<◌, ◌≤◌, arith, lit<, length, map, append-nil}
use Rattle.std.specs.List.{flat_map, AllByRecursion}
use Rattle.std.proofs.lemmas.List.Folds.{flat_map-map}
use Rattle.std.proofs.lemmas.List.{length-map}
use Rattle.dk_base.specs.Frames.{Size}
use Rattle.dk_frames.specs.declared.frame.Frame.{Frame}
use Rattle.pgm_codec.specs.Images.{Image, CanBeWritten, IsFile, file_of}
use Rattle.pgm_codec.specs.Rounds.{FitsInputs}
use Rattle.pgm_rounds.specs.declared.round.Round.{Round}
use Rattle.pgm_rounds.specs.Ports.{Ports, ports_with}
use Rattle.pgm_rounds.specs.Files.{FitsFile, IsFault, frame_of, frames_of}
use Rattle.made_program.specs.Sums.{IsSummed, AreSummed, samples_of_round}

abbrev alone : Image → List Image
alone image = image ∷ []

abbrev pub OneReading : Type 0
OneReading = (ports : Ports) → 0 < length ports.inputs → (bytes : List ℕ) → (a b : List (List Image)) → FitsFile ports bytes a → FitsFile ports bytes b → a ≡ b

abbrev pub ReadAgain : Type 0
ReadAgain = (images : List Image) → 0 < length images → length images ≤ 65536 → AllByRecursion CanBeWritten images → IsFile (file_of images) images

joined_alone : (images : List Image) → images ≡ flat_map (λ round. round) (map alone images)
joined_alone [] = refl
joined_alone (image ∷ images) = ap (λ l. image ∷ l) (joined_alone images)

fit_alone : (size : Size) (images : List Image) → AllByRecursion (IsSummed size) images → AllByRecursion (FitsInputs size.width size.height (16 ∷ [])) (map alone images)
fit_alone size [] s = tt
fit_alone size (image ∷ images) s = ((s.0.width, s.0.height, s.0.writable.small, tt), fit_alone size images s.1)

all_writable : (size : Size) (images : List Image) → AllByRecursion (IsSummed size) images → AllByRecursion CanBeWritten images
all_writable size [] s = tt
all_writable size (image ∷ images) s = (s.0.writable, all_writable size images s.1)

-- each image is a round
pub fits_alone : ReadAgain → (size : Size) (images : List Image) (file : List ℕ) → AreSummed size images → file ≡ file_of images → FitsFile (ports_with size (16 ∷ [])) file (map alone images)
fits_alone again size images file s e = record {
  images = images;
  file = subst (λ bytes. IsFile bytes images) (sym e) (again images s.some s.few (all_writable size images s.each));
  fits = record { joined = joined_alone images; fit = fit_alone size images s.each };
}

-- a file of such images has no fault
pub has_no_fault : ReadAgain → ((ports : Ports) → 0 < length ports.inputs → (bytes : List ℕ) → (rounds : List (List Image)) (f : _) → FitsFile ports bytes rounds → IsFault ports bytes f → ⊥)
    → (size : Size) (file : List ℕ) (f : _) → ((images : List Image) × AreSummed size images × (file ≡ file_of images)) → IsFault (ports_with size (16 ∷ [])) file f → ⊥
has_no_fault again apart size file f (images, s, e) fault = apart (ports_with size (16 ∷ [])) (lit< tt) file (map alone images) f (fits_alone again size images file s e) fault

samples_alone : (images : List Image) → flat_map (flat_map (λ (f : Frame). f.samples)) (map (map frame_of) (map alone images)) ≡ flat_map (λ image. image.samples) images
samples_alone [] = refl
samples_alone (image ∷ images) = ap (λ l. l ++ flat_map (flat_map (λ (f : Frame). f.samples)) (map (map frame_of) (map alone images))) (append-nil image.samples) ∙ ap (λ l. image.samples ++ l) (samples_alone images)

module _ (again : ReadAgain) (one : OneReading) (size : Size) (file : List ℕ) (rounds : List Round) (read : (found : List (List Image)) × FitsFile (ports_with size (16 ∷ [])) file found × (frames_of rounds ≡ map (map frame_of) found)) (images : List Image) (s : AreSummed size images) (e : file ≡ file_of images) where
  frames_alone : frames_of rounds ≡ map (map frame_of) (map alone images)
  frames_alone = read.2 ∙ ap (map (map frame_of)) (one (ports_with size (16 ∷ [])) (lit< tt) file read.0 (map alone images) read.1 (fits_alone again size images file s e))

  pub samples_read : flat_map samples_of_round rounds ≡ flat_map (λ image. image.samples) images
  samples_read = sym (flat_map-map (flat_map (λ (f : Frame). f.samples)) (λ (r : Round). r.frames.items) rounds) ∙ ap (flat_map (flat_map (λ (f : Frame). f.samples))) frames_alone ∙ samples_alone images

  pub few_read : length rounds ≤ 65536
  few_read =
      let a : length rounds ≡ length (frames_of rounds) = sym (length-map rounds (λ (r : Round). r.frames.items)) in
      let b : length (map (map frame_of) (map alone images)) ≡ length images = length-map (map alone images) (map frame_of) ∙ length-map images alone in
      omega (arith, a, ap length frames_alone, b, s.few)

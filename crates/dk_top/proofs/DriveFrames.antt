-- The samples of a file's rounds, as a bench takes them.
use Rattle.std.proofs.Common.{◌≡◌, ℕ, suc, ◌-◌, ◌*◌, ◌^◌, ◌<◌, ◌≤◌, List, [], ◌∷◌, ◌++◌, length, map, refl, sym, ap, ◌∙◌, subst, arith, length-append}
use Rattle.std.specs.List.{flat_map, All, AllByRecursion, AllZip}
use Rattle.std.proofs.lemmas.List.{length-map}
use Rattle.std.proofs.lemmas.List.Elements.{All-head, All-tail}
use Rattle.std.proofs.lemmas.Nat.{pow_pos}
use Rattle.dk_base.specs.declared.TheConstants.{MAX_FILE_IMAGES}
use Rattle.dk_base.specs.declared.ty.Ty.{Ty}
use Rattle.dk_base.specs.declared.ty.Ty.TheVariants.{Unsigned, Signed}
use Rattle.dk_base.specs.Types.{IsPort, width_of}
use Rattle.dk_base.specs.Frames.{Size}
use Rattle.pointwise_ir.specs.declared.program.Input.{Input}
use Rattle.pointwise_ir.specs.Programs.{Program}
use Rattle.dk_frames.specs.declared.frame.Frame.{Frame}
use Rattle.pointwise_eval.specs.Rounds.{AreFrames, AreInputFrames, IsInputFrame}
use Rattle.pgm_codec.specs.Images.{Image, AreImages}
use Rattle.pgm_codec.specs.Rounds.{FitsInputs}
use Rattle.pgm_rounds.specs.declared.round.Round.{Round}
use Rattle.pgm_rounds.specs.Ports.{Ports}
use Rattle.pgm_rounds.specs.Files.{FitsFile, frame_of, frames_of}
use Rattle.stimulus.specs.Inputs.{samples_of}
use Rattle.stimulus.specs.Given.{IsBenchFrame, AreBenchFrames, rounds_of}
use Rattle.circuit.specs.Driven.{input_widths}
use Rattle.dk_top.proofs.DriveRounds.{IsSampled, AreSampled, HasPortTypes}

-- an image has all samples of its frame, none above its maxval
record IsGood (i : Image) : Type 0 where
  pub count : length i.samples ≡ i.width * i.height
  pub bounded : AllByRecursion (λ s. s ≤ i.maxval) i.samples

images_good : (bytes : List ℕ) (images : List Image) → AreImages bytes images → AllByRecursion IsGood images
images_good bytes [] are = tt
images_good bytes (i ∷ is) (first, rest, parts, image, more) = (record { count = image.holds.count; bounded = image.holds.bounded }, images_good rest is more)

all_parts : {A : Type 0} (P : A → Type 0) (xs ys : List A) → AllByRecursion P (xs ++ ys) → AllByRecursion P xs × AllByRecursion P ys
all_parts P [] ys h = (tt, h)
all_parts P (x ∷ xs) ys h = let rest = all_parts P xs ys h.1 in ((h.0, rest.0), rest.1)

all_groups : {A : Type 0} (P : A → Type 0) (xss : List (List A)) → AllByRecursion P (flat_map (λ xs. xs) xss) → AllByRecursion (AllByRecursion P) xss
all_groups P [] h = tt
all_groups P (xs ∷ xss) h = let parts = all_parts P xs (flat_map (λ ys. ys) xss) h in (parts.0, all_groups P xss parts.1)

-- samples up to a maxval that fits have no more bits
low_samples : (b top : ℕ) (xs : List ℕ) → 0 < b → top ≤ b - 1 → AllByRecursion (λ s. s ≤ top) xs → AllByRecursion (λ s. s < b) xs
low_samples b top [] some most h = tt
low_samples b top (x ∷ xs) some most h = let e = h.0 in ((let l : x < b = omega (arith, e, some, most) in l), low_samples b top xs some most h.1)

round_sampled : (size : Size) (ws : List ℕ) (round : List Image) → AllByRecursion IsGood round → FitsInputs size.width size.height ws round → AllZip (IsSampled size) ws (map (λ (i : Image). i.samples) round)
round_sampled size [] [] good fits = tt
round_sampled size [] (i ∷ is) good fits = absurd fits
round_sampled size (w ∷ ws) [] good fits = absurd fits
round_sampled size (w ∷ ws) (i ∷ is) good fits = (
  record {
    whole = good.0.count ∙ ap (λ n. n * i.height) fits.0 ∙ ap (λ n. size.width * n) fits.1;
    values = low_samples (2 ^ w) i.maxval i.samples (pow_pos w) fits.2 good.0.bounded;
  },
  round_sampled size ws is good.1 fits.3,
)

rounds_sampled : (size : Size) (ws : List ℕ) (rounds : List (List Image)) → AllByRecursion (AllByRecursion IsGood) rounds → AllByRecursion (FitsInputs size.width size.height ws) rounds → AreSampled size ws (samples_of rounds)
rounds_sampled size ws [] good fits = tt
rounds_sampled size ws (r ∷ rs) good fits = (round_sampled size ws r good.0 fits.0, rounds_sampled size ws rs good.1 fits.1)

pub file_sampled : (ports : Ports) (file : List ℕ) (rounds : List (List Image)) → FitsFile ports file rounds → AreSampled ports.size ports.inputs (samples_of rounds)
file_sampled ports file rounds fits =
    let good : AllByRecursion IsGood (flat_map (λ r. r) rounds) = subst (AllByRecursion IsGood) fits.fits.joined (images_good file fits.images fits.file.2) in
    rounds_sampled ports.size ports.inputs rounds (all_groups IsGood rounds good) fits.fits.fit

-- the number of rounds
pub some_round : (rounds : List (List Image)) (images : List Image) → images ≡ flat_map (λ r. r) rounds → 0 < length images → 0 < length rounds
some_round [] images same some = let e = ap length same in absurd (let f : ⊥ = omega (arith, e, some) in f)
some_round (r ∷ rs) images same some = omega arith

one_image : (w h : ℕ) (ws : List ℕ) (round : List Image) → 0 < length ws → FitsInputs w h ws round → 0 < length round
one_image w h [] round some fits = absurd (let f : ⊥ = omega (arith, some) in f)
one_image w h (b ∷ bs) [] some fits = absurd fits
one_image w h (b ∷ bs) (i ∷ is) some fits = omega arith

pub few_rounds : (w h : ℕ) (ws : List ℕ) (rounds : List (List Image)) → 0 < length ws → AllByRecursion (FitsInputs w h ws) rounds → length rounds ≤ length (flat_map (λ r. r) rounds)
few_rounds w h ws [] some fits = omega arith
few_rounds w h ws (r ∷ rs) some fits =
    let one = one_image w h ws r some fits.0 in
    let rest = few_rounds w h ws rs some fits.1 in
    let both = length-append r (flat_map (λ r. r) rs) in
    omega (arith, one, rest, both)

pub round_count : (ports : Ports) (file : List ℕ) (rounds : List (List Image)) → 0 < length ports.inputs → FitsFile ports file rounds → (0 < length rounds) × (length rounds ≤ MAX_FILE_IMAGES)
round_count ports file rounds some fits =
    let few = few_rounds ports.size.width ports.size.height ports.inputs rounds some fits.fits.fit in
    let most = fits.file.1 in
    let same = ap length fits.fits.joined in
    (some_round rounds fits.images fits.fits.joined fits.file.0, (let e : length rounds ≤ MAX_FILE_IMAGES = omega (arith, few, most, same) in e))

-- a frame of an input is one for its din
bench_frame : (size : Size) (t : Ty) (f : Frame) → IsPort t → IsInputFrame size t f → IsBenchFrame size (width_of t) f
bench_frame size (Unsigned n) f port is = record { whole = is.whole; values = is.values }
bench_frame size (Signed n) f port is = absurd port

bench_round : (size : Size) (inputs : List Input) (frames : List Frame) → All (λ (i : Input). IsPort i.ty) inputs → length frames ≡ length inputs → AreInputFrames size inputs frames → AllZip (IsBenchFrame size) (map (λ (i : Input). width_of i.ty) inputs) frames
bench_round size [] [] ports long each = tt
bench_round size [] (f ∷ fs) ports long each = absurd (let e : ⊥ = omega (arith, long) in e)
bench_round size (i ∷ is) [] ports long each = absurd (let e : ⊥ = omega (arith, long) in e)
bench_round size (i ∷ is) (f ∷ fs) ports long each = (
  bench_frame size i.ty f (All-head (λ (x : Input). IsPort x.ty) i is ports) (each 0 f i refl refl),
  bench_round size is fs (All-tail (λ (x : Input). IsPort x.ty) i is ports) (omega (arith, long)) (λ k g x at there. each (suc k) g x at there),
)

-- the frames that are read
read_length : (rounds : List (List Image)) (read : List Round) → frames_of read ≡ map (map frame_of) rounds → length read ≡ length rounds
read_length rounds read are = sym (length-map read (λ (r : Round). r.frames.items)) ∙ ap length are ∙ length-map rounds (map frame_of)

pub frames_fit : (ports : Ports) (ir : Program) (file : List ℕ) (rounds : List (List Image)) → HasPortTypes ir → 0 < length ports.inputs → FitsFile ports file rounds → (read : List Round) → frames_of read ≡ map (map frame_of) rounds → All (λ r. AreFrames ir r.frames.items) read
    → AreBenchFrames (input_widths ir) ir.size read
frames_fit ports ir file rounds types some fits read are frames =
    let count = round_count ports file rounds some fits in
    let long = read_length rounds read are in
    record {
      some = (let e = count.0 in omega (arith, e, long));
      most = (let e = count.1 in omega (arith, e, long));
      each = λ k d lt. let f = frames k d lt in bench_round ir.size ir.inputs _ types f.one_each f.each;
    }

pub samples_read : (rounds : List (List Image)) (read : List Round) → frames_of read ≡ map (map frame_of) rounds → rounds_of read ≡ samples_of rounds
samples_read rounds read are = ap (map (λ (fs : List Frame). map (λ (f : Frame). f.samples) fs)) are ∙ all rounds
  where
    one : (round : List Image) → map (λ (f : Frame). f.samples) (map frame_of round) ≡ map (λ (i : Image). i.samples) round
    one [] = refl
    one (i ∷ is) = ap (λ xs. i.samples ∷ xs) (one is)

    all : (rounds : List (List Image)) → map (λ (fs : List Frame). map (λ (f : Frame). f.samples) fs) (map (map frame_of) rounds) ≡ samples_of rounds
    all [] = refl
    all (r ∷ rs) = ap (λ x. x ∷ map (λ (fs : List Frame). map (λ (f : Frame). f.samples) fs) (map (map frame_of) rs)) (one r) ∙ ap (λ xs. map (λ (i : Image). i.samples) r ∷ xs) (all rs)

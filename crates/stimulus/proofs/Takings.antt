-- The rounds that a bench takes.
use Rattle.std.proofs.Common.{◌≡◌, ◌∙◌, sym, ap, refl, subst, [], ◌∷◌, List, ℕ, ◌<◌, ◌≤◌, arith, length, map, get_or, length-append}
use Rattle.std.specs.List.{All, AllZip, AllByRecursion, flat_map}
use Rattle.std.proofs.lemmas.List.{length-map}
use Rattle.dk_base.specs.Frames.{Size, IsFrame}
use Rattle.pgm_codec.specs.Images.{Image}
use Rattle.pgm_codec.specs.Rounds.{FitsInputs}
use Rattle.pgm_codec.specs.declared.header.Header.{Header}
use Rattle.pgm_codec.specs.Answers.{Reads}
use Rattle.pgm_rounds.specs.declared.fault.FileError.{FileError}
use Rattle.pgm_rounds.specs.declared.fault.FileError.TheVariants as error
use Rattle.pgm_rounds.specs.declared.round.Round.{Round}
use Rattle.pgm_rounds.specs.Ports.{Ports, ports_with}
use Rattle.pgm_rounds.specs.Files.{FitsFile, IsError, IsFault, IsPortFrame, IsPortRound, frame_of, frames_of}
use Rattle.stimulus.specs.Inputs.{size_in, IsBenchError, later}
use Rattle.stimulus.specs.Given.{IsBenchFrame, IsBenchRound, AreBenchFrames}

pub error_later : (widths bytes : List ℕ) (h : Header) → Reads bytes h → (size : Size) → size ≡ size_in h → IsFrame size.width size.height → (bits : List ℕ) → bits ≡ widths → (e : FileError) → IsError (ports_with size bits) bytes e → IsBenchError widths bytes e
error_later widths bytes h reads size same frame bits is (error.Fault f) x =
    later h reads (subst (λ (s : Size). IsFrame s.width s.height) same frame) (subst (λ s. IsFault (ports_with s widths) bytes f) same (subst (λ z. IsFault (ports_with size z) bytes f) is x))
error_later widths bytes h reads size same frame bits is error.OutOfMemory x = tt

zip_of : {A B : Type 0} (P Q : A → B → Type 0) (xs : List A) (ys : List B) → ((x : A) (y : B) → P x y → Q x y) → AllZip P xs ys → AllZip Q xs ys
zip_of P Q [] [] h z = tt
zip_of P Q [] (y ∷ ys) h z = absurd z
zip_of P Q (x ∷ xs) [] h z = absurd z
zip_of P Q (x ∷ xs) (y ∷ ys) h z = (h x y z.0, zip_of P Q xs ys h z.1)

round_fits : (size : Size) (ws : List ℕ) (r : Round) → IsPortRound (ports_with size ws) r → IsBenchRound ws size r
round_fits size ws r frames = zip_of (IsPortFrame size) (IsBenchFrame size) ws r.frames.items (λ w f i. record { whole = i.whole; values = i.values }) frames

-- each round has an image
some_images : (w h : ℕ) (b : ℕ) (bs : List ℕ) (rounds : List (List Image)) → AllByRecursion (FitsInputs w h (b ∷ bs)) rounds → length rounds ≤ length (flat_map (λ round. round) rounds)
some_images w h b bs [] f = omega arith
some_images w h b bs ([] ∷ rounds) f = absurd f.0
some_images w h b bs ((q ∷ qs) ∷ rounds) f =
    let rest = some_images w h b bs rounds f.1 in
    omega (arith, rest, length-append qs (flat_map (λ round. round) rounds))

few_rounds : (ports : Ports) (bytes : List ℕ) (b : ℕ) (bs : List ℕ) (rounds : List (List Image)) → ports.inputs ≡ b ∷ bs → FitsFile ports bytes rounds → length rounds ≤ 65536
few_rounds ports bytes b bs rounds e f =
    let l = some_images ports.size.width ports.size.height b bs rounds (subst (λ z. AllByRecursion (FitsInputs ports.size.width ports.size.height z) rounds) e f.fits.fit) in
    omega (arith, l, f.file.1, ap length f.fits.joined)

some_rounds : (ports : Ports) (bytes : List ℕ) (rounds : List (List Image)) → FitsFile ports bytes rounds → 0 < length rounds
some_rounds ports bytes [] f = absurd (omega (arith, f.file.0, ap length f.fits.joined))
some_rounds ports bytes (r ∷ rounds) f = omega arith

taken_frames : (size : Size) (ws bytes : List ℕ) (images : List (List Image)) (rounds : List Round) → 1 ≤ length ws → FitsFile (ports_with size ws) bytes images → frames_of rounds ≡ map (map frame_of) images → All (IsPortRound (ports_with size ws)) rounds → AreBenchFrames ws size rounds
taken_frames size [] bytes images rounds some fits is frames = absurd (omega (arith, some))
taken_frames size (w ∷ ws) bytes images rounds some fits is frames =
    let n : length rounds ≡ length images = sym (length-map rounds (λ (r : Round). r.frames.items)) ∙ ap length is ∙ length-map images (map frame_of) in
    record {
      some = subst (λ z. 0 < z) (sym n) (some_rounds (ports_with size (w ∷ ws)) bytes images fits);
      most = subst (λ z. z ≤ 65536) (sym n) (few_rounds (ports_with size (w ∷ ws)) bytes w ws images refl fits);
      each = λ k d lt. round_fits size (w ∷ ws) (get_or rounds k d) (frames k d lt);
    }

pub bench_frames : (size : Size) (ws bits bytes : List ℕ) (images : List (List Image)) (rounds : List Round) → 1 ≤ length ws → bits ≡ ws → FitsFile (ports_with size bits) bytes images → frames_of rounds ≡ map (map frame_of) images → All (IsPortRound (ports_with size bits)) rounds → AreBenchFrames ws size rounds
bench_frames size ws bits bytes images rounds some e fits is frames =
    taken_frames size ws bytes images rounds some (subst (λ z. FitsFile (ports_with size z) bytes images) e fits) is (subst (λ z. All (IsPortRound (ports_with size z)) rounds) e frames)

-- The pixels of an input, one round after another.
use Rattle.std.proofs.Common.{◌≡◌, ℕ, zero, suc, ◌+◌, ◌*◌, ◌<◌, List, [], ◌∷◌, ◌++◌, length, map, refl, ap, sym, subst, ◌∙◌, arith, Some, None, get_or}
use Rattle.std.specs.Prelude.{◌/◌, ◌%◌, slice_get, slice_index_or}
use Rattle.std.specs.List.{AllZip, flat_map}
use Rattle.std.proofs.lemmas.List.{get_or_append_left, get_or-append-add}
use Rattle.std.proofs.lemmas.Nat.{div-add-mod'}
use Rattle.std.proofs.Math.Nat.{suc-mul, mod-lt}
use Rattle.std.proofs.lemmas.Option.{slice_get_within}
use Rattle.dk_base.specs.Frames.{Size, area}
use Rattle.dk_frames.specs.declared.frame.Frame.{Frame}
use Rattle.pgm_rounds.specs.declared.round.Round.{Round}
use Rattle.pgm_rounds.specs.Files.{frames_of}
use Rattle.wiring.proofs.Lists.{All-at, at_one}
use Rattle.stimulus.specs.Stimulus.{stream}
use Rattle.stimulus.specs.Given.{rounds_of, IsBenchFrame, IsBenchRound, AreBenchFrames}

-- sample r of the part of item q, where each part has A
pub flat_at : {X : Type 0} (f : X → List ℕ) (A : ℕ) (xs : List X) → ((k : ℕ) (x : X) → slice_get xs k ≡ Some x → length (f x) ≡ A) → (q r : ℕ) (x : X) → r < A → slice_get xs q ≡ Some x → get_or (flat_map f xs) (q * A + r) 0 ≡ get_or (f x) r 0
flat_at f A [] h q r x l e = absurd (let z : ⊥ = cc in z)
flat_at f A (y ∷ ys) h zero r x l e =
    let same : y ≡ x = cc in
    let n : length (f y) ≡ A = h 0 y refl in
    ap (λ k. get_or (f y ++ flat_map f ys) k 0) (let d : 0 * A + r ≡ r = omega arith in d) ∙ get_or_append_left (f y) (flat_map f ys) 0 r (omega (arith, l, n)) ∙ ap (λ z. get_or (f z) r 0) same
flat_at f A (y ∷ ys) h (suc q) r x l e =
    let n : length (f y) ≡ A = h 0 y refl in
    ap (λ k. get_or (f y ++ flat_map f ys) k 0) (let d : suc q * A + r ≡ length (f y) + (q * A + r) = nia' A q r (length (f y)) n in d)
    ∙ get_or-append-add (f y) (flat_map f ys) (q * A + r) 0 ∙ flat_at f A ys (λ k. h (suc k)) q r x l e
  where
    nia' : (A q r n : ℕ) → n ≡ A → suc q * A + r ≡ n + (q * A + r)
    nia' A q r n e = ap (λ z. z + r) (suc-mul q A) ∙ (omega (arith, e))

-- 0 after the last
pub flat_past : {X : Type 0} (f : X → List ℕ) (A : ℕ) (xs : List X) → ((k : ℕ) (x : X) → slice_get xs k ≡ Some x → length (f x) ≡ A) → (q r : ℕ) → slice_get xs q ≡ None → get_or (flat_map f xs) (q * A + r) 0 ≡ 0
flat_past f A [] h q r e = refl
flat_past f A (y ∷ ys) h zero r e = absurd (let z : ⊥ = cc in z)
flat_past f A (y ∷ ys) h (suc q) r e =
    let n : length (f y) ≡ A = h 0 y refl in
    ap (λ k. get_or (f y ++ flat_map f ys) k 0) (let d : suc q * A + r ≡ length (f y) + (q * A + r) = nia' A q r (length (f y)) n in d)
    ∙ get_or-append-add (f y) (flat_map f ys) (q * A + r) 0 ∙ flat_past f A ys (λ k. h (suc k)) q r e
  where
    nia' : (A q r n : ℕ) → n ≡ A → suc q * A + r ≡ n + (q * A + r)
    nia' A q r n e = ap (λ z. z + r) (suc-mul q A) ∙ (omega (arith, e))

abbrev samples : Frame → List ℕ
samples f = f.samples

pub at_map : {X Y : Type 0} (f : X → Y) (xs : List X) (k : ℕ) (y : Y) → slice_get (map f xs) k ≡ Some y → (x : X) × (slice_get xs k ≡ Some x) × (f x ≡ y)
at_map f [] k y e = absurd (let z : ⊥ = cc in z)
at_map f (x ∷ xs) zero y e = (x, refl, cc)
at_map f (x ∷ xs) (suc k) y e = at_map f xs k y e

pub map_at : {X Y : Type 0} (f : X → Y) (xs : List X) (k : ℕ) (x : X) → slice_get xs k ≡ Some x → slice_get (map f xs) k ≡ Some (f x)
map_at f [] k x e = absurd (let z : ⊥ = cc in z)
map_at f (y ∷ xs) zero x e = let s : y ≡ x = cc in ap (λ z. Some (f z)) s
map_at f (y ∷ xs) (suc k) x e = map_at f xs k x e

map_past : {X Y : Type 0} (f : X → Y) (xs : List X) (k : ℕ) → slice_get xs k ≡ None → slice_get (map f xs) k ≡ None
map_past f [] k e = refl
map_past f (y ∷ xs) zero e = absurd (let z : ⊥ = cc in z)
map_past f (y ∷ xs) (suc k) e = map_past f xs k e

-- the frame of an input in a round
pub frame_at : (widths : List ℕ) (size : Size) (frames : List Frame) → AllZip (IsBenchFrame size) widths frames → (input : ℕ) → input < length widths → (w : ℕ) × (f : Frame) × (slice_get widths input ≡ Some w) × (slice_get frames input ≡ Some f) × IsBenchFrame size w f
frame_at [] size frames h input l = absurd (omega (arith, l))
frame_at (w ∷ ws) size [] h input l = absurd h
frame_at (w ∷ ws) size (f ∷ fs) h zero l = (w, f, refl, refl, h.0)
frame_at (w ∷ ws) size (f ∷ fs) h (suc k) l = frame_at ws size fs h.1 k (omega (arith, l))

pub read_at : {X : Type 0} (xs : List X) (k : ℕ) (x d : X) → slice_get xs k ≡ Some x → get_or xs k d ≡ x
read_at [] k x d e = absurd (let z : ⊥ = cc in z)
read_at (y ∷ xs) zero x d e = cc
read_at (y ∷ xs) (suc k) x d e = read_at xs k x d e

abbrev samples_of : Round → List (List ℕ)
samples_of round = map (λ (f : Frame). f.samples) round.frames.items

rounds_at : (rounds : List Round) (q : ℕ) (ss : List (List ℕ)) → slice_get (rounds_of rounds) q ≡ Some ss → (r : Round) × (slice_get rounds q ≡ Some r) × (samples_of r ≡ ss)
rounds_at rounds q ss e =
    let a = at_map (λ (fs : List Frame). map (λ (f : Frame). f.samples) fs) (frames_of rounds) q ss e in
    let b = at_map (λ (r : Round). r.frames.items) rounds q a.0 a.1 in
    (b.0, b.1, ap (λ (fs : List Frame). map (λ (f : Frame). f.samples) fs) b.2 ∙ a.2)

at_rounds : (rounds : List Round) (q : ℕ) (r : Round) → slice_get rounds q ≡ Some r → slice_get (rounds_of rounds) q ≡ Some (samples_of r)
at_rounds rounds q r e = map_at (λ (fs : List Frame). map (λ (f : Frame). f.samples) fs) (frames_of rounds) q r.frames.items (map_at (λ (r : Round). r.frames.items) rounds q r e)

past_rounds : (rounds : List Round) (q : ℕ) → slice_get rounds q ≡ None → slice_get (rounds_of rounds) q ≡ None
past_rounds rounds q e = map_past (λ (fs : List Frame). map (λ (f : Frame). f.samples) fs) (frames_of rounds) q (map_past (λ (r : Round). r.frames.items) rounds q e)

module _ (widths : List ℕ) (size : Size) (rounds : List Round) (frames : AreBenchFrames widths size rounds) (input : ℕ) (within : input < length widths) where
  abbrev part : List (List ℕ) → List ℕ
  part ss = slice_index_or ss input []

  part_is : (r : Round) (f : Frame) → slice_get r.frames.items input ≡ Some f → part (samples_of r) ≡ f.samples
  part_is r f e = read_at (samples_of r) input f.samples [] (map_at (λ (f : Frame). f.samples) r.frames.items input f e)

  long : (k : ℕ) (ss : List (List ℕ)) → slice_get (rounds_of rounds) k ≡ Some ss → length (part ss) ≡ area size
  long k ss e =
      let r = rounds_at rounds k ss e in
      let f = frame_at widths size r.0.frames.items (All-at (IsBenchRound widths size) rounds k r.0 frames.each r.1) input within in
      ap (λ z. length (part z)) (sym r.2) ∙ ap length (part_is r.0 f.1 f.3) ∙ f.4.whole

  -- the pixel that is read
  pub pixel_is : (number : ℕ) (r : Round) (f : Frame) → 0 < area size → slice_get rounds (number / area size) ≡ Some r → slice_get r.frames.items input ≡ Some f → get_or (stream (rounds_of rounds) input) number 0 ≡ get_or f.samples (number % area size) 0
  pixel_is number r f some e g =
      ap (λ n. get_or (stream (rounds_of rounds) input) n 0) (sym (div-add-mod' number (area size)))
      ∙ flat_at part (area size) (rounds_of rounds) long (number / area size) (number % area size) (samples_of r) (mod-lt number some) (at_rounds rounds (number / area size) r e)
      ∙ ap (λ z. get_or z (number % area size) 0) (part_is r f g)

  pub pixel_past : (number : ℕ) → slice_get rounds (number / area size) ≡ None → get_or (stream (rounds_of rounds) input) number 0 ≡ 0
  pixel_past number e =
      ap (λ n. get_or (stream (rounds_of rounds) input) n 0) (sym (div-add-mod' number (area size)))
      ∙ flat_past part (area size) (rounds_of rounds) long (number / area size) (number % area size) (past_rounds rounds (number / area size) e)

-- the same at a number of pixels that is the area
pub pixel_read : (widths : List ℕ) (size : Size) (rounds : List Round) → AreBenchFrames widths size rounds → (input : ℕ) → input < length widths → (A number : ℕ) → A ≡ area size → 0 < A → (r : Round) (f : Frame) → slice_get rounds (number / A) ≡ Some r → slice_get r.frames.items input ≡ Some f → get_or f.samples (number % A) 0 ≡ get_or (stream (rounds_of rounds) input) number 0
pixel_read widths size rounds frames input within A number e some r f there at =
    sym (subst (λ a. 0 < a → slice_get rounds (number / a) ≡ Some r → get_or (stream (rounds_of rounds) input) number 0 ≡ get_or f.samples (number % a) 0) (sym e) (λ s t. pixel_is widths size rounds frames input within number r f s t at) some there)

pub pixel_none : (widths : List ℕ) (size : Size) (rounds : List Round) → AreBenchFrames widths size rounds → (input : ℕ) → input < length widths → (A number : ℕ) → A ≡ area size → slice_get rounds (number / A) ≡ None → 0 ≡ get_or (stream (rounds_of rounds) input) number 0
pixel_none widths size rounds frames input within A number e past =
    sym (pixel_past widths size rounds frames input within number (subst (λ a. slice_get rounds (number / a) ≡ None) e past))

pub frame_within : (widths : List ℕ) (size : Size) (rounds : List Round) → AreBenchFrames widths size rounds → (input : ℕ) → input < length widths → (q : ℕ) (r : Round) → slice_get rounds q ≡ Some r → input < length r.frames.items
frame_within widths size rounds frames input within q r there =
    let f = frame_at widths size r.frames.items (All-at (IsBenchRound widths size) rounds q r frames.each there) input within in
    slice_get_within r.frames.items input f.1 f.3

pub frame_whole : (widths : List ℕ) (size : Size) (rounds : List Round) → AreBenchFrames widths size rounds → (input : ℕ) → input < length widths → (q : ℕ) (r : Round) (f : Frame) → slice_get rounds q ≡ Some r → slice_get r.frames.items input ≡ Some f → length f.samples ≡ area size
frame_whole widths size rounds frames input within q r f there at =
    let g = frame_at widths size r.frames.items (All-at (IsBenchRound widths size) rounds q r frames.each there) input within in
    ap (λ z. length z.samples) (at_one r.frames.items input f g.1 at g.3) ∙ g.4.whole

-- Where the reading of a file ends.
use Rattle.std.proofs.Common.{◌≡◌, ◌∙◌, sym, ap, refl, subst, [], ◌∷◌, ◌++◌, List, ℕ, zero, suc, ◌+◌, ◌-◌, ◌*◌, ◌^◌, ◌<◌, ◌≤◌, arith, length, map, append-nil, length-append}
use Rattle.std.specs.List.{All, AllByRecursion, AllZip}
use Rattle.std.proofs.lemmas.List.{length-map}
use Rattle.std.proofs.Math.Pow.{pow_pos}
use Rattle.dk_base.specs.Frames.{Size}
use Rattle.dk_frames.specs.declared.frame.Frame.{Frame}
use Rattle.pgm_codec.specs.Images.{Image, AreImages}
use Rattle.pgm_codec.specs.Rounds.{FitsInputs}
use Rattle.pgm_rounds.specs.declared.round.Round.{Round}
use Rattle.pgm_rounds.specs.Ports.{Ports}
use Rattle.pgm_rounds.specs.Files.{joined, FitsFile, Taken, EndsInRound, IsTooMany, IsPortFrame, IsPortRound, frame_of, frames_of}
use Rattle.pgm_rounds.specs.Standing.{Stands}

nothing : {X : Type 0} (xs : List X) → length xs ≡ 0 → xs ≡ []
nothing [] e = refl
nothing (x ∷ xs) e = absurd (omega arith)

module _ (ports : Ports) (bytes : List ℕ) (read : List (List Frame)) (begun : List Frame) (number offset : ℕ) (s : Stands ports bytes read begun number offset) where
  lengths : length bytes ≡ offset + length s.rest
  lengths = omega (arith, s.offset_is, ap length s.taken.parts, length-append s.front s.rest)

  nothing_behind : offset ≡ length bytes → s.rest ≡ []
  nothing_behind e = nothing s.rest (omega (arith, e, lengths))

  all_bytes : offset ≡ length bytes → s.front ≡ bytes
  all_bytes e = sym (append-nil s.front) ∙ ap (λ x. s.front ++ x) (sym (nothing_behind e)) ∙ sym s.taken.parts

  taken_all : offset ≡ length bytes → Taken ports bytes s.rounds s.further bytes []
  taken_all e = subst (λ x. Taken ports bytes s.rounds s.further bytes x) (nothing_behind e) (subst (λ x. Taken ports bytes s.rounds s.further x s.rest) (all_bytes e) s.taken)

  begun_count : length begun ≡ length s.further
  begun_count = ap length s.begun_is ∙ length-map s.further frame_of

  pub ends_in_round : offset ≡ length bytes → number ≤ 65536 → 0 < length begun → EndsInRound ports bytes (length begun)
  ends_in_round e few some = record {
    rounds = s.rounds;
    further = s.further;
    taken = taken_all e;
    few = omega (arith, few, s.number_is);
    some = omega (arith, some, begun_count);
    held_is = begun_count;
  }

  pub too_many : number ≡ 65536 → offset < length bytes → IsTooMany ports bytes
  too_many full more = record {
    rounds = s.rounds;
    further = s.further;
    front = s.front;
    rest = s.rest;
    taken = s.taken;
    full = sym s.number_is ∙ full;
    more = omega (arith, more, lengths);
  }

  pub whole_file : offset ≡ length bytes → 0 < number → number ≤ 65536 → begun ≡ [] → FitsFile ports bytes s.rounds
  whole_file e some few none =
      let closed : s.further ≡ [] = nothing s.further (omega (arith, begun_count, ap length none)) in
      let all : joined s.rounds ++ s.further ≡ joined s.rounds = ap (λ x. joined s.rounds ++ x) closed ∙ append-nil (joined s.rounds) in
      record {
        images = joined s.rounds;
        file = (omega (arith, some, s.number_is, ap length all), omega (arith, few, s.number_is, ap length all), subst (λ x. AreImages bytes x) all (taken_all e).images);
        fits = record { joined = refl; fit = s.taken.whole };
      }

-- what each image of a file is
record IsSound (q : Image) : Type 0 where
  count : length q.samples ≡ q.width * q.height
  bounded : AllByRecursion (λ sample. sample ≤ q.maxval) q.samples

all_sound : (bytes : List ℕ) (ps : List Image) → AreImages bytes ps → AllByRecursion IsSound ps
all_sound bytes [] a = tt
all_sound bytes (p ∷ ps) a = (record { count = a.3.holds.count; bounded = a.3.holds.bounded }, all_sound a.1 ps a.4)

front_of : {X : Type 0} (P : X → Type 0) (xs ys : List X) → AllByRecursion P (xs ++ ys) → AllByRecursion P xs
front_of P [] ys a = tt
front_of P (x ∷ xs) ys a = (a.0, front_of P xs ys a.1)

back_of : {X : Type 0} (P : X → Type 0) (xs ys : List X) → AllByRecursion P (xs ++ ys) → AllByRecursion P ys
back_of P [] ys a = a
back_of P (x ∷ xs) ys a = back_of P xs ys a.1

below_all : (m n : ℕ) (samples : List ℕ) → AllByRecursion (λ s. s ≤ m) samples → m < n → All (λ s. s < n) samples
below_all m n [] a l k d lt = absurd (omega arith)
below_all m n (s ∷ samples) a l zero d lt = omega (arith, a.0, l)
below_all m n (s ∷ samples) a l (suc k) d lt = below_all m n samples a.1 l k d (omega arith)

port_frame : (size : Size) (bits : ℕ) (q : Image) → q.width ≡ size.width → q.height ≡ size.height → q.maxval ≤ 2 ^ bits - 1 → IsSound q → IsPortFrame size bits (frame_of q)
port_frame size bits q w h m s = record {
  width = w;
  height = h;
  whole = s.count ∙ ap (λ x. x * q.height) w ∙ ap (λ x. size.width * x) h;
  values = below_all q.maxval (2 ^ bits) q.samples s.bounded (let some : 0 < 2 ^ bits = pow_pos bits in omega (arith, m, some));
}

port_round : (size : Size) (inputs : List ℕ) (round : List Image) → FitsInputs size.width size.height inputs round → AllByRecursion IsSound round → AllZip (IsPortFrame size) inputs (map frame_of round)
port_round size [] [] fits sound = tt
port_round size [] (q ∷ round) fits sound = absurd fits
port_round size (b ∷ bs) [] fits sound = absurd fits
port_round size (b ∷ bs) (q ∷ round) fits sound = (port_frame size b q fits.0 fits.1 fits.2 sound.0, port_round size bs round fits.3 sound.1)

abbrev first_frames : List (List Frame) → List Frame
first_frames [] = []
first_frames (f ∷ fs) = f

abbrev other_frames : List (List Frame) → List (List Frame)
other_frames [] = []
other_frames (f ∷ fs) = fs

each_round : (ports : Ports) (rs : List Round) (rounds : List (List Image)) → frames_of rs ≡ map (map frame_of) rounds → AllByRecursion (FitsInputs ports.size.width ports.size.height ports.inputs) rounds → AllByRecursion IsSound (joined rounds) → All (IsPortRound ports) rs
each_round ports [] rounds e fits sound k d lt = absurd (omega arith)
each_round ports (r ∷ rs) [] e fits sound k d lt = absurd (omega (arith, ap length e))
each_round ports (r ∷ rs) (round ∷ rounds) e fits sound zero d lt =
    subst (λ fs. AllZip (IsPortFrame ports.size) ports.inputs fs) (sym (ap (λ x. first_frames x) e)) (port_round ports.size ports.inputs round fits.0 (front_of IsSound round (joined rounds) sound))
each_round ports (r ∷ rs) (round ∷ rounds) e fits sound (suc k) d lt = each_round ports rs rounds (ap (λ x. other_frames x) e) fits.1 (back_of IsSound round (joined rounds) sound) k d (omega arith)

pub port_rounds : (ports : Ports) (bytes : List ℕ) (rs : List Round) (rounds : List (List Image)) → frames_of rs ≡ map (map frame_of) rounds → FitsFile ports bytes rounds → All (IsPortRound ports) rs
port_rounds ports bytes rs rounds e f = each_round ports rs rounds e f.fits.fit (subst (λ x. AllByRecursion IsSound x) f.fits.joined (all_sound bytes f.images f.file.2))

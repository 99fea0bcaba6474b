-- How the reading of a file goes on by one image.
use Rattle.std.proofs.Common.{◌≡◌, ◌∙◌, sym, ap, refl, subst, [], ◌∷◌, ◌++◌, List, ℕ, zero, suc, ◌+◌, ◌-◌, ◌^◌, ◌<◌, ◌≤◌, arith, length, map, take, drop, append_assoc, append-nil, length-append, Some, slice_get, slice_index, inl, inr}
use Rattle.std.specs.List.{AllByRecursion}
use Rattle.std.proofs.Math.Seq.{drop-append_seam}
use Rattle.std.proofs.lemmas.List.{length-map, map-append, take_all}
use Rattle.std.proofs.lemmas.Grind.{flat_map-append}
use Rattle.std.proofs.lemmas.Bool.{cases_lt}
use Rattle.pgm_codec.specs.Images.{Image, IsImageOf, AreImages}
use Rattle.pgm_codec.specs.Rounds.{FitsInputs}
use Rattle.dk_frames.specs.declared.frame.Frame.{Frame}
use Rattle.pgm_rounds.specs.declared.fault.FileFault.{FileFault}
use Rattle.pgm_rounds.specs.declared.fault.FileFault.TheVariants.{Magic, LongHeader, Number, Range, Size as WrongSize, Maxval, SampleTooGreat, Short, Count, Round as OpenRound}
use Rattle.pgm_rounds.specs.declared.fault.FileError.{FileError}
use Rattle.pgm_rounds.specs.declared.fault.FileError.TheVariants as error
use Rattle.pgm_rounds.specs.declared.round.Round.{Round}
use Rattle.pgm_rounds.specs.Ports.{Ports}
use Rattle.pgm_rounds.specs.Files.{joined, Refused, IsRefused, IsFault, IsError, frame_of, frames_of}
use Rattle.pgm_rounds.specs.Standing.{IsNext, IsRefusal, Stands}
use Rattle.pgm_rounds.proofs.Places.{FitsOne}

none_begun : (w h : ℕ) (inputs : List ℕ) → FitsInputs w h (take 0 inputs) []
none_begun w h [] = tt
none_begun w h (b ∷ bs) = tt

pub start : (ports : Ports) (bytes : List ℕ) → 0 < length ports.inputs → Stands ports bytes [] [] 0 0
start ports bytes some = record {
  rounds = [];
  further = [];
  front = [];
  rest = bytes;
  taken = record { parts = refl; images = refl; whole = tt; begun = none_begun ports.size.width ports.size.height ports.inputs; room = some };
  number_is = refl;
  offset_is = refl;
  read_is = refl;
  begun_is = refl;
}

module _ (ports : Ports) (bytes : List ℕ) (read : List (List Frame)) (begun : List Frame) (number offset : ℕ) (s : Stands ports bytes read begun number offset) where
  pub offset_within : offset ≤ length bytes
  offset_within = omega (arith, s.offset_is, ap length s.taken.parts, length-append s.front s.rest)

  pub behind_is : drop offset bytes ≡ s.rest
  behind_is = ap (λ n. drop n bytes) s.offset_is ∙ ap (λ x. drop (length s.front) x) s.taken.parts ∙ drop-append_seam s.front s.rest

  begun_length : length begun ≡ length s.further
  begun_length = ap length s.begun_is ∙ length-map s.further frame_of

  pub begun_room : length begun < length ports.inputs
  begun_room = omega (arith, begun_length, s.taken.room)

  -- a refusal of the next image is the file's fault
  is_fault : (f : FileFault) (bits : ℕ) → IsRefused ports bytes f → Refused ports.size bits number offset (drop offset bytes) f → IsFault ports bytes f
  is_fault (Magic at) bits i r = i
  is_fault LongHeader bits i r = i
  is_fault (Number at) bits i r = i
  is_fault (Range at) bits i r = i
  is_fault (WrongSize width height) bits i r = i
  is_fault (Maxval maxval) bits i r = i
  is_fault (SampleTooGreat index) bits i r = i
  is_fault (Short held need) bits i r = i
  is_fault Count bits i r = absurd r
  is_fault (OpenRound held need) bits i r = absurd r

  pub is_error : (bits : ℕ) (e : FileError) → number < 65536 → (0 < number → offset < length bytes) → slice_get ports.inputs (length begun) ≡ Some bits → IsRefusal ports.size bits number offset (drop offset bytes) e → IsError ports bytes e
  is_error bits error.OutOfMemory few some input r = tt
  is_error bits (error.Fault f) few some input r = is_fault f bits (record {
    rounds = s.rounds;
    further = s.further;
    front = s.front;
    rest = s.rest;
    bits = bits;
    taken = s.taken;
    some = λ l. let behind : offset < length bytes = some (omega (arith, l, s.number_is)) in omega (arith, behind, s.offset_is, ap length s.taken.parts, length-append s.front s.rest);
    few = omega (arith, few, s.number_is);
    input = ap (λ n. slice_get ports.inputs n) (sym begun_length) ∙ input;
    refused = subst (λ n. Refused ports.size bits n (length s.front) s.rest f) s.number_is (subst (λ n. Refused ports.size bits number n s.rest f) s.offset_is (subst (λ x. Refused ports.size bits number offset x f) behind_is r));
  }) r

images_more : (front first : List ℕ) (ps : List Image) (q : Image) → AreImages front ps → IsImageOf first q → AreImages (front ++ first) (ps ++ q ∷ [])
images_more front first [] q a i = (first, [], ap (λ x. x ++ first) a ∙ sym (append-nil first), i, refl)
images_more front first (p ∷ ps) q a i = (a.0, a.1 ++ first, ap (λ x. x ++ first) a.2 ∙ append_assoc a.0 a.1 first, a.3, images_more a.1 first ps q a.4 i)

fits_more : (w h : ℕ) (inputs : List ℕ) (ps : List Image) (q : Image) (b : ℕ) → FitsInputs w h (take (length ps) inputs) ps → slice_get inputs (length ps) ≡ Some b → FitsOne w h b q → FitsInputs w h (take (suc (length ps)) inputs) (ps ++ q ∷ [])
fits_more w h [] [] q b f s o = absurd (let e : ⊥ = cc in e)
fits_more w h [] (p ∷ ps) q b f s o = absurd f
fits_more w h (n ∷ ns) [] q b f s o = let e : b ≡ n = cc in (o.width, o.height, subst (λ x. q.maxval ≤ 2 ^ x - 1) e o.maxval, none_begun w h ns)
fits_more w h (n ∷ ns) (p ∷ ps) q b f s o = (f.0, f.1, f.2, fits_more w h ns ps q b f.3 s o)

all_more : {X : Type 0} (P : X → Type 0) (xs : List X) (x : X) → AllByRecursion P xs → P x → AllByRecursion P (xs ++ x ∷ [])
all_more P [] x a p = (p, tt)
all_more P (y ∷ ys) x a p = (a.0, all_more P ys x a.1 p)

length_more : (ps : List Image) (q : Image) → length (ps ++ q ∷ []) ≡ suc (length ps)
length_more ps q = omega (arith, length-append ps (q ∷ []))

joined_more : (rounds : List (List Image)) (further : List Image) → joined (rounds ++ further ∷ []) ++ [] ≡ joined rounds ++ further
joined_more rounds further =
    append-nil (joined (rounds ++ further ∷ [])) ∙ flat_map-append (λ (r : List Image). r) rounds (further ∷ []) ∙ ap (λ x. joined rounds ++ x) (append-nil further)

module _ (ports : Ports) (bytes : List ℕ) (read : List (List Frame)) (begun : List Frame) (number offset : ℕ) (s : Stands ports bytes read begun number offset)
    (bits len : ℕ) (frame : Frame) (input : slice_get ports.inputs (length begun) ≡ Some bits) (n : IsNext ports.size bits (drop offset bytes) len frame) where
  parts_more : bytes ≡ (s.front ++ n.first) ++ n.rest
  parts_more = s.taken.parts ∙ ap (λ x. s.front ++ x) (sym (behind_is ports bytes read begun number offset s) ∙ n.parts) ∙ sym (append_assoc s.front n.first n.rest)

  taken_more : AreImages (s.front ++ n.first) (joined s.rounds ++ (s.further ++ n.image ∷ []))
  taken_more = subst (λ x. AreImages (s.front ++ n.first) x) (append_assoc (joined s.rounds) s.further (n.image ∷ [])) (images_more s.front n.first (joined s.rounds ++ s.further) n.image s.taken.images n.is)

  next_fits : FitsOne ports.size.width ports.size.height bits n.image
  next_fits = record { width = n.width; height = n.height; maxval = n.maxval }

  begun_more : FitsInputs ports.size.width ports.size.height (take (suc (length s.further)) ports.inputs) (s.further ++ n.image ∷ [])
  begun_more =
      fits_more ports.size.width ports.size.height ports.inputs s.further n.image bits s.taken.begun (ap (λ k. slice_get ports.inputs k) (sym (begun_length ports bytes read begun number offset s)) ∙ input) next_fits

  frames_more : begun ++ frame ∷ [] ≡ map frame_of (s.further ++ n.image ∷ [])
  frames_more = ap (λ x. x ++ frame ∷ []) s.begun_is ∙ ap (λ x. map frame_of s.further ++ x ∷ []) n.frame_is ∙ sym (map-append frame_of s.further (n.image ∷ []))

  number_more : number + 1 ≡ length (joined s.rounds ++ (s.further ++ n.image ∷ []))
  number_more = omega (arith, s.number_is, length-append (joined s.rounds) s.further, length-append (joined s.rounds) (s.further ++ n.image ∷ []), length_more s.further n.image)

  offset_more : offset + len ≡ length (s.front ++ n.first)
  offset_more = omega (arith, s.offset_is, n.length_is, length-append s.front n.first)

  pub offset_fits : offset + len ≤ length bytes
  offset_fits = omega (arith, offset_more, ap length parts_more, length-append (s.front ++ n.first) n.rest)

  -- the round goes on
  pub goes_on : length begun + 1 < length ports.inputs → Stands ports bytes read (begun ++ frame ∷ []) (number + 1) (offset + len)
  goes_on l = record {
    rounds = s.rounds;
    further = s.further ++ n.image ∷ [];
    front = s.front ++ n.first;
    rest = n.rest;
    taken = record {
      parts = parts_more;
      images = taken_more;
      whole = s.taken.whole;
      begun = subst (λ k. FitsInputs ports.size.width ports.size.height (take k ports.inputs) (s.further ++ n.image ∷ [])) (sym (length_more s.further n.image)) begun_more;
      room = omega (arith, l, begun_length ports bytes read begun number offset s, length_more s.further n.image);
    };
    number_is = number_more;
    offset_is = offset_more;
    read_is = s.read_is;
    begun_is = frames_more;
  }

  -- the round is whole
  pub is_whole : length begun + 1 ≡ length ports.inputs → Stands ports bytes (read ++ (begun ++ frame ∷ []) ∷ []) [] (number + 1) (offset + len)
  is_whole l =
      let round = s.further ++ n.image ∷ [] in
      let all : take (suc (length s.further)) ports.inputs ≡ ports.inputs = take_all (suc (length s.further)) ports.inputs (omega (arith, l, begun_length ports bytes read begun number offset s)) in
      record {
        rounds = s.rounds ++ round ∷ [];
        further = [];
        front = s.front ++ n.first;
        rest = n.rest;
        taken = record {
          parts = parts_more;
          images = subst (λ x. AreImages (s.front ++ n.first) x) (sym (joined_more s.rounds round)) taken_more;
          whole = all_more (FitsInputs ports.size.width ports.size.height ports.inputs) s.rounds round s.taken.whole (subst (λ x. FitsInputs ports.size.width ports.size.height x round) all begun_more);
          begun = none_begun ports.size.width ports.size.height ports.inputs;
          room = omega (arith, l);
        };
        number_is = number_more ∙ ap length (sym (joined_more s.rounds round));
        offset_is = offset_more;
        read_is = ap (λ x. x ++ (begun ++ frame ∷ []) ∷ []) s.read_is ∙ ap (λ x. map (map frame_of) s.rounds ++ x ∷ []) frames_more ∙ sym (map-append (map frame_of) s.rounds (round ∷ []));
        begun_is = refl;
      }

-- the bits of the input at a place
input_at : (xs : List ℕ) (k : ℕ) → k < length xs → slice_get xs k ≡ Some (slice_index xs k)
input_at [] k l = absurd (omega arith)
input_at (y ∷ ys) zero l = refl
input_at (y ∷ ys) (suc k) l = input_at ys k (omega arith)

module _ (ports : Ports) (bytes : List ℕ) (read : List (List Frame)) (begun : List Frame) (number offset : ℕ) (s : Stands ports bytes read begun number offset)
    (k : ℕ) (at : k ≡ length begun) (width : ℕ) (width_is : width ≡ slice_index ports.inputs k) (rest : List ℕ) (rest_is : rest ≡ drop offset bytes) where
  given : slice_get ports.inputs (length begun) ≡ Some width
  given = ap (λ n. slice_get ports.inputs n) (sym at) ∙ input_at ports.inputs k (omega (arith, at, begun_room ports bytes read begun number offset s)) ∙ ap (λ x. Some x) (sym width_is)

  pub error_next : (e : FileError) → number < 65536 → (0 < number → offset < length bytes) → IsRefusal ports.size width number offset rest e → IsError ports bytes e
  error_next e few some r = is_error ports bytes read begun number offset s width e few some given (subst (λ x. IsRefusal ports.size width number offset x e) rest_is r)

  module _ (len : ℕ) (frame : Frame) (n : IsNext ports.size width rest len frame) where
    next_here : IsNext ports.size width (drop offset bytes) len frame
    next_here = subst (λ x. IsNext ports.size width x len frame) rest_is n

    pub length_fits : offset + len ≤ length bytes
    length_fits = offset_fits ports bytes read begun number offset s width len frame given next_here

    moved : (read new : List (List Frame)) (begun other : List Frame) (m n a b : ℕ) → new ≡ read → other ≡ begun → m ≡ n → a ≡ b → Stands ports bytes read begun n b → Stands ports bytes new other m a
    moved read new begun other m n a b d e f g x =
        subst (λ t. Stands ports bytes new other m t) (sym g) (subst (λ t. Stands ports bytes new other t b) (sym f)
        (subst (λ t. Stands ports bytes new t n b) (sym e) (subst (λ t. Stands ports bytes t begun n b) (sym d) x)))

    pub stands_next : (new : List (List Frame)) (other : List Frame) (images place : ℕ) → images ≡ number + 1 → place ≡ offset + len
        → (length begun + 1 < length ports.inputs → other ≡ begun ++ frame ∷ []) → (length begun + 1 < length ports.inputs → new ≡ read)
        → (length begun + 1 ≡ length ports.inputs → other ≡ []) → (length begun + 1 ≡ length ports.inputs → new ≡ read ++ (begun ++ frame ∷ []) ∷ []) → Stands ports bytes new other images place
    stands_next new other images place a b more_begun kept fresh whole = elim (cases_lt (length begun + 1) (length ports.inputs)) [
      | inl l ↦ moved read new (begun ++ frame ∷ []) other images (number + 1) place (offset + len) (kept l) (more_begun l) a b (goes_on ports bytes read begun number offset s width len frame given next_here l)
      | inr l ↦
          let all : length begun + 1 ≡ length ports.inputs = omega (arith, l, begun_room ports bytes read begun number offset s) in
          moved (read ++ (begun ++ frame ∷ []) ∷ []) new [] other images (number + 1) place (offset + len) (whole all) (fresh all) a b
          (is_whole ports bytes read begun number offset s width len frame given next_here all)
    ]

pub starts : (ports : Ports) (bytes : List ℕ) (rounds : List Round) (frames : List Frame) (images offset : ℕ) → 0 < length ports.inputs → rounds ≡ [] → frames ≡ [] → images ≡ 0 → offset ≡ 0 → Stands ports bytes (frames_of rounds) frames images offset
starts ports bytes rounds frames images offset some a b c d =
    subst (λ t. Stands ports bytes (frames_of rounds) frames images t) (sym d) (subst (λ t. Stands ports bytes (frames_of rounds) frames t 0) (sym c)
    (subst (λ t. Stands ports bytes (frames_of rounds) t 0 0) (sym b) (subst (λ (t : List Round). Stands ports bytes (frames_of t) [] 0 0) (sym a) (start ports bytes some))))

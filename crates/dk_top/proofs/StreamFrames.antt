-- The samples of a stream as frames, with zeros where the last one has none.
use Rattle.std.proofs.Common.{◌≡◌, ℕ, zero, suc, ◌+◌, ◌-◌, ◌*◌, ◌/◌, ◌%◌, ◌^◌, ◌<◌, ◌≤◌, List, [], ◌∷◌, ◌++◌, length, map, take, drop, replicate, slice_index, refl, sym, ap, ◌∙◌, subst, arith, zero-mul, suc-mul, take-add, drop-drop, take_all, length-append, length-drop}
use Rattle.std.specs.List.{flat_map, range_with_len, AllByRecursion}
use Rattle.std.proofs.lemmas.List.{length-replicate, length-take-le}
use Rattle.std.proofs.lemmas.Nat.{pow_pos, div-add-mod'}
use Rattle.std.proofs.Math.Nat.{mod-lt, mul-le-mul_right}
use Rattle.dk_base.specs.Frames.{Size, area}
use Rattle.stimulus.specs.Stimulus.{stream}
use Rattle.dk_top.specs.Streaming.{frame_count, padded, padded_frames}
use Rattle.dk_top.proofs.RoundLemmas.{pieces_of_map}
use Rattle.dk_top.proofs.DriveRounds.{IsSampled, AreSampled, AreZeros, all_append, zeros_behind}

-- a round of one input for each frame
abbrev pub rounds_of_one : List (List ℕ) → List (List (List ℕ))
rounds_of_one frames = map (λ f. f ∷ []) frames

-- there is a place for each sample
pub frames_enough : (a count : ℕ) → 0 < a → count ≤ (count + a - 1) / a * a
frames_enough a count some =
    let n = count + a - 1 in
    let parts : n / a * a + n % a ≡ n = div-add-mod' n a in
    let low : n % a < a = mod-lt n some in
    omega (arith, some, parts, low)

padded_length : (size : Size) (samples : List ℕ) → 0 < area size → length (padded size samples) ≡ frame_count size (length samples) * area size
padded_length size samples some =
    let all = frame_count size (length samples) * area size in
    let enough = frames_enough (area size) (length samples) some in
    let e : length samples + (all - length samples) ≡ all = omega (arith, enough) in
    length-append samples (replicate (all - length samples) 0) ∙ ap (λ n. length samples + n) (length-replicate (all - length samples) 0) ∙ e

-- pieces of one length, one after another
pieces_join : (ys : List ℕ) (A n a : ℕ) → flat_map (λ r. take A (drop (r * A) ys)) (range_with_len a n) ≡ take (n * A) (drop (a * A) ys)
pieces_join ys A zero a = ap (λ k. take k (drop (a * A) ys)) (sym (zero-mul A))
pieces_join ys A (suc n) a =
    let next : a * A + A ≡ (a + 1) * A = sym (suc-mul a A) ∙ ap (λ k. k * A) (let e : suc a ≡ a + 1 = omega arith in e) in
    let all : A + n * A ≡ suc n * A = (let e : A + n * A ≡ n * A + A = omega arith in e) ∙ sym (suc-mul n A) in
    ap (λ zs. take A (drop (a * A) ys) ++ zs) (pieces_join ys A n (a + 1) ∙ ap (take (n * A)) (ap (λ k. drop k ys) (sym next) ∙ sym (drop-drop A (a * A) ys)))
    ∙ sym (take-add A (n * A) (drop (a * A) ys)) ∙ ap (λ k. take k (drop (a * A) ys)) all

pub frames_join : (size : Size) (samples : List ℕ) → 0 < area size → flat_map (λ f. f) (padded_frames size samples) ≡ padded size samples
frames_join size samples some =
    let ys = padded size samples in
    let n = frame_count size (length samples) in
    pieces_of_map (λ (f : List ℕ). f) (λ r. take (area size) (drop (r * area size) ys)) (range_with_len 0 n) ∙ pieces_join ys (area size) n 0
    ∙ ap (λ k. take (n * area size) (drop k ys)) (zero-mul (area size)) ∙ take_all (n * area size) ys (let e = padded_length size samples some in omega (arith, e))

-- what holds of each number's item
each_number : {A : Type 0} (P : A → Type 0) (G : ℕ → A) (a n : ℕ) → ((k : ℕ) → k < n → P (G (a + k))) → AllByRecursion P (map G (range_with_len a n))
each_number P G a zero h = tt
each_number P G a (suc n) h = (
  subst (λ k. P (G k)) (let e : a + 0 ≡ a = omega arith in e) (h 0 (omega arith)),
  each_number P G (a + 1) n (λ k lt. subst (λ j. P (G j)) (let e : a + suc k ≡ a + 1 + k = omega arith in e) (h (suc k) (omega (arith, lt)))),
)

all_take : {A : Type 0} (P : A → Type 0) (n : ℕ) (xs : List A) → AllByRecursion P xs → AllByRecursion P (take n xs)
all_take P zero xs h = tt
all_take P (suc n) [] h = tt
all_take P (suc n) (x ∷ xs) h = (h.0, all_take P n xs h.1)

all_drop : {A : Type 0} (P : A → Type 0) (n : ℕ) (xs : List A) → AllByRecursion P xs → AllByRecursion P (drop n xs)
all_drop P zero xs h = h
all_drop P (suc n) [] h = tt
all_drop P (suc n) (x ∷ xs) h = all_drop P n xs h.1

zeros_below : (b n : ℕ) → 0 < b → AllByRecursion (λ s. s < b) (replicate n 0)
zeros_below b zero some = tt
zeros_below b (suc n) some = (some, zeros_below b n some)

zeros_are : (n : ℕ) → AreZeros (replicate n 0)
zeros_are zero = tt
zeros_are (suc n) = (refl, zeros_are n)

pub frames_sampled : (size : Size) (bits : ℕ) (samples : List ℕ) → 0 < area size → AllByRecursion (λ s. s < 2 ^ bits) samples → AllByRecursion (IsSampled size bits) (padded_frames size samples)
frames_sampled size bits samples some low =
    let A = area size in
    let ys = padded size samples in
    let n = frame_count size (length samples) in
    let all : AllByRecursion (λ s. s < 2 ^ bits) ys = all_append (λ s. s < 2 ^ bits) samples (replicate (n * A - length samples) 0) low (zeros_below (2 ^ bits) (n * A - length samples) (pow_pos bits)) in
    each_number (IsSampled size bits) (λ r. take A (drop (r * A) ys)) 0 n (λ k lt.
    let r = 0 + k in
    let fits : suc r * A ≤ n * A = mul-le-mul_right A (let e : suc r ≤ n = omega (arith, lt) in e) in
    let more = suc-mul r A in
    let rest = length-drop (r * A) ys in
    let whole = padded_length size samples some in
    record {
      whole = length-take-le A (drop (r * A) ys) (omega (arith, fits, more, rest, whole));
      values = all_take (λ s. s < 2 ^ bits) A (drop (r * A) ys) (all_drop (λ s. s < 2 ^ bits) (r * A) ys all);
    })

pub ones_sampled : (size : Size) (bits : ℕ) (frames : List (List ℕ)) → AllByRecursion (IsSampled size bits) frames → AreSampled size (bits ∷ []) (rounds_of_one frames)
ones_sampled size bits [] h = tt
ones_sampled size bits (f ∷ fs) h = ((h.0, tt), ones_sampled size bits fs h.1)

-- the stream of the frames is that of the samples, as far as it goes
ones_stream : (frames : List (List ℕ)) → stream (rounds_of_one frames) 0 ≡ flat_map (λ f. f) frames
ones_stream [] = refl
ones_stream (f ∷ fs) = ap (λ xs. f ++ xs) (ones_stream fs)

pub stream_sample : (size : Size) (samples : List ℕ) → 0 < area size → (q : ℕ) → slice_index (stream (rounds_of_one (padded_frames size samples)) 0) q ≡ slice_index samples q
stream_sample size samples some q =
    let more = frame_count size (length samples) * area size - length samples in
    ap (λ xs. slice_index xs q) (ones_stream (padded_frames size samples) ∙ frames_join size samples some) ∙ zeros_behind samples (replicate more 0) (zeros_are more) q

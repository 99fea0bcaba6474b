-- Samples and their bytes.
use Rattle.std.proofs.Common.{◌≡◌, ◌∙◌, ap, refl, [], ◌∷◌, ◌++◌, List, ℕ, zero, suc, ◌+◌, ◌*◌, ◌/◌, ◌%◌, ◌<◌, ◌≤◌, Bool, true, false, arith, length, take, drop, get_or}
use Rattle.std.proofs.lemmas.List.{get_or-drop}
use Rattle.std.specs.List.{flat_map, AllByRecursion}
use Rattle.pgm_codec.specs.Images.{size_of, spelled}
use Rattle.pgm_codec.specs.Rasters.{sample_by}

-- each member of a list of bytes is one
abbrev pub AreBytes : List ℕ → Type 0
AreBytes bytes = (k : ℕ) → get_or bytes k 0 < 256

-- the samples of this many in bytes
abbrev pub decoded : Bool → ℕ → List ℕ → List ℕ
decoded true zero bytes = []
decoded true (suc n) bytes = get_or bytes 0 0 ∷ decoded true n (drop 1 bytes)
decoded false zero bytes = []
decoded false (suc n) bytes = (256 * get_or bytes 0 0 + get_or bytes 1 0) ∷ decoded false n (drop 2 bytes)

pub length_decoded : (b : Bool) (n : ℕ) (bytes : List ℕ) → length (decoded b n bytes) ≡ n
length_decoded true zero bytes = refl
length_decoded true (suc n) bytes = ap (λ x. suc x) (length_decoded true n (drop 1 bytes))
length_decoded false zero bytes = refl
length_decoded false (suc n) bytes = ap (λ x. suc x) (length_decoded false n (drop 2 bytes))

bytes_behind : (a : ℕ) (bytes : List ℕ) → AreBytes (a ∷ bytes) → AreBytes bytes
bytes_behind a bytes are k = are (suc k)

high_of : (a c : ℕ) → c < 256 → (256 * a + c) / 256 ≡ a
high_of a c small = omega arith

low_of : (a c : ℕ) → c < 256 → (256 * a + c) % 256 ≡ c
low_of a c small = omega arith

pub value_back : (s : ℕ) → 256 * (s / 256) + s % 256 ≡ s
value_back s = omega arith

-- the bytes of these samples are the bytes that they were read from
pub spelled_again : (b : Bool) (n : ℕ) (bytes : List ℕ) → AreBytes bytes → n * size_of b ≤ length bytes → flat_map (spelled b) (decoded b n bytes) ≡ take (n * size_of b) bytes
spelled_again true zero bytes are l = ap (λ k. take k bytes) (none_of 1)
  where
    none_of : (s : ℕ) → 0 ≡ 0 * s
    none_of s = omega arith
spelled_again true (suc n) [] are l = absurd (omega arith)
spelled_again true (suc n) (a ∷ bytes) are l =
    ap (λ x. a ∷ x) (spelled_again true n bytes (bytes_behind a bytes are) (omega arith)) ∙ ap (λ k. take k (a ∷ bytes)) (one_more n)
  where
    one_more : (n : ℕ) → suc (n * 1) ≡ suc n * 1
    one_more n = omega arith
spelled_again false zero bytes are l = ap (λ k. take k bytes) (none_of 2)
  where
    none_of : (s : ℕ) → 0 ≡ 0 * s
    none_of s = omega arith
spelled_again false (suc n) [] are l = absurd (omega arith)
spelled_again false (suc n) (a ∷ []) are l = absurd (omega arith)
spelled_again false (suc n) (a ∷ c ∷ bytes) are l =
    ap (λ x. x ∷ (256 * a + c) % 256 ∷ flat_map (spelled false) (decoded false n bytes)) (high_of a c (are 1))
    ∙ ap (λ x. a ∷ x ∷ flat_map (spelled false) (decoded false n bytes)) (low_of a c (are 1))
    ∙ ap (λ x. a ∷ c ∷ x) (spelled_again false n bytes (bytes_behind c bytes (bytes_behind a (c ∷ bytes) are)) (omega arith))
    ∙ ap (λ k. take k (a ∷ c ∷ bytes)) (two_more n)
  where
    two_more : (n : ℕ) → suc (suc (n * 2)) ≡ suc n * 2
    two_more n = omega arith

-- samples by place in their bytes, whatever follows
pub sample_again : (b : Bool) (samples rest : List ℕ) (k : ℕ) → k < length samples → sample_by b (flat_map (spelled b) samples ++ rest) k ≡ get_or samples k 0
sample_again b [] rest k l = absurd (omega arith)
sample_again true (s ∷ samples) rest zero l = refl
sample_again true (s ∷ samples) rest (suc k) l = sample_again true samples rest k (omega arith)
sample_again false (s ∷ samples) rest zero l = value_back s
sample_again false (s ∷ samples) rest (suc k) l =
    let bytes = flat_map (spelled false) samples ++ rest in
    ap (λ i. 256 * get_or (s / 256 ∷ s % 256 ∷ bytes) i 0 + get_or (s / 256 ∷ s % 256 ∷ bytes) (2 * suc k + 1) 0) (even k)
    ∙ ap (λ i. 256 * get_or bytes (2 * k) 0 + get_or (s / 256 ∷ s % 256 ∷ bytes) i 0) (odd k)
    ∙ sample_again false samples rest k (omega arith)
  where
    even : (k : ℕ) → 2 * suc k ≡ suc (suc (2 * k))
    even k = omega arith

    odd : (k : ℕ) → 2 * suc k + 1 ≡ suc (suc (2 * k + 1))
    odd k = omega arith

pub length_spelled : (b : Bool) (samples : List ℕ) → length (flat_map (spelled b) samples) ≡ length samples * size_of b
length_spelled true [] = omega arith
length_spelled false [] = omega arith
length_spelled true (s ∷ samples) = let h = length_spelled true samples in omega (arith, h)
length_spelled false (s ∷ samples) = let h = length_spelled false samples in omega (arith, h)

-- what was decoded, by place
pub decoded_at : (b : Bool) (n : ℕ) (bytes : List ℕ) (k : ℕ) → k < n → get_or (decoded b n bytes) k 0 ≡ sample_by b bytes k
decoded_at b zero bytes k l = absurd (omega arith)
decoded_at true (suc n) bytes zero l = refl
decoded_at false (suc n) bytes zero l = refl
decoded_at true (suc n) bytes (suc k) l = decoded_at true n (drop 1 bytes) k (omega arith) ∙ get_or-drop 1 bytes k 0 ∙ ap (λ i. get_or bytes i 0) (one_on k)
  where
    one_on : (k : ℕ) → 1 + k ≡ suc k
    one_on k = omega arith
decoded_at false (suc n) bytes (suc k) l = decoded_at false n (drop 2 bytes) k (omega arith)
    ∙ ap (λ x. 256 * x + get_or (drop 2 bytes) (2 * k + 1) 0) (get_or-drop 2 bytes (2 * k) 0 ∙ ap (λ i. get_or bytes i 0) (even k))
    ∙ ap (λ x. 256 * get_or bytes (2 * suc k) 0 + x) (get_or-drop 2 bytes (2 * k + 1) 0 ∙ ap (λ i. get_or bytes i 0) (odd k))
  where
    even : (k : ℕ) → 2 + 2 * k ≡ 2 * suc k
    even k = omega arith

    odd : (k : ℕ) → 2 + (2 * k + 1) ≡ 2 * suc k + 1
    odd k = omega arith

-- bounds by place
pub all_bounded : (most : ℕ) (samples : List ℕ) → ((k : ℕ) → k < length samples → get_or samples k 0 ≤ most) → AllByRecursion (λ s. s ≤ most) samples
all_bounded most [] f = tt
all_bounded most (s ∷ samples) f = (f 0 (omega arith), all_bounded most samples (λ k l. f (suc k) (omega arith)))

pub bounded_at : (most : ℕ) (samples : List ℕ) → AllByRecursion (λ s. s ≤ most) samples → (k : ℕ) → get_or samples k 0 ≤ most
bounded_at most [] a k = omega arith
bounded_at most (s ∷ samples) a zero = a.0
bounded_at most (s ∷ samples) a (suc k) = bounded_at most samples a.1 k

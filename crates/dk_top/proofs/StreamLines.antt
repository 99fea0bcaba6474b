-- Lines of images one after another, and the images that they make.
use Rattle.std.proofs.Common.{◌≡◌, ℕ, zero, suc, ◌+◌, ◌*◌, ◌%◌, ◌<◌, ◌&&◌, nat_eq, nat_lt, Bool, true, false, if◌then◌else◌, List, [], ◌∷◌, ◌++◌, take, drop, refl, sym, ap, ◌∙◌, subst, arith, zero-mul, suc-mul, take-add, drop-drop}
use Rattle.std.specs.List.{flat_map, range_with_len}
use Rattle.std.proofs.lemmas.List.Concat.{flat_map-append}
use Rattle.std.proofs.lemmas.Nat.{mod-mul-add}
use Rattle.std.proofs.lemmas.Bool.{lt-ltb, ne_eqb}
use Rattle.std.proofs.Math.Nat.{mul-pos}

-- pieces by number that are the same
pub same_pieces : (F G : ℕ → List ℕ) (a n : ℕ) → ((k : ℕ) → k < n → F (a + k) ≡ G (a + k)) → flat_map F (range_with_len a n) ≡ flat_map G (range_with_len a n)
same_pieces F G a zero same = refl
same_pieces F G a (suc n) same =
    ap (λ xs. xs ++ flat_map F (range_with_len (a + 1) n)) (let e : a + 0 ≡ a = omega arith in subst (λ k. F k ≡ G k) e (same 0 (omega arith)))
    ∙ ap (λ xs. G a ++ xs) (same_pieces F G (a + 1) n (λ k lt. let e : a + suc k ≡ a + 1 + k = omega arith in subst (λ j. F j ≡ G j) e (same (suc k) (omega (arith, lt)))))

-- numbers counted from further on
pub from_further : (F : ℕ → List ℕ) (a b n : ℕ) → flat_map F (range_with_len (a + b) n) ≡ flat_map (λ k. F (a + k)) (range_with_len b n)
from_further F a b zero = refl
from_further F a b (suc n) = ap (λ xs. F (a + b) ++ xs) (ap (λ k. flat_map F (range_with_len k n)) (let e : a + b + 1 ≡ a + (b + 1) = omega arith in e) ∙ from_further F a (b + 1) n)

-- numbers in two parts
two_parts : (F : ℕ → List ℕ) (a m n : ℕ) → flat_map F (range_with_len a (m + n)) ≡ flat_map F (range_with_len a m) ++ flat_map F (range_with_len (a + m) n)
two_parts F a zero n = ap (λ k. flat_map F (range_with_len a k)) (let e : 0 + n ≡ n = omega arith in e) ∙ ap (λ k. flat_map F (range_with_len k n)) (let e : a ≡ a + 0 = omega arith in e)
two_parts F a (suc m) n =
    ap (λ k. flat_map F (range_with_len a k)) (let e : suc m + n ≡ suc (m + n) = omega arith in e)
    ∙ (ap (λ xs. F a ++ xs) (two_parts F (a + 1) m n ∙ ap (λ k. flat_map F (range_with_len (a + 1) m) ++ flat_map F (range_with_len k n)) (let e : a + 1 + m ≡ a + suc m = omega arith in e)) ∙ sym (joined (F a) (flat_map F (range_with_len (a + 1) m)) (flat_map F (range_with_len (a + suc m) n))))
  where
    joined : (xs ys zs : List ℕ) → (xs ++ ys) ++ zs ≡ xs ++ (ys ++ zs)
    joined [] ys zs = refl
    joined (x ∷ xs) ys zs = ap (λ l. x ∷ l) (joined xs ys zs)

-- this many groups of H numbers each
pub in_groups : (F : ℕ → List ℕ) (H a n : ℕ) → flat_map F (range_with_len (a * H) (n * H)) ≡ flat_map (λ r. flat_map (λ y. F (r * H + y)) (range_with_len 0 H)) (range_with_len a n)
in_groups F H a zero = ap (λ k. flat_map F (range_with_len (a * H) k)) (zero-mul H)
in_groups F H a (suc n) =
    let all : suc n * H ≡ H + n * H = suc-mul n H ∙ (let e : n * H + H ≡ H + n * H = omega arith in e) in
    let next : a * H + H ≡ (a + 1) * H = sym (suc-mul a H) ∙ ap (λ k. k * H) (let e : suc a ≡ a + 1 = omega arith in e) in
    ap (λ k. flat_map F (range_with_len (a * H) k)) all
    ∙ two_parts F (a * H) H (n * H)
    ∙ ap (λ xs. xs ++ flat_map F (range_with_len (a * H + H) (n * H))) (ap (λ k. flat_map F (range_with_len k H)) (let e : a * H ≡ a * H + 0 = omega arith in e) ∙ from_further F (a * H) 0 H)
    ∙ ap (λ xs. flat_map (λ y. F (a * H + y)) (range_with_len 0 H) ++ xs) (ap (λ k. flat_map F (range_with_len k (n * H))) next ∙ in_groups F H (a + 1) n)

-- what is made of pieces is made of their whole
made_of_pieces : (f : ℕ → List ℕ) (P : ℕ → List ℕ) (ks : List ℕ) → flat_map (λ k. flat_map f (P k)) ks ≡ flat_map f (flat_map P ks)
made_of_pieces f P [] = refl
made_of_pieces f P (k ∷ ks) = ap (λ xs. flat_map f (P k) ++ xs) (made_of_pieces f P ks) ∙ sym (flat_map-append f (P k) (flat_map P ks))

-- lines one after another are a part of the whole
lines_join : (ys : List ℕ) (W n a : ℕ) → flat_map (λ y. take W (drop ((a + y) * W) ys)) (range_with_len 0 n) ≡ take (n * W) (drop (a * W) ys)
lines_join ys W zero a = ap (λ k. take k (drop (a * W) ys)) (sym (zero-mul W))
lines_join ys W (suc n) a =
    let L : ℕ → List ℕ = λ y. take W (drop (y * W) ys) in
    let next : a * W + W ≡ (a + 1) * W = sym (suc-mul a W) ∙ ap (λ k. k * W) (let e : suc a ≡ a + 1 = omega arith in e) in
    let all : W + n * W ≡ suc n * W = (let e : W + n * W ≡ n * W + W = omega arith in e) ∙ sym (suc-mul n W) in
    ap (λ k. L k ++ flat_map (λ y. L (a + y)) (range_with_len 1 n)) (let e : a + 0 ≡ a = omega arith in e)
    ∙ ap (λ xs. L a ++ xs)
    (sym (from_further L a 1 n) ∙ (ap (λ k. flat_map L (range_with_len k n)) (let e : a + 1 ≡ a + 1 + 0 = omega arith in e) ∙ (from_further L (a + 1) 0 n ∙ (lines_join ys W n (a + 1) ∙ ap (λ k. take (n * W) (drop k ys)) (sym next)))))
    ∙ ap (λ xs. L a ++ xs) (ap (take (n * W)) (sym (drop-drop W (a * W) ys)))
    ∙ (sym (take-add W (n * W) (drop (a * W) ys)) ∙ ap (λ k. take k (drop (a * W) ys)) all)

-- images of H lines of W samples, each line being made by f, a header before each image but the first
module _ (W H : ℕ) (some : 0 < H) (head : List ℕ) (f : ℕ → List ℕ) where
  abbrev pub head_before : ℕ → List ℕ
  head_before y = if nat_eq (y % H) 0 && nat_lt 0 y then head else []

  abbrev pub line_of : List ℕ → ℕ → List ℕ
  line_of xs y = head_before y ++ flat_map f (take W (drop (y * W) xs))

  -- image r with the header before it
  abbrev pub image_of : List ℕ → ℕ → List ℕ
  image_of xs r = head_before (r * H) ++ flat_map f (take (H * W) (drop (r * H * W) xs))

  no_head : (r y : ℕ) → 0 < y → y < H → head_before (r * H + y) ≡ []
  no_head r y more low =
      let m : (r * H + y) % H ≡ y = mod-mul-add r H y low in
      ap (λ k. if nat_eq k 0 && nat_lt 0 (r * H + y) then head else []) m ∙ ap (λ b. if b && nat_lt 0 (r * H + y) then head else []) (ne_eqb y 0 (λ e. let f : ⊥ = omega (arith, e, more) in f))

  whole_image : (xs : List ℕ) (r : ℕ) → flat_map (λ y. line_of xs (r * H + y)) (range_with_len 0 H) ≡ image_of xs r
  whole_image xs r = by H some refl
    where
      by : (h : ℕ) → 0 < h → h ≡ H → flat_map (λ y. line_of xs (r * H + y)) (range_with_len 0 h) ≡ head_before (r * H) ++ flat_map f (take (h * W) (drop (r * H * W) xs))
      by zero more is = absurd (let e : ⊥ = omega (arith, more) in e)
      by (suc h) more is =
          let B : ℕ → List ℕ = λ y. flat_map f (take W (drop ((r * H + y) * W) xs)) in
          let zeroth : r * H + 0 ≡ r * H = omega arith in
          ap (λ ys. line_of xs (r * H + 0) ++ ys) (same_pieces (λ y. line_of xs (r * H + y)) B 1 h (λ k lt. ap (λ hs. hs ++ B (1 + k)) (no_head r (1 + k) (omega arith) (omega (arith, lt, is)))))
          ∙ (ap (λ hs. (hs ++ B 0) ++ flat_map B (range_with_len 1 h)) (ap head_before zeroth)
          ∙ (together (head_before (r * H)) (B 0) (flat_map B (range_with_len 1 h))
          ∙ ap (λ ys. head_before (r * H) ++ ys) (made_of_pieces f (λ y. take W (drop ((r * H + y) * W) xs)) (range_with_len 0 (suc h)) ∙ ap (flat_map f) (lines_join xs W (suc h) (r * H)))))
        where
          together : (gs bs cs : List ℕ) → (gs ++ bs) ++ cs ≡ gs ++ (bs ++ cs)
          together [] bs cs = refl
          together (x ∷ gs) bs cs = ap (λ l. x ∷ l) (together gs bs cs)

  -- all lines of n images, with a header before the first
  pub lines_are_images : (xs : List ℕ) (n : ℕ) → 0 < n → head ++ flat_map (line_of xs) (range_with_len 0 (n * H)) ≡ flat_map (λ r. head ++ flat_map f (take (H * W) (drop (r * H * W) xs))) (range_with_len 0 n)
  lines_are_images xs zero more = absurd (let e : ⊥ = omega (arith, more) in e)
  lines_are_images xs (suc n) more =
      let I : ℕ → List ℕ = λ r. flat_map f (take (H * W) (drop (r * H * W) xs)) in
      ap (λ ys. head ++ ys)
      (ap (λ k. flat_map (line_of xs) (range_with_len k (suc n * H))) (sym (zero-mul H)) ∙ (in_groups (line_of xs) H 0 (suc n) ∙ same_pieces (λ r. flat_map (λ y. line_of xs (r * H + y)) (range_with_len 0 H)) (image_of xs) 0 (suc n) (λ k lt. whole_image xs (0 + k))))
      ∙ ap (λ ys. head ++ ((if nat_eq (0 * H % H) 0 && nat_lt 0 (0 * H) then head else []) ++ I 0 ++ ys)) (same_pieces (image_of xs) (λ r. head ++ I r) 1 n (λ k lt. ap (λ hs. hs ++ I (1 + k)) (a_head (1 + k) (omega arith))))
      ∙ ap (λ k. head ++ (((if nat_eq (k % H) 0 && nat_lt 0 k then head else []) ++ I 0) ++ flat_map (λ r. head ++ I r) (range_with_len 1 n))) (zero-mul H)
      ∙ first (nat_eq (0 % H) 0) (I 0) (flat_map (λ r. head ++ I r) (range_with_len 1 n))
    where
      a_head : (r : ℕ) → 0 < r → head_before (r * H) ≡ head
      a_head r more =
          let m : (r * H) % H ≡ 0 = ap (λ k. k % H) (let e : r * H ≡ r * H + 0 = omega arith in e) ∙ mod-mul-add r H 0 some in
          ap (λ k. if nat_eq k 0 && nat_lt 0 (r * H) then head else []) m ∙ ap (λ b. if b then head else []) (lt-ltb 0 (r * H) (mul-pos more some))

      together : (xs ys zs : List ℕ) → xs ++ (ys ++ zs) ≡ (xs ++ ys) ++ zs
      together [] ys zs = refl
      together (x ∷ xs) ys zs = ap (λ l. x ∷ l) (together xs ys zs)

      first : (b : Bool) (is rest : List ℕ) → head ++ (((if b && nat_lt 0 0 then head else []) ++ is) ++ rest) ≡ (head ++ is) ++ rest
      first true is rest = together head is rest
      first false is rest = together head is rest

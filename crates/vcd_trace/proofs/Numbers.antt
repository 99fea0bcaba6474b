-- Identifiers and values, a digit at a time.
use Rattle.std.proofs.Common.{◌≡◌, ℕ, zero, suc, ◌+◌, ◌/◌, ◌%◌, ◌^◌, ◌<◌, ◌≤◌, List, [], ◌∷◌, ◌++◌, length, map, append_assoc, refl, ap, sym, ◌∙◌, arith}
use Rattle.std.specs.Prelude.{reverse}
use Rattle.std.specs.Int.Digits.{digits_of}
use Rattle.std.proofs.lemmas.Int.Digits.{digits_of_step, length-digits_of-le}
use Rattle.std.proofs.lemmas.List.{reverse-append, length-append}
use Rattle.vcd_trace.specs.Layout.{binary, id_of}

abbrev id_digits : ℕ → List ℕ
id_digits n = map (λ d. 33 + d) (reverse (digits_of 94 n))

abbrev bits : ℕ → List ℕ
bits n = map (λ d. 48 + d) (digits_of 2 n)

id_is : (n : ℕ) → 0 < n → id_of n ≡ id_digits n
id_is zero h = absurd (omega (arith, h))
id_is (suc n) h = refl

binary_is : (n : ℕ) → 0 < n → binary n ≡ bits n
binary_is zero h = absurd (omega (arith, h))
binary_is (suc n) h = refl

mapped_end : (k x : ℕ) (xs : List ℕ) → map (λ d. k + d) (xs ++ x ∷ []) ≡ map (λ d. k + d) xs ++ (k + x) ∷ []
mapped_end k x [] = refl
mapped_end k x (y ∷ ys) = ap (λ z. (k + y) ∷ z) (mapped_end k x ys)

id_more : (n : ℕ) → 0 < n → id_digits n ≡ (33 + n % 94) ∷ id_digits (n / 94)
id_more n h =
    ap (λ ds. map (λ d. 33 + d) (reverse ds)) (digits_of_step 94 n (omega arith) h)
    ∙ ap (λ ds. map (λ d. 33 + d) ds) (reverse-append (digits_of 94 (n / 94)) (n % 94 ∷ []))

bits_more : (n : ℕ) → 0 < n → bits n ≡ bits (n / 2) ++ (48 + n % 2) ∷ []
bits_more n h =
    ap (λ ds. map (λ d. 48 + d) ds) (digits_of_step 2 n (omega arith) h)
    ∙ mapped_end 48 (n % 2) (digits_of 2 (n / 2))

pub id_step : (n : ℕ) → 94 ≤ n → id_of n ≡ (33 + n % 94) ∷ id_of (n / 94)
id_step n h = id_is n (omega (arith, h)) ∙ id_more n (omega (arith, h)) ∙ ap (λ z. (33 + n % 94) ∷ z) (sym (id_is (n / 94) (omega (arith, h))))

pub id_last : (n : ℕ) → n < 94 → id_of n ≡ (33 + n) ∷ []
id_last zero h = refl
id_last (suc n) h =
    let none : suc n / 94 ≡ 0 = omega (arith, h) in
    let same : suc n % 94 ≡ suc n = omega (arith, h) in
    id_more (suc n) (omega arith) ∙ ap (λ k. (33 + suc n % 94) ∷ id_digits k) none ∙ ap (λ k. (33 + k) ∷ []) same

pub binary_step : (n : ℕ) → 2 ≤ n → binary n ≡ binary (n / 2) ++ (48 + n % 2) ∷ []
binary_step n h = binary_is n (omega (arith, h)) ∙ bits_more n (omega (arith, h)) ∙ ap (λ z. z ++ (48 + n % 2) ∷ []) (sym (binary_is (n / 2) (omega (arith, h))))

-- what is added a byte at a time
pub id_joined : (old mid new : List ℕ) (n : ℕ) → 94 ≤ n → mid ≡ old ++ (33 + n % 94) ∷ [] → new ≡ mid ++ id_of (n / 94) → new ≡ old ++ id_of n
id_joined old mid new n h first rest =
    rest ∙ ap (λ z. z ++ id_of (n / 94)) first ∙ append_assoc old ((33 + n % 94) ∷ []) (id_of (n / 94)) ∙ ap (λ z. old ++ z) (sym (id_step n h))

pub binary_joined : (old mid new : List ℕ) (n : ℕ) → 2 ≤ n → mid ≡ old ++ binary (n / 2) → new ≡ mid ++ (48 + n % 2) ∷ [] → new ≡ old ++ binary n
binary_joined old mid new n h first rest =
    rest ∙ ap (λ z. z ++ (48 + n % 2) ∷ []) first ∙ append_assoc old (binary (n / 2)) ((48 + n % 2) ∷ []) ∙ ap (λ z. old ++ z) (sym (binary_step n h))

pub id_one_more : (n : ℕ) → 94 ≤ n → length (id_of n) ≡ length (id_of (n / 94)) + 1
id_one_more n h = omega (arith, ap length (id_step n h))

pub id_one : (n : ℕ) → n < 94 → length (id_of n) ≡ 1
id_one n h = ap length (id_last n h)

pub binary_one_more : (n : ℕ) → 2 ≤ n → length (binary n) ≡ length (binary (n / 2)) + 1
binary_one_more n h = ap length (binary_step n h) ∙ length-append (binary (n / 2)) ((48 + n % 2) ∷ [])

pub length-shifted : (k : ℕ) (xs : List ℕ) → length (map (λ d. k + d) xs) ≡ length xs
length-shifted k [] = refl
length-shifted k (x ∷ xs) = ap suc (length-shifted k xs)

length-turned : (xs : List ℕ) → length (reverse xs) ≡ length xs
length-turned xs = Rattle.std.proofs.lemmas.List.length-reverse xs

-- numbers of 64 bits
pub id_short : (n : ℕ) → n < 2 ^ 64 → length (id_of n) ≤ 10
id_short zero h = omega arith
id_short (suc n) h =
    let most : length (digits_of 94 (suc n)) ≤ 10 = length-digits_of-le 94 10 (suc n) (omega arith) (omega (arith, h)) in
    omega (arith, most, length-shifted 33 (reverse (digits_of 94 (suc n))), length-turned (digits_of 94 (suc n)))

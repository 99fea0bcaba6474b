-- The digits of given numbers.
use Rattle.std.proofs.Common.{◌≡◌, ℕ, zero, suc, ◌+◌, ◌*◌, ◌/◌, ◌%◌, ◌^◌, ◌<◌, ◌≤◌, Bool, true, false, nat_lt, List, [], ◌∷◌, ◌++◌, refl, ap, ◌∙◌, arith, decimal}
use Rattle.std.specs.Prelude.{if◌then◌else◌}
use Rattle.std.proofs.lemmas.Fmt.{decimal_digit, decimal_step}
use Rattle.std.proofs.lemmas.Bool.{ltb-true, ltb-false}

-- this many digits at most, and what has this many
abbrev pub written : ℕ → ℕ → List ℕ
written zero n = []
written (suc k) n = if nat_lt n 10 then (48 + n) ∷ [] else written k (n / 10) ++ (48 + n % 10) ∷ []

abbrev pub bound : ℕ → ℕ
bound zero = 1
bound (suc k) = 10 * bound k

by_size : (k n : ℕ) (b : Bool) → nat_lt n 10 ≡ b → n < 2 ^ 64 → (10 ≤ n → decimal (n / 10) ≡ written k (n / 10)) → decimal n ≡ (if b then (48 + n) ∷ [] else written k (n / 10) ++ (48 + n % 10) ∷ [])
by_size k n true e h later = decimal_digit n (ltb-true n 10 e)
by_size k n false e h later = let l = ltb-false n 10 e in decimal_step n l h ∙ ap (λ x. x ++ ((48 + n % 10) ∷ [])) (later l)

pub decimal_written : (k n : ℕ) → n < bound (suc k) → n < 2 ^ 64 → decimal n ≡ written (suc k) n
decimal_written zero n l h = by_size zero n (nat_lt n 10) refl h (λ s. absurd (omega (arith, l, s)))
decimal_written (suc k) n l h = by_size (suc k) n (nat_lt n 10) refl h (λ s. decimal_written k (n / 10) (omega (arith, l)) (omega (arith, h)))

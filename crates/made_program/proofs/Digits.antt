-- The digits of the numbers that are in worked texts.
use Rattle.std.proofs.Common.{◌≡◌, ℕ, ◌+◌, ◌<◌, [], ◌∷◌, ◌++◌, ap, ◌∙◌, lit<, lit≤, decimal}
use Rattle.std.proofs.lemmas.Fmt.{decimal_digit, decimal_step}

pub digit : (n : ℕ) → n < 10 → decimal n ≡ (48 + n) ∷ []
digit n l = decimal_digit n l

pub thirty_five : decimal 35 ≡ 51 ∷ 53 ∷ []
thirty_five = decimal_step 35 (lit≤ tt) (lit< tt) ∙ ap (λ l. l ++ 53 ∷ []) (decimal_digit 3 (lit< tt))

pub greatest : decimal 255 ≡ 50 ∷ 53 ∷ 53 ∷ []
greatest = decimal_step 255 (lit≤ tt) (lit< tt) ∙ ap (λ l. l ++ 53 ∷ []) (decimal_step 25 (lit≤ tt) (lit< tt) ∙ ap (λ l. l ++ 53 ∷ []) (decimal_digit 2 (lit< tt)))

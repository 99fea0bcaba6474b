-- This many bits that are all 1.
use Rattle.std.proofs.Common.{◌≡◌, ℕ, zero, suc, ◌+◌, ◌-◌, ◌^◌, ◌≤◌, ap, ◌∙◌, arith}
use Rattle.std.proofs.lemmas.Nat.{pow_pos}

pub mask_of : (w half : ℕ) → 1 ≤ w → half ≡ 2 ^ (w - 1) → half - 1 + half ≡ 2 ^ w - 1
mask_of zero half some is = absurd (omega (arith, some))
mask_of (suc w) half some is =
    let less : suc w - 1 ≡ w = omega arith in
    let same : half ≡ 2 ^ w = is ∙ ap (λ n. 2 ^ n) less in
    let positive = pow_pos w in
    omega (arith, same, positive)

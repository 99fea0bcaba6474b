-- Samples of one byte and of two.
use Rattle.std.proofs.Common.{◌≡◌, ℕ, ◌<◌, ◌≤◌, true, false, arith}
use Rattle.std.proofs.lemmas.Bool.Decides.{nat_tests}
use Rattle.pgm_codec.specs.Images.{is_narrow}

pub narrow : (m : ℕ) → m < 256 → is_narrow m ≡ true
narrow m h = grind (arith, nat_tests)

pub wide : (m : ℕ) → 256 ≤ m → is_narrow m ≡ false
wide m h = grind (arith, nat_tests)

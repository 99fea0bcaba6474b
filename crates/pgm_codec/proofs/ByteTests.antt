-- The tests of bytes exclude one another.
use Rattle.std.proofs.Common.{◌≡◌, ℕ, ◌+◌, ◌-◌, ◌*◌, true, false, arith, ◌<◌}
use Rattle.std.proofs.lemmas.Bool.Decides.{nat_tests}
use Rattle.std.specs.Prelude.{nat_eq}
use Rattle.dk_base.specs.Ascii.{is_white, is_digit}
use Rattle.pgm_codec.specs.Headers.{capped}
use Rattle.pgm_codec.specs.Automaton.{digit_after}

pub digit_not_white : (b : ℕ) → is_digit b ≡ true → is_white b ≡ false
digit_not_white b d = grind (arith, nat_tests)

pub digit_not_hash : (b : ℕ) → is_digit b ≡ true → nat_eq b 35 ≡ false
digit_not_hash b d = grind (arith, nat_tests)

pub white_not_digit : (b : ℕ) → is_white b ≡ true → is_digit b ≡ false
white_not_digit b d = grind (arith, nat_tests)

pub is_hash : (b : ℕ) → nat_eq b 35 ≡ true → b ≡ 35
is_hash b d = grind (arith, nat_tests)

pub is_letter : (b : ℕ) → nat_eq b 80 ≡ true → b ≡ 80
is_letter b d = grind (arith, nat_tests)

pub is_five : (b : ℕ) → nat_eq b 53 ≡ true → b ≡ 53
is_five b d = grind (arith, nat_tests)

-- a digit more
pub capped_digit : (v x d : ℕ) → v ≡ capped x → digit_after v d ≡ capped (10 * x + (d - 48))
unfolding capped
capped_digit v x d e = omega arith

pub digit_capped : (d : ℕ) → is_digit d ≡ true → d - 48 ≡ capped (10 * 0 + (d - 48))
unfolding capped
digit_capped d is = let small : d < 58 = grind (arith, nat_tests) in omega arith

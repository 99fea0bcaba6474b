-- One step, by what the byte is.
use Rattle.std.proofs.Common.{◌≡◌, refl, ℕ, ◌+◌, ◌-◌, true, false}
use Rattle.pgm_codec.specs.declared.reading.Stage.TheVariants.{Gap, Filled, Comment, Digits}
use Rattle.pgm_codec.specs.declared.reading.Number.{Number}
use Rattle.dk_base.specs.Ascii.{is_white, is_digit}
use Rattle.pgm_codec.specs.Headers.{is_line_end}
use Rattle.pgm_codec.specs.Scans.{reading}
use Rattle.pgm_codec.specs.Automaton.{step, digit_after, finished}
use Rattle.pgm_codec.proofs.ByteTests.{digit_not_white, digit_not_hash, white_not_digit}

pub in_line : (k : Number) (w h v p n b : ℕ) → is_line_end b ≡ false → step (reading Comment k w h v p n) b ≡ reading Comment k w h v p (n + 1)
in_line k w h v p n b e = rw e refl

pub line_ends : (k : Number) (w h v p n b : ℕ) → is_line_end b ≡ true → step (reading Comment k w h v p n) b ≡ reading Filled k w h v p (n + 1)
line_ends k w h v p n b e = rw e refl

pub still_filled : (k : Number) (w h v p n b : ℕ) → is_white b ≡ true → step (reading Filled k w h v p n) b ≡ reading Filled k w h v p (n + 1)
still_filled k w h v p n b e = rw e refl

pub gap_begins : (k : Number) (w h v p n b : ℕ) → is_white b ≡ true → step (reading Gap k w h v p n) b ≡ reading Filled k w h v p (n + 1)
gap_begins k w h v p n b e = rw e refl

pub number_begins : (k : Number) (w h v p n b : ℕ) → is_digit b ≡ true → step (reading Filled k w h v p n) b ≡ reading Digits k w h (b - 48) n (n + 1)
number_begins k w h v p n b e = rw (digit_not_white b e) (rw (digit_not_hash b e) (rw e refl))

pub digit_more : (k : Number) (w h v p n b : ℕ) → is_digit b ≡ true → step (reading Digits k w h v p n) b ≡ reading Digits k w h (digit_after v b) p (n + 1)
digit_more k w h v p n b e = rw e refl

pub number_ends : (k : Number) (w h v p n b : ℕ) → is_white b ≡ true → step (reading Digits k w h v p n) b ≡ finished k (reading Digits k w h v p n)
number_ends k w h v p n b e = rw (white_not_digit b e) (rw e refl)

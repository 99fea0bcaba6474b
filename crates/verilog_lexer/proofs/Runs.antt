-- The runs of a word and of a number have their first byte.
use Rattle.std.proofs.Common.{◌≡◌, ℕ, ◌<◌, List, ◌∷◌, arith, true}
use Rattle.std.specs.List.{prefix_len}
use Rattle.net_names.specs.Words.{is_letter, is_digit, is_word_byte}
use Rattle.verilog_text.specs.Bytes.{is_in_number, is_in_constant}

pub word_run : (b : ℕ) (bs : List ℕ) → is_letter b ≡ true → 0 < prefix_len is_word_byte (b ∷ bs)
word_run b bs h = let i : is_word_byte b ≡ true = grind arith in rw i (omega arith)

pub number_run : (b : ℕ) (bs : List ℕ) → is_digit b ≡ true → 0 < prefix_len is_in_number (b ∷ bs)
number_run b bs h = let i : is_in_number b ≡ true = grind arith in rw i (omega arith)

pub constant_run : (b : ℕ) (bs : List ℕ) → is_digit b ≡ true → 0 < prefix_len is_in_constant (b ∷ bs)
constant_run b bs h = let i : is_in_constant b ≡ true = grind arith in rw i (omega arith)

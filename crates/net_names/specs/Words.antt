-- The words of Verilog texts, and which of them are names.
use Rattle.std.specs.Prelude.{ℕ, List, [], ◌∷◌, length, Bool, false, ◌&&◌, ◌||◌, not, nat_lt, nat_le, nat_eq, codes}
use Rattle.std.specs.List.{prefix_len}
use Rattle.std.specs.Str.{bytes_eq}
use Rattle.net_names.specs.declared.TheConstants.{MOST_NAME_BYTES}

abbrev pub is_letter : ℕ → Bool
is_letter b = (nat_lt 64 b && nat_lt b 91) || (nat_lt 96 b && nat_lt b 123) || nat_eq b 95

abbrev pub is_digit : ℕ → Bool
is_digit b = nat_lt 47 b && nat_lt b 58

-- a letter, a digit, `_` or `$`
abbrev pub is_word_byte : ℕ → Bool
is_word_byte b = is_letter b || is_digit b || nat_eq b 36

abbrev pub is_word : List ℕ → Bool
is_word [] = false
is_word (b ∷ bytes) = is_letter b && nat_eq (prefix_len is_word_byte bytes) (length bytes)

abbrev pub is_among : List ℕ → List (List ℕ) → Bool
is_among bytes [] = false
is_among bytes (w ∷ words) = bytes_eq bytes w || is_among bytes words

-- the words of the grammar
abbrev pub structure_words : List (List ℕ)
structure_words = codes "module" ∷ codes "endmodule" ∷ codes "input" ∷ codes "output" ∷ codes "wire" ∷ codes "reg" ∷ codes "assign" ∷ codes "always" ∷ codes "posedge" ∷ codes "begin" ∷ codes "end" ∷ []

-- the words of the standard that the subset refuses
abbrev pub refused_a_to_d : List (List ℕ)
refused_a_to_d = codes "and" ∷ codes "case" ∷ codes "casex" ∷ codes "casez" ∷ codes "deassign" ∷ codes "default" ∷ codes "defparam" ∷ codes "disable" ∷ []

abbrev pub refused_e : List (List ℕ)
refused_e = codes "else" ∷ codes "endcase" ∷ codes "endfunction" ∷ codes "endgenerate" ∷ codes "endtask" ∷ codes "event" ∷ []

abbrev pub refused_f : List (List ℕ)
refused_f = codes "for" ∷ codes "force" ∷ codes "forever" ∷ codes "fork" ∷ codes "function" ∷ []

abbrev pub refused_g_to_n : List (List ℕ)
refused_g_to_n = codes "generate" ∷ codes "genvar" ∷ codes "if" ∷ codes "initial" ∷ codes "inout" ∷ codes "integer" ∷ codes "join" ∷ codes "localparam" ∷ codes "nand" ∷ codes "negedge" ∷ codes "nor" ∷ codes "not" ∷ []

abbrev pub refused_o_to_s : List (List ℕ)
refused_o_to_s = codes "or" ∷ codes "parameter" ∷ codes "real" ∷ codes "realtime" ∷ codes "release" ∷ codes "repeat" ∷ codes "signed" ∷ codes "supply0" ∷ codes "supply1" ∷ []

abbrev pub refused_t_to_x : List (List ℕ)
refused_t_to_x = codes "task" ∷ codes "time" ∷ codes "tri" ∷ codes "wait" ∷ codes "wand" ∷ codes "while" ∷ codes "wor" ∷ codes "xnor" ∷ codes "xor" ∷ []

abbrev pub is_structure_word : List ℕ → Bool
is_structure_word bytes = is_among bytes structure_words

abbrev pub is_refused_word : List ℕ → Bool
is_refused_word bytes = is_among bytes refused_a_to_d || is_among bytes refused_e || is_among bytes refused_f || is_among bytes refused_g_to_n || is_among bytes refused_o_to_s || is_among bytes refused_t_to_x

-- a word of at most this many bytes that is none of those
abbrev pub is_name : List ℕ → Bool
is_name bytes = (is_word bytes && nat_le (length bytes) MOST_NAME_BYTES) && not (is_structure_word bytes) && not (is_refused_word bytes)

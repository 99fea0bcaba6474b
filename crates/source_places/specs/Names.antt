-- Names of files, as a terminal can show them.
use Rattle.std.specs.Prelude.{ℕ, Bool, List, ◌||◌, ◌&&◌, nat_le, map, chars, encode_utf8_all, if◌then◌else◌}

-- the character is one of these
abbrev pub is_among : (first last c : ℕ) → Bool
is_among first last c = nat_le first c && nat_le c last

-- a control, which a terminal obeys: C0, DEL and C1
abbrev pub is_control : ℕ → Bool
is_control c = is_among 0 31 c || is_among 127 159 c

-- a separator of lines or of paragraphs, or an embedding or override of direction
abbrev pub breaks_or_turns : ℕ → Bool
breaks_or_turns c = is_among 8232 8238 c

-- a character of the Basic Multilingual Plane without a form: hyphens, joiners, marks and isolates of direction, fillers,
-- variation selectors, the byte order mark and annotations
abbrev pub is_formless : ℕ → Bool
is_formless c = is_among 173 173 c || is_among 847 847 c || is_among 1564 1564 c || is_among 4447 4448 c
    || is_among 6068 6069 c || is_among 6155 6159 c || is_among 8203 8207 c || is_among 8288 8303 c
    || is_among 12644 12644 c || is_among 65024 65039 c || is_among 65279 65279 c || is_among 65440 65440 c
    || is_among 65520 65531 c

-- the same past it: formats of shorthand and of music, tags and variation selectors
abbrev pub is_formless_above : ℕ → Bool
is_formless_above c = is_among 113824 113827 c || is_among 119155 119162 c || is_among 917504 921599 c

-- a character that does not show itself: a control, what breaks or turns a line, and those of Unicode 15 with the
-- property Default_Ignorable_Code_Point
abbrev pub is_hidden : ℕ → Bool
is_hidden c = is_control c || breaks_or_turns c || is_formless c || is_formless_above c

-- a character, or a question mark (63) for a hidden one
abbrev pub shown_character : ℕ → ℕ
shown_character c = if is_hidden c then 63 else c

-- a name with a question mark for each hidden character
unfoldable pub shown_name : List ℕ → List ℕ
shown_name name = encode_utf8_all (map shown_character (chars name))

-- The greatest length of a clock's text.
use Rattle.std.proofs.Common.{◌≡◌, ℕ, zero, suc, ◌+◌, ◌^◌, ◌<◌, ◌≤◌, Bool, true, false, List, [], ◌∷◌, ◌++◌, length, refl, ap, sym, subst, arith, max}
use Rattle.std.specs.Prelude.{nat_eq, if◌then◌else◌, decimal}
use Rattle.std.specs.Int.Digits.{digits_of}
use Rattle.std.proofs.lemmas.Int.Digits.{length-digits_of-le}
use Rattle.std.proofs.lemmas.List.{length-append}
use Rattle.vcd_trace.specs.Layout.{binary, id_of, value_line, all_lines, change_lines, changed_lines, time_line, text_of, AreValues}
use Rattle.vcd_trace.specs.Told.{Told, IsRoomFor, clock_text, line_room, lines_room, room_of, value_lines}
use Rattle.vcd_trace.proofs.Lines.{line_by}
use Rattle.vcd_trace.proofs.Numbers.{length-shifted}
use Rattle.std.proofs.lemmas.Fmt.{length-decimal-le}
use Rattle.vcd_trace.proofs.Clocks.{text_append}

binary_short : (w v : ℕ) → v < 2 ^ w → length (binary v) ≤ max w 1
binary_short w zero h = omega arith
binary_short w (suc v) h = let few : length (digits_of 2 (suc v)) ≤ w = length-digits_of-le 2 w (suc v) (omega arith) h in omega (arith, few, length-shifted 48 (digits_of 2 (suc v)))

by_fits : (b : Bool) (w i v : ℕ) → v < 2 ^ w → length (line_by b i v) + 1 ≤ (if b then 2 + length (id_of i) else max w 1 + 3 + length (id_of i))
by_fits true w i v h = omega arith
by_fits false w i v h = omega (arith, binary_short w v h, length-append (binary v) (32 ∷ id_of i))

pub line_fits : (w i v : ℕ) → v < 2 ^ w → length (value_line w i v) + 1 ≤ line_room w i
line_fits w i v h = by_fits (nat_eq w 1) w i v h

length-line_text : (line : List ℕ) (lines : List (List ℕ)) → length (line ++ 10 ∷ text_of lines) ≡ length line + 1 + length (text_of lines)
length-line_text line lines = omega (arith, length-append line (10 ∷ text_of lines))

pub all_fit : (i : ℕ) (ws vs : List ℕ) → AreValues ws vs → length (text_of (all_lines i ws vs)) ≤ lines_room i ws
all_fit i [] vs h = omega arith
all_fit i (w ∷ ws) [] h = absurd h
all_fit i (w ∷ ws) (v ∷ vs) h = omega (arith, line_fits w i v h.0, all_fit (i + 1) ws vs h.1, length-line_text (value_line w i v) (all_lines (i + 1) ws vs))

change_fits : (b : Bool) (w i v : ℕ) → v < 2 ^ w → length (text_of (if b then [] else value_line w i v ∷ [])) ≤ line_room w i
change_fits true w i v h = omega (arith, line_fits w i v h)
change_fits false w i v h = omega (arith, line_fits w i v h, length-line_text (value_line w i v) [])

pub changed_fit : (i : ℕ) (ws old vs : List ℕ) → AreValues ws vs → length (text_of (changed_lines i ws old vs)) ≤ lines_room i ws
changed_fit i [] old vs h = omega arith
changed_fit i (w ∷ ws) [] vs h = omega arith
changed_fit i (w ∷ ws) (a ∷ old) [] h = absurd h
changed_fit i (w ∷ ws) (a ∷ old) (v ∷ vs) h =
    omega (arith, change_fits (nat_eq a v) w i v h.0, changed_fit (i + 1) ws old vs h.1, ap length (text_append (change_lines w i a v) (changed_lines (i + 1) ws old vs)), length-append (text_of (change_lines w i a v)) (text_of (changed_lines (i + 1) ws old vs)))

pub time_fits : (k : ℕ) → k < 2 ^ 64 → length (time_line k) + 1 ≤ 22
time_fits k h = let few : length (decimal k) ≤ 20 = length-decimal-le 20 k (omega arith) (omega (arith, h)) h in omega (arith, few)

pub at_first : (t : ℕ) (ws old new : List ℕ) → t ≡ 0 → value_lines t ws old new ≡ all_lines 0 ws new
at_first t ws old new e = ap (λ k. value_lines k ws old new) e

pub at_later : (t : ℕ) (ws old new : List ℕ) → 0 < t → value_lines t ws old new ≡ changed_lines 0 ws old new
at_later zero ws old new h = absurd (omega (arith, h))
at_later (suc t) ws old new h = refl

-- ---- the room is enough for the text of any clock, and for the last line

lines_fit : (t : ℕ) (ws old vs : List ℕ) → AreValues ws vs → length (text_of (value_lines t ws old vs)) ≤ lines_room 0 ws
lines_fit zero ws old vs h = all_fit 0 ws vs h
lines_fit (suc t) ws old vs h = changed_fit 0 ws old vs h

clock_fits : (t : Told) (vs : List ℕ) → t.time < 2 ^ 64 → AreValues t.widths vs → length (clock_text t vs) ≤ room_of t.widths
clock_fits t vs small h = omega (arith, lines_fit t.time t.widths t.values vs h, time_fits t.time small, length-line_text (time_line t.time) (value_lines t.time t.widths t.values vs))

pub room_fits : (ws : List ℕ) (n : ℕ) → n ≡ room_of ws → IsRoomFor ws n
room_fits ws n e = record {
  clock = λ t vs same small h.
      let P : List ℕ → Type 0 = λ us. AreValues us vs in
      let some : length (clock_text t vs) ≤ room_of t.widths = clock_fits t vs small (subst P (sym same) h) in
      let room : room_of t.widths ≡ room_of ws = ap room_of same in
      omega (arith, some, room, e);
  last = λ t small. omega (arith, e, time_fits t.time small, length-line_text (time_line t.time) []);
}

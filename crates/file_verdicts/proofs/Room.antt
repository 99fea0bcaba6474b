-- A clock whose text takes all the room of its variables: the time has twenty digits, and each variable goes from 0 to its greatest value.
use Rattle.std.proofs.Common.{◌≡◌, refl, ap, [], ◌∷◌, ◌++◌, List, ℕ, zero, suc, ◌+◌, ◌*◌, ◌/◌, ◌^◌, ◌<◌, ◌≤◌, Bool, true, false, arith, length, map, length-append, max}
use Rattle.std.specs.Prelude.{nat_eq, if◌then◌else◌, decimal}
use Rattle.std.specs.Fmt.{digits}
use Rattle.std.specs.List.{All}
use Rattle.std.specs.Int.Digits.{digits_of}
use Rattle.std.proofs.lemmas.Bool.{ne_eqb}
use Rattle.std.proofs.lemmas.Int.Digits.{length-digits_of_step}
use Rattle.vcd_trace.specs.Layout.{AreValues, binary, id_of, value_line, change_lines, changed_lines, time_line, text_of}
use Rattle.vcd_trace.specs.Told.{Told, IsRoomFor, clock_text, line_room, lines_room, room_of}
use Rattle.vcd_trace.proofs.Lines.{line_by}
use Rattle.vcd_trace.proofs.Numbers.{length-shifted}
use Rattle.vcd_trace.proofs.Clockwise.{zeros_fit}
use Rattle.vcd_trace.proofs.Rooms.{at_later}

-- the greatest value of this many bits
abbrev ones : ℕ → ℕ
ones zero = 0
ones (suc w) = 2 * ones w + 1

ones_fit : (w : ℕ) → ones w < 2 ^ w
ones_fit zero = omega arith
ones_fit (suc w) = let l = ones_fit w in omega arith

ones_length : (w : ℕ) → length (digits_of 2 (ones w)) ≡ w
ones_length zero = refl
ones_length (suc w) =
    let half : (2 * ones w + 1) / 2 ≡ ones w = omega arith in
    let step : length (digits_of 2 (2 * ones w + 1)) ≡ length (digits_of 2 ((2 * ones w + 1) / 2)) + 1 = length-digits_of_step 2 (2 * ones w + 1) (omega arith) (omega arith) in
    omega (arith, step, ap (λ n. length (digits_of 2 n)) half, ones_length w)

binary_length : (v : ℕ) → 0 < v → length (binary v) ≡ length (digits_of 2 v)
binary_length zero l = absurd (omega (arith, l))
binary_length (suc v) l = length-shifted 48 (digits_of 2 (suc v))

some_ones : (w : ℕ) → 0 < w → 0 < ones w
some_ones zero l = absurd (omega (arith, l))
some_ones (suc w) l = omega arith

max_one : (w : ℕ) → 0 < w → max w 1 ≡ w
max_one zero l = absurd (omega (arith, l))
max_one (suc w) l = omega arith

by_room : (b : Bool) (w i : ℕ) → 0 < w → length (line_by b i (ones w)) + 1 ≡ (if b then 2 + length (id_of i) else max w 1 + 3 + length (id_of i))
by_room true w i l = omega arith
by_room false w i l = omega (arith, max_one w l, length-append (binary (ones w)) (32 ∷ id_of i), binary_length (ones w) (some_ones w l), ones_length w)

line_takes : (w i : ℕ) → 0 < w → length (value_line w i (ones w)) + 1 ≡ line_room w i
line_takes w i l = by_room (nat_eq w 1) w i l

line_text : (line : List ℕ) (lines : List (List ℕ)) → length (line ++ 10 ∷ text_of lines) ≡ length line + 1 + length (text_of lines)
line_text line lines = omega (arith, length-append line (10 ∷ text_of lines))

changes : (w i : ℕ) → 0 < w → change_lines w i 0 (ones w) ≡ value_line w i (ones w) ∷ []
changes w i l = ap (λ b. if b then [] else value_line w i (ones w) ∷ []) (ne_eqb 0 (ones w) (λ e. let s = some_ones w l in omega (arith, e, s)))

lines_take : (i : ℕ) (ws : List ℕ) → All (λ w. 0 < w) ws → length (text_of (changed_lines i ws (map (λ w. 0) ws) (map ones ws))) ≡ lines_room i ws
lines_take i [] all = refl
lines_take i (w ∷ ws) all =
    let some : 0 < w = all 0 0 (omega arith) in
    let lines = changed_lines (i + 1) ws (map (λ w. 0) ws) (map ones ws) in
    let rest : length (text_of lines) ≡ lines_room (i + 1) ws = lines_take (i + 1) ws (λ k d l. all (suc k) d (omega (arith, l))) in
    let first : length (text_of (change_lines w i 0 (ones w) ++ lines)) ≡ length (value_line w i (ones w) ++ 10 ∷ text_of lines) = ap (λ z. length (text_of (z ++ lines))) (changes w i some) in
    omega (arith, first, line_text (value_line w i (ones w)) lines, line_takes w i some, rest)

ones_values : (ws : List ℕ) → AreValues ws (map ones ws)
ones_values [] = tt
ones_values (w ∷ ws) = (ones_fit w, ones_values ws)

-- the least number of twenty digits
abbrev late : ℕ
late = 10000000000000000000

late_digits : length (decimal late) ≡ 20
unfolding digits
late_digits = refl

abbrev pub TakesRoom : List ℕ → Type 0
TakesRoom widths = (t : Told) × (values : List ℕ) × (t.widths ≡ widths) × (t.time + 1 < 2 ^ 64) × AreValues widths t.values × AreValues widths values × (length (clock_text t values) ≡ room_of widths)

pub room_taken : (widths : List ℕ) → All (λ width. 0 < width) widths → TakesRoom widths
room_taken widths all =
    let zeros : List ℕ = map (λ w. 0) widths in
    let values : List ℕ = map ones widths in
    let t : Told = record { widths = widths; values = zeros; time = late } in
    let lines : length (text_of (changed_lines 0 widths zeros values)) ≡ lines_room 0 widths = lines_take 0 widths all in
    let later : length (clock_text t values) ≡ length (text_of (time_line late ∷ changed_lines 0 widths zeros values)) = ap (λ z. length (text_of (time_line late ∷ z))) (at_later late widths zeros values (omega arith)) in
    (t, values, refl, omega arith, zeros_fit widths, ones_values widths, omega (arith, later, line_text (time_line late) (changed_lines 0 widths zeros values), late_digits, lines))

pub room_least : (widths : List ℕ) → All (λ width. 0 < width) widths → (n : ℕ) → IsRoomFor widths n → room_of widths ≤ n
room_least widths all n r =
    let x : TakesRoom widths = room_taken widths all in
    let time : x.0.time < 2 ^ 64 = omega (arith, x.3) in
    let most : length (clock_text x.0 x.1) ≤ n = r.clock x.0 x.1 x.2 time x.5 in
    omega (arith, most, x.6)

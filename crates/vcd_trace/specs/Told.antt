-- What a trace has shown, and what it shows of one clock more.
use Rattle.std.specs.Prelude.{◌≡◌, ℕ, zero, suc, ◌+◌, ◌^◌, ◌<◌, ◌≤◌, nat_eq, if◌then◌else◌, max, List, [], ◌∷◌, length}
use Rattle.vcd_trace.specs.declared.clock.TheConstants.{TIME_LINE_BYTES}
use Rattle.vcd_trace.specs.Layout.{AreValues, id_of, all_lines, changed_lines, time_line, text_of}

-- the widths of the variables, the time of the next clock, and the values at the clock before it, of which nothing is said at time 0
pub record Told : Type 0 where
  pub widths : List ℕ
  pub values : List ℕ
  pub time : ℕ

-- after the time: all variables at time 0, and later those that changed
abbrev pub value_lines : (time : ℕ) → (widths old new : List ℕ) → List (List ℕ)
value_lines zero widths old new = all_lines 0 widths new
value_lines (suc k) widths old new = changed_lines 0 widths old new

-- the text of a clock with these values
abbrev pub clock_text : Told → (new : List ℕ) → List ℕ
clock_text t new = text_of (time_line t.time ∷ value_lines t.time t.widths t.values new)

-- after the last clock there is only the line of the next time
abbrev pub end_text : Told → List ℕ
end_text t = text_of (time_line t.time ∷ [])

-- the greatest length of the line of variable i with its LF; a width is at least 1
abbrev pub line_room : (width i : ℕ) → ℕ
line_room width i = if nat_eq width 1 then 2 + length (id_of i) else max width 1 + 3 + length (id_of i)

abbrev pub lines_room : (i : ℕ) → (widths : List ℕ) → ℕ
lines_room i [] = 0
lines_room i (w ∷ widths) = line_room w i + lines_room (i + 1) widths

-- the greatest length of the text of a clock: a time with its `#` and its LF, and the lines of all variables
abbrev pub room_of : (widths : List ℕ) → ℕ
room_of widths = TIME_LINE_BYTES + lines_room 0 widths

-- n bytes are room for the text of each clock of each run of these variables, and for the last line of each
pub record IsRoomFor (widths : List ℕ) (n : ℕ) : Type 0 where
  pub clock : (t : Told) (values : List ℕ) → t.widths ≡ widths → t.time < 2 ^ 64 → AreValues widths values → length (clock_text t values) ≤ n
  pub last : (t : Told) → t.time < 2 ^ 64 → length (end_text t) ≤ n

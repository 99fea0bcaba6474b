-- The text of a trace, clock by clock.
use Rattle.std.proofs.Common.{◌≡◌, ℕ, ◌+◌, ◌-◌, ◌<◌, List, [], ◌∷◌, ◌++◌, length, suc, take, refl, ap, sym, ◌∙◌, arith, append_assoc, append-nil, length-append}
use Rattle.std.proofs.lemmas.List.{map-append, length-map}
use Rattle.std.proofs.Math.Seq.{take-append_seam}
use Rattle.wiring.specs.Snapshot.{Snapshot}
use Rattle.netlist.specs.Names.{NamedNetlist}
use Rattle.cycle_sim.specs.Slots.{all_values, all_widths}
use Rattle.vcd_trace.specs.Layout.{all_lines, changed_lines, time_line, later_lines, clock_lines, text_of}
use Rattle.vcd_trace.specs.Header.{header_text, trace_text}
use Rattle.vcd_trace.specs.Told.{Told, value_lines, clock_text}
use Rattle.vcd_trace.proofs.Clocks.{text_append}
use Rattle.vcd_trace.proofs.Rooms.{at_first, at_later}
use Rattle.trace_bench.specs.Traces.{values_of, but_last, trace_front}
use Rattle.trace_bench.specs.Going.{told_more, told_after, clocks_text}

-- ---- clocks after clocks

pub after_append : (t : Told) (xs ys : List (List ℕ)) → told_after t (xs ++ ys) ≡ told_after (told_after t xs) ys
after_append t [] ys = refl
after_append t (x ∷ xs) ys = after_append (told_more t x) xs ys

pub texts_append : (t : Told) (xs ys : List (List ℕ)) → clocks_text t (xs ++ ys) ≡ clocks_text t xs ++ clocks_text (told_after t xs) ys
texts_append t [] ys = refl
texts_append t (x ∷ xs) ys = ap (λ z. clock_text t x ++ z) (texts_append (told_more t x) xs ys) ∙ sym (append_assoc (clock_text t x) (clocks_text (told_more t x) xs) (clocks_text (told_after (told_more t x) xs) ys))

pub time_after : (t : Told) (xs : List (List ℕ)) → (told_after t xs).time ≡ t.time + length xs
time_after t [] = omega arith
time_after t (x ∷ xs) = time_after (told_more t x) xs ∙ (let e : t.time + 1 + length xs ≡ t.time + suc (length xs) = omega arith in e)

pub widths_after : (t : Told) (xs : List (List ℕ)) → (told_after t xs).widths ≡ t.widths
widths_after t [] = refl
widths_after t (x ∷ xs) = widths_after (told_more t x) xs

pub values_append : (shots more : List Snapshot) → values_of (shots ++ more) ≡ values_of shots ++ values_of more
values_append shots more = map-append all_values shots more

pub values_count : (shots : List Snapshot) → length (values_of shots) ≡ length shots
values_count shots = length-map shots all_values

-- ---- all lines but the last

abbrev later_front : (k : ℕ) (ws old : List ℕ) → List (List ℕ) → List (List ℕ)
later_front k ws old [] = []
later_front k ws old (new ∷ clocks) = time_line k ∷ (changed_lines 0 ws old new ++ later_front (k + 1) ws new clocks)

abbrev front_lines : (ws : List ℕ) → List (List ℕ) → List (List ℕ)
front_lines ws [] = []
front_lines ws (first ∷ clocks) = time_line 0 ∷ (all_lines 0 ws first ++ later_front 1 ws first clocks)

later_split : (k : ℕ) (ws old : List ℕ) (clocks : List (List ℕ)) → later_lines k ws old clocks ≡ later_front k ws old clocks ++ time_line (k + length clocks) ∷ []
later_split k ws old [] = ap (λ n. time_line n ∷ []) (let e : k ≡ k + 0 = omega arith in e)
later_split k ws old (new ∷ clocks) =
    ap (λ z. time_line k ∷ (changed_lines 0 ws old new ++ z)) (later_split (k + 1) ws new clocks ∙ ap (λ n. later_front (k + 1) ws new clocks ++ time_line n ∷ []) (let e : k + 1 + length clocks ≡ k + suc (length clocks) = omega arith in e))
    ∙ ap (λ z. time_line k ∷ z) (sym (append_assoc (changed_lines 0 ws old new) (later_front (k + 1) ws new clocks) (time_line (k + suc (length clocks)) ∷ [])))

lines_split : (ws : List ℕ) (clocks : List (List ℕ)) → clock_lines ws clocks ≡ front_lines ws clocks ++ time_line (length clocks) ∷ []
lines_split ws [] = refl
lines_split ws (first ∷ clocks) =
    ap (λ z. time_line 0 ∷ (all_lines 0 ws first ++ z)) (later_split 1 ws first clocks ∙ ap (λ n. later_front 1 ws first clocks ++ time_line n ∷ []) (let e : 1 + length clocks ≡ suc (length clocks) = omega arith in e))
    ∙ ap (λ z. time_line 0 ∷ z) (sym (append_assoc (all_lines 0 ws first) (later_front 1 ws first clocks) (time_line (suc (length clocks)) ∷ [])))

but_last_is : (xs : List (List ℕ)) (y : List ℕ) → but_last (xs ++ y ∷ []) ≡ xs
but_last_is xs y = ap (λ n. take n (xs ++ y ∷ [])) (let e : length (xs ++ y ∷ []) - 1 ≡ length xs = omega (arith, length-append xs (y ∷ [])) in e) ∙ take-append_seam xs (y ∷ [])

front_is : (ws : List ℕ) (clocks : List (List ℕ)) → but_last (clock_lines ws clocks) ≡ front_lines ws clocks
front_is ws clocks = ap but_last (lines_split ws clocks) ∙ but_last_is (front_lines ws clocks) (time_line (length clocks))

-- ---- the texts are those lines

later_texts : (t : ℕ) (ws old : List ℕ) (clocks : List (List ℕ)) → 0 < t → clocks_text (record { widths = ws; values = old; time = t }) clocks ≡ text_of (later_front t ws old clocks)
later_texts t ws old [] h = refl
later_texts t ws old (new ∷ clocks) h =
    ap (λ z. text_of (time_line t ∷ z) ++ clocks_text (record { widths = ws; values = new; time = t + 1 }) clocks) (at_later t ws old new h)
    ∙ ap (λ z. text_of (time_line t ∷ changed_lines 0 ws old new) ++ z) (later_texts (t + 1) ws new clocks (omega arith))
    ∙ sym (text_append (time_line t ∷ changed_lines 0 ws old new) (later_front (t + 1) ws new clocks))

first_texts : (t : ℕ) (ws old : List ℕ) (clocks : List (List ℕ)) → t ≡ 0 → clocks_text (record { widths = ws; values = old; time = t }) clocks ≡ text_of (front_lines ws clocks)
first_texts t ws old [] e = refl
first_texts t ws old (first ∷ clocks) e =
    ap (λ z. text_of (time_line t ∷ z) ++ clocks_text (record { widths = ws; values = first; time = t + 1 }) clocks) (at_first t ws old first e)
    ∙ ap (λ n. text_of (time_line n ∷ all_lines 0 ws first) ++ clocks_text (record { widths = ws; values = first; time = n + 1 }) clocks) e
    ∙ ap (λ z. text_of (time_line 0 ∷ all_lines 0 ws first) ++ z) (later_texts (0 + 1) ws first clocks (omega arith))
    ∙ sym (text_append (time_line 0 ∷ all_lines 0 ws first) (later_front 1 ws first clocks))

-- ---- the trace

-- the header and the texts of these clocks
pub front_told : (m : NamedNetlist) (t : Told) (shots : List Snapshot) → t.widths ≡ all_widths m.netlist → t.time ≡ 0 → header_text m ++ clocks_text t (values_of shots) ≡ trace_front m shots
front_told m t shots widths start =
    ap (λ z. header_text m ++ z)
    (first_texts t.time t.widths t.values (values_of shots) start ∙ ap (λ ws. text_of (front_lines ws (values_of shots))) widths ∙ sym (ap text_of (front_is (all_widths m.netlist) (values_of shots))))

-- the last line makes it whole
pub whole_front : (m : NamedNetlist) (shots : List Snapshot) → trace_text m (values_of shots) ≡ trace_front m shots ++ text_of (time_line (length shots) ∷ [])
whole_front m shots =
    let ws = all_widths m.netlist in
    let clocks = values_of shots in
    ap (λ z. header_text m ++ text_of z) (lines_split ws clocks)
    ∙ ap (λ z. header_text m ++ z) (text_append (front_lines ws clocks) (time_line (length clocks) ∷ []))
    ∙ sym (append_assoc (header_text m) (text_of (front_lines ws clocks)) (text_of (time_line (length clocks) ∷ [])))
    ∙ ap (λ z. (header_text m ++ text_of z) ++ text_of (time_line (length clocks) ∷ [])) (sym (front_is ws clocks))
    ∙ ap (λ n. trace_front m shots ++ text_of (time_line n ∷ [])) (values_count shots)

-- one clock more
pub front_more : (m : NamedNetlist) (shots : List Snapshot) (last : Snapshot) → (lines : List (List ℕ)) × (trace_front m (shots ++ last ∷ []) ≡ trace_front m shots ++ text_of (time_line (length shots) ∷ lines))
front_more m shots last =
    let start : Told = record { widths = all_widths m.netlist; values = []; time = 0 } in
    let clocks = values_of shots in
    let new = all_values last in
    let t = told_after start clocks in
    let lines = value_lines t.time t.widths t.values new in
    let time : t.time ≡ length shots = time_after start clocks ∙ ap (λ n. 0 + n) (values_count shots) ∙ (let e : 0 + length shots ≡ length shots = omega arith in e) in (
      lines,
      sym (front_told m start (shots ++ last ∷ []) refl refl)
          ∙ ap (λ z. header_text m ++ clocks_text start z) (values_append shots (last ∷ []))
          ∙ ap (λ z. header_text m ++ z) (texts_append start clocks (new ∷ []) ∙ ap (λ z. clocks_text start clocks ++ z) (append-nil (clock_text t new)))
          ∙ sym (append_assoc (header_text m) (clocks_text start clocks) (clock_text t new))
          ∙ ap (λ z. z ++ clock_text t new) (front_told m start shots refl refl)
          ∙ ap (λ n. trace_front m shots ++ text_of (time_line n ∷ lines)) time,
    )

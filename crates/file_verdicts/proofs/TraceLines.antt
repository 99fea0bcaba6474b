-- A text is the trace of one list of clocks at most.
use Rattle.std.proofs.Common.{◌≡◌, ◌∙◌, refl, sym, ap, [], ◌∷◌, ◌++◌, List, ℕ, ◌+◌, Bool, true, false}
use Rattle.std.specs.Prelude.{nat_eq, if◌then◌else◌}
use Rattle.std.specs.List.{AllByRecursion}
use Rattle.dk_grammar.specs.Lines.{IsPlain}
use Rattle.netlist.specs.Names.{NamedNetlist}
use Rattle.cycle_sim.specs.Slots.{all_widths}
use Rattle.vcd_trace.specs.Layout.{value_line, all_lines, changed_lines, later_lines, clock_lines, text_of}
use Rattle.vcd_trace.specs.Header.{header_text}
use Rattle.vcd_trace.specs.Replayed.{IsTraceOf}
use Rattle.vcd_trace.proofs.Agreeing.{value_plain, plain_same}
use Rattle.vcd_trace.proofs.Timewise.{cancel, line_some}
use Rattle.vcd_trace.proofs.Whole.{one_whole}
use Rattle.file_verdicts.proofs.ValueLines.{time_plain}

abbrev ArePlain : List (List ℕ) → Type 0
ArePlain lines = AllByRecursion IsPlain lines

both_plain : (xs ys : List (List ℕ)) → ArePlain xs → ArePlain ys → ArePlain (xs ++ ys)
both_plain [] ys h g = g
both_plain (x ∷ xs) ys h g = (h.0, both_plain xs ys h.1 g)

all_plain : (i : ℕ) (ws new : List ℕ) → ArePlain (all_lines i ws new)
all_plain i [] new = tt
all_plain i (w ∷ ws) [] = tt
all_plain i (w ∷ ws) (b ∷ new) = (value_plain w i b, all_plain (i + 1) ws new)

changed_plain : (i : ℕ) (ws old new : List ℕ) → ArePlain (changed_lines i ws old new)
changed_plain i [] old new = tt
changed_plain i (w ∷ ws) [] new = tt
changed_plain i (w ∷ ws) (a ∷ old) [] = tt
changed_plain i (w ∷ ws) (a ∷ old) (b ∷ new) = by (nat_eq a b) (changed_plain (i + 1) ws old new)
  where
    by : (same : Bool) → ArePlain (changed_lines (i + 1) ws old new) → ArePlain ((if same then [] else value_line w i b ∷ []) ++ changed_lines (i + 1) ws old new)
    by true h = h
    by false h = (value_plain w i b, h)

later_plain : (k : ℕ) (ws old : List ℕ) (clocks : List (List ℕ)) → ArePlain (later_lines k ws old clocks)
later_plain k ws old [] = (time_plain k, tt)
later_plain k ws old (new ∷ clocks) = (time_plain k, both_plain (changed_lines 0 ws old new) (later_lines (k + 1) ws new clocks) (changed_plain 0 ws old new) (later_plain (k + 1) ws new clocks))

clock_plain : (ws : List ℕ) (clocks : List (List ℕ)) → ArePlain (clock_lines ws clocks)
clock_plain ws [] = (time_plain 0, tt)
clock_plain ws (new ∷ clocks) = (time_plain 0, both_plain (all_lines 0 ws new) (later_lines 1 ws new clocks) (all_plain 0 ws new) (later_plain 1 ws new clocks))

same_lines : (xs ys : List (List ℕ)) → ArePlain xs → ArePlain ys → text_of xs ≡ text_of ys → xs ≡ ys
same_lines [] [] h g e = refl
same_lines [] (y ∷ ys) h g e = absurd (line_some y (text_of ys) e)
same_lines (x ∷ xs) [] h g e = absurd (line_some x (text_of xs) (sym e))
same_lines (x ∷ xs) (y ∷ ys) h g e =
    let same = plain_same x y (text_of xs) (text_of ys) h.0 g.0 e in
    ap (λ z. z ∷ xs) same.0 ∙ ap (λ z. y ∷ z) (same_lines xs ys h.1 g.1 same.1)

pub one_trace : (m : NamedNetlist) (text : List ℕ) (a b : List (List ℕ)) → IsTraceOf m a text → IsTraceOf m b text → a ≡ b
one_trace m text a b t u =
    let ws = all_widths m.netlist in
    let x = clock_lines ws a in
    let y = clock_lines ws b in
    one_whole ws a b t.fit u.fit (same_lines x y (clock_plain ws a) (clock_plain ws b) (cancel (header_text m) (text_of x) (text_of y) (sym t.is ∙ u.is)))

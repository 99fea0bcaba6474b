-- Used by private functions only.
-- What is read of a trace so far, and which lines may follow.
use Rattle.std.specs.Prelude.{◌≡◌, ℕ, ◌+◌, ◌*◌, ◌≤◌, ◌⊎◌, Bool, true, false, List, [], ◌∷◌, ◌++◌, length, nat_eq, if◌then◌else◌}
use Rattle.std.specs.List.{AllByRecursion}
use Rattle.dk_grammar.specs.Lines.{IsPlain, IsAtLine}
use Rattle.netlist.specs.Names.{NamedNetlist}
use Rattle.cycle_sim.specs.Slots.{all_widths}
use Rattle.vcd_trace.specs.Layout.{AreValues, value_line, time_line, later_lines, text_of}
use Rattle.vcd_trace.specs.Header.{trace_text}
use Rattle.vcd_trace.specs.Replayed.{IsTraceOf}

-- the number of the binary digits at the front, after those of a number
abbrev pub bits_after : ℕ → List ℕ → ℕ
bits_after a [] = a
bits_after a (b ∷ bytes) = if nat_eq b 48 then bits_after (2 * a) bytes else if nat_eq b 49 then bits_after (2 * a + 1) bytes else a

-- the number of the line at which two texts differ or one ends, where they begin at line n
abbrev pub common_lines : ℕ → (xs ys : List ℕ) → ℕ
common_lines n [] ys = n
common_lines n (x ∷ xs) [] = n
common_lines n (x ∷ xs) (y ∷ ys) = if nat_eq x y then common_lines (if nat_eq x 10 then n + 1 else n) xs ys else n

-- a value has no line: never at the first clock, and later if it is unchanged
abbrev pub stays : (first : Bool) (a b : ℕ) → Bool
stays first a b = if first then false else nat_eq a b

abbrev pub told_line : (first : Bool) (width i a b : ℕ) → List (List ℕ)
told_line first width i a b = if stays first a b then [] else value_line width i b ∷ []

-- the lines of the variables from i on
abbrev pub told_lines : (first : Bool) (i : ℕ) (widths old new : List ℕ) → List (List ℕ)
told_lines first i [] old new = []
told_lines first i (w ∷ ws) [] new = []
told_lines first i (w ∷ ws) (a ∷ old) [] = []
told_lines first i (w ∷ ws) (a ∷ old) (b ∷ new) = told_line first w i a b ++ told_lines first (i + 1) ws old new

-- the lines after that of time k
abbrev pub rest_lines : (first : Bool) (k : ℕ) (widths old : List ℕ) → List (List ℕ) → List (List ℕ)
rest_lines first k widths old [] = []
rest_lines first k widths old (new ∷ clocks) = told_lines first 0 widths old new ++ later_lines (k + 1) widths new clocks

-- both begin with this line
pub record ShareLine (rest more : List ℕ) : Type 0 where
  pub line : List ℕ
  pub after : List ℕ
  pub behind : List ℕ
  pub plain : IsPlain line
  pub rest_is : rest ≡ line ++ 10 ∷ after
  pub more_is : more ≡ line ++ 10 ∷ behind

-- what might replace the rest of a text whose first line is unchanged
abbrev pub Agrees : (rest more : List ℕ) → Type 0
Agrees rest more = (more ≡ rest) ⊎ ShareLine rest more

-- What may follow a front of a text is one of these lists of lines, and with each it is the trace of these clocks.
pub record Reads (m : NamedNetlist) (text rest : List ℕ) (number : ℕ) (C : Type 0) (Fits : C → Type 0) (lines : C → List (List ℕ)) (clocks : C → List (List ℕ)) : Type 0 where
  pub before : List ℕ
  pub place : IsAtLine text before rest number
  pub some : (c : C) → Fits c → 1 ≤ length (clocks c)
  pub fit : (c : C) → Fits c → AllByRecursion (AreValues (all_widths m.netlist)) (clocks c)
  pub same : (c : C) → Fits c → before ++ text_of (lines c) ≡ trace_text m (clocks c)
  pub only : (more : List ℕ) → Agrees rest more → (vs : List (List ℕ)) → IsTraceOf m vs (before ++ more) → (c : C) × Fits c × (more ≡ text_of (lines c)) × (vs ≡ clocks c)

abbrev pub AllFit : List ℕ → List (List ℕ) → Type 0
AllFit ws clocks = AllByRecursion (AreValues ws) clocks

-- clocks that may follow: at least one if none is read yet
abbrev pub MayFollow : (first : Bool) (widths : List ℕ) → List (List ℕ) → Type 0
MayFollow first ws clocks = AllFit ws clocks × (first ≡ true → 1 ≤ length clocks)

-- before the line of time k: the clocks so far, and the values at the last of them
abbrev pub AtTime : (m : NamedNetlist) (text rest : List ℕ) (number : ℕ) (first : Bool) (k : ℕ) (old : List ℕ) (done : List (List ℕ)) → Type 0
AtTime m text rest number first k old done =
    let ws = all_widths m.netlist in
    Reads m text rest number (List (List ℕ)) (MayFollow first ws) (λ clocks. time_line k ∷ rest_lines first k ws old clocks) (λ clocks. done ++ clocks)

-- after that line
abbrev pub AfterTime : (m : NamedNetlist) (text rest : List ℕ) (number : ℕ) (first : Bool) (k : ℕ) (old : List ℕ) (done : List (List ℕ)) → Type 0
AfterTime m text rest number first k old done =
    let ws = all_widths m.netlist in
    Reads m text rest number (List (List ℕ)) (MayFollow first ws) (λ clocks. rest_lines first k ws old clocks) (λ clocks. done ++ clocks)

-- within clock k, before variable i: the values of those before it, and the widths and old values from it on
abbrev pub InClock : (m : NamedNetlist) (text rest : List ℕ) (number : ℕ) (first : Bool) (k : ℕ) (done : List (List ℕ)) (i : ℕ) (new widths old : List ℕ) → Type 0
InClock m text rest number first k done i new widths old =
    let ws = all_widths m.netlist in
    Reads m text rest number (List ℕ × List (List ℕ)) (λ p. AreValues widths p.0 × AllFit ws p.1)
    (λ p. told_lines first i widths old p.0 ++ later_lines (k + 1) ws (new ++ p.0) p.1) (λ p. done ++ (new ++ p.0) ∷ p.1)

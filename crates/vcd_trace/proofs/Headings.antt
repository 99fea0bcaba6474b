-- A text that does not begin with the header.
use Rattle.std.proofs.Common.{◌≡◌, ℕ, zero, suc, ◌+◌, ◌<◌, ◌≤◌, Bool, true, false, inl, inr, List, [], ◌∷◌, ◌++◌, length, drop, get_or, codes, refl, ap, sym, subst, ◌∙◌, arith, append_assoc}
use Rattle.std.specs.Prelude.{nat_eq, if◌then◌else◌, Vec, Result, Ok, Err, MatchResult}
use Rattle.std.specs.declared.alloc.Global.{Global}
use Rattle.std.proofs.lemmas.Bool.{eqb-true}
use Rattle.netlist.specs.Names.{NamedNetlist}
use Rattle.cycle_sim.specs.Slots.{all_widths, words_of}
use Rattle.vcd_trace.specs.declared.fault.VcdError.{VcdError}
use Rattle.vcd_trace.specs.declared.fault.VcdError.TheVariants.{Fault, OutOfMemory}
use Rattle.vcd_trace.specs.Layout.{clock_lines, text_of}
use Rattle.vcd_trace.specs.Header.{header_text, timescale_text, scope_text, variables_text, end_text}
use Rattle.dk_grammar.specs.Lines.{IsPlain, IsAtLine, line_count}
use Rattle.dk_grammar.proofs.FaultyLines.{none_first_faulty, faulty_at}
use Rattle.vcd_trace.specs.Replayed.{IsTraceOf, IsTrace, IsFaultyLine, Gives}
use Rattle.vcd_trace.specs.Answers.{ReadsText, RefusesText}
use Rattle.vcd_trace.specs.Steps.{common_lines}
use Rattle.vcd_trace.proofs.Clocks.{drop_all}
use Rattle.vcd_trace.proofs.Agreeing.{plain_append, next_line, line_form}
use Rattle.vcd_trace.proofs.Timewise.{one_clock, clock_follows, cancel, split_line, line_some, header_differs}

differ_by : (x y : ℕ) → nat_eq x y ≡ false → x ≡ y → ⊥
differ_by x y e h = grind (arith, e, h)

-- what any trace has after these bytes of the header
behind : (m : NamedNetlist) (before cur hs xs : List ℕ) → header_text m ≡ before ++ (cur ++ hs) → header_text m ++ xs ≡ before ++ (cur ++ (hs ++ xs))
behind m before cur hs xs e = ap (λ z. z ++ xs) e ∙ append_assoc before (cur ++ hs) xs ∙ ap (λ z. before ++ z) (append_assoc cur hs xs)

stops : (m : NamedNetlist) (text before cur hs ts : List ℕ) (h number : ℕ) → IsAtLine text before (cur ++ ts) number → IsPlain cur → header_text m ≡ before ++ (cur ++ h ∷ hs)
    → ((line after more xs : List ℕ) → IsPlain line → cur ++ ts ≡ line ++ 10 ∷ after → cur ++ (h ∷ hs ++ xs) ≡ line ++ 10 ∷ more → ⊥) → ((xs : List ℕ) → ts ≡ h ∷ hs ++ xs → ⊥)
    → IsFaultyLine m text number
stops m text before cur hs ts h number at p head other short =
    let ws = all_widths m.netlist in
    let clocks = one_clock ws in
    let follows = clock_follows true ws in
    let end = text_of (clock_lines ws clocks) in
    faulty_at (IsTrace m) text before (cur ++ ts) number at
    (cur ++ (h ∷ hs ++ end), (clocks, record { some = follows.1 refl; fit = follows.0; is = sym (behind m before cur (h ∷ hs) end head) }))
    (λ line after more pl e t.
    let xs = text_of (clock_lines (all_widths m.netlist) t.0) in
    other line after more xs pl e (cancel before (cur ++ (h ∷ hs ++ xs)) (line ++ 10 ∷ more) (sym (behind m before cur (h ∷ hs) xs head) ∙ sym t.1.is)))
    (λ t.
    let xs = text_of (clock_lines (all_widths m.netlist) t.0) in
    short xs (cancel cur ts (h ∷ hs ++ xs) (cancel before (cur ++ ts) (cur ++ (h ∷ hs ++ xs)) (sym at.whole ∙ t.1.is ∙ behind m before cur (h ∷ hs) xs head))))

short_of : (cur line after : List ℕ) → IsPlain cur → cur ++ [] ≡ line ++ 10 ∷ after → ⊥
short_of cur line after p e = let l = split_line cur [] line after p e in line_some l.0 after l.2

pub header_fault : (m : NamedNetlist) (text before cur hs ts : List ℕ) (number : ℕ) → IsAtLine text before (cur ++ ts) number → IsPlain cur → header_text m ≡ before ++ (cur ++ hs)
    → ((more : List ℕ) → ts ≡ hs ++ more → ⊥) → IsFaultyLine m text (common_lines number hs ts)
header_fault m text before cur [] ts number at p head none = absurd (none ts refl)
header_fault m text before cur (h ∷ hs) [] number at p head none =
    stops m text before cur hs [] h number at p head (λ line after more xs pl e f. short_of cur line after p e) (λ xs e. cc)
header_fault m text before cur (h ∷ hs) (t ∷ ts) number at p head none =
    by (nat_eq h t) refl (λ same b c n a q e. header_fault m text b c hs ts n a q e (λ more f. none more (ap (λ z. z ∷ ts) (sym same) ∙ ap (λ z. h ∷ z) f)))
  where
    line_ends : (s : Bool) → nat_eq h 10 ≡ s → h ≡ t
        → ((b c : List ℕ) (n : ℕ) → IsAtLine text b (c ++ ts) n → IsPlain c → header_text m ≡ b ++ (c ++ hs) → IsFaultyLine m text (common_lines n hs ts))
        → IsFaultyLine m text (common_lines (if s then number + 1 else number) hs ts)
    line_ends true s same go =
        let lf : h ≡ 10 = eqb-true h 10 s in
        go (before ++ (cur ++ 10 ∷ [])) [] (number + 1)
        (next_line text before (cur ++ t ∷ ts) cur ts number at p (ap (λ z. cur ++ z ∷ ts) (sym same ∙ lf) ∙ sym (line_form cur ts))) tt
        (head ∙ ap (λ z. before ++ (cur ++ z ∷ hs)) lf ∙ ap (λ z. before ++ z) (sym (line_form cur hs)) ∙ sym (append_assoc before (cur ++ 10 ∷ []) hs))
    line_ends false s same go =
        let rest : cur ++ t ∷ ts ≡ (cur ++ h ∷ []) ++ ts = ap (λ z. cur ++ z ∷ ts) (sym same) ∙ sym (append_assoc cur (h ∷ []) ts) in
        go before (cur ++ h ∷ []) number (subst (λ z. IsAtLine text before z number) rest at) (plain_append cur (h ∷ []) p (differ_by h 10 s, tt))
        (head ∙ ap (λ z. before ++ z) (sym (append_assoc cur (h ∷ []) hs)))

    by : (s : Bool) → nat_eq h t ≡ s
        → (h ≡ t → (b c : List ℕ) (n : ℕ) → IsAtLine text b (c ++ ts) n → IsPlain c → header_text m ≡ b ++ (c ++ hs) → IsFaultyLine m text (common_lines n hs ts))
        → IsFaultyLine m text (if s then common_lines (if nat_eq h 10 then number + 1 else number) hs ts else number)
    by true s go = line_ends (nat_eq h 10) refl (eqb-true h t s) (go (eqb-true h t s))
    by false s go =
        stops m text before cur hs (t ∷ ts) h number at p head
        (λ line after more xs pl e f. header_differs cur hs ts line after more xs h t p (differ_by h t s) e f)
        (λ xs e. differ_by h t s (sym (Rattle.std.proofs.Common.ap (λ l. get_or l 0 0) e)))

-- a text that begins with the header
pub common_whole : (n : ℕ) (hs ts : List ℕ) → common_lines n hs (hs ++ ts) ≡ n + line_count hs
common_whole n [] ts = omega arith
common_whole n (h ∷ hs) ts =
    ap (λ b. if b then common_lines (if nat_eq h 10 then n + 1 else n) hs (hs ++ ts) else n) (let e : nat_eq h h ≡ true = grind arith in e)
    ∙ by (nat_eq h 10) (common_whole (n + 1) hs ts) (common_whole n hs ts)
  where
    by : (b : Bool) → common_lines (n + 1) hs (hs ++ ts) ≡ n + 1 + line_count hs → common_lines n hs (hs ++ ts) ≡ n + line_count hs
        → common_lines (if b then n + 1 else n) hs (hs ++ ts) ≡ n + (if b then suc (line_count hs) else line_count hs)
    by true e f = omega (arith, e)
    by false e f = f

end_ends : end_text ≡ codes "$upscope $end\n$enddefinitions $end" ++ 10 ∷ []
unfolding end_text
end_ends = refl

header_ends : (m : NamedNetlist) → (front : List ℕ) × (header_text m ≡ front ++ 10 ∷ [])
header_ends m =
    let scope = scope_text m.names.«module» in
    let vars = variables_text m in
    let last = codes "$upscope $end\n$enddefinitions $end" in (
      timescale_text ++ (scope ++ (vars ++ last)),
      ap (λ z. timescale_text ++ (scope ++ (vars ++ z))) end_ends
          ∙ ap (λ z. timescale_text ++ (scope ++ z)) (sym (append_assoc vars last (10 ∷ [])))
          ∙ ap (λ z. timescale_text ++ z) (sym (append_assoc scope (vars ++ last) (10 ∷ [])))
          ∙ sym (append_assoc timescale_text (scope ++ (vars ++ last)) (10 ∷ [])),
    )

pub behind_header : (m : NamedNetlist) (text rest : List ℕ) → text ≡ header_text m ++ rest → IsAtLine text (header_text m) rest (common_lines 1 (header_text m) text)
behind_header m text rest e = record {
  whole = e;
  lines = inr (header_ends m);
  number_is = ap (common_lines 1 (header_text m)) e ∙ (let n = common_whole 1 (header_text m) rest in n) ∙ (let k : 1 + line_count (header_text m) ≡ suc (line_count (header_text m)) = omega arith in k);
}

pub no_header : (m : NamedNetlist) (text : List ℕ) → ((more : List ℕ) → text ≡ header_text m ++ more → ⊥) → IsFaultyLine m text (common_lines 1 (header_text m) text)
no_header m text none = header_fault m text [] [] (header_text m) text 1 (record { whole = refl; lines = inl refl; number_is = refl }) tt refl none

pub common_stop : (n k total : ℕ) (xs ys : List ℕ) → common_lines n (drop k xs) (drop k ys) ≡ total → k < length xs → length ys ≤ k → n ≡ total
common_stop n k total xs ys e h g =
    sym (ap (λ z. common_lines n z (drop k ys)) (Rattle.std.proofs.lemmas.List.drop_more xs k 0 h) ∙ ap (λ z. common_lines n (get_or xs k 0 ∷ drop (k + 1) xs) z) (drop_all ys k g)) ∙ e

pub refuse_text : (m : NamedNetlist) (text head : List ℕ) (number : ℕ) → header_text m ≡ head → number ≡ common_lines 1 head text → ((more : List ℕ) → text ≡ head ++ more → ⊥) → IsFaultyLine m text number
refuse_text m text head number same e none =
    subst (IsFaultyLine m text) (ap (λ z. common_lines 1 z text) same ∙ sym e) (no_header m text (λ more f. none more (f ∙ ap (λ z. z ++ more) same)))

pub at_text : (m : NamedNetlist) (text head rest : List ℕ) (number : ℕ) → header_text m ≡ head → number ≡ common_lines 1 head text → text ≡ head ++ rest → IsAtLine text (header_text m) rest number
at_text m text head rest number same e f =
    subst (IsAtLine text (header_text m) rest) (ap (λ z. common_lines 1 z text) same ∙ sym e) (behind_header m text rest (f ∙ ap (λ z. z ++ rest) (sym same)))

-- the answer on the trace of these clocks
pub gives : (m : NamedNetlist) (head widths text : List ℕ) (clocks : List (List ℕ)) (r : Result (Vec (Vec ℕ Global) Global) VcdError) → all_widths m.netlist ≡ widths → header_text m ≡ head
    → MatchResult r (λ rows. ReadsText head widths text (words_of rows.items)) (λ e. RefusesText head widths text e) → IsTraceOf m clocks text → Gives clocks r
gives m head widths text clocks (Ok rows) w h reads t = sym ((reads m w h).only clocks t)
gives m head widths text clocks (Err (Fault line)) w h refuses t = none_first_faulty (IsTrace m) text line (clocks, t) (refuses m w h)
gives m head widths text clocks (Err OutOfMemory) w h refuses t = tt

-- Clocks that are read, one after another.
use Rattle.std.proofs.Common.{◌≡◌, ℕ, zero, suc, ◌+◌, ◌^◌, ◌<◌, ◌≤◌, Bool, true, false, inl, inr, List, [], ◌∷◌, ◌++◌, ◌-◌, length, map, take, drop, get_or, replicate, refl, ap, sym, subst, ◌∙◌, arith, append_assoc}
use Rattle.std.specs.Prelude.{Option, Some, None, MatchOption}
use Rattle.std.specs.Bool.{IsTrue}
use Rattle.std.proofs.Math.Nat.{one-le-pow}
use Rattle.std.specs.List.{AllByRecursion}
use Rattle.netlist.specs.Names.{NamedNetlist}
use Rattle.cycle_sim.specs.Slots.{all_widths}
use Rattle.vcd_trace.specs.Layout.{AreValues, value_line, time_line, all_lines, change_lines, changed_lines, later_lines, clock_lines, text_of}
use Rattle.vcd_trace.specs.Header.{trace_text, header_text}
use Rattle.dk_grammar.specs.Lines.{IsPlain, IsAtLine}
use Rattle.vcd_trace.specs.Replayed.{IsTraceOf, IsFaultyLine}
use Rattle.vcd_trace.specs.Answers.{IsReplay, RefusesAt, EndsAt}
use Rattle.vcd_trace.specs.declared.fault.VcdError.{VcdError}
use Rattle.vcd_trace.specs.Steps.{told_lines, rest_lines, Agrees, AllFit, MayFollow, AtTime, AfterTime, InClock}
use Rattle.vcd_trace.proofs.Lines.{head_same, tail_same}
use Rattle.vcd_trace.proofs.Agreeing.{plain_same, line_form, agree_front, agree_nothing, consume, relabel, faulty}
use Rattle.std.proofs.lemmas.List.{drop_more}
use Rattle.vcd_trace.proofs.Clocks.{at_width, same_count, drop_all}
use Rattle.vcd_trace.proofs.Clockwise.{time_plain, later_begin, zeros_fit}

none_more : {X : Type 0} (xs : List X) → xs ++ [] ≡ xs
none_more [] = refl
none_more (x ∷ xs) = ap (λ z. x ∷ z) (none_more xs)

pub cancel : (xs a b : List ℕ) → xs ++ a ≡ xs ++ b → a ≡ b
cancel [] a b e = e
cancel (x ∷ xs) a b e = cancel xs a b (tail_same x x (xs ++ a) (xs ++ b) e)

told_false : (i : ℕ) (ws old new : List ℕ) → told_lines false i ws old new ≡ changed_lines i ws old new
told_false i [] old new = refl
told_false i (w ∷ ws) [] new = refl
told_false i (w ∷ ws) (a ∷ old) [] = refl
told_false i (w ∷ ws) (a ∷ old) (b ∷ new) = ap (λ z. change_lines w i a b ++ z) (told_false (i + 1) ws old new)

told_true : (i : ℕ) (ws old new : List ℕ) → length old ≡ length ws → told_lines true i ws old new ≡ all_lines i ws new
told_true i [] old new e = refl
told_true i (w ∷ ws) [] new e = absurd (omega (arith, e))
told_true i (w ∷ ws) (a ∷ old) [] e = refl
told_true i (w ∷ ws) (a ∷ old) (b ∷ new) e = ap (λ z. value_line w i b ∷ z) (told_true (i + 1) ws old new (omega (arith, e)))

later_rest : (k : ℕ) (ws old : List ℕ) (clocks : List (List ℕ)) → later_lines k ws old clocks ≡ time_line k ∷ rest_lines false k ws old clocks
later_rest k ws old [] = refl
later_rest k ws old (new ∷ clocks) = ap (λ z. time_line k ∷ (z ++ later_lines (k + 1) ws new clocks)) (sym (told_false 0 ws old new))

clock_rest : (ws old : List ℕ) (clocks : List (List ℕ)) → length old ≡ length ws → clock_lines ws clocks ≡ time_line 0 ∷ rest_lines true 0 ws old clocks
clock_rest ws old [] e = refl
clock_rest ws old (new ∷ clocks) e = ap (λ z. time_line 0 ∷ (z ++ later_lines 1 ws new clocks)) (sym (told_true 0 ws old new e))

-- after the header
pub start : (m : NamedNetlist) (text rest : List ℕ) (number : ℕ) (old : List ℕ) → IsAtLine text (header_text m) rest number → length old ≡ length (all_widths m.netlist) → AtTime m text rest number true 0 old []
start m text rest number old at e =
    let ws = all_widths m.netlist in
    record {
      before = header_text m;
      place = at;
      some = λ c f. f.1 refl;
      fit = λ c f. f.0;
      same = λ c f. ap (λ z. header_text m ++ text_of z) (sym (clock_rest ws old c e));
      only = λ more agrees vs t. (vs, (t.fit, λ _. t.some), cancel (header_text m) more (text_of (time_line 0 ∷ rest_lines true 0 ws old vs)) (t.is ∙ ap (λ z. header_text m ++ text_of z) (clock_rest ws old vs e)), refl);
    }

pub time_read : (m : NamedNetlist) (text rest after : List ℕ) (number : ℕ) (first : Bool) (k : ℕ) (old : List ℕ) (done : List (List ℕ))
    → AtTime m text rest number first k old done → k < 2 ^ 64 → rest ≡ (time_line k ++ 10 ∷ []) ++ after → AfterTime m text after (number + 1) first k old done
time_read m text rest after number first k old done r small e =
    let ws = all_widths m.netlist in
    consume m text rest (time_line k) after number (MayFollow first ws) (MayFollow first ws)
    (λ clocks. time_line k ∷ rest_lines first k ws old clocks) (λ clocks. rest_lines first k ws old clocks) (λ clocks. done ++ clocks) (λ clocks. done ++ clocks)
    r (time_plain k small) e (λ c. c) (λ c f. f) (λ c f. refl) (λ c. refl)
    (λ more c f t. (c, f, (plain_same (time_line k) (time_line k) more (text_of (rest_lines first k ws old c)) (time_plain k small) (time_plain k small) (sym (line_form (time_line k) more) ∙ t)).1, refl))

-- a clock that may follow
pub one_clock : List ℕ → List (List ℕ)
one_clock ws = map (λ w. 0) ws ∷ []

pub clock_follows : (first : Bool) (ws : List ℕ) → MayFollow first ws (one_clock ws)
unfolding one_clock
clock_follows first ws = ((zeros_fit ws, tt), λ _. omega arith)

pub time_missing : (m : NamedNetlist) (text rest : List ℕ) (number : ℕ) (first : Bool) (k : ℕ) (old : List ℕ) (done : List (List ℕ))
    → AtTime m text rest number first k old done → k < 2 ^ 64 → ((more : List ℕ) → rest ≡ (time_line k ++ 10 ∷ []) ++ more → ⊥) → IsFaultyLine m text number
time_missing m text rest number first k old done r small none =
    let ws = all_widths m.netlist in
    faulty m text rest number (MayFollow first ws) (λ clocks. time_line k ∷ rest_lines first k ws old clocks) (λ clocks. done ++ clocks) r (one_clock ws) (clock_follows first ws)
    (λ more agrees c f t.
    let front = agree_front rest more (time_line k) (text_of (rest_lines first k ws old c)) agrees (time_plain k small) t in
    none front.0 front.1)

pub clock_begins : (m : NamedNetlist) (text rest : List ℕ) (number : ℕ) (first : Bool) (k : ℕ) (old : List ℕ) (done : List (List ℕ))
    → AfterTime m text rest number first k old done → (rest ≡ [] → ⊥) → InClock m text rest number first k done 0 [] (all_widths m.netlist) old
clock_begins m text rest number first k old done r some =
    let ws = all_widths m.netlist in
    relabel m text rest number (MayFollow first ws) (λ p. AreValues ws p.0 × AllFit ws p.1)
    (λ clocks. rest_lines first k ws old clocks) (λ p. told_lines first 0 ws old p.0 ++ later_lines (k + 1) ws ([] ++ p.0) p.1) (λ clocks. done ++ clocks) (λ p. done ++ ([] ++ p.0) ∷ p.1)
    r (λ p. p.0 ∷ p.1) (λ p f. ((f.0, f.1), λ _. omega arith)) (λ p f. refl) (λ p. refl) (λ more agrees c f t. down more agrees c f.0 t)
  where
    down : (more : List ℕ) → Agrees rest more → (c : List (List ℕ)) → AllFit (all_widths m.netlist) c → more ≡ text_of (rest_lines first k (all_widths m.netlist) old c)
        → (p : List ℕ × List (List ℕ)) × (AreValues (all_widths m.netlist) p.0 × AllFit (all_widths m.netlist) p.1) × (more ≡ text_of (told_lines first 0 (all_widths m.netlist) old p.0 ++ later_lines (k + 1) (all_widths m.netlist) p.0 p.1)) × (done ++ c ≡ done ++ p.0 ∷ p.1)
    down more agrees [] f t = absurd (some (agree_nothing rest (subst (Agrees rest) t agrees)))
    down more agrees (new ∷ clocks) f t = ((new, clocks), (f.0, f.1), t, refl)

pub clock_ends : (m : NamedNetlist) (text rest : List ℕ) (number : ℕ) (first : Bool) (k : ℕ) (done : List (List ℕ)) (i : ℕ) (new old : List ℕ)
    → InClock m text rest number first k done i new [] old → AtTime m text rest number false (k + 1) new (done ++ new ∷ [])
clock_ends m text rest number first k done i new old r =
    let ws = all_widths m.netlist in
    relabel m text rest number (λ p. AreValues [] p.0 × AllFit ws p.1) (MayFollow false ws)
    (λ p. told_lines first i [] old p.0 ++ later_lines (k + 1) ws (new ++ p.0) p.1) (λ clocks. time_line (k + 1) ∷ rest_lines false (k + 1) ws new clocks)
    (λ p. done ++ (new ++ p.0) ∷ p.1) (λ clocks. (done ++ new ∷ []) ++ clocks)
    r (λ clocks. ([], clocks)) (λ clocks f. (tt, f.0))
    (λ clocks f. ap (λ z. later_lines (k + 1) ws z clocks) (none_more new) ∙ later_rest (k + 1) ws new clocks)
    (λ clocks. ap (λ z. done ++ z ∷ clocks) (none_more new) ∙ sym (append_assoc done (new ∷ []) clocks))
    (λ more agrees p f t. down more p.0 p.1 f.0 f.1 t)
  where
    down : (more values : List ℕ) (clocks : List (List ℕ)) → AreValues [] values → AllFit (all_widths m.netlist) clocks → more ≡ text_of (told_lines first i [] old values ++ later_lines (k + 1) (all_widths m.netlist) (new ++ values) clocks)
        → (c : List (List ℕ)) × MayFollow false (all_widths m.netlist) c × (more ≡ text_of (time_line (k + 1) ∷ rest_lines false (k + 1) (all_widths m.netlist) new c)) × (done ++ (new ++ values) ∷ clocks ≡ (done ++ new ∷ []) ++ c)
    down more [] clocks fv fc t = (
      clocks,
      (fc, λ e. absurd (let f : ⊥ = cc in f)),
      t ∙ ap (λ z. text_of (later_lines (k + 1) (all_widths m.netlist) z clocks)) (none_more new) ∙ ap text_of (later_rest (k + 1) (all_widths m.netlist) new clocks),
      ap (λ z. done ++ z ∷ clocks) (none_more new) ∙ sym (append_assoc done (new ∷ []) clocks),
    )
    down more (x ∷ xs) clocks fv fc t = absurd fv

-- nothing is left after a time
pub trace_ends : (m : NamedNetlist) (text rest : List ℕ) (number : ℕ) (k : ℕ) (old : List ℕ) (done : List (List ℕ))
    → AfterTime m text rest number false k old done → rest ≡ [] → IsTraceOf m done text
trace_ends m text rest number k old done r e =
    let follows : MayFollow false (all_widths m.netlist) [] = (tt, λ e. absurd (let f : ⊥ = cc in f)) in
    record {
      some = subst (λ z. 1 ≤ length z) (none_more done) (r.some [] follows);
      fit = subst (λ z. AllByRecursion (AreValues (all_widths m.netlist)) z) (none_more done) (r.fit [] follows);
      is = r.place.whole ∙ ap (λ z. r.before ++ z) e ∙ r.same [] follows ∙ ap (trace_text m) (none_more done);
    }

pub line_some : (line rest : List ℕ) → [] ≡ line ++ 10 ∷ rest → ⊥
line_some [] rest e = cc
line_some (x ∷ line) rest e = cc

lines_some : (xs ys : List (List ℕ)) (line : List ℕ) (more : List (List ℕ)) → ys ≡ line ∷ more → [] ≡ text_of (xs ++ ys) → ⊥
lines_some [] ys line more e t = line_some line (text_of more) (t ∙ ap text_of e)
lines_some (x ∷ xs) ys line more e t = line_some x (text_of (xs ++ ys)) t

-- and it is the trace of only these clocks
pub trace_only : (m : NamedNetlist) (text rest : List ℕ) (number : ℕ) (first : Bool) (k : ℕ) (old : List ℕ) (done : List (List ℕ))
    → AfterTime m text rest number first k old done → rest ≡ [] → (clocks : List (List ℕ)) → IsTraceOf m clocks text → clocks ≡ done
trace_only m text rest number first k old done r e clocks t =
    let found = r.only rest (inl refl) clocks (record { some = t.some; fit = t.fit; is = sym r.place.whole ∙ t.is }) in
    by found.0 (sym e ∙ found.2) found.3
  where
    by : (c : List (List ℕ)) → [] ≡ text_of (rest_lines first k (all_widths m.netlist) old c) → clocks ≡ done ++ c → clocks ≡ done
    by [] h g = g ∙ none_more done
    by (new ∷ c) h g =
        let begins = later_begin (k + 1) (all_widths m.netlist) new c in
        absurd (lines_some (told_lines first 0 (all_widths m.netlist) old new) (later_lines (k + 1) (all_widths m.netlist) new c) (time_line (k + 1)) begins.0 begins.1 h)

-- nothing is left after the first time
first_only : (m : NamedNetlist) (text rest : List ℕ) (number : ℕ) (k : ℕ) (old : List ℕ) (done : List (List ℕ))
    → AfterTime m text rest number true k old done → rest ≡ [] → IsFaultyLine m text number
first_only m text rest number k old done r e =
    let ws = all_widths m.netlist in
    faulty m text rest number (MayFollow true ws) (λ clocks. rest_lines true k ws old clocks) (λ clocks. done ++ clocks) r (one_clock ws) (clock_follows true ws)
    (λ more agrees c f t. by c (f.1 refl) (sym (nothing more agrees) ∙ t))
  where
    nothing : (more : List ℕ) → Agrees rest more → more ≡ []
    nothing more (inl is) = is ∙ e
    nothing more (inr s) = absurd (line_some s.line s.after (sym e ∙ s.rest_is))

    by : (c : List (List ℕ)) → 1 ≤ length c → [] ≡ text_of (rest_lines true k (all_widths m.netlist) old c) → ⊥
    by [] some h = omega (arith, some)
    by (new ∷ c) some h =
        let begins = later_begin (k + 1) (all_widths m.netlist) new c in
        lines_some (told_lines true 0 (all_widths m.netlist) old new) (later_lines (k + 1) (all_widths m.netlist) new c) (time_line (k + 1)) begins.0 begins.1 h

-- the header
pub split_line : (cur xs line after : List ℕ) → IsPlain cur → cur ++ xs ≡ line ++ 10 ∷ after → (l : List ℕ) × (line ≡ cur ++ l) × (xs ≡ l ++ 10 ∷ after)
split_line [] xs line after p e = (line, refl, e)
split_line (c ∷ cur) xs [] after p e = absurd (p.0 (head_same c 10 (cur ++ xs) after e))
split_line (c ∷ cur) xs (y ∷ line) after p e =
    let more = split_line cur xs line after p.1 (tail_same c y (cur ++ xs) (line ++ 10 ∷ after) e) in
    (more.0, ap (λ z. z ∷ line) (sym (head_same c y (cur ++ xs) (line ++ 10 ∷ after) e)) ∙ ap (λ z. c ∷ z) more.1, more.2)

-- what differs after the same bytes
pub header_differs : (cur hs ts line after more xs : List ℕ) (h t : ℕ) → IsPlain cur → (h ≡ t → ⊥) → cur ++ t ∷ ts ≡ line ++ 10 ∷ after → cur ++ (h ∷ hs ++ xs) ≡ line ++ 10 ∷ more → ⊥
header_differs cur hs ts line after more xs h t p differ e f =
    let l = split_line cur (t ∷ ts) line after p e in
    let g : h ∷ hs ++ xs ≡ l.0 ++ 10 ∷ more = cancel cur (h ∷ hs ++ xs) (l.0 ++ 10 ∷ more) (f ∙ ap (λ z. z ++ 10 ∷ more) l.1 ∙ append_assoc cur l.0 (10 ∷ more)) in
    by l.0 l.2 g
  where
    by : (l : List ℕ) → t ∷ ts ≡ l ++ 10 ∷ after → h ∷ hs ++ xs ≡ l ++ 10 ∷ more → ⊥
    by [] a b = differ (head_same h 10 (hs ++ xs) more b ∙ sym (head_same t 10 ts after a))
    by (y ∷ l) a b = differ (head_same h y (hs ++ xs) (l ++ 10 ∷ more) b ∙ sym (head_same t y ts (l ++ 10 ∷ after) a))

-- one variable of a clock, by its place
pub at_place : (m : NamedNetlist) (text rest : List ℕ) (number : ℕ) (first : Bool) (k : ℕ) (done : List (List ℕ)) (i : ℕ) (new ws old : List ℕ) (w : ℕ)
    → AreValues ws old → i < length ws → w ≡ get_or ws i w
    → InClock m text rest number first k done i new (drop i ws) (drop i old) → InClock m text rest number first k done i new (w ∷ drop (i + 1) ws) (get_or old i 0 ∷ drop (i + 1) old)
at_place m text rest number first k done i new ws old w fits h at r =
    subst (λ z. InClock m text rest number first k done i new (w ∷ drop (i + 1) ws) z) (drop_more old i 0 (omega (arith, h, same_count ws old fits)))
    (subst (λ z. InClock m text rest number first k done i new z (drop i old)) (at_width ws i w h at) r)

pub at_end : (m : NamedNetlist) (text rest : List ℕ) (number : ℕ) (first : Bool) (k : ℕ) (done : List (List ℕ)) (i : ℕ) (new ws old : List ℕ)
    → length ws ≤ i → InClock m text rest number first k done i new (drop i ws) (drop i old) → AtTime m text rest number false (k + 1) new (done ++ new ∷ [])
at_end m text rest number first k done i new ws old h r =
    clock_ends m text rest number first k done i new (drop i old) (subst (λ z. InClock m text rest number first k done i new z (drop i old)) (drop_all ws i h) r)

pub clock_in : (m : NamedNetlist) (text rest after : List ℕ) (number : ℕ) (first : Bool) (k : ℕ) (ws old : List ℕ) (done : List (List ℕ))
    → AtTime m text rest number first k old done → k < 2 ^ 64 → rest ≡ (time_line k ++ 10 ∷ []) ++ after → (after ≡ [] → ⊥) → all_widths m.netlist ≡ ws
    → InClock m text after (number + 1) first k done 0 [] ws old
clock_in m text rest after number first k ws old done r small e some same =
    subst (λ z. InClock m text after (number + 1) first k done 0 [] z old) same (clock_begins m text after (number + 1) first k old done (time_read m text rest after number first k old done r small e) some)

pub replay_ends : (m : NamedNetlist) (text rest after : List ℕ) (number : ℕ) (first : Bool) (k : ℕ) (old : List ℕ) (done : List (List ℕ))
    → first ≡ false → AtTime m text rest number first k old done → k < 2 ^ 64 → rest ≡ (time_line k ++ 10 ∷ []) ++ after → after ≡ [] → IsReplay m text done
replay_ends m text rest after number true k old done later r small e none = absurd (let f : ⊥ = cc in f)
replay_ends m text rest after number false k old done later r small e none =
    let ended = time_read m text rest after number false k old done r small e in
    record {
      trace = trace_ends m text after (number + 1) k old done ended none;
      only = trace_only m text after (number + 1) false k old done ended none;
    }

-- the text ends after the line of the first time
pub clock_missing : (m : NamedNetlist) (text rest after : List ℕ) (number : ℕ) (first : Bool) (k : ℕ) (old : List ℕ) (done : List (List ℕ))
    → first ≡ true → AtTime m text rest number first k old done → k < 2 ^ 64 → rest ≡ (time_line k ++ 10 ∷ []) ++ after → after ≡ [] → IsFaultyLine m text (number + 1)
clock_missing m text rest after number true k old done begins r small e none = first_only m text after (number + 1) k old done (time_read m text rest after number true k old done r small e) none
clock_missing m text rest after number false k old done begins r small e none = absurd (let f : ⊥ = cc in f)

pub never : IsTrue false → ⊥
never e = grind (arith, e)

zero_fits : (w : ℕ) → 0 < 2 ^ w
zero_fits w = one-le-pow w 2 (omega arith)

pub zeros_are : (ws : List ℕ) → AreValues ws (replicate (length ws) 0)
zeros_are [] = tt
zeros_are (w ∷ ws) = (zero_fits w, zeros_are ws)

take_none : (n : ℕ) → take n (let none : List ℕ = [] in none) ≡ []
take_none zero = refl
take_none (suc n) = refl

pub zeros_of : (ws new start : List ℕ) (n k : ℕ) → start ≡ [] → k ≡ 0 → n ≡ length ws → new ≡ take n start ++ replicate (n - k) 0 → AreValues ws new
zeros_of ws new start n k s z e is =
    let count : n - k ≡ length ws = omega (arith, z, e) in
    subst (AreValues ws) (sym (is ∙ ap (λ x. take n x ++ replicate (n - k) 0) s ∙ ap (λ x. x ++ replicate (n - k) 0) (take_none n) ∙ ap (λ x. replicate x 0) count)) (zeros_are ws)

pub none_of : {X : Type 0} (P : Type 0) (Q : X → Type 0) (o : Option X) → o ≡ None → MatchOption o P Q → P
none_of P Q None e h = h
none_of P Q (Some x) e h = absurd (let f : ⊥ = cc in f)

pub fails_at : (first : Bool) (k : ℕ) (ws b old bytes : List ℕ) (number : ℕ) (e : VcdError) → b ≡ old → RefusesAt first k ws b bytes number e → RefusesAt first k ws old bytes number e
fails_at first k ws b old bytes number e same h = subst (λ z. RefusesAt first k ws z bytes number e) same h

pub ends_at : (first : Bool) (k : ℕ) (ws b old bytes : List ℕ) (number : ℕ) → b ≡ old → EndsAt first k ws b bytes number → EndsAt first k ws old bytes number
ends_at first k ws b old bytes number same h = subst (λ z. EndsAt first k ws z bytes number) same h

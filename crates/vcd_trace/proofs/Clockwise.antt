-- A clock that is read, variable by variable.
use Rattle.std.proofs.Common.{◌≡◌, ℕ, zero, suc, ◌+◌, ◌^◌, ◌<◌, Bool, true, false, List, [], ◌∷◌, ◌++◌, map, get_or, refl, ap, sym, subst, ◌∙◌, arith, append_assoc}
use Rattle.std.specs.Prelude.{nat_eq, if◌then◌else◌, decimal}
use Rattle.std.specs.Int.Digits.{digits_of}
use Rattle.std.proofs.lemmas.Bool.{eqb-true}
use Rattle.std.proofs.lemmas.Fmt.{decimal-digits_of, decimal_digit}
use Rattle.netlist.specs.Names.{NamedNetlist}
use Rattle.cycle_sim.specs.Slots.{all_widths}
use Rattle.vcd_trace.specs.Layout.{AreValues, value_line, time_line, changed_lines, later_lines, text_of}
use Rattle.dk_grammar.specs.Lines.{IsPlain}
use Rattle.vcd_trace.specs.Replayed.{IsFaultyLine}
use Rattle.vcd_trace.specs.Steps.{stays, told_lines, Agrees, AllFit, InClock}
use Rattle.vcd_trace.proofs.Lines.{line_by, shows}
use Rattle.vcd_trace.proofs.Agreeing.{value_plain, shifted_plain, plain_same, line_form, agree_front, agree_back, consume, relabel, faulty}

-- times
decimal_plain : (k : ℕ) → k < 2 ^ 64 → IsPlain (decimal k)
decimal_plain zero h = subst IsPlain (sym (decimal_digit 0 (omega arith))) ((λ e. omega (arith, e)), tt)
decimal_plain (suc k) h = subst IsPlain (sym (decimal-digits_of (suc k) (omega arith) h)) (shifted_plain 48 (digits_of 10 (suc k)) (omega arith))

pub time_plain : (k : ℕ) → k < 2 ^ 64 → IsPlain (time_line k)
time_plain k h = ((λ e. omega (arith, e)), decimal_plain k h)

no_time : (b : Bool) (k i v : ℕ) (xs ys : List ℕ) → time_line k ++ xs ≡ line_by b i v ++ ys → ⊥
no_time true k i v xs ys e = let f : 35 ≡ 48 + v = ap (λ l. get_or l 0 0) e in omega (arith, f)
no_time false k i v xs ys e = let f : 35 ≡ 98 = ap (λ l. get_or l 0 0) e in omega (arith, f)

-- lines of a time begin with it
pub later_begin : (k : ℕ) (ws new : List ℕ) (clocks : List (List ℕ)) → (more : List (List ℕ)) × (later_lines k ws new clocks ≡ time_line k ∷ more)
later_begin k ws new [] = ([], refl)
later_begin k ws new (next ∷ clocks) = (changed_lines 0 ws new next ++ later_lines (k + 1) ws next clocks, refl)

no_later : (k : ℕ) (ws new : List ℕ) (clocks : List (List ℕ)) (w i v : ℕ) (more : List ℕ) → text_of (later_lines k ws new clocks) ≡ (value_line w i v ++ 10 ∷ []) ++ more → ⊥
no_later k ws new clocks w i v more e =
    let begins = later_begin k ws new clocks in
    no_time (nat_eq w 1) k i v (10 ∷ text_of begins.0) (10 ∷ more) (sym (ap text_of begins.1) ∙ e ∙ line_form (value_line w i v) more)

-- a variable before these is not among their lines
pub not_told : (first : Bool) (i : ℕ) (ws old new : List ℕ) → AreValues ws new → (w j v : ℕ) → j < i → v < 2 ^ w → (k : ℕ) (all next : List ℕ) (clocks : List (List ℕ)) (more : List ℕ)
    → text_of (told_lines first i ws old new ++ later_lines k all next clocks) ≡ (value_line w j v ++ 10 ∷ []) ++ more → ⊥
not_told first i [] old new h w j v l f k all next clocks more e = no_later k all next clocks w j v more e
not_told first i (x ∷ ws) [] new h w j v l f k all next clocks more e = no_later k all next clocks w j v more e
not_told first i (x ∷ ws) (a ∷ old) [] h w j v l f k all next clocks more e = no_later k all next clocks w j v more e
not_told first i (x ∷ ws) (a ∷ old) (b ∷ new) h w j v l f k all next clocks more e =
    by (stays first a b) (not_told first (i + 1) ws old new h.1 w j v (omega (arith, l)) f k all next clocks more) e
  where
    by : (s : Bool) → (text_of (told_lines first (i + 1) ws old new ++ later_lines k all next clocks) ≡ (value_line w j v ++ 10 ∷ []) ++ more → ⊥)
        → text_of (((if s then [] else value_line x i b ∷ []) ++ told_lines first (i + 1) ws old new) ++ later_lines k all next clocks) ≡ (value_line w j v ++ 10 ∷ []) ++ more → ⊥
    by true rest e = rest e
    by false rest e =
        let same = plain_same (value_line x i b) (value_line w j v) (text_of (told_lines first (i + 1) ws old new ++ later_lines k all next clocks)) more (value_plain x i b) (value_plain w j v) (e ∙ line_form (value_line w j v) more) in
        let which = shows x w i j b v h.0 f same.0 in
        omega (arith, which.0, l)

-- the values that are specified, with one more
one_more : (xs : List ℕ) (x : ℕ) (ys : List ℕ) → xs ++ x ∷ ys ≡ (xs ++ x ∷ []) ++ ys
one_more xs x ys = sym (append_assoc xs (x ∷ []) ys)

-- a variable's line was read
pub value_read : (m : NamedNetlist) (text rest after : List ℕ) (number : ℕ) (first : Bool) (k : ℕ) (done : List (List ℕ)) (i : ℕ) (new ws old : List ℕ) (w a v : ℕ)
    → InClock m text rest number first k done i new (w ∷ ws) (a ∷ old) → v < 2 ^ w → stays first a v ≡ false → rest ≡ (value_line w i v ++ 10 ∷ []) ++ after
    → InClock m text after (number + 1) first k done (i + 1) (new ++ v ∷ []) ws old
value_read m text rest after number first k done i new ws old w a v r l s e =
    let all = all_widths m.netlist in
    consume m text rest (value_line w i v) after number
    (λ p. AreValues (w ∷ ws) p.0 × AllFit all p.1) (λ p. AreValues ws p.0 × AllFit all p.1)
    (λ p. told_lines first i (w ∷ ws) (a ∷ old) p.0 ++ later_lines (k + 1) all (new ++ p.0) p.1) (λ p. told_lines first (i + 1) ws old p.0 ++ later_lines (k + 1) all ((new ++ v ∷ []) ++ p.0) p.1)
    (λ p. done ++ (new ++ p.0) ∷ p.1) (λ p. done ++ ((new ++ v ∷ []) ++ p.0) ∷ p.1)
    r (value_plain w i v) e
    (λ p. (v ∷ p.0, p.1))
    (λ p f. ((l, f.0), f.1))
    (λ p f. ap (λ b. ((if b then [] else value_line w i v ∷ []) ++ told_lines first (i + 1) ws old p.0) ++ later_lines (k + 1) all (new ++ v ∷ p.0) p.1) s
    ∙ ap (λ z. value_line w i v ∷ (told_lines first (i + 1) ws old p.0 ++ later_lines (k + 1) all z p.1)) (one_more new v p.0))
    (λ p. ap (λ z. done ++ z ∷ p.1) (one_more new v p.0))
    (λ more p f t. down more p.0 p.1 f.0 f.1 t)
  where
    split : (s : Bool) (x : ℕ) (xs : List ℕ) (clocks : List (List ℕ)) (more : List ℕ) → x < 2 ^ w → AreValues ws xs → AllFit (all_widths m.netlist) clocks
        → (value_line w i v ++ 10 ∷ []) ++ more ≡ text_of (((if s then [] else value_line w i x ∷ []) ++ told_lines first (i + 1) ws old xs) ++ later_lines (k + 1) (all_widths m.netlist) (new ++ x ∷ xs) clocks)
        → (p : List ℕ × List (List ℕ)) × (AreValues ws p.0 × AllFit (all_widths m.netlist) p.1) × (more ≡ text_of (told_lines first (i + 1) ws old p.0 ++ later_lines (k + 1) (all_widths m.netlist) ((new ++ v ∷ []) ++ p.0) p.1)) × (done ++ (new ++ x ∷ xs) ∷ clocks ≡ done ++ ((new ++ v ∷ []) ++ p.0) ∷ p.1)
    split true x xs clocks more fx fs fc t = absurd (not_told first (i + 1) ws old xs fs w i v (omega arith) l (k + 1) (all_widths m.netlist) (new ++ x ∷ xs) clocks more (sym t))
    split false x xs clocks more fx fs fc t =
        let same = plain_same (value_line w i v) (value_line w i x) more (text_of (told_lines first (i + 1) ws old xs ++ later_lines (k + 1) (all_widths m.netlist) (new ++ x ∷ xs) clocks)) (value_plain w i v) (value_plain w i x) (sym (line_form (value_line w i v) more) ∙ t) in
        let value = (shows w w i i v x l fx same.0).1 in (
          (xs, clocks),
          (fs, fc),
          same.1 ∙ ap (λ z. text_of (told_lines first (i + 1) ws old xs ++ later_lines (k + 1) (all_widths m.netlist) (new ++ z ∷ xs) clocks)) (sym value)
              ∙ ap (λ z. text_of (told_lines first (i + 1) ws old xs ++ later_lines (k + 1) (all_widths m.netlist) z clocks)) (one_more new v xs),
          ap (λ z. done ++ (new ++ z ∷ xs) ∷ clocks) (sym value) ∙ ap (λ z. done ++ z ∷ clocks) (one_more new v xs),
        )

    down : (more values : List ℕ) (clocks : List (List ℕ)) → AreValues (w ∷ ws) values → AllFit (all_widths m.netlist) clocks
        → (value_line w i v ++ 10 ∷ []) ++ more ≡ text_of (told_lines first i (w ∷ ws) (a ∷ old) values ++ later_lines (k + 1) (all_widths m.netlist) (new ++ values) clocks)
        → (p : List ℕ × List (List ℕ)) × (AreValues ws p.0 × AllFit (all_widths m.netlist) p.1) × (more ≡ text_of (told_lines first (i + 1) ws old p.0 ++ later_lines (k + 1) (all_widths m.netlist) ((new ++ v ∷ []) ++ p.0) p.1)) × (done ++ (new ++ values) ∷ clocks ≡ done ++ ((new ++ v ∷ []) ++ p.0) ∷ p.1)
    down more [] clocks fv fc t = absurd fv
    down more (x ∷ xs) clocks fv fc t = split (stays first a x) x xs clocks more fv.0 fv.1 fc t

kept : (a : ℕ) → stays false a a ≡ true
kept a = grind arith

-- the line at the front is of no such variable, so its value is what it was
pub value_kept : (m : NamedNetlist) (text rest : List ℕ) (number : ℕ) (k : ℕ) (done : List (List ℕ)) (i : ℕ) (new ws old : List ℕ) (w a : ℕ)
    → InClock m text rest number false k done i new (w ∷ ws) (a ∷ old) → a < 2 ^ w → ((v : ℕ) (more : List ℕ) → v < 2 ^ w → rest ≡ (value_line w i v ++ 10 ∷ []) ++ more → ⊥)
    → InClock m text rest number false k done (i + 1) (new ++ a ∷ []) ws old
value_kept m text rest number k done i new ws old w a r l none =
    let all = all_widths m.netlist in
    relabel m text rest number
    (λ p. AreValues (w ∷ ws) p.0 × AllFit all p.1) (λ p. AreValues ws p.0 × AllFit all p.1)
    (λ p. told_lines false i (w ∷ ws) (a ∷ old) p.0 ++ later_lines (k + 1) all (new ++ p.0) p.1) (λ p. told_lines false (i + 1) ws old p.0 ++ later_lines (k + 1) all ((new ++ a ∷ []) ++ p.0) p.1)
    (λ p. done ++ (new ++ p.0) ∷ p.1) (λ p. done ++ ((new ++ a ∷ []) ++ p.0) ∷ p.1)
    r
    (λ p. (a ∷ p.0, p.1))
    (λ p f. ((l, f.0), f.1))
    (λ p f. ap (λ b. ((if b then [] else value_line w i a ∷ []) ++ told_lines false (i + 1) ws old p.0) ++ later_lines (k + 1) all (new ++ a ∷ p.0) p.1) (kept a)
    ∙ ap (λ z. told_lines false (i + 1) ws old p.0 ++ later_lines (k + 1) all z p.1) (one_more new a p.0))
    (λ p. ap (λ z. done ++ z ∷ p.1) (one_more new a p.0))
    (λ more agrees p f t. down more agrees p.0 p.1 f.0 f.1 t)
  where
    split : (s : Bool) (x : ℕ) (xs : List ℕ) (clocks : List (List ℕ)) (more : List ℕ) → nat_eq a x ≡ s → Agrees rest more → x < 2 ^ w → AreValues ws xs → AllFit (all_widths m.netlist) clocks
        → more ≡ text_of (((if s then [] else value_line w i x ∷ []) ++ told_lines false (i + 1) ws old xs) ++ later_lines (k + 1) (all_widths m.netlist) (new ++ x ∷ xs) clocks)
        → (p : List ℕ × List (List ℕ)) × (AreValues ws p.0 × AllFit (all_widths m.netlist) p.1) × (more ≡ text_of (told_lines false (i + 1) ws old p.0 ++ later_lines (k + 1) (all_widths m.netlist) ((new ++ a ∷ []) ++ p.0) p.1)) × (done ++ (new ++ x ∷ xs) ∷ clocks ≡ done ++ ((new ++ a ∷ []) ++ p.0) ∷ p.1)
    split true x xs clocks more s agrees fx fs fc t = (
      (xs, clocks),
      (fs, fc),
      t ∙ ap (λ z. text_of (told_lines false (i + 1) ws old xs ++ later_lines (k + 1) (all_widths m.netlist) (new ++ z ∷ xs) clocks)) (sym (eqb-true a x s))
          ∙ ap (λ z. text_of (told_lines false (i + 1) ws old xs ++ later_lines (k + 1) (all_widths m.netlist) z clocks)) (one_more new a xs),
      ap (λ z. done ++ (new ++ z ∷ xs) ∷ clocks) (sym (eqb-true a x s)) ∙ ap (λ z. done ++ z ∷ clocks) (one_more new a xs),
    )
    split false x xs clocks more s agrees fx fs fc t =
        let front = agree_front rest more (value_line w i x) (text_of (told_lines false (i + 1) ws old xs ++ later_lines (k + 1) (all_widths m.netlist) (new ++ x ∷ xs) clocks)) agrees (value_plain w i x) t in
        absurd (none x front.0 fx front.1)

    down : (more : List ℕ) → Agrees rest more → (values : List ℕ) (clocks : List (List ℕ)) → AreValues (w ∷ ws) values → AllFit (all_widths m.netlist) clocks
        → more ≡ text_of (told_lines false i (w ∷ ws) (a ∷ old) values ++ later_lines (k + 1) (all_widths m.netlist) (new ++ values) clocks)
        → (p : List ℕ × List (List ℕ)) × (AreValues ws p.0 × AllFit (all_widths m.netlist) p.1) × (more ≡ text_of (told_lines false (i + 1) ws old p.0 ++ later_lines (k + 1) (all_widths m.netlist) ((new ++ a ∷ []) ++ p.0) p.1)) × (done ++ (new ++ values) ∷ clocks ≡ done ++ ((new ++ a ∷ []) ++ p.0) ∷ p.1)
    down more agrees [] clocks fv fc t = absurd fv
    down more agrees (x ∷ xs) clocks fv fc t = split (nat_eq a x) x xs clocks more refl agrees fv.0 fv.1 fc t

-- there are values that fit
pub zeros_fit : (ws : List ℕ) → AreValues ws (map (λ w. 0) ws)
zeros_fit [] = tt
zeros_fit (w ∷ ws) = (Rattle.std.proofs.Math.Nat.one-le-pow w 2 (omega arith), zeros_fit ws)

-- a line that states what is so already
pub value_idle : (m : NamedNetlist) (text rest after : List ℕ) (number : ℕ) (first : Bool) (k : ℕ) (done : List (List ℕ)) (i : ℕ) (new ws old : List ℕ) (w a v : ℕ)
    → InClock m text rest number first k done i new (w ∷ ws) (a ∷ old) → v < 2 ^ w → stays first a v ≡ true → rest ≡ (value_line w i v ++ 10 ∷ []) ++ after
    → IsFaultyLine m text number
value_idle m text rest after number first k done i new ws old w a v r l s e =
    let all = all_widths m.netlist in
    faulty m text rest number
    (λ p. AreValues (w ∷ ws) p.0 × AllFit all p.1)
    (λ p. told_lines first i (w ∷ ws) (a ∷ old) p.0 ++ later_lines (k + 1) all (new ++ p.0) p.1)
    (λ p. done ++ (new ++ p.0) ∷ p.1)
    r (v ∷ map (λ w. 0) ws, []) ((l, zeros_fit ws), tt)
    (λ more agrees p f t. down more (agree_back rest more (value_line w i v) after agrees (value_plain w i v) e) p.0 p.1 f.0 f.1 t)
  where
    split : (b : Bool) (x : ℕ) (xs : List ℕ) (clocks : List (List ℕ)) (more behind : List ℕ) → stays first a x ≡ b → more ≡ (value_line w i v ++ 10 ∷ []) ++ behind → x < 2 ^ w → AreValues ws xs
        → more ≡ text_of (((if b then [] else value_line w i x ∷ []) ++ told_lines first (i + 1) ws old xs) ++ later_lines (k + 1) (all_widths m.netlist) (new ++ x ∷ xs) clocks) → ⊥
    split true x xs clocks more behind b is fx fs t = not_told first (i + 1) ws old xs fs w i v (omega arith) l (k + 1) (all_widths m.netlist) (new ++ x ∷ xs) clocks behind (sym t ∙ is)
    split false x xs clocks more behind b is fx fs t =
        let same = plain_same (value_line w i v) (value_line w i x) behind (text_of (told_lines first (i + 1) ws old xs ++ later_lines (k + 1) (all_widths m.netlist) (new ++ x ∷ xs) clocks)) (value_plain w i v) (value_plain w i x) (sym (line_form (value_line w i v) behind) ∙ sym is ∙ t) in
        let value = (shows w w i i v x l fx same.0).1 in
        let wrong : true ≡ false = sym s ∙ ap (stays first a) value ∙ b in
        cc

    down : (more : List ℕ) → (behind : List ℕ) × (more ≡ (value_line w i v ++ 10 ∷ []) ++ behind) → (values : List ℕ) (clocks : List (List ℕ)) → AreValues (w ∷ ws) values → AllFit (all_widths m.netlist) clocks
        → more ≡ text_of (told_lines first i (w ∷ ws) (a ∷ old) values ++ later_lines (k + 1) (all_widths m.netlist) (new ++ values) clocks) → ⊥
    down more front [] clocks fv fc t = fv
    down more front (x ∷ xs) clocks fv fc t = split (stays first a x) x xs clocks more front.0 refl front.1 fv.0 fv.1 t

-- at the first clock each variable has its line
pub value_missing : (m : NamedNetlist) (text rest : List ℕ) (number : ℕ) (k : ℕ) (done : List (List ℕ)) (i : ℕ) (new ws old : List ℕ) (w a : ℕ)
    → InClock m text rest number true k done i new (w ∷ ws) (a ∷ old) → ((v : ℕ) (more : List ℕ) → v < 2 ^ w → rest ≡ (value_line w i v ++ 10 ∷ []) ++ more → ⊥)
    → IsFaultyLine m text number
value_missing m text rest number k done i new ws old w a r none =
    let all = all_widths m.netlist in
    faulty m text rest number
    (λ p. AreValues (w ∷ ws) p.0 × AllFit all p.1)
    (λ p. told_lines true i (w ∷ ws) (a ∷ old) p.0 ++ later_lines (k + 1) all (new ++ p.0) p.1)
    (λ p. done ++ (new ++ p.0) ∷ p.1)
    r (map (λ w. 0) (w ∷ ws), []) (zeros_fit (w ∷ ws), tt)
    (λ more agrees p f t. down more agrees p.0 p.1 f.0 t)
  where
    down : (more : List ℕ) → Agrees rest more → (values : List ℕ) (clocks : List (List ℕ)) → AreValues (w ∷ ws) values
        → more ≡ text_of (told_lines true i (w ∷ ws) (a ∷ old) values ++ later_lines (k + 1) (all_widths m.netlist) (new ++ values) clocks) → ⊥
    down more agrees [] clocks fv t = fv
    down more agrees (x ∷ xs) clocks fv t =
        let front = agree_front rest more (value_line w i x) (text_of (told_lines true (i + 1) ws old xs ++ later_lines (k + 1) (all_widths m.netlist) (new ++ x ∷ xs) clocks)) agrees (value_plain w i x) t in
        none x front.0 fv.0 front.1

pub missing_at : (first : Bool) (m : NamedNetlist) (text rest : List ℕ) (number : ℕ) (k : ℕ) (done : List (List ℕ)) (i : ℕ) (new ws old : List ℕ) (w a : ℕ)
    → first ≡ true → ((v : ℕ) (more : List ℕ) → v < 2 ^ w → rest ≡ (value_line w i v ++ 10 ∷ []) ++ more → ⊥)
    → InClock m text rest number first k done i new (w ∷ ws) (a ∷ old) → IsFaultyLine m text number
missing_at true m text rest number k done i new ws old w a e none r = value_missing m text rest number k done i new ws old w a r none
missing_at false m text rest number k done i new ws old w a e none r = absurd (let f : ⊥ = cc in f)

pub kept_at : (first : Bool) (m : NamedNetlist) (text rest : List ℕ) (number : ℕ) (k : ℕ) (done : List (List ℕ)) (i : ℕ) (new ws old : List ℕ) (w a : ℕ)
    → first ≡ false → a < 2 ^ w → ((v : ℕ) (more : List ℕ) → v < 2 ^ w → rest ≡ (value_line w i v ++ 10 ∷ []) ++ more → ⊥)
    → InClock m text rest number first k done i new (w ∷ ws) (a ∷ old) → InClock m text rest number first k done (i + 1) (new ++ a ∷ []) ws old
kept_at false m text rest number k done i new ws old w a e l none r = value_kept m text rest number k done i new ws old w a r l none
kept_at true m text rest number k done i new ws old w a e l none r = absurd (let f : ⊥ = cc in f)

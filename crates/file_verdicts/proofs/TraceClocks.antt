-- A clock of a trace: its values are read, or a line of it is the first faulty one.
use Rattle.std.proofs.Common.{◌≡◌, ◌∙◌, refl, sym, ap, [], ◌∷◌, ◌++◌, List, ℕ, ◌+◌, ◌^◌, ◌<◌, ◌≤◌, ◌⊎◌, inl, inr, Bool, true, false, arith, length, length-append}
use Rattle.netlist.specs.Names.{NamedNetlist}
use Rattle.cycle_sim.specs.Slots.{all_widths}
use Rattle.vcd_trace.specs.Layout.{AreValues, value_line, time_line, later_lines, text_of}
use Rattle.vcd_trace.specs.Replayed.{IsFaultyLine}
use Rattle.vcd_trace.specs.Steps.{stays, told_lines, rest_lines, Agrees, MayFollow, AtTime, AfterTime, InClock}
use Rattle.vcd_trace.proofs.Agreeing.{plain_same, line_form, agree_front, consume, faulty}
use Rattle.vcd_trace.proofs.Clockwise.{later_begin, value_read, value_idle, missing_at, kept_at}
use Rattle.vcd_trace.proofs.Timewise.{one_clock, clock_follows, clock_ends, line_some}
use Rattle.file_verdicts.proofs.ValueLines.{HasNoFront, HasLine, HasNoLine, line_judged, time_plain}

lines_some : (xs ys : List (List ℕ)) (line : List ℕ) (more : List (List ℕ)) → ys ≡ line ∷ more → [] ≡ text_of (xs ++ ys) → ⊥
lines_some [] ys line more e t = line_some line (text_of more) (t ∙ ap text_of e)
lines_some (x ∷ xs) ys line more e t = line_some x (text_of (xs ++ ys)) t

module _ (m : NamedNetlist) (text : List ℕ) where
  abbrev pub HasFault : Type 0
  HasFault = (number : ℕ) × IsFaultyLine m text number

  -- The clock is read: these are its values, and the bytes after it, which are no more than before.
  pub record ClockRead (k most : ℕ) (done : List (List ℕ)) : Type 0 where
    pub values : List ℕ
    pub rest : List ℕ
    pub number : ℕ
    pub at : AtTime m text rest number false (k + 1) values (done ++ values ∷ [])
    pub fewer : length rest ≤ most

  fewer_bytes : (line rest bytes : List ℕ) (most : ℕ) → bytes ≡ (line ++ 10 ∷ []) ++ rest → length bytes ≤ most → length rest ≤ most
  fewer_bytes line rest bytes most e l = omega (arith, ap length e, l, length-append (line ++ 10 ∷ []) rest)

  -- what is after variable i is read
  abbrev Onward : (first : Bool) (k most : ℕ) (done : List (List ℕ)) (ws old : List ℕ) (i : ℕ) → Type 0
  Onward first k most done ws old i = (new rest : List ℕ) (number : ℕ) → length rest ≤ most → InClock m text rest number first k done (i + 1) new ws old → ClockRead k most done ⊎ HasFault

  pub clock_judged : (first : Bool) (k most : ℕ) (done : List (List ℕ)) (ws old new : List ℕ) (i : ℕ) (rest : List ℕ) (number : ℕ) → AreValues ws old → length rest ≤ most
      → InClock m text rest number first k done i new ws old → ClockRead k most done ⊎ HasFault
  clock_judged first k most done [] [] new i rest number fits l r =
      inl (record { values = new; rest = rest; number = number; at = clock_ends m text rest number first k done i new [] r; fewer = l })
  clock_judged first k most done [] (a ∷ old) new i rest number fits l r = absurd fits
  clock_judged first k most done (w ∷ ws) [] new i rest number fits l r = absurd fits
  clock_judged first k most done (w ∷ ws) (a ∷ old) new i rest number fits l r =
      by (line_judged w i rest) (λ next after n small q. clock_judged first k most done ws old next (i + 1) after n fits.1 small q)
    where
      with_line : (v : ℕ) (after : List ℕ) → v < 2 ^ w → rest ≡ (value_line w i v ++ 10 ∷ []) ++ after → (b : Bool) → stays first a v ≡ b → Onward first k most done ws old i → ClockRead k most done ⊎ HasFault
      with_line v after small e true s go = inr (number, value_idle m text rest after number first k done i new ws old w a v r small s e)
      with_line v after small e false s go = go (new ++ v ∷ []) after (number + 1) (fewer_bytes (value_line w i v) after rest most e l) (value_read m text rest after number first k done i new ws old w a v r small s e)

      without_line : HasNoLine w i rest → (b : Bool) → first ≡ b → Onward first k most done ws old i → ClockRead k most done ⊎ HasFault
      without_line none true f go = inr (number, missing_at first m text rest number k done i new ws old w a f none r)
      without_line none false f go = go (new ++ a ∷ []) rest number l (kept_at first m text rest number k done i new ws old w a f fits.0 none r)

      by : HasLine w i rest ⊎ HasNoLine w i rest → Onward first k most done ws old i → ClockRead k most done ⊎ HasFault
      by (inl x) go = with_line x.0 x.1 x.2 x.3 (stays first a x.0) refl go
      by (inr none) go = without_line none first refl go

  -- The line of a time. The lemmas of vcd_trace are for times of 64 bits, and this one is for any.
  pub time_read : (rest after : List ℕ) (number : ℕ) (first : Bool) (k : ℕ) (old : List ℕ) (done : List (List ℕ))
      → AtTime m text rest number first k old done → rest ≡ (time_line k ++ 10 ∷ []) ++ after → AfterTime m text after (number + 1) first k old done
  time_read rest after number first k old done r e =
      let ws = all_widths m.netlist in
      consume m text rest (time_line k) after number (MayFollow first ws) (MayFollow first ws)
      (λ clocks. time_line k ∷ rest_lines first k ws old clocks) (λ clocks. rest_lines first k ws old clocks) (λ clocks. done ++ clocks) (λ clocks. done ++ clocks)
      r (time_plain k) e (λ c. c) (λ c f. f) (λ c f. refl) (λ c. refl)
      (λ more c f t. (c, f, (plain_same (time_line k) (time_line k) more (text_of (rest_lines first k ws old c)) (time_plain k) (time_plain k) (sym (line_form (time_line k) more) ∙ t)).1, refl))

  pub time_missing : (rest : List ℕ) (number : ℕ) (first : Bool) (k : ℕ) (old : List ℕ) (done : List (List ℕ))
      → AtTime m text rest number first k old done → HasNoFront (time_line k ++ 10 ∷ []) rest → IsFaultyLine m text number
  time_missing rest number first k old done r none =
      let ws = all_widths m.netlist in
      faulty m text rest number (MayFollow first ws) (λ clocks. time_line k ∷ rest_lines first k ws old clocks) (λ clocks. done ++ clocks) r (one_clock ws) (clock_follows first ws)
      (λ more agrees c f t.
      let front = agree_front rest more (time_line k) (text_of (rest_lines first k ws old c)) agrees (time_plain k) t in
      none front.0 front.1)

  -- no bytes follow the line of the first time
  pub clock_missing : (number : ℕ) (k : ℕ) (old : List ℕ) (done : List (List ℕ)) → AfterTime m text [] number true k old done → IsFaultyLine m text number
  clock_missing number k old done r =
      let ws = all_widths m.netlist in
      faulty m text [] number (MayFollow true ws) (λ clocks. rest_lines true k ws old clocks) (λ clocks. done ++ clocks) r (one_clock ws) (clock_follows true ws)
      (λ more agrees c f t. by c (f.1 refl) (sym (nothing more agrees) ∙ t))
    where
      nothing : (more : List ℕ) → Agrees [] more → more ≡ []
      nothing more (inl is) = is
      nothing more (inr s) = absurd (line_some s.line s.after s.rest_is)

      by : (c : List (List ℕ)) → 1 ≤ length c → [] ≡ text_of (rest_lines true k (all_widths m.netlist) old c) → ⊥
      by [] some h = omega (arith, some)
      by (new ∷ c) some h =
          let begins = later_begin (k + 1) (all_widths m.netlist) new c in
          lines_some (told_lines true 0 (all_widths m.netlist) old new) (later_lines (k + 1) (all_widths m.netlist) new c) (time_line (k + 1)) begins.0 begins.1 h

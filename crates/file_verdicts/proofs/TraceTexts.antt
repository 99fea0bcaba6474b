-- Each text is the trace of some clocks, or has a first faulty line.
use Rattle.std.proofs.Common.{◌≡◌, refl, sym, ap, [], ◌∷◌, ◌++◌, List, ℕ, zero, suc, ◌+◌, ◌<◌, ◌⊎◌, inl, inr, Bool, true, false, arith, length, map, length-append}
use Rattle.std.specs.List.{AllByRecursion}
use Rattle.netlist.specs.Names.{NamedNetlist}
use Rattle.cycle_sim.specs.Slots.{all_widths}
use Rattle.vcd_trace.specs.Layout.{AreValues, time_line}
use Rattle.vcd_trace.specs.Header.{header_text}
use Rattle.vcd_trace.specs.Replayed.{IsTraceOf, IsFaultyLine}
use Rattle.vcd_trace.specs.Steps.{common_lines, AtTime, AfterTime}
use Rattle.vcd_trace.proofs.Clocks.{same_count}
use Rattle.vcd_trace.proofs.Clockwise.{zeros_fit}
use Rattle.vcd_trace.proofs.Timewise.{start, clock_begins, trace_ends}
use Rattle.vcd_trace.proofs.Headings.{behind_header, no_header}
use Rattle.file_verdicts.proofs.ValueLines.{HasFront, HasNoFront, front_judged}
use Rattle.file_verdicts.proofs.TraceClocks.{HasFault, ClockRead, clock_judged, time_read, time_missing, clock_missing}

last_holds : {X : Type 0} (P : X → Type 0) (xs : List X) (x : X) → AllByRecursion P ((xs ++ x ∷ []) ++ []) → P x
last_holds P [] x all = all.0
last_holds P (y ∷ xs) x all = last_holds P xs x all.1

module _ (m : NamedNetlist) (text : List ℕ) where
  abbrev HasVerdict : Type 0
  HasVerdict = ((clocks : List (List ℕ)) × IsTraceOf m clocks text) ⊎ ((number : ℕ) × IsFaultyLine m text number)

  -- the values of a clock that is read fit
  values_fit : (k most : ℕ) (done : List (List ℕ)) (c : ClockRead m text k most done) → AreValues (all_widths m.netlist) c.values
  values_fit k most done c = last_holds (AreValues (all_widths m.netlist)) done c.values (c.at.fit [] (tt, λ e. absurd (let f : ⊥ = cc in f)))

  -- nothing is left after a time
  ended : (first : Bool) (number k : ℕ) (old : List ℕ) (done : List (List ℕ)) → AfterTime m text [] number first k old done → HasVerdict
  ended true number k old done r = inr (number, clock_missing m text number k old done r)
  ended false number k old done r = inl (done, trace_ends m text [] number k old done r refl)

  some_bytes : (line after rest : List ℕ) (b left : ℕ) → rest ≡ (line ++ 10 ∷ []) ++ b ∷ after → length rest < suc left → length (b ∷ after) < left
  some_bytes line after rest b left e l = omega (arith, ap length e, l, length-append (line ++ 10 ∷ []) (b ∷ after), length-append line (10 ∷ []))

  -- the clocks after that of time k are read
  abbrev Onward : (left k : ℕ) → Type 0
  Onward left k = (old : List ℕ) (done : List (List ℕ)) (rest : List ℕ) (number : ℕ) → length rest < left → AreValues (all_widths m.netlist) old → AtTime m text rest number false (k + 1) old done → HasVerdict

  walk : (left : ℕ) (first : Bool) (k : ℕ) (old : List ℕ) (done : List (List ℕ)) (rest : List ℕ) (number : ℕ) → length rest < left → AreValues (all_widths m.netlist) old
      → AtTime m text rest number first k old done → HasVerdict
  walk zero first k old done rest number l fits r = absurd (omega (arith, l))
  walk (suc left) first k old done rest number l fits r =
      by (front_judged (time_line k ++ 10 ∷ []) rest) (λ values rows after n small fit at. walk left false (k + 1) values rows after n small fit at)
    where
      begun : (b : ℕ) (after : List ℕ) → rest ≡ (time_line k ++ 10 ∷ []) ++ b ∷ after → ClockRead m text k (length (b ∷ after)) done ⊎ HasFault m text → Onward left k → HasVerdict
      begun b after e (inl c) go =
          go c.values (done ++ c.values ∷ []) c.rest c.number (omega (arith, c.fewer, some_bytes (time_line k) after rest b left e l)) (values_fit k (length (b ∷ after)) done c) c.at
      begun b after e (inr f) go = inr f

      timed : (after : List ℕ) → rest ≡ (time_line k ++ 10 ∷ []) ++ after → Onward left k → HasVerdict
      timed [] e go = ended first (number + 1) k old done (time_read m text rest [] number first k old done r e)
      timed (b ∷ after) e go =
          begun b after e (clock_judged m text first k (length (b ∷ after)) done (all_widths m.netlist) old [] 0 (b ∷ after) (number + 1) fits (omega arith)
          (clock_begins m text (b ∷ after) (number + 1) first k old done (time_read m text rest (b ∷ after) number first k old done r e) (λ z. absurd (let f : ⊥ = cc in f)))) go

      by : HasFront (time_line k ++ 10 ∷ []) rest ⊎ HasNoFront (time_line k ++ 10 ∷ []) rest → Onward left k → HasVerdict
      by (inl x) go = timed x.0 x.1 go
      by (inr none) go = inr (number, time_missing m text rest number first k old done r none)

  pub trace_judged : ((clocks : List (List ℕ)) × IsTraceOf m clocks text) ⊎ ((number : ℕ) × IsFaultyLine m text number)
  trace_judged = by (front_judged (header_text m) text)
    where
      by : HasFront (header_text m) text ⊎ HasNoFront (header_text m) text → HasVerdict
      by (inr none) = inr (common_lines 1 (header_text m) text, no_header m text none)
      by (inl x) =
          let ws = all_widths m.netlist in
          let zeros : List ℕ = map (λ w. 0) ws in
          let number = common_lines 1 (header_text m) text in
          walk (suc (length x.0)) true 0 zeros [] x.0 number (omega arith) (zeros_fit ws)
          (start m text x.0 number zeros (behind_header m text x.0 x.1) (sym (same_count ws zeros (zeros_fit ws))))

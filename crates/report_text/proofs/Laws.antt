-- Reading: a text is read as the report that it denotes, and its first faulty line is specified.
use Rattle.std.proofs.Common.{◌≡◌, ◌∙◌, ℕ, suc, List, [], ◌∷◌, ◌++◌, length, take, refl, ap, sym, subst, arith, append_assoc, Bool, true, false, Ok, Err}
use Rattle.std.specs.Prelude.{Option, Some, None, Result, ◌&&◌, if◌then◌else◌}
use Rattle.std.proofs.lemmas.Bool.{and_parts}
use Rattle.std.proofs.lemmas.List.{append-nil, length-append, length_push, take_at}
use Rattle.dk_grammar.specs.Reading.{IsFaulty}
use Rattle.dk_grammar.specs.Lines.{cut, AreLinesOf}
use Rattle.dk_grammar.proofs.Faulty.{like_faulty}
use Rattle.dk_grammar.proofs.FaultyLines.{one_first_faulty, none_first_faulty}
use Rattle.report_text.specs.declared.step.Stage.{Stage}
use Rattle.report_text.specs.declared.step.Stage.TheVariants.{Start, Bits, Flow, End}
use Rattle.report_text.specs.Reports.{Report, Meets}
use Rattle.report_text.specs.Layout.{lines, joined, layout}
use Rattle.report_text.specs.Texts.{StandsFor, IsReportText, IsFaultyLine}
use Rattle.report_text.specs.Reading.{next, is_final, is_empty, nothing, reading_on, reading}
use Rattle.report_text.proofs.Chains.{joined_append}
use Rattle.report_text.proofs.Automaton.{upto, finished, live, bits_whole, first_split, end_split}
use Rattle.report_text.proofs.Steps.{Begun, steps}
use Rattle.report_text.proofs.Complete.{complete}
use Rattle.report_text.proofs.Cuts.{IsPlain, lines_are, cut_joined, joined_cut, AreCut, are_cut, line_not_plain, line_in}

same_report : (r s : Report) → ◌≡◌ {A = Result Report ℕ} (Ok r) (Ok s) → r ≡ s
same_report r s e = cc

same_number : (m n : ℕ) → ◌≡◌ {A = Result Report ℕ} (Err m) (Err n) → m ≡ n
same_number m n e = cc

not_both : (r : Report) (n : ℕ) → Ok r ≡ Err n → ⊥
not_both r n e = cc

-- before the first line
start : Begun Start nothing []
start = record {
  ready = (refl, (refl, refl, refl));
  meets = record {
    first_version = omega arith;
    last_version = omega arith;
    bare = λ e. record { bits_limit = refl; latency_limit = refl; age = refl; reads = refl };
    bits_limit = omega arith;
    latency_limit = omega arith;
    age = omega arith;
    some_columns = omega arith;
    most_columns = omega arith;
    some_rows = omega arith;
    most_rows = omega arith;
    some_images = omega arith;
    image_limit = omega arith;
    images = (record { name = refl; some_bits = omega arith; most_bits = omega arith; delay = omega arith; depth = omega arith }, tt);
    distinct = λ i j h l. absurd (omega arith);
    some_latencies = omega arith;
    latency_count = omega arith;
    latencies = (omega arith, tt);
    clocks = omega arith;
    bits = omega arith;
    reads = omega arith;
    flow = tt;
    ascending = tt;
  };
  are = refl;
}

-- the end of a text
end_test : (t : Bool) (r s : Report) (k : ℕ) → (if t then Ok r else Err k) ≡ Ok s → (t ≡ true) × (r ≡ s)
end_test true r s k e = (refl, same_report r s e)
end_test false r s k e = absurd (not_both s k (sym e))

end_fault : (t : Bool) (r : Report) (k n : ℕ) → (if t then Ok r else Err k) ≡ Err n → (t ≡ false) × (k ≡ n)
end_fault true r k n e = absurd (not_both r n e)
end_fault false r k n e = (refl, same_number k n e)

empty_is : (line : List ℕ) → is_empty line ≡ true → line ≡ []
empty_is [] e = refl
empty_is (b ∷ bytes) e = absurd (cc e)

whole : (stage : Stage) (r : Report) (taken : List (List ℕ)) → Begun stage r taken → is_final stage r.version ≡ true → Meets r × (taken ≡ lines r)
whole Bits r taken b e = (b.meets, b.are ∙ sym (bits_whole r e b.ready))
whole Flow r taken b e = (b.meets, b.are ∙ sym (first_split r e))
whole End r taken b e = (b.meets, b.are ∙ sym (end_split r b.ready))
whole _ r taken b e = absurd (cc e)

-- what is read is a report's lines
sound : (rest taken : List (List ℕ)) (stage : Stage) (r s : Report) (k : ℕ) → Begun stage r taken → reading k stage r rest ≡ Ok s → Meets s × (taken ++ rest ≡ lines s ++ [] ∷ [])
unfolding reading
sound [] taken stage r s k b e = absurd (not_both s k (sym e))
sound (line ∷ []) taken stage r s k b e =
    let t = end_test (is_empty line && is_final stage r.version) r s k e in
    let p = and_parts (is_empty line) (is_final stage r.version) t.0 in
    let w = whole stage r taken b p.1 in
    (subst Meets t.1 w.0, ap (λ x. x ++ line ∷ []) w.1 ∙ ap (λ x. lines r ++ x ∷ []) (empty_is line p.0) ∙ ap (λ x. lines x ++ [] ∷ []) t.1)
sound (line ∷ l ∷ more) taken stage r s k b e = by (next stage r line) refl e (λ x c i. sound (l ∷ more) (taken ++ line ∷ []) x.0 x.1 s (suc k) c i)
  where
    by : (o : Option (Stage × Report)) → next stage r line ≡ o → reading_on k o (λ x. reading (suc k) x.0 x.1 (l ∷ more)) ≡ Ok s
        → ((x : Stage × Report) → Begun x.0 x.1 (taken ++ line ∷ []) → reading (suc k) x.0 x.1 (l ∷ more) ≡ Ok s → Meets s × ((taken ++ line ∷ []) ++ l ∷ more ≡ lines s ++ [] ∷ []))
        → Meets s × (taken ++ line ∷ l ∷ more ≡ lines s ++ [] ∷ [])
    by None n i go = absurd (not_both s k (sym i))
    by (Some x) n i go = let g = go x (steps stage r taken line x b n) i in (g.0, sym (append_assoc taken (line ∷ []) (l ∷ more)) ∙ g.1)

-- these are the lines of a report's text
abbrev AreLines : List (List ℕ) → Type 0
AreLines all = (r : Report) × Meets r × (all ≡ lines r ++ ([] ∷ []))

-- A line is the first that continues no report, where those before it begin one and no report's lines go on with it.
take_more : (taken : List (List ℕ)) (line : List ℕ) (after : List (List ℕ)) → take (suc (length taken)) (taken ++ line ∷ after) ≡ taken ++ line ∷ []
take_more [] line after = refl
take_more (t ∷ taken) line after = ap (λ x. t ∷ x) (take_more taken line after)

abbrev GoesOnWith : List (List ℕ) → List ℕ → Type 0
GoesOnWith taken line = (more : List (List ℕ)) × (s : Report) × Meets s × (taken ++ line ∷ more ≡ lines s ++ [] ∷ [])

faulty_here : (stage : Stage) (r : Report) (taken : List (List ℕ)) (line : List ℕ) (after : List (List ℕ)) → Begun stage r taken → (GoesOnWith taken line → ⊥) → IsFaulty AreLines (taken ++ line ∷ after) (length taken)
faulty_here stage r taken line after b none =
    let l = live stage r b.ready in
    record {
      inside = let n = length-append taken (line ∷ after) in omega arith;
      before = (
        l.0 ++ [] ∷ [],
        (
          finished stage r,
          b.meets,
          ap (λ x. x ++ (l.0 ++ [] ∷ [])) (take_at taken (line ∷ after) (length taken) refl ∙ b.are) ∙ sym (append_assoc (upto stage r) l.0 ([] ∷ [])) ∙ ap (λ x. x ++ [] ∷ []) (sym l.1),
        ),
      );
      none = λ g. none (g.0, g.1.0, g.1.1, sym (append_assoc taken (line ∷ []) g.0) ∙ ap (λ x. x ++ g.0) (sym (take_more taken line after)) ∙ g.1.2);
    }

-- the reading of a text leads here with these lines
abbrev Leads : ℕ → Stage → Report → List (List ℕ) → Type 0
Leads k stage r taken = (line : List ℕ) (more : List (List ℕ)) → reading 1 Start nothing (taken ++ line ∷ more) ≡ reading k stage r (line ∷ more)

goes_on : (k : ℕ) (stage : Stage) (r : Report) (taken : List (List ℕ)) (line : List ℕ) → Leads k stage r taken → (g : GoesOnWith taken line) → reading k stage r (line ∷ g.0) ≡ Ok g.1
goes_on k stage r taken line h g = sym (h line g.0) ∙ ap (reading 1 Start nothing) g.3 ∙ complete g.1 g.2 1

leads_on : (k : ℕ) (stage : Stage) (r : Report) (taken : List (List ℕ)) (line : List ℕ) (x : Stage × Report) → Leads k stage r taken → next stage r line ≡ Some x → Leads (suc k) x.0 x.1 (taken ++ line ∷ [])
unfolding reading
leads_on k stage r taken line x h n l more =
    ap (reading 1 Start nothing) (append_assoc taken (line ∷ []) (l ∷ more)) ∙ h line (l ∷ more) ∙ ap (λ o. reading_on k o (λ x. reading (suc k) x.0 x.1 (l ∷ more))) n

-- no step takes the line
not_taken : (k : ℕ) (stage : Stage) (r : Report) (taken : List (List ℕ)) (line : List ℕ) → Leads k stage r taken → next stage r line ≡ None → is_empty line ≡ false → GoesOnWith taken line → ⊥
unfolding reading
not_taken k stage r taken line h n f g = by g.0 (goes_on k stage r taken line h g)
  where
    by : (more : List (List ℕ)) → reading k stage r (line ∷ more) ≡ Ok g.1 → ⊥
    by [] e = not_both g.1 k (sym e ∙ ap (λ t. if t && is_final stage r.version then Ok r else Err k) f)
    by (l ∷ more) e = not_both g.1 k (sym e ∙ ap (λ o. reading_on k o (λ x. reading (suc k) x.0 x.1 (l ∷ more))) n)

-- the line is the text's last one and not the end of a report
not_ended : (k n : ℕ) (stage : Stage) (r : Report) (taken : List (List ℕ)) (line : List ℕ) → Leads k stage r taken → reading k stage r (line ∷ []) ≡ Err n → IsPlain line → GoesOnWith taken line → ⊥
not_ended k n stage r taken line h f p g = by g.0 (goes_on k stage r taken line h g) g.3
  where
    by : (more : List (List ℕ)) → reading k stage r (line ∷ more) ≡ Ok g.1 → taken ++ line ∷ more ≡ lines g.1 ++ [] ∷ [] → ⊥
    by [] e w = not_both g.1 n (sym e ∙ f)
    by (l ∷ more) e w = line_not_plain line (line_in taken line l more (lines g.1) w (lines_are g.1 g.2)) p

abbrev Faults : List (List ℕ) → ℕ → Type 0
Faults all n = (j : ℕ) × (n ≡ suc j) × IsFaulty AreLines all j

faults : (rest taken : List (List ℕ)) (stage : Stage) (r : Report) (k n : ℕ) → Begun stage r taken → Leads k stage r taken → k ≡ suc (length taken) → AreCut rest → reading k stage r rest ≡ Err n → Faults (taken ++ rest) n
unfolding reading
faults [] taken stage r k n b h c a e = absurd a
faults (line ∷ []) taken stage r k n b h c a e =
    let t = end_fault (is_empty line && is_final stage r.version) r k n e in
    (length taken, sym t.1 ∙ c, faulty_here stage r taken line [] b (not_ended k n stage r taken line h e a))
faults (line ∷ l ∷ more) taken stage r k n b h c a e = by (next stage r line) refl e (λ x m i. faults (l ∷ more) (taken ++ line ∷ []) x.0 x.1 (suc k) n (steps stage r taken line x b m) (leads_on k stage r taken line x h m) longer a.1 i)
  where
    longer : suc k ≡ suc (length (taken ++ line ∷ []))
    longer = let p = length_push taken line in omega arith

    by : (o : Option (Stage × Report)) → next stage r line ≡ o → reading_on k o (λ x. reading (suc k) x.0 x.1 (l ∷ more)) ≡ Err n
        → ((x : Stage × Report) → next stage r line ≡ Some x → reading (suc k) x.0 x.1 (l ∷ more) ≡ Err n → Faults ((taken ++ line ∷ []) ++ l ∷ more) n)
        → Faults (taken ++ line ∷ l ∷ more) n
    by None m i go = (length taken, sym (same_number k n i) ∙ c, faulty_here stage r taken line (l ∷ more) b (not_taken k stage r taken line h m a.0))
    by (Some x) m i go = subst (λ y. Faults y n) (append_assoc taken (line ∷ []) (l ∷ more)) (go x m i)

-- the laws of reading
pub reading_sound : (text : List ℕ) (r : Report) → reading 1 Start nothing (cut text) ≡ Ok r → StandsFor text r
reading_sound text r e =
    let s = sound (cut text) [] Start nothing r 1 start e in
    record { meets = s.0; written = sym (joined_cut text) ∙ ap joined s.1 ∙ joined_append (lines r) ([] ∷ []) ∙ append-nil (joined (lines r)) }

text_lines : (text : List ℕ) (r : Report) → StandsFor text r → cut text ≡ lines r ++ [] ∷ []
text_lines text r s = ap cut s.written ∙ cut_joined (lines r) (lines_are r s.meets)

pub reading_complete : (text : List ℕ) (r : Report) → StandsFor text r → reading 1 Start nothing (cut text) ≡ Ok r
reading_complete text r s = ap (reading 1 Start nothing) (text_lines text r s) ∙ complete r s.meets 1

pub reading_faulty : (text : List ℕ) (n : ℕ) → reading 1 Start nothing (cut text) ≡ Err n → IsFaultyLine text n
reading_faulty text n e =
    let f = faults (cut text) [] Start nothing 1 n start (λ line more. refl) refl (are_cut text) e in
    (f.0, f.1, like_faulty AreLines (AreLinesOf IsReportText) (cut text) f.0 of_text text_of f.2)
  where
    of_text : (all : List (List ℕ)) → AreLines all → AreLinesOf IsReportText all
    of_text all a =
        let s : StandsFor (layout a.0) a.0 = record { meets = a.1; written = refl } in
        (layout a.0, (a.0, s), a.2 ∙ sym (text_lines (layout a.0) a.0 s))

    text_of : (all : List (List ℕ)) → AreLinesOf IsReportText all → AreLines all
    text_of all a = (a.1.0, a.1.1.meets, a.2 ∙ text_lines a.0 a.1.0 a.1.1)

pub fault_is_one : (text : List ℕ) (m n : ℕ) → IsFaultyLine text m → IsFaultyLine text n → m ≡ n
fault_is_one text m n a b = one_first_faulty IsReportText text m n a b

pub fault_apart : (text : List ℕ) (r : Report) (n : ℕ) → StandsFor text r → IsFaultyLine text n → ⊥
fault_apart text r n s f = none_first_faulty IsReportText text n (r, s) f

pub faulty_reading : (text : List ℕ) (n : ℕ) → IsFaultyLine text n → reading 1 Start nothing (cut text) ≡ Err n
faulty_reading text n f = by (reading 1 Start nothing (cut text)) refl
  where
    by : (a : Result Report ℕ) → reading 1 Start nothing (cut text) ≡ a → reading 1 Start nothing (cut text) ≡ Err n
    by (Ok r) e = absurd (fault_apart text r n (reading_sound text r e) f)
    by (Err m) e = e ∙ ap (λ k. Err k) (fault_is_one text m n (reading_faulty text m e) f)

pub report_is_one : (text : List ℕ) (r s : Report) → StandsFor text r → StandsFor text s → r ≡ s
report_is_one text r s a b = same_report r s (sym (reading_complete text r a) ∙ reading_complete text s b)

pub layout_is_one : (r s : Report) → Meets r → StandsFor (layout r) s → r ≡ s
layout_is_one r s m b = report_is_one (layout r) r s (record { meets = m; written = refl }) b

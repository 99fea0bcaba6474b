-- The lines of a text, one after another.
use Rattle.std.proofs.Common.{◌≡◌, ◌<◌, ◌+◌, ◌∙◌, ℕ, suc, List, [], ◌∷◌, length, take, drop, refl, ap, sym, subst, arith, add-one, Bool, true, false}
use Rattle.std.specs.Prelude.{Option, Some, None, Result, Ok, Err, nat_eq, ◌&&◌}
use Rattle.std.specs.List.{prefix_len}
use Rattle.std.proofs.lemmas.Bool.{eqb-true}
use Rattle.report_text.specs.declared.step.Stage.{Stage}
use Rattle.report_text.specs.Reports.{Report}
use Rattle.dk_grammar.specs.Lines.{cut}
use Rattle.report_text.specs.Reading.{reading, reading_on, next, is_empty, is_final}
use Rattle.report_text.specs.Steps.{is_inside, Does}

-- the first line ends after the first LF
pub cut_first : (text : List ℕ) (n : ℕ) → n ≡ prefix_len is_inside text → n < length text → cut text ≡ take (n + 1) text ∷ cut (drop (n + 1) text)
cut_first [] n e h = absurd (omega (arith, h))
cut_first (b ∷ bytes) n e h = by (nat_eq b 10) refl (cut_first bytes (prefix_len is_inside bytes) refl)
  where
    by : (t : Bool) → nat_eq b 10 ≡ t → (prefix_len is_inside bytes < length bytes → cut bytes ≡ take (prefix_len is_inside bytes + 1) bytes ∷ cut (drop (prefix_len is_inside bytes + 1) bytes)) → cut (b ∷ bytes) ≡ take (n + 1) (b ∷ bytes) ∷ cut (drop (n + 1) (b ∷ bytes))
    by true f more =
        let z : n ≡ 0 = e ∙ rw f refl in
        let q : b ≡ 10 = eqb-true b 10 f in
        rw (z, f) (ap (λ x. (x ∷ []) ∷ cut bytes) (sym q))
    by false f more =
        let z : n ≡ 1 + prefix_len is_inside bytes = e ∙ rw f refl in
        let s : n + 1 ≡ suc (prefix_len is_inside bytes + 1) = omega (arith, z) in
        let l : prefix_len is_inside bytes < length bytes = omega (arith, z, h) in
        rw (s, f, more l) refl

pub cut_last : (text : List ℕ) → prefix_len is_inside text ≡ length text → cut text ≡ text ∷ []
cut_last [] e = refl
cut_last (b ∷ bytes) e = by (nat_eq b 10) refl (cut_last bytes)
  where
    by : (t : Bool) → nat_eq b 10 ≡ t → (prefix_len is_inside bytes ≡ length bytes → cut bytes ≡ bytes ∷ []) → cut (b ∷ bytes) ≡ (b ∷ bytes) ∷ []
    by true f more = let z : 0 ≡ suc (length bytes) = rw f at e in absurd (omega (arith, z))
    by false f more =
        let z : 1 + prefix_len is_inside bytes ≡ suc (length bytes) = rw f at e in
        let m : prefix_len is_inside bytes ≡ length bytes = omega (arith, z) in
        rw (f, more m) refl

-- there is a line
some_line : (text : List ℕ) → (l : List ℕ) × (more : List (List ℕ)) × (cut text ≡ l ∷ more)
some_line [] = ([], [], refl)
some_line (b ∷ bytes) = by (nat_eq b 10) refl (some_line bytes)
  where
    by : (t : Bool) → nat_eq b 10 ≡ t → ((l : List ℕ) × (more : List (List ℕ)) × (cut bytes ≡ l ∷ more)) → (l : List ℕ) × (more : List (List ℕ)) × (cut (b ∷ bytes) ≡ l ∷ more)
    by true f s = (10 ∷ [], cut bytes, rw f refl)
    by false f s = (b ∷ s.0, s.1, rw (f, s.2) refl)

goes_on : (number : ℕ) (stage : Stage) (r : Report) (line : List ℕ) (all : List (List ℕ)) → ((l : List ℕ) × (more : List (List ℕ)) × (all ≡ l ∷ more)) → reading number stage r (line ∷ all) ≡ reading_on number (next stage r line) (λ x. reading (suc number) x.0 x.1 all)
unfolding reading
goes_on number stage r line all s = subst (λ (x : List (List ℕ)). reading number stage r (line ∷ x) ≡ reading_on number (next stage r line) (λ x'. reading (suc number) x'.0 x'.1 x)) (sym s.2) refl

pub one_line_more : (number : ℕ) (stage stage' : Stage) (r r' : Report) (line rest : List ℕ) → next stage r line ≡ Some (stage', r') → reading number stage r (line ∷ cut rest) ≡ reading (number + 1) stage' r' (cut rest)
one_line_more number stage stage' r r' line rest e = goes_on number stage r line (cut rest) (some_line rest) ∙ rw (e, add-one) refl

pub faulty_line : (number : ℕ) (stage : Stage) (r : Report) (line rest : List ℕ) → next stage r line ≡ None → reading number stage r (line ∷ cut rest) ≡ Err number
faulty_line number stage r line rest e = goes_on number stage r line (cut rest) (some_line rest) ∙ rw e refl

-- what a step says of the whole
pub whole_faulty : (whole : Result Report ℕ) (number n : ℕ) (stage : Stage) (s : Option Stage) (r r' : Report) (rest line : List ℕ) → reading number stage r (cut rest) ≡ whole → cut rest ≡ take n rest ∷ cut (drop n rest) → line ≡ take n rest → s ≡ None → Does (next stage r line) r s r' → whole ≡ Err number
whole_faulty whole number n stage s r r' rest line is first e none does =
    let d : Does (next stage r line) r None r' = subst (λ (x : Option Stage). Does (next stage r line) r x r') none does in
    let f : next stage r (take n rest) ≡ None = subst (λ (x : List ℕ). next stage r x ≡ None) e d.0 in
    sym is ∙ (ap (λ x. reading number stage r x) first ∙ faulty_line number stage r (take n rest) (drop n rest) f)

pub whole_on : (whole : Result Report ℕ) (number n : ℕ) (stage stage' : Stage) (s : Option Stage) (r r' : Report) (rest line after : List ℕ) → reading number stage r (cut rest) ≡ whole → cut rest ≡ take n rest ∷ cut (drop n rest) → line ≡ take n rest → after ≡ drop n rest → s ≡ Some stage' → Does (next stage r line) r s r' → reading (number + 1) stage' r' (cut after) ≡ whole
whole_on whole number n stage stage' s r r' rest line after is first e f some does =
    let d : next stage r line ≡ Some (stage', r') = subst (λ (x : Option Stage). Does (next stage r line) r x r') some does in
    let g : next stage r (take n rest) ≡ Some (stage', r') = subst (λ (x : List ℕ). next stage r x ≡ Some (stage', r')) e d in
    ap (λ x. reading (number + 1) stage' r' (cut x)) f ∙ (sym (one_line_more number stage stage' r r' (take n rest) (drop n rest) g) ∙ (sym (ap (λ x. reading number stage r x) first) ∙ is))

pub whole_end : (whole : Result Report ℕ) (number : ℕ) (stage : Stage) (r : Report) (rest : List ℕ) → reading number stage r (cut rest) ≡ whole → cut rest ≡ rest ∷ [] → (is_empty rest && is_final stage r.version) ≡ true → whole ≡ Ok r
unfolding reading
whole_end whole number stage r rest is last e = sym is ∙ (ap (λ x. reading number stage r x) last ∙ rw e refl)

pub whole_cut : (whole : Result Report ℕ) (number : ℕ) (stage : Stage) (r : Report) (rest : List ℕ) → reading number stage r (cut rest) ≡ whole → cut rest ≡ rest ∷ [] → (is_empty rest && is_final stage r.version) ≡ false → whole ≡ Err number
unfolding reading
whole_cut whole number stage r rest is last e = sym is ∙ (ap (λ x. reading number stage r x) last ∙ rw e refl)

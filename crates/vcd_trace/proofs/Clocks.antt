-- The lines of a clock, written one after another.
use Rattle.std.proofs.Common.{◌≡◌, ℕ, zero, suc, ◌+◌, ◌^◌, ◌<◌, ◌≤◌, false, List, [], ◌∷◌, ◌++◌, length, take, drop, get_or, refl, ap, sym, subst, ◌∙◌, arith, append_assoc}
use Rattle.std.specs.Prelude.{if◌then◌else◌, Result, Ok, Err}
use Rattle.std.specs.Result.{is_ok, is_err}
use Rattle.std.proofs.lemmas.List.{length-append, drop_more}
use Rattle.vcd_trace.specs.Layout.{value_line, all_lines, change_lines, changed_lines, text_of, AreValues}

pub same_count : (ws vs : List ℕ) → AreValues ws vs → length ws ≡ length vs
same_count [] [] h = refl
same_count [] (v ∷ vs) h = absurd h
same_count (w ∷ ws) [] h = absurd h
same_count (w ∷ ws) (v ∷ vs) h = ap suc (same_count ws vs h.1)

pub drop_all : (xs : List ℕ) (k : ℕ) → length xs ≤ k → drop k xs ≡ []
drop_all [] zero h = refl
drop_all [] (suc k) h = refl
drop_all (x ∷ xs) zero h = absurd (omega (arith, h))
drop_all (x ∷ xs) (suc k) h = drop_all xs k (omega (arith, h))

pub append_none : (xs : List ℕ) → xs ++ [] ≡ xs
append_none [] = refl
append_none (x ∷ xs) = ap (λ z. x ∷ z) (append_none xs)

pub text_append : (xs ys : List (List ℕ)) → text_of (xs ++ ys) ≡ text_of xs ++ text_of ys
text_append [] ys = refl
text_append (x ∷ xs) ys = ap (λ z. x ++ 10 ∷ z) (text_append xs ys) ∙ sym (append_assoc x (10 ∷ text_of xs) (text_of ys))

-- one piece more
pub joined : (out new own rest left all : List ℕ) → left ≡ own ++ rest → out ++ left ≡ all → new ≡ out ++ own → new ++ rest ≡ all
joined out new own rest left all e whole more = ap (λ z. z ++ rest) more ∙ append_assoc out own rest ∙ ap (λ z. out ++ z) (sym e) ∙ whole

pub room_first : (n cap : ℕ) (own rest left : List ℕ) → left ≡ own ++ rest → n + length left ≤ cap → n + length own ≤ cap
room_first n cap own rest left e h = omega (arith, ap length e, length-append own rest, h)

pub room_rest : (n m cap : ℕ) (own rest left : List ℕ) → left ≡ own ++ rest → n + length left ≤ cap → m ≡ n + length own → m + length rest ≤ cap
room_rest n m cap own rest left e h more = omega (arith, ap length e, length-append own rest, h, more)

pub length_line : (line : List ℕ) → length (line ++ 10 ∷ []) ≡ length line + 1
length_line line = length-append line (10 ∷ [])

pub ended : (out left all : List ℕ) → left ≡ [] → out ++ left ≡ all → out ≡ all
ended out left all e whole = sym (append_none out) ∙ ap (λ z. out ++ z) (sym e) ∙ whole

abbrev pub all_from : (k : ℕ) (ws vs : List ℕ) → List ℕ
all_from k ws vs = text_of (all_lines k (drop k ws) (drop k vs))

abbrev pub changed_from : (k : ℕ) (ws old vs : List ℕ) → List ℕ
changed_from k ws old vs = text_of (changed_lines k (drop k ws) (drop k old) (drop k vs))

pub at_width : (ws : List ℕ) (k w : ℕ) → k < length ws → w ≡ get_or ws k w → drop k ws ≡ w ∷ drop (k + 1) ws
at_width ws k w h at = drop_more ws k w h ∙ ap (λ z. z ∷ drop (k + 1) ws) (sym at)

pub all_step : (ws vs : List ℕ) (k w : ℕ) → AreValues ws vs → k < length vs → w ≡ get_or ws k w → all_from k ws vs ≡ (value_line w k (get_or vs k 0) ++ 10 ∷ []) ++ all_from (k + 1) ws vs
all_step ws vs k w fits h at =
    ap (λ z. text_of (all_lines k z (drop k vs))) (at_width ws k w (omega (arith, h, same_count ws vs fits)) at)
    ∙ ap (λ z. text_of (all_lines k (w ∷ drop (k + 1) ws) z)) (drop_more vs k 0 h)
    ∙ sym (append_assoc (value_line w k (get_or vs k 0)) (10 ∷ []) (all_from (k + 1) ws vs))

no_lines : (k : ℕ) (ws : List ℕ) → text_of (all_lines k ws []) ≡ []
no_lines k [] = refl
no_lines k (w ∷ ws) = refl

pub all_end : (ws vs : List ℕ) (k : ℕ) → length vs ≤ k → all_from k ws vs ≡ []
all_end ws vs k h = ap (λ z. text_of (all_lines k (drop k ws) z)) (drop_all vs k h) ∙ no_lines k (drop k ws)

pub changed_step : (ws old vs : List ℕ) (k w : ℕ) → length old ≡ length ws → AreValues ws vs → k < length vs → w ≡ get_or ws k w
    → changed_from k ws old vs ≡ text_of (change_lines w k (get_or old k 0) (get_or vs k 0)) ++ changed_from (k + 1) ws old vs
changed_step ws old vs k w same fits h at =
    let within : k < length ws = omega (arith, h, same_count ws vs fits) in
    ap (λ z. text_of (changed_lines k z (drop k old) (drop k vs))) (at_width ws k w within at)
    ∙ ap (λ z. text_of (changed_lines k (w ∷ drop (k + 1) ws) z (drop k vs))) (drop_more old k 0 (omega (arith, within, same)))
    ∙ ap (λ z. text_of (changed_lines k (w ∷ drop (k + 1) ws) (get_or old k 0 ∷ drop (k + 1) old) z)) (drop_more vs k 0 h)
    ∙ text_append (change_lines w k (get_or old k 0) (get_or vs k 0)) (changed_lines (k + 1) (drop (k + 1) ws) (drop (k + 1) old) (drop (k + 1) vs))

no_changes : (k : ℕ) (ws old : List ℕ) → text_of (changed_lines k ws old []) ≡ []
no_changes k [] old = refl
no_changes k (w ∷ ws) [] = refl
no_changes k (w ∷ ws) (a ∷ old) = refl

pub changed_end : (ws old vs : List ℕ) (k : ℕ) → length vs ≤ k → changed_from k ws old vs ≡ []
changed_end ws old vs k h = ap (λ z. text_of (changed_lines k (drop k ws) (drop k old) z)) (drop_all vs k h) ∙ no_changes k (drop k ws) (drop k old)

-- one value more
pub fits_more : (ws vs : List ℕ) (i w v : ℕ) → i < length ws → w ≡ get_or ws i w → AreValues (take i ws) vs → v < 2 ^ w → AreValues (take (i + 1) ws) (vs ++ v ∷ [])
fits_more [] vs i w v h at fits l = absurd (omega (arith, h))
fits_more (x ∷ ws) [] zero w v h at fits l = (subst (λ z. v < 2 ^ z) at l, tt)
fits_more (x ∷ ws) (y ∷ vs) zero w v h at fits l = absurd fits
fits_more (x ∷ ws) [] (suc i) w v h at fits l = absurd fits
fits_more (x ∷ ws) (y ∷ vs) (suc i) w v h at fits l =
    let e : suc (i + 1) ≡ suc i + 1 = omega arith in
    subst (λ n. AreValues (take n (x ∷ ws)) (y ∷ (vs ++ v ∷ []))) e (fits.0, fits_more ws vs i w v (omega (arith, h)) at fits.1 l)

pub pushed : {A B : Type 0} (r : Result A B) (xs new : List ℕ) (v : ℕ) → false ≡ is_err r → new ≡ (if is_ok r then xs ++ v ∷ [] else xs) → new ≡ xs ++ v ∷ []
pushed (Ok a) xs new v e f = f
pushed (Err b) xs new v e f = absurd (let g : ⊥ = cc in g)

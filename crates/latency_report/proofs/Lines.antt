-- The lines that a flow makes, one constraint after another.
use Rattle.std.proofs.Common.{◌≡◌, ◌∙◌, ℕ, zero, suc, ◌+◌, ◌<◌, List, [], ◌∷◌, ◌++◌, length, drop, get_or, nat_eq, if◌then◌else◌, refl, sym, ap, append_assoc, add-one, drop-cons}
use Rattle.std.proofs.Math.Dec.{eqb-suc-zero}
use Rattle.report_text.specs.declared.report.FlowLine.{FlowLine}
use Rattle.plan_check.specs.Flows.{carried}

abbrev pub Maker : Type 0
Maker = ℕ → FlowLine

-- the line, where it carries flow
abbrev pub one : FlowLine → ℕ → List FlowLine
one line n = if nat_eq n 0 then [] else line ∷ []

pub carried_next : (m : Maker) (ms : List Maker) (n : ℕ) (ns : List ℕ) → carried (m ∷ ms) (n ∷ ns) ≡ one (m n) n ++ carried ms ns
carried_next m ms zero ns = refl
carried_next m ms (suc n) ns = ap (λ b. (if b then [] else m (suc n) ∷ []) ++ carried ms ns) (sym (eqb-suc-zero n))

-- from one constraint to the next
pub step : (ms : List Maker) (flow : List ℕ) (k : ℕ) (m : Maker) (x : ℕ) (old new whole : List FlowLine)
    → k < length ms → k < length flow → get_or ms k m ≡ m → get_or flow k 0 ≡ x
    → new ≡ old ++ one (m x) x → old ++ carried (drop k ms) (drop k flow) ≡ whole
    → new ++ carried (drop (k + 1) ms) (drop (k + 1) flow) ≡ whole
step ms flow k m x old new whole lm lf em ex made so =
    let next : drop k ms ≡ m ∷ drop (k + 1) ms = drop-cons ms k m lm ∙ (ap (λ n. n ∷ drop (suc k) ms) em ∙ ap (λ j. m ∷ drop j ms) (sym (add-one k))) in
    let flow_next : drop k flow ≡ x ∷ drop (k + 1) flow = drop-cons flow k 0 lf ∙ (ap (λ n. n ∷ drop (suc k) flow) ex ∙ ap (λ j. x ∷ drop j flow) (sym (add-one k))) in
    let rest = carried (drop (k + 1) ms) (drop (k + 1) flow) in
    ap (λ l. l ++ rest) made
    ∙ (append_assoc old (one (m x) x) rest
    ∙ (ap (λ l. old ++ l) (sym (carried_next m (drop (k + 1) ms) x (drop (k + 1) flow)))
    ∙ (ap (λ l. old ++ carried l (x ∷ drop (k + 1) flow)) (sym next)
    ∙ (ap (λ l. old ++ carried (drop k ms) l) (sym flow_next) ∙ so))))

-- The last line of a text that grows.
use Rattle.std.proofs.Common.{◌≡◌, ℕ, ◌+◌, ◌<◌, List, [], ◌∷◌, ◌++◌, length, take, drop, drop-cons, get_or, refl, ap, sym, ◌∙◌, append_assoc, add-one, Bool, true, false, cond, ◌||◌}
use Rattle.std.specs.List.{list_any}
use Rattle.std.proofs.lemmas.List.{take_more}
use Rattle.source_places.specs.Places.{is_line_end, last_line}

or_true : (b : Bool) → (b || true) ≡ true
or_true true = refl
or_true false = refl

any_at_end : (bytes : List ℕ) → list_any is_line_end (bytes ++ 10 ∷ []) ≡ true
any_at_end [] = refl
any_at_end (x ∷ xs) = ap (λ t. is_line_end x || t) (any_at_end xs) ∙ or_true (is_line_end x)

any_grows : (bytes : List ℕ) (b : ℕ) → is_line_end b ≡ false → list_any is_line_end (bytes ++ b ∷ []) ≡ list_any is_line_end bytes
any_grows [] b h = ap (λ t. t || false) h
any_grows (x ∷ xs) b h = ap (λ t. is_line_end x || t) (any_grows xs b h)

cond_append : (b : Bool) (u v w : List ℕ) → cond b (u ++ w) (v ++ w) ≡ cond b u v ++ w
cond_append true u v w = refl
cond_append false u v w = refl

last_after_end : (bytes : List ℕ) → last_line (bytes ++ 10 ∷ []) ≡ []
last_after_end [] = refl
last_after_end (x ∷ xs) =
    ap (λ t. cond t (last_line (xs ++ 10 ∷ [])) (x ∷ (xs ++ 10 ∷ []))) (any_at_end (x ∷ xs)) ∙ last_after_end xs

last_grows : (bytes : List ℕ) (b : ℕ) → is_line_end b ≡ false → last_line (bytes ++ b ∷ []) ≡ last_line bytes ++ b ∷ []
last_grows [] b h = ap (λ t. cond (t || false) [] (b ∷ [])) h
last_grows (x ∷ xs) b h =
    ap (λ t. cond t (last_line (xs ++ b ∷ [])) (x ∷ (xs ++ b ∷ []))) (any_grows (x ∷ xs) b h)
    ∙ (ap (λ t. cond (list_any is_line_end (x ∷ xs)) t (x ∷ (xs ++ b ∷ []))) (last_grows xs b h)
    ∙ cond_append (list_any is_line_end (x ∷ xs)) (last_line xs) (x ∷ xs) (b ∷ []))

-- a line begins after an LF
pub at_line_end : (text : List ℕ) (k : ℕ) → k < length text → get_or text k 0 ≡ 10
    → drop (k + 1) text ≡ last_line (take (k + 1) text) ++ drop (k + 1) text
at_line_end text k h e =
    let none : last_line (take (k + 1) text) ≡ [] = ap last_line (take_more text k 0 h ∙ ap (λ b. take k text ++ b ∷ []) e) ∙ last_after_end (take k text) in
    sym (ap (λ l. l ++ drop (k + 1) text) none)

-- and goes on with any other byte
pub within_line : (text line : List ℕ) (k : ℕ) → k < length text → is_line_end (get_or text k 0) ≡ false
    → line ≡ last_line (take k text) ++ drop k text → line ≡ last_line (take (k + 1) text) ++ drop (k + 1) text
within_line text line k h e i =
    let rest : drop k text ≡ get_or text k 0 ∷ drop (k + 1) text = rw (add-one, drop-cons text k 0 h) in
    let grown : last_line (take (k + 1) text) ≡ last_line (take k text) ++ get_or text k 0 ∷ [] =
    ap last_line (take_more text k 0 h) ∙ last_grows (take k text) (get_or text k 0) e in
    i ∙ (ap (λ r. last_line (take k text) ++ r) rest
    ∙ sym (ap (λ l. l ++ drop (k + 1) text) grown ∙ append_assoc (last_line (take k text)) (get_or text k 0 ∷ []) (drop (k + 1) text)))

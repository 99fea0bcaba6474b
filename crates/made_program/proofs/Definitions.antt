-- One definition more.
use Rattle.std.proofs.Common.{◌≡◌, ℕ, zero, suc, ◌+◌, ◌-◌, ◌*◌, List, [], ◌∷◌, ◌++◌, arith, append_assoc, append-nil, sym, ap, ◌∙◌}
use Rattle.std.specs.List.{flat_map, range_with_len}
use Rattle.std.proofs.lemmas.Grind.{flat_map-append}
use Rattle.made_program.specs.Draws.{next, after, draws_of}
use Rattle.made_program.specs.Programs.{definition, definition_at}

pub range_more : (n a j : ℕ) → a + n ≡ j → range_with_len a (n + 1) ≡ range_with_len a n ++ j ∷ []
range_more zero a j e = ap (λ k. k ∷ []) (let h : a ≡ j = omega (arith, e) in h)
range_more (suc n) a j e =
    ap (λ k. range_with_len a k) (let h : suc n + 1 ≡ suc (n + 1) = omega arith in h) ∙ ap (λ l. a ∷ l) (range_more n (a + 1) j (omega (arith, e)))

-- the states after draws and more draws
pub after_sum : (m n s : ℕ) → after (m + n) s ≡ after n (after m s)
after_sum zero n s = ap (λ k. after k s) (let h : 0 + n ≡ n = omega arith in h)
after_sum (suc m) n s = ap (λ k. after k s) (let h : suc m + n ≡ suc (m + n) = omega arith in h) ∙ after_sum m n (next s)

pub seven_more : (i s t now : ℕ) → t ≡ after (7 * i) s → now ≡ after 7 t → now ≡ after (7 * (i + 1)) s
seven_more i s t now e h =
    h ∙ ap (after 7) e ∙ sym (after_sum (7 * i) 7 s) ∙ ap (λ k. after k s) (let g : 7 * i + 7 ≡ 7 * (i + 1) = omega arith in g)

pub definition_more : (last s i k t : ℕ) (old before now : List ℕ) → k ≡ i + 1 → before ≡ old ++ flat_map (definition_at last s) (range_with_len 1 i) → t ≡ after (7 * i) s
    → now ≡ before ++ definition k last (draws_of k t) → now ≡ old ++ flat_map (definition_at last s) (range_with_len 1 (i + 1))
definition_more last s i k t old before now n b e h =
    let made : definition k last (draws_of k t) ≡ definition_at last s k = ap (λ u. definition k last (draws_of k u)) (e ∙ ap (λ u. after (7 * u) s) (let g : i ≡ k - 1 = omega (arith, n) in g)) in
    let front = flat_map (definition_at last s) (range_with_len 1 i) in
    let more : flat_map (definition_at last s) (range_with_len 1 (i + 1)) ≡ front ++ definition_at last s k =
    ap (flat_map (definition_at last s)) (range_more i 1 k (omega (arith, n))) ∙ flat_map-append (definition_at last s) (range_with_len 1 i) (k ∷ []) ∙ ap (λ l. front ++ l) (append-nil (definition_at last s k)) in
    h ∙ ap (λ l. before ++ l) made ∙ ap (λ l. l ++ definition_at last s k) b ∙ append_assoc old front (definition_at last s k) ∙ ap (λ l. old ++ l) (sym more)

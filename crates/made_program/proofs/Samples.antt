-- One sample more.
use Rattle.std.proofs.Common.{◌≡◌, ℕ, ◌+◌, List, [], ◌∷◌, ◌++◌, arith, append_assoc, sym, ap, ◌∙◌}
use Rattle.std.proofs.lemmas.List.FromFn.{map-range_with_len_more}
use Rattle.made_program.specs.Draws.{next, drawn, after}
use Rattle.made_program.specs.Images.{samples_from}
use Rattle.made_program.proofs.Definitions.{after_sum}

pub after_more : (i s t : ℕ) → t ≡ after i s → next t ≡ after (i + 1) s
after_more i s t e = ap next e ∙ sym (after_sum i 1 s)

pub sample_more : (i s t : ℕ) (old before now : List ℕ) → before ≡ old ++ samples_from i s → t ≡ after i s → now ≡ before ++ drawn 256 t ∷ [] → now ≡ old ++ samples_from (i + 1) s
sample_more i s t old before now b e h =
    let sample : ℕ → ℕ = λ place. drawn 256 (after place s) in
    h ∙ ap (λ z. before ++ drawn 256 z ∷ []) e ∙ ap (λ l. l ++ sample i ∷ []) b ∙ append_assoc old (samples_from i s) (sample i ∷ [])
    ∙ ap (λ l. old ++ l) (sym (map-range_with_len_more sample 0 i i (omega arith)))

-- Names with a letter and the numbers from 0 on.
use Rattle.std.proofs.Common.{◌≡◌, ℕ, ◌+◌, ◌<◌, List, ◌++◌, [], ◌∷◌, length, get_or, take, Some, ap, sym, ◌∙◌}
use Rattle.std.specs.Prelude.{slice_get}
use Rattle.std.proofs.lemmas.List.{take_more}
use Rattle.std.proofs.lemmas.Option.{slice_get-get_or}
use Rattle.net_build.specs.Naming.{made_name, made_names}
use Rattle.net_build.proofs.MadeNames.{more_names}

pub one_name_more : (letter : List ℕ) (names : List (List ℕ)) (k : ℕ) → k < length names → take k names ≡ made_names letter k → ((x : List ℕ) → slice_get names k ≡ Some x → x ≡ made_name letter k) →
    take (k + 1) names ≡ made_names letter (k + 1)
one_name_more letter names k within before here =
    take_more names k [] within ∙ ap (λ (t : List (List ℕ)). t ++ get_or names k [] ∷ []) before
    ∙ ap (λ (x : List ℕ). made_names letter k ++ x ∷ []) (here (get_or names k []) (slice_get-get_or names k [] within)) ∙ sym (more_names letter k)

-- Pieces that were added one after another.
use Rattle.std.proofs.Common.{◌≡◌, ℕ, List, ◌++◌, append_assoc, ap, ◌∙◌}

pub two : (old a now b end : List ℕ) → now ≡ old ++ a → end ≡ now ++ b → end ≡ old ++ (a ++ b)
two old a now b end h k = k ∙ ap (λ l. l ++ b) h ∙ append_assoc old a b

pub five : (old n1 n2 n3 n4 end a b c d e : List ℕ) → n1 ≡ old ++ a → n2 ≡ n1 ++ b → n3 ≡ n2 ++ c → n4 ≡ n3 ++ d → end ≡ n4 ++ e → end ≡ old ++ (a ++ (b ++ (c ++ (d ++ e))))
five old n1 n2 n3 n4 end a b c d e h1 h2 h3 h4 h5 =
    two old a n1 (b ++ (c ++ (d ++ e))) end h1 (two n1 b n2 (c ++ (d ++ e)) end h2 (two n2 c n3 (d ++ e) end h3 (two n3 d n4 e end h4 h5)))

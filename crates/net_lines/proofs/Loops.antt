-- Lines that are written one after another.
use Rattle.std.proofs.Common.{◌≡◌, ℕ, suc, ◌+◌, List, ◌++◌, ap, ◌∙◌, append_assoc, arith}
use Rattle.net_lines.specs.Lines.{lines_to}

-- one line more
pub next : (line : ℕ → List ℕ) (k : ℕ) (start old new : List ℕ) → new ≡ old ++ line k → old ≡ start ++ lines_to line k → new ≡ start ++ lines_to line (k + 1)
next line k start old new is so =
    let more : suc k ≡ k + 1 = omega arith in
    is ∙ ap (λ (xs : List ℕ). xs ++ line k) so ∙ append_assoc start (lines_to line k) (line k) ∙ ap (λ (n : ℕ). start ++ lines_to line n) more

-- what is written in two pieces
pub two : (start middle end first second : List ℕ) → middle ≡ start ++ first → end ≡ middle ++ second → end ≡ start ++ (first ++ second)
two start middle end first second one other = other ∙ ap (λ (xs : List ℕ). xs ++ second) one ∙ append_assoc start first second

-- The samples that are kept of a picture.
use Rattle.std.proofs.Common.{◌≡◌, ℕ, ◌+◌, ◌-◌, ◌^◌, ◌<◌, ◌≤◌, List, [], ◌∷◌, ◌++◌, length, take, ap, sym, subst, ◌∙◌, arith, append-nil, length-append, min}
use Rattle.std.proofs.lemmas.List.{take_all, length-take}
use Rattle.test_bench.specs.declared.picture.Shown.{Shown}
use Rattle.test_bench.specs.Clocking.{IsKept}

shorter : (most : ℕ) (whole : List ℕ) → length (take most whole) < most → length whole < most
shorter most whole l = omega (arith, l, length-take most whole)

full : (most : ℕ) (whole : List ℕ) → most ≤ length (take most whole) → most ≤ length whole
full most whole l = omega (arith, l, length-take most whole)

add_count : (n c d : ℕ) → c ≡ min n (2 ^ 64 - 1) → d ≡ min (c + 1) (2 ^ 64 - 1) → d ≡ min (n + 1) (2 ^ 64 - 1)
add_count n c d e f = omega (arith, e, f)

counted : (whole : List ℕ) (x c d : ℕ) → c ≡ min (length whole) (2 ^ 64 - 1) → d ≡ min (c + 1) (2 ^ 64 - 1) → d ≡ min (length (whole ++ x ∷ [])) (2 ^ 64 - 1)
counted whole x c d e f = add_count (length whole) c d e f ∙ ap (λ n. min n (2 ^ 64 - 1)) (sym (length-append whole (x ∷ [])))

-- there is room for one sample more
pub kept_more : (most : ℕ) (whole : List ℕ) (x : ℕ) (old new : Shown) → IsKept most whole old → length old.samples.items < most → new.samples.items ≡ old.samples.items ++ x ∷ [] → new.count ≡ min (old.count + 1) (2 ^ 64 - 1) → IsKept most (whole ++ x ∷ []) new
kept_more most whole x old new h l e c =
    let short : length whole < most = shorter most whole (subst (λ z. length z < most) h.samples l) in
    record {
      samples = e ∙ ap (λ z. z ++ x ∷ []) (h.samples ∙ take_all most whole (omega (arith, short))) ∙ sym (take_all most (whole ++ x ∷ []) (omega (arith, short, length-append whole (x ∷ []))));
      count = counted whole x old.count new.count h.count c;
    }

pub kept_same : (most : ℕ) (whole : List ℕ) (old : Shown) → IsKept most whole old → IsKept most (whole ++ []) old
kept_same most whole old h = subst (λ z. IsKept most z old) (sym (append-nil whole)) h

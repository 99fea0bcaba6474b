-- Ages that ascend.
use Rattle.std.proofs.Common.{◌≡◌, ℕ, zero, suc, ◌+◌, ◌<◌, ◌≤◌, List, [], ◌∷◌, length, Some, refl, subst, arith}
use Rattle.std.specs.Prelude.{slice_get, slice_index}
use Rattle.std.specs.List.Sorted.{IsStrictlyIncreasing}
use Rattle.std.proofs.lemmas.Option.{same_Some}
use Rattle.line_buffer.specs.Places.{last_of, later, depth_of, Ascend}

tail_increasing : (x : ℕ) (xs : List ℕ) → IsStrictlyIncreasing (x ∷ xs) → IsStrictlyIncreasing xs
tail_increasing x xs up k l = subst (λ (j : ℕ). slice_index xs k < slice_index (x ∷ xs) j) (let e : suc k + 1 ≡ suc (k + 1) = omega arith in e) (up (suc k) (omega (arith, l)))

pub ascend_from : (low : ℕ) (xs : List ℕ) → IsStrictlyIncreasing xs → (0 < length xs → low < slice_index xs 0) → Ascend low xs
ascend_from low [] up above = tt
ascend_from low (x ∷ xs) up above = (above (omega arith), ascend_from x xs (tail_increasing x xs up) (λ some. up 0 (omega (arith, some))))

pub later_ascends : (ages : List ℕ) → IsStrictlyIncreasing ages → Ascend 0 (later ages)
later_ascends [] up = tt
later_ascends (zero ∷ ages) up = ascend_from 0 ages (tail_increasing 0 ages up) (λ some. up 0 (omega (arith, some)))
later_ascends (suc a ∷ ages) up = (omega arith, ascend_from (suc a) ages (tail_increasing (suc a) ages up) (λ some. up 0 (omega (arith, some))))

pub later_depth : (ages : List ℕ) → last_of 0 (later ages) ≡ depth_of ages
later_depth [] = refl
later_depth (zero ∷ ages) = refl
later_depth (suc a ∷ ages) = refl

pub at_least : (low : ℕ) (ages : List ℕ) → Ascend low ages → low ≤ last_of low ages
at_least low [] up = omega arith
at_least low (high ∷ ages) up = omega (arith, at_least high ages up.1, up.0)

pub above_low : (low : ℕ) (ages : List ℕ) → Ascend low ages → (k age : ℕ) → slice_get ages k ≡ Some age → low < age
above_low low [] up k age e = cc
above_low low (high ∷ ages) up zero age e = let same : high ≡ age = same_Some high age e in omega (arith, same, up.0)
above_low low (high ∷ ages) up (suc k) age e = omega (arith, above_low high ages up.1 k age e, up.0)

-- none is above the greatest
up_to_last : (low : ℕ) (ages : List ℕ) → Ascend low ages → (k age : ℕ) → slice_get ages k ≡ Some age → age ≤ last_of low ages
up_to_last low [] up k age e = cc
up_to_last low (high ∷ ages) up zero age e = let same : high ≡ age = same_Some high age e in omega (arith, same, at_least high ages up.1)
up_to_last low (high ∷ ages) up (suc k) age e = up_to_last high ages up.1 k age e

pub age_within : (ages : List ℕ) → IsStrictlyIncreasing ages → (k age : ℕ) → slice_get ages k ≡ Some age → age ≤ depth_of ages
age_within [] up k age e = cc
age_within (a ∷ ages) up zero age e = let same : a ≡ age = same_Some a age e in omega (arith, same, at_least a ages (ascend_from a ages (tail_increasing a ages up) (λ some. up 0 (omega (arith, some)))))
age_within (a ∷ ages) up (suc k) age e = up_to_last a ages (ascend_from a ages (tail_increasing a ages up) (λ some. up 0 (omega (arith, some)))) k age e

-- Parts of the list of all values.
use Rattle.std.proofs.Common.{◌≡◌, ℕ, zero, suc, ◌+◌, ◌^◌, ◌<◌, List, [], ◌∷◌, ◌++◌, length, take, drop, refl, ap, sym, ◌∙◌, arith, length-append, append_assoc}
use Rattle.std.specs.Prelude.{slice_index}
use Rattle.std.proofs.lemmas.List.{take_at, drop_at, drop_all, append-nil}
use Rattle.wiring.specs.Snapshot.{Fit}

module _ (i o w r : List ℕ) where
  regroup : i ++ o ++ w ++ r ≡ i ++ (o ++ (w ++ r))
  regroup = append_assoc (i ++ o) w r ∙ append_assoc i o (w ++ r)

  pub drop_inputs : (n : ℕ) → length i ≡ n → drop n (i ++ o ++ w ++ r) ≡ o ++ (w ++ r)
  drop_inputs n e = ap (λ (l : List ℕ). drop n l) regroup ∙ drop_at i (o ++ (w ++ r)) n e

  pub take_outputs : (n k : ℕ) → length i ≡ n → length o ≡ k → take k (drop n (i ++ o ++ w ++ r)) ≡ o
  take_outputs n k e f = ap (λ (l : List ℕ). take k l) (drop_inputs n e) ∙ take_at o (w ++ r) k f

  pub take_inputs : (n : ℕ) → length i ≡ n → take n (i ++ o ++ w ++ r) ≡ i
  take_inputs n e = ap (λ (l : List ℕ). take n l) regroup ∙ take_at i (o ++ (w ++ r)) n e

  pub take_wires : (n k : ℕ) → length i + length o ≡ n → length w ≡ k → take k (drop n (i ++ o ++ w ++ r)) ≡ w
  take_wires n k e f =
      let front : length (i ++ o) ≡ n = length-append i o ∙ e in
      ap (λ (l : List ℕ). take k l) (ap (λ (l : List ℕ). drop n l) (append_assoc (i ++ o) w r) ∙ drop_at (i ++ o) (w ++ r) n front) ∙ take_at w r k f

  front_length : length (i ++ o ++ w) ≡ length i + length o + length w
  front_length = omega (arith, length-append (i ++ o) w, length-append i o)

  pub drop_front : (n : ℕ) → length i + length o + length w ≡ n → drop n (i ++ o ++ w ++ r) ≡ r
  drop_front n e = drop_at (i ++ o ++ w) r n (front_length ∙ e)

  -- other inputs
  pub new_inputs : (j : List ℕ) → length j ≡ length i → j ++ drop (length j) (i ++ o ++ w ++ r) ≡ j ++ o ++ w ++ r
  new_inputs j e = ap (λ (l : List ℕ). j ++ l) (drop_inputs (length j) (sym e)) ∙ sym (append_assoc (j ++ o) w r ∙ append_assoc j o (w ++ r))

  -- other registers
  pub new_regs : (q : List ℕ) (n : ℕ) → length q ≡ length r → length i + length o + length w ≡ n → take n (i ++ o ++ w ++ r) ++ q ++ drop (n + length q) (i ++ o ++ w ++ r) ≡ i ++ o ++ w ++ q
  new_regs q n e f =
      let front : take n (i ++ o ++ w ++ r) ≡ i ++ o ++ w = take_at (i ++ o ++ w) r n (front_length ∙ f) in
      let past : drop (n + length q) (i ++ o ++ w ++ r) ≡ [] = drop_all (n + length q) (i ++ o ++ w ++ r) (omega (arith, length-append (i ++ o ++ w) r, front_length, e, f)) in
      rw (front, past) (append-nil (i ++ o ++ w ++ q))

-- a number that fits its width
pub fit_at : (widths values : List ℕ) (k : ℕ) → Fit widths values → slice_index values k < 2 ^ slice_index widths k
fit_at [] [] k h = omega arith
fit_at [] (v ∷ vs) k h = absurd h
fit_at (w ∷ ws) [] k h = absurd h
fit_at (w ∷ ws) (v ∷ vs) zero h = h.0
fit_at (w ∷ ws) (v ∷ vs) (suc k) h = fit_at ws vs k h.1

pub length_fit : (widths values : List ℕ) → Fit widths values → length values ≡ length widths
length_fit [] [] h = refl
length_fit [] (v ∷ vs) h = absurd h
length_fit (w ∷ ws) [] h = absurd h
length_fit (w ∷ ws) (v ∷ vs) h = ap suc (length_fit ws vs h.1)

-- numbers that fit one by one
pub fit_from : (widths values : List ℕ) → length values ≡ length widths → ((k : ℕ) → k < length widths → slice_index values k < 2 ^ slice_index widths k) → Fit widths values
fit_from [] [] e h = tt
fit_from [] (v ∷ vs) e h = absurd (omega (arith, e))
fit_from (w ∷ ws) [] e h = absurd (omega (arith, e))
fit_from (w ∷ ws) (v ∷ vs) e h = (h 0 (omega arith), fit_from ws vs (omega (arith, e)) (λ k l. h (suc k) (omega (arith, l))))

-- Outputs that are put one after another into their places of all clocks.
use Rattle.std.proofs.Common.{◌≡◌, ◌≢◌, ◌∙◌, sym, ap, subst, ℕ, zero, suc, ◌+◌, ◌-◌, ◌*◌, ◌%◌, ◌<◌, ◌≤◌, List, [], ◌∷◌, refl, length, take, drop, slice_set, arith, inl, inr, Some}
use Rattle.std.specs.Prelude.{slice_get, slice_index_or}
use Rattle.std.proofs.lemmas.Bool.{cases_lt}
use Rattle.std.proofs.lemmas.Nat.{mod-mul-add}
use Rattle.std.proofs.lemmas.List.{length-drop, length-take-le}
use Rattle.wiring.proofs.Search.{get_set_same, get_set_other}
use Rattle.cycle_sim.specs.declared.ports.Out.{Out}
use Rattle.batch_sim.specs.Called.{of_clock}
use Rattle.batch_sim.specs.Shown.{shown_at, row_out, AreRowOuts}
use Rattle.batch_sim.proofs.Clockwise.{place_inside}

-- the place of an output is not that of another one, at any clock
places_apart : (j t k output count : ℕ) → k < count → output < count → k ≢ output → j * count + k ≢ t * count + output
places_apart j t k output count lk lo ne e = ne (sym (mod-mul-add j count k lk) ∙ ap (λ n. n % count) e ∙ mod-mul-add t count output lo)

clocks_apart : (j t output count : ℕ) → output < count → j < t → j * count + output ≢ t * count + output
clocks_apart j t output count lo l e = let most : j * count + count ≤ t * count = place_inside j t count (t * count) l refl in omega (arith, most, lo, e)

-- an output at one clock more
pub here_more : (outs : List Out) (count output t : ℕ) (f : ℕ → Out) (x : Out) → output < count → t * count + output < length outs → x ≡ f t → ((j : ℕ) → j < t → slice_get outs (j * count + output) ≡ Some (f j)) →
    (j : ℕ) → j < t + 1 → slice_get (slice_set outs (t * count + output) x) (j * count + output) ≡ Some (f j)
here_more outs count output t f x lo inside is before j below = elim (cases_lt j t) [
  | inl low ↦ get_set_other outs (t * count + output) (j * count + output) x (clocks_apart j t output count lo low) ∙ before j low
  | inr high ↦
      let at : t ≡ j = omega (arith, high, below) in
      subst (λ (n : ℕ). slice_get (slice_set outs (t * count + output) x) (n * count + output) ≡ Some (f n)) at (get_set_same outs (t * count + output) x inside ∙ ap (λ (o : Out). Some o) is)
]

-- the others stay
pub others_stay : (outs old : List Out) (count output t : ℕ) (x : Out) → output < count → ((j k : ℕ) → k < count → k ≢ output → slice_get outs (j * count + k) ≡ slice_get old (j * count + k)) →
    (j k : ℕ) → k < count → k ≢ output → slice_get (slice_set outs (t * count + output) x) (j * count + k) ≡ slice_get old (j * count + k)
others_stay outs old count output t x lo before j k lk ne = get_set_other outs (t * count + output) (j * count + k) x (places_apart j t k output count lk lo ne) ∙ before j k lk ne

-- one output more at all clocks
pub output_more : (rows : List (List ℕ)) (first count clocks output : ℕ) (valid dout : List ℕ) (old new : List Out) → output < count → valid ≡ slice_index_or rows (first + 2 * output) [] → dout ≡ slice_index_or rows (first + 2 * output + 1) [] →
    ((t : ℕ) → t < clocks → slice_get new (t * count + output) ≡ Some (shown_at valid dout t)) →
    ((t k : ℕ) → k < count → k ≢ output → slice_get new (t * count + k) ≡ slice_get old (t * count + k)) →
    ((t k : ℕ) → t < clocks → k < output → slice_get old (t * count + k) ≡ Some (row_out rows first k t)) →
    (t k : ℕ) → t < clocks → k < output + 1 → slice_get new (t * count + k) ≡ Some (row_out rows first k t)
output_more rows first count clocks output valid dout old new lo v d here others before t k l below = elim (cases_lt k output) [
  | inl low ↦ others t k (omega (arith, low, lo)) (λ e. omega (arith, low, e)) ∙ before t k l low
  | inr high ↦
      let at : output ≡ k = omega (arith, high, below) in
      subst (λ (n : ℕ). slice_get new (t * count + n) ≡ Some (row_out rows first n t)) at (here t l ∙ ap (λ (r : List ℕ). Some (shown_at r dout t)) v ∙ ap (λ (r : List ℕ). Some (shown_at (slice_index_or rows (first + 2 * output) []) r t)) d)
]

get_taken : (xs : List Out) (c k : ℕ) → k < c → slice_get (take c xs) k ≡ slice_get xs k
get_taken xs zero k l = absurd (omega (arith, l))
get_taken [] (suc c) k l = refl
get_taken (x ∷ xs) (suc c) zero l = refl
get_taken (x ∷ xs) (suc c) (suc k) l = get_taken xs c k (omega (arith, l))

get_dropped : (xs : List Out) (n k : ℕ) → slice_get (drop n xs) k ≡ slice_get xs (n + k)
get_dropped xs zero k = let e : k ≡ 0 + k = omega arith in ap (λ m. slice_get xs m) e
get_dropped [] (suc n) k = refl
get_dropped (x ∷ xs) (suc n) k = get_dropped xs n k ∙ (let e : suc n + k ≡ suc (n + k) = omega arith in sym (ap (λ m. slice_get (x ∷ xs) m) e))

-- all outputs, clock by clock
pub all_shown : (rows : List (List ℕ)) (first count clocks : ℕ) (outs : List Out) → length outs ≡ clocks * count → ((t k : ℕ) → t < clocks → k < count → slice_get outs (t * count + k) ≡ Some (row_out rows first k t)) →
    (t : ℕ) → t < clocks → AreRowOuts rows first t count (of_clock count t outs)
all_shown rows first count clocks outs long shown t l =
    let room : t * count + count ≤ length outs = place_inside t clocks count (length outs) l long in
    let rest : length (drop (t * count) outs) ≡ length outs - t * count = length-drop (t * count) outs in
    record {
      long = length-take-le count (drop (t * count) outs) (omega (arith, rest, room));
      each = λ k below. get_taken (drop (t * count) outs) count k below ∙ get_dropped outs (t * count) k ∙ shown t k l below;
    }

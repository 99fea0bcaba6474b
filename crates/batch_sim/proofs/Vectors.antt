-- Lists of vectors.
use Rattle.std.proofs.Common.{◌≡◌, ◌≢◌, ℕ, zero, suc, ◌+◌, ◌<◌, ◌≤◌, ◌⊎◌, inl, inr, List, [], ◌∷◌, length, Vec, Some, refl, ap, sym, subst, ◌∙◌, arith}
use Rattle.std.specs.Prelude.{slice_get, slice_set, slice_index_or}
use Rattle.std.specs.declared.alloc.Global.{Global}
use Rattle.std.proofs.lemmas.List.{length-map, get_or-map, length-set}
use Rattle.std.proofs.lemmas.Bool.{cases_order}
use Rattle.std.proofs.lemmas.Option.{slice_get_within, same_Some}
use Rattle.lane_rows.specs.Values.{items_of}
use Rattle.lane_rows.proofs.LaneRows.{placed, placed_other}
use Rattle.batch_sim.specs.Arrays.{HaveLong, OthersStay}

pub length-items : (vs : List (Vec ℕ Global)) → length (items_of vs) ≡ length vs
length-items vs = length-map vs (λ (v : Vec ℕ Global). v.items)

pub vec_at : (vs : List (Vec ℕ Global)) (k : ℕ) (d : Vec ℕ Global) → k < length vs → (slice_index_or vs k d).items ≡ slice_index_or (items_of vs) k []
vec_at vs k d l = sym (get_or-map (λ (v : Vec ℕ Global). v.items) vs k d [] l)

pub vec_get : (vs : List (Vec ℕ Global)) (k : ℕ) (v : Vec ℕ Global) → slice_get vs k ≡ Some v → slice_index_or (items_of vs) k [] ≡ v.items
vec_get [] k v at = absurd (omega (arith, slice_get_within [] k v at))
vec_get (w ∷ vs) zero v at = ap (λ (x : Vec ℕ Global). x.items) (same_Some w v at)
vec_get (w ∷ vs) (suc k) v at = vec_get vs k v at

pub some_at : {X : Type 0} (xs : List X) (k : ℕ) → k < length xs → (x : X) × (slice_get xs k ≡ Some x)
some_at [] k l = absurd (omega (arith, l))
some_at (x ∷ xs) zero l = (x, refl)
some_at (x ∷ xs) (suc k) l = some_at xs k (omega (arith, l))

module _ (vs : List (Vec ℕ Global)) (k : ℕ) (new d : Vec ℕ Global) (l : k < length vs) where
  apart_of : (n : ℕ) → (n < k) ⊎ (k < n) → n ≢ k
  apart_of n (inl h) e = omega (arith, h, e)
  apart_of n (inr h) e = omega (arith, h, e)

  pub long_on : (count : ℕ) → length new.items ≡ length (slice_index_or vs k d).items → HaveLong (items_of vs) count → HaveLong (items_of (slice_set vs k new)) count
  long_on count same long x within = at_x (cases_order x k)
    where
      at_x : (x ≡ k) ⊎ ((x < k) ⊎ (k < x)) → count ≤ length (slice_index_or (items_of (slice_set vs k new)) x [])
      at_x (inl e) =
          let long' : length (slice_index_or (items_of (slice_set vs k new)) x []) ≡ length (slice_index_or (items_of vs) k []) =
          ap (λ n. length (slice_index_or (items_of (slice_set vs k new)) n [])) e ∙ ap (λ (ws : List ℕ). length ws) (placed (λ (v : Vec ℕ Global). v.items) vs k new l) ∙ same ∙ ap (λ (ws : List ℕ). length ws) (vec_at vs k d l) in
          omega (arith, long', long k (omega (arith, l, length-items vs)))
      at_x (inr h) =
          let long' : length (slice_index_or (items_of (slice_set vs k new)) x []) ≡ length (slice_index_or (items_of vs) x []) = ap (λ (ws : List ℕ). length ws) (placed_other (λ (v : Vec ℕ Global). v.items) vs k x new (apart_of x h)) in
          omega (arith, long', long x (omega (arith, within, length-items vs, length-items (slice_set vs k new), length-set vs k new)))

-- where one of them is as before, and all others are, all are
pub all_stay : (array : ℕ) (old new : List (List ℕ)) → slice_index_or new array [] ≡ slice_index_or old array [] → OthersStay array old new → (x : ℕ) → slice_index_or new x [] ≡ slice_index_or old x []
all_stay array old new same others x = at_x (cases_order x array)
  where
    at_x : (x ≡ array) ⊎ ((x < array) ⊎ (array < x)) → slice_index_or new x [] ≡ slice_index_or old x []
    at_x (inl e) = subst (λ (n : ℕ). slice_index_or new n [] ≡ slice_index_or old n []) (sym e) same
    at_x (inr (inl l)) = others x (λ e. omega (arith, e, l))
    at_x (inr (inr l)) = others x (λ e. omega (arith, e, l))

-- one more of them is long
pub long_more : (vs : List (Vec ℕ Global)) (k count : ℕ) (v : Vec ℕ Global) → slice_get vs k ≡ Some v → count ≤ length v.items → ((x : ℕ) → x < k → count ≤ length (slice_index_or (items_of vs) x [])) → (x : ℕ) → x < k + 1 → count ≤ length (slice_index_or (items_of vs) x [])
long_more vs k count v at here before x l = at_x (cases_order x k)
  where
    at_x : (x ≡ k) ⊎ ((x < k) ⊎ (k < x)) → count ≤ length (slice_index_or (items_of vs) x [])
    at_x (inl e) = subst (λ (n : ℕ). count ≤ length (slice_index_or (items_of vs) n [])) (sym e) (subst (λ (ws : List ℕ). count ≤ length ws) (sym (vec_get vs k v at)) here)
    at_x (inr (inl m)) = before x m
    at_x (inr (inr m)) = absurd (omega (arith, l, m))

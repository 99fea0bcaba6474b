-- A table grows with the items.
use Rattle.std.proofs.Common.{◌≡◌, ◌≢◌, ◌⊎◌, ℕ, zero, suc, ◌+◌, ◌<◌, ◌≤◌, List, [], ◌∷◌, ◌++◌, length, take, refl, ap, subst, sym, ◌∙◌, inl, inr, arith, Option, Some, None}
use Rattle.std.specs.Prelude.{slice_get}
use Rattle.std.proofs.lemmas.List.{take_more, length-take-le}
use Rattle.std.proofs.lemmas.Option.{same_Some, slice_get_within, get_or_from_slice_get, none-some}
use Rattle.wiring.specs.Tables.{IsTableOf, IsSecond, Notes}
use Rattle.wiring.proofs.Lists.{slice_get-append}
use Rattle.wiring.proofs.Search.{at_push, last_push}

-- what is among the first elements
in_take : {X : Type 0} (xs : List X) (n k : ℕ) (x : X) → slice_get (take n xs) k ≡ Some x → slice_get xs k ≡ Some x
in_take [] zero k x e = e
in_take [] (suc n) k x e = e
in_take (y ∷ xs) zero k x e = cc
in_take (y ∷ xs) (suc n) zero x e = e
in_take (y ∷ xs) (suc n) (suc k) x e = in_take xs n k x e

take_in : {X : Type 0} (xs : List X) (n k : ℕ) (x : X) → k < n → slice_get xs k ≡ Some x → slice_get (take n xs) k ≡ Some x
take_in [] n k x l e = cc
take_in (y ∷ xs) zero k x l e = absurd (omega (arith, l))
take_in (y ∷ xs) (suc n) zero x l e = e
take_in (y ∷ xs) (suc n) (suc k) x l e = take_in xs n k x (omega (arith, l)) e

pub take_step : {X : Type 0} (xs : List X) (i : ℕ) (x : X) → slice_get xs i ≡ Some x → take (i + 1) xs ≡ take i xs ++ x ∷ []
take_step xs i x at = take_more xs i x (slice_get_within xs i x at) ∙ ap (λ y. take i xs ++ y ∷ []) (get_or_from_slice_get xs i x x at)

pub take_whole : {X : Type 0} (xs : List X) (i : ℕ) → length xs ≤ i → take i xs ≡ xs
take_whole [] zero l = refl
take_whole [] (suc i) l = refl
take_whole (x ∷ xs) zero l = absurd (omega (arith, l))
take_whole (x ∷ xs) (suc i) l = ap (λ ys. x ∷ ys) (take_whole xs i (omega (arith, l)))

module _ {X T : Type 0} (cases : (a b : T) → (a ≡ b) ⊎ (a ≢ b)) (target : X → T) where
  module _ (items : List X) (d e : T → Option ℕ) (table : IsTableOf target items d) (a : X) (free : d (target a) ≡ None) (notes : Notes d e (target a) (length items)) where
    sound_more : (n : T) (k : ℕ) → e n ≡ Some k → (b : X) × (slice_get (items ++ a ∷ []) k ≡ Some b) × (target b ≡ n)
    sound_more n k at =
        elim (cases n (target a)) as (λ _. (b : X) × (slice_get (items ++ a ∷ []) k ≡ Some b) × (target b ≡ n)) [
          | inl same ↦
              let place : length items ≡ k = same_Some (length items) k (sym notes.noted ∙ subst (λ (x : T). e x ≡ Some k) same at) in
              (a, subst (λ (z : ℕ). slice_get (items ++ a ∷ []) z ≡ Some a) place (last_push items a), sym same)
          | inr apart ↦
              let old = table.sound n k (sym (notes.others n apart) ∙ at) in
              (old.0, slice_get-append items (a ∷ []) k old.0 old.1, old.2)
        ]

    complete_more : (k : ℕ) (b : X) → slice_get (items ++ a ∷ []) k ≡ Some b → e (target b) ≡ Some k
    complete_more k b at =
        elim (at_push items a b k at) as (λ _. e (target b) ≡ Some k) [
          | inl h ↦
              let old = table.complete k b h in
              let apart : target b ≢ target a = λ same. none-some k (sym free ∙ subst (λ (x : T). d x ≡ Some k) same old) in
              notes.others (target b) apart ∙ old
          | inr h ↦ subst (λ (x : X). e (target x) ≡ Some k) h.1 (notes.noted ∙ ap (λ (z : ℕ). Some z) (sym h.0))
        ]

    table_more : IsTableOf target (items ++ a ∷ []) e
    table_more = record { sound = sound_more; complete = complete_more }

  pub table_step : (items : List X) (d e : T → Option ℕ) (i : ℕ) (x : X) → slice_get items i ≡ Some x → IsTableOf target (take i items) d → d (target x) ≡ None → Notes d e (target x) i → IsTableOf target (take (i + 1) items) e
  table_step items d e i x is table free notes =
      let l = slice_get_within items i x is in
      let at : length (take i items) ≡ i = length-take-le i items (omega arith) in
      subst (λ (xs : List X). IsTableOf target xs e) (sym (take_step items i x is))
      (table_more (take i items) d e table x free (subst (λ (z : ℕ). Notes d e (target x) z) (sym at) notes))

  pub second_of : (items : List X) (d : T → Option ℕ) (i : ℕ) (x : X) (j : ℕ) → slice_get items i ≡ Some x → IsTableOf target (take i items) d → d (target x) ≡ Some j → IsSecond target items i
  second_of items d i x j is table at =
      let first = table.sound (target x) j at in
      let l = slice_get_within items i x is in
      record {
        before = λ p q a b lp lq at_p at_q same.
            same_Some p q (sym (table.complete p a (take_in items i p a lp at_p)) ∙ subst (λ (n : T). d n ≡ Some q) (sym same) (table.complete q b (take_in items i q b lq at_q)));
        earlier = j;
        first = first.0;
        second = x;
        order = omega (arith, slice_get_within (take i items) j first.0 first.1, length-take-le i items (omega arith));
        first_at = in_take items i j first.0 first.1;
        second_at = is;
        same = first.2;
      }

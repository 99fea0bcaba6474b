-- There is one faulty token, and none in a list of the language.
use Rattle.std.proofs.Common.{◌≡◌, ◌≤◌, ◌<◌, ◌⊎◌, inl, inr, ℕ, zero, suc, List, [], ◌∷◌, ◌++◌, take, drop, refl, ap, sym, subst, ◌∙◌, arith, append_assoc}
use Rattle.std.proofs.lemmas.Bool.{cases_order}
use Rattle.std.proofs.lemmas.List.{take-append-drop}
use Rattle.dk_grammar.specs.Reading.{Begins, IsFaulty}

-- a shorter front is a front of a longer one
front_of : {T : Type 0} (m n : ℕ) (ts : List T) → m ≤ n → (b : List T) × (take n ts ≡ take m ts ++ b)
front_of zero n ts h = (take n ts, refl)
front_of (suc m) zero ts h = absurd (omega arith)
front_of (suc m) (suc n) [] h = ([], refl)
front_of (suc m) (suc n) (t ∷ ts) h = let f = front_of m n ts (omega arith) in (f.0, ap (λ x. t ∷ x) f.1)

-- What begins a list of the language still does when tokens at its end are left out.
pub begins_before : {T : Type 0} (L : List T → Type 0) (m n : ℕ) (ts : List T) → m ≤ n → Begins L (take n ts) → Begins L (take m ts)
begins_before L m n ts h b =
    let f = front_of m n ts h in
    (f.0 ++ b.0, subst L (ap (λ x. x ++ b.0) f.1 ∙ append_assoc (take m ts) f.0 b.0) b.1)

not_before : {T : Type 0} (L : List T → Type 0) (ts : List T) (j k : ℕ) → IsFaulty L ts j → IsFaulty L ts k → j < k → ⊥
not_before L ts j k a b h = a.none (begins_before L (suc j) k ts h b.before)

same_index : {T : Type 0} (L : List T → Type 0) (ts : List T) (j k : ℕ) → IsFaulty L ts j → IsFaulty L ts k → (j ≡ k) ⊎ ((j < k) ⊎ (k < j)) → j ≡ k
same_index L ts j k a b (inl e) = e
same_index L ts j k a b (inr (inl h)) = absurd (not_before L ts j k a b h)
same_index L ts j k a b (inr (inr h)) = absurd (not_before L ts k j b a h)

pub one_faulty : {T : Type 0} (L : List T → Type 0) (ts : List T) (j k : ℕ) → IsFaulty L ts j → IsFaulty L ts k → j ≡ k
one_faulty L ts j k a b = same_index L ts j k a b (cases_order j k)

pub none_faulty : {T : Type 0} (L : List T → Type 0) (ts : List T) (k : ℕ) → L ts → IsFaulty L ts k → ⊥
none_faulty L ts k whole f = f.none (drop (suc k) ts, subst L (sym (take-append-drop (suc k) ts)) whole)

-- two languages of the same lists have the same faulty tokens
pub like_faulty : {T : Type 0} (L M : List T → Type 0) (ts : List T) (k : ℕ) → ((xs : List T) → L xs → M xs) → ((xs : List T) → M xs → L xs) → IsFaulty L ts k → IsFaulty M ts k
like_faulty L M ts k to from f = record {
  inside = f.inside;
  before = (f.before.0, to (take k ts ++ f.before.0) f.before.1);
  none = λ b. f.none (b.0, from (take (suc k) ts ++ b.0) b.1);
}

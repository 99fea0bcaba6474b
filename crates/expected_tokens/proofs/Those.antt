-- Those of a list for which something holds.
use Rattle.std.proofs.Common.{◌≡◌, ◌⊎◌, inl, inr, ◌↔◌, ◌<◌, ℕ, zero, suc, ◌+◌, List, [], ◌∷◌, ◌++◌, length, take, get_or, arith, refl, sym, subst}
use Rattle.std.specs.List.{Contains}
use Rattle.std.proofs.lemmas.List.{take_more}
use Rattle.dk_parser.specs.Grammar.{Tokens}
use Rattle.expected_tokens.specs.declared.class.TokenClass.{TokenClass}
use Rattle.expected_tokens.specs.Expected.{AreThose, none, taken, left, Grows, CanFollow}

head_in : (c : TokenClass) (cs : List TokenClass) → Contains (c ∷ cs) c
head_in c cs = (0, omega arith, refl)

tail_in : (b c : TokenClass) (cs : List TokenClass) → Contains cs c → Contains (b ∷ cs) c
tail_in b c cs (k, lt, e) = (suc k, omega (arith, lt), e)

one_of : (b c : TokenClass) (cs : List TokenClass) → Contains (b ∷ cs) c → (b ≡ c) ⊎ Contains cs c
one_of b c cs (zero, lt, e) = inl e
one_of b c cs (suc k, lt, e) = inr (k, omega (arith, lt), e)

none_in : (c : TokenClass) → Contains [] c → ⊥
none_in c (k, lt, e) = omega (arith, lt)

module _ (P : TokenClass → Type 0) where
  more : (c : TokenClass) {cs old : List TokenClass} → AreThose P cs old → P c → AreThose P (cs ++ c ∷ []) (old ++ c ∷ [])
  more c none p = taken p none
  more c (taken q a) p = taken q (more c a p)
  more c (left q a) p = left q (more c a p)

  no_more : (c : TokenClass) {cs old : List TokenClass} → AreThose P cs old → ¬ P c → AreThose P (cs ++ c ∷ []) old
  no_more c none p = left p none
  no_more c (taken q a) p = taken q (no_more c a p)
  no_more c (left q a) p = left q (no_more c a p)

  pub grown : (c : TokenClass) (cs old new : List TokenClass) → AreThose P cs old → Grows P c old new → AreThose P (cs ++ c ∷ []) new
  grown c cs old new a (inl g) = subst (AreThose P (cs ++ c ∷ [])) (sym g.1) (more c a g.0)
  grown c cs old new a (inr g) = subst (AreThose P (cs ++ c ∷ [])) (sym g.1) (no_more c a g.0)

  this_holds : (b c : TokenClass) (found : List TokenClass) → P b → (Contains found c → P c) → (b ≡ c) ⊎ Contains found c → P c
  this_holds b c found q h (inl e) = subst P e q
  this_holds b c found q h (inr i) = h i

  pub holds : (c : TokenClass) {cs found : List TokenClass} → AreThose P cs found → Contains found c → P c
  holds c none i = absurd (none_in c i)
  holds c (taken {c = b} {found = found} q a) i = this_holds b c found q (λ j. holds c a j) (one_of b c found i)
  holds c (left q a) i = holds c a i

  here_or_later : (b c : TokenClass) (cs found : List TokenClass) → (Contains cs c → Contains found c) → (b ≡ c) ⊎ Contains cs c → Contains (b ∷ found) c
  here_or_later b c cs found h (inl e) = subst (λ x. Contains (x ∷ found) c) (sym e) (head_in c found)
  here_or_later b c cs found h (inr i) = tail_in b c found (h i)

  only_later : (b c : TokenClass) (cs found : List TokenClass) → ¬ P b → P c → (Contains cs c → Contains found c) → (b ≡ c) ⊎ Contains cs c → Contains found c
  only_later b c cs found q p h (inl e) = absurd (q (subst P (sym e) p))
  only_later b c cs found q p h (inr i) = h i

  pub is_found : (c : TokenClass) {cs found : List TokenClass} → AreThose P cs found → Contains cs c → P c → Contains found c
  is_found c none i p = absurd (none_in c i)
  is_found c (taken {c = b} {cs = cs} {found = found} q a) i p = here_or_later b c cs found (λ j. is_found c a j p) (one_of b c cs i)
  is_found c (left {c = b} {cs = cs} {found = found} q a) i p = only_later b c cs found q p (λ j. is_found c a j p) (one_of b c cs i)

  pub grown_at : (i : ℕ) (d : TokenClass) (cs old new : List TokenClass) → i < length cs → AreThose P (take i cs) old → Grows P (get_or cs i d) old new → AreThose P (take (i + 1) cs) new
  grown_at i d cs old new lt a g = subst (λ x. AreThose P x new) (sym (take_more cs i d lt)) (grown (get_or cs i d) (take i cs) old new a g)

  pub exact : (cs found : List TokenClass) → ((c : TokenClass) → Contains cs c) → AreThose P cs found → (c : TokenClass) → Contains found c ↔ P c
  exact cs found all a c = (λ i. holds c a i, λ p. is_found c a (all c) p)

-- one more class of a list
pub one_more : (ts us : Tokens) (i : ℕ) (d : TokenClass) (cs old new : List TokenClass)
    → ts ≡ us → i < length cs → AreThose (CanFollow us) (take i cs) old → Grows (CanFollow ts) (get_or cs i d) old new → AreThose (CanFollow us) (take (i + 1) cs) new
one_more ts us i d cs old new e lt a g = grown_at (CanFollow us) i d cs old new lt a (subst (λ x. Grows (CanFollow x) (get_or cs i d) old new) e g)

-- What the reader's functions answer, from what they call.
use Rattle.std.proofs.Common.{◌≡◌, ◌≢◌, ◌+◌, ℕ, List, [], ◌∷◌, ◌++◌, length, take, drop, eqb, refl, Bool, true, false}
use Rattle.std.specs.Prelude.{Option, Some, None, MatchOption, nat_eq}
use Rattle.std.specs.Cmp.Lexicographic.{pointwise}
use Rattle.std.proofs.lemmas.Bool.{eqb-true}
use Rattle.std.proofs.lemmas.Bool.Decides.{Decides-eqb}
use Rattle.std.proofs.lemmas.Slice.Eq.{strip_prefix_is}
use denote.Ref.{Bor}
use Rattle.report_text.proofs.Fields.{strip_again}
use Rattle.report_text.specs.Reading.{strip}

-- words
strip_none : (word bytes : List ℕ) → ((rest : List ℕ) → bytes ≢ word ++ rest) → strip word bytes ≡ None
strip_none [] bytes h = absurd (h bytes refl)
strip_none (w ∷ word) [] h = refl
strip_none (w ∷ word) (b ∷ bytes) h = by (nat_eq w b) refl (λ e. strip_none word bytes (λ rest f. h rest (let q = eqb-true w b e in cc)))
  where
    by : (t : Bool) → nat_eq w b ≡ t → (nat_eq w b ≡ true → strip word bytes ≡ None) → strip (w ∷ word) (b ∷ bytes) ≡ None
    by true e none = rw e (none e)
    by false e none = rw e refl

pub strip_answer : (word bytes : List ℕ) (r : Option (Bor (List ℕ))) → MatchOption r (pointwise eqb (take (length word) bytes) word ≡ false) (λ x. (pointwise eqb (take (length word) bytes) word ≡ true) × (x.now ≡ drop (length word) bytes) × (length x.now + length word ≡ length bytes)) → MatchOption r (strip word bytes ≡ None) (λ x. strip word bytes ≡ Some x.now)
strip_answer word bytes r a = by r (strip_prefix_is Decides-eqb bytes word r a)
  where
    by : (r : Option (Bor (List ℕ))) → MatchOption r ((rest : List ℕ) → bytes ≢ word ++ rest) (λ x. bytes ≡ word ++ x.now) → MatchOption r (strip word bytes ≡ None) (λ x. strip word bytes ≡ Some x.now)
    by None none = strip_none word bytes none
    by (Some x) e = rw e (strip_again word x.now)

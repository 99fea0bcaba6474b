-- A header that is whole at its last byte.
use Rattle.std.proofs.Common.{◌≡◌, ℕ, suc, ◌+◌, ◌⊎◌, inl, inr, List, [], ◌∷◌, ◌++◌, length, drop, refl, ap, sym, subst, ◌∙◌, arith, append_assoc, append-nil, length-append}
use Rattle.pgm_codec.specs.declared.header.Header.{Header}
use Rattle.pgm_codec.specs.Answers.{Whole, Undecided, Reads}

abbrev OneHeader : Type 0
OneHeader = (first second rest more : List ℕ) → Whole first → Whole second → first ++ rest ≡ second ++ more → first ≡ second

-- what a list and one byte more begin with: it is all of them, or the list begins with it
parted : (front rest bytes : List ℕ) (b : ℕ) → front ++ rest ≡ bytes ++ b ∷ [] → (length front ≡ length bytes + 1) ⊎ ((mid : List ℕ) × (bytes ≡ front ++ mid))
parted [] rest bytes b e = inr (bytes, refl)
parted (x ∷ front) rest [] b e = inl (let n : suc (length front) ≡ 1 = omega (arith, length-append front rest, ap length e) in n)
parted (x ∷ front) rest (y ∷ bytes) b e = next (parted front rest bytes b (ap (λ l. drop 1 l) e)) (ap (λ l. Rattle.std.proofs.Common.get_or l 0 0) e)
  where
    next : (length front ≡ length bytes + 1) ⊎ ((mid : List ℕ) × (bytes ≡ front ++ mid)) → x ≡ y → (suc (length front) ≡ suc (length bytes) + 1) ⊎ ((mid : List ℕ) × (y ∷ bytes ≡ x ∷ (front ++ mid)))
    next (inl n) h = inl (let m : suc (length front) ≡ suc (length bytes) + 1 = omega (arith, n) in m)
    next (inr p) h = inr (p.0, ap (λ z. z ∷ bytes) (sym h) ∙ ap (λ l. x ∷ l) p.1)

pub nothing : (xs ys : List ℕ) → xs ≡ xs ++ ys → ys ≡ []
nothing [] ys e = sym e
nothing (x ∷ xs) ys e = nothing xs ys (ap (λ l. drop 1 l) e)

pub first_nothing : (xs ys : List ℕ) → xs ++ ys ≡ [] → xs ≡ []
first_nothing [] ys e = refl
first_nothing (x ∷ xs) ys e = absurd (let f : ⊥ = cc in f)

pub exact_head : OneHeader → (bytes : List ℕ) (b : ℕ) (h : Header) → Undecided bytes → Reads (bytes ++ b ∷ []) h → length (bytes ++ b ∷ []) ≡ h.length
exact_head one bytes b h u r = by (parted r.front r.rest bytes b (sym r.parts))
  where
    header : Whole r.front
    header = (r.heads.across, r.heads.down, record { value = h.maxval; place = r.place }, r.heads.text)

    by : (length r.front ≡ length bytes + 1) ⊎ ((mid : List ℕ) × (bytes ≡ r.front ++ mid)) → length (bytes ++ b ∷ []) ≡ h.length
    by (inl n) = omega (arith, length-append bytes (b ∷ []), n, r.length_is)
    by (inr p) =
        let more = u.inside.begins.0 in
        let joined : bytes ++ more ≡ r.front ++ (p.0 ++ more) = ap (λ z. z ++ more) p.1 ∙ append_assoc r.front p.0 more in
        let whole : Whole (r.front ++ (p.0 ++ more)) = subst Whole joined u.inside.begins.1 in
        let same : r.front ≡ r.front ++ (p.0 ++ more) = one r.front (r.front ++ (p.0 ++ more)) (p.0 ++ more) [] header whole (sym (append-nil (r.front ++ (p.0 ++ more)))) in
        let none : p.0 ≡ [] = first_nothing p.0 more (nothing r.front (p.0 ++ more) same) in
        let all : bytes ≡ r.front = p.1 ∙ ap (λ z. r.front ++ z) none ∙ append-nil r.front in
        absurd (u.inside.open_yet (subst Whole (sym all) header))

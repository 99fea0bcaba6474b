-- One way to cut images into rounds.
use Rattle.std.proofs.Common.{◌≡◌, ◌∙◌, sym, ap, refl, [], ◌∷◌, ◌++◌, List, ℕ, ◌<◌, arith, length}
use Rattle.std.specs.List.{flat_map, AllByRecursion}
use Rattle.std.proofs.lemmas.List.{append_cancel_left}
use Rattle.pgm_codec.specs.Images.{Image}
use Rattle.pgm_codec.specs.Rounds.{FitsInputs, Fits}

abbrev Round : Type 0
Round = List Image

abbrev joined : List Round → Round
joined rs = flat_map (λ r. r) rs

-- fronts that fit the same inputs are the same
same_front : (w h : ℕ) (bits : List ℕ) (a b x y : Round) → FitsInputs w h bits a → FitsInputs w h bits b → a ++ x ≡ b ++ y → a ≡ b
same_front w h [] [] [] x y f g e = refl
same_front w h [] [] (q ∷ qs) x y f g e = absurd g
same_front w h [] (p ∷ ps) b x y f g e = absurd f
same_front w h (n ∷ ns) [] b x y f g e = absurd f
same_front w h (n ∷ ns) (p ∷ ps) [] x y f g e = absurd g
same_front w h (n ∷ ns) (p ∷ ps) (q ∷ qs) x y f g e =
    let t : ps ≡ qs = same_front w h ns ps qs x y f.3 g.3 (ap (tail []) e) in
    ap (λ v. v ∷ ps) (ap (head p) e) ∙ ap (λ s. q ∷ s) t
  where
    head : Image → Round → Image
    head d [] = d
    head d (v ∷ vs) = v

    tail : Round → Round → Round
    tail d [] = d
    tail d (v ∷ vs) = vs

no_round : (w h : ℕ) (bits : List ℕ) (r x : Round) → 0 < length bits → FitsInputs w h bits r → [] ≡ r ++ x → ⊥
no_round w h [] r x some f e = absurd (omega arith)
no_round w h (n ∷ ns) [] x some f e = f
no_round w h (n ∷ ns) (p ∷ ps) x some f e = absurd (omega (arith, ap length e))

same_cut : (w h : ℕ) (bits : List ℕ) (rs qs : List Round) → 0 < length bits → AllByRecursion (FitsInputs w h bits) rs → AllByRecursion (FitsInputs w h bits) qs
    → joined rs ≡ joined qs → rs ≡ qs
same_cut w h bits [] [] some f g e = refl
same_cut w h bits [] (q ∷ qs) some f g e = absurd (no_round w h bits q (joined qs) some g.0 e)
same_cut w h bits (r ∷ rs) [] some f g e = absurd (no_round w h bits r (joined rs) some f.0 (sym e))
same_cut w h bits (r ∷ rs) (q ∷ qs) some f g e =
    let a : r ≡ q = same_front w h bits r q (joined rs) (joined qs) f.0 g.0 e in
    let behind : joined rs ≡ joined qs = append_cancel_left r (joined rs) (joined qs) (e ∙ ap (λ x. x ++ joined qs) (sym a)) in
    ap (λ x. x ∷ rs) a ∙ ap (λ s. q ∷ s) (same_cut w h bits rs qs some f.1 g.1 behind)

pub one_cut : (w h : ℕ) (bits : List ℕ) (ps : Round) (rs qs : List Round) → 0 < length bits → Fits w h bits ps rs → Fits w h bits ps qs → rs ≡ qs
one_cut w h bits ps rs qs some f g = same_cut w h bits rs qs some f.fit g.fit (sym f.joined ∙ g.joined)

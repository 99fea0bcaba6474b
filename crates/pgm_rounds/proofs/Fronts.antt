-- Images of two fronts of the same bytes.
use Rattle.std.proofs.Common.{◌≡◌, ◌∙◌, sym, ap, refl, [], ◌∷◌, ◌++◌, List, ℕ, append_assoc}
use Rattle.std.proofs.lemmas.List.{append_cancel_left}
use Rattle.pgm_codec.specs.Images.{Image, AreImages}
use Rattle.pgm_rounds.proofs.Readings.{OneImage}

-- The images of one front are the first of the other's, or the other way round: the bytes between hold the images that are more.
pub data Compared (ps qs : List Image) (r s : List ℕ) : Type 0 where
  onward : (more : List Image) (between : List ℕ) → qs ≡ ps ++ more → AreImages between more → r ≡ between ++ s → Compared ps qs r s
  back : (more : List Image) (between : List ℕ) → ps ≡ qs ++ more → AreImages between more → s ≡ between ++ r → Compared ps qs r s

longer : (p q : Image) (ps qs : List Image) (r s : List ℕ) → p ≡ q → Compared ps qs r s → Compared (p ∷ ps) (q ∷ qs) r s
longer p q ps qs r s e (onward more between a b c) = onward more between (ap (λ x. q ∷ x) a ∙ ap (λ x. x ∷ (ps ++ more)) (sym e)) b c
longer p q ps qs r s e (back more between a b c) = back more between (ap (λ x. p ∷ x) a ∙ ap (λ x. x ∷ (qs ++ more)) e) b c

pub compared : OneImage → (ps qs : List Image) (f g r s : List ℕ) → AreImages f ps → AreImages g qs → f ++ r ≡ g ++ s → Compared ps qs r s
compared one [] qs f g r s a b e = onward qs g refl b (ap (λ x. x ++ r) (sym a) ∙ e)
compared one (p ∷ ps) [] f g r s a b e = back (p ∷ ps) f refl a (ap (λ x. x ++ s) (sym b) ∙ sym e)
compared one (p ∷ ps) (q ∷ qs) f g r s a b e =
    let parts : a.0 ++ (a.1 ++ r) ≡ b.0 ++ (b.1 ++ s) = sym (ap (λ x. x ++ r) a.2 ∙ append_assoc a.0 a.1 r) ∙ e ∙ ap (λ x. x ++ s) b.2 ∙ append_assoc b.0 b.1 s in
    let same = one a.0 b.0 (a.1 ++ r) (b.1 ++ s) p q a.3 b.3 parts in
    let behind : a.1 ++ r ≡ b.1 ++ s = append_cancel_left a.0 (a.1 ++ r) (b.1 ++ s) (parts ∙ ap (λ x. x ++ (b.1 ++ s)) (sym same.0)) in
    longer p q ps qs r s same.1 (compared one ps qs a.1 b.1 r s a.4 b.4 behind)

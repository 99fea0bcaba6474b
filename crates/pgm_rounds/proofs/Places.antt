-- Rounds and further images of one list of images.
use Rattle.std.proofs.Common.{◌≡◌, ◌∙◌, sym, ap, refl, subst, [], ◌∷◌, ◌++◌, List, ℕ, zero, suc, ◌-◌, ◌^◌, ◌<◌, ◌≤◌, arith, length, take, append_assoc, append-nil, length-append, Some, slice_get}
use Rattle.std.specs.List.{AllByRecursion}
use Rattle.std.proofs.lemmas.List.{append_cancel_left}
use Rattle.pgm_codec.specs.Images.{Image}
use Rattle.pgm_codec.specs.Rounds.{FitsInputs}
use Rattle.pgm_rounds.specs.Files.{joined}

abbrev Images : Type 0
Images = List Image

-- an image fits an input of this many bits
pub record FitsOne (w h b : ℕ) (p : Image) : Type 0 where
  pub width : p.width ≡ w
  pub height : p.height ≡ h
  pub maxval : p.maxval ≤ 2 ^ b - 1

abbrev head : Image → Images → Image
head d [] = d
head d (v ∷ vs) = v

abbrev tail : Images → Images → Images
tail d [] = d
tail d (v ∷ vs) = vs

-- fronts that fit the same inputs are the same
pub same_front : (w h : ℕ) (bits : List ℕ) (a b x y : Images) → FitsInputs w h bits a → FitsInputs w h bits b → a ++ x ≡ b ++ y → a ≡ b
same_front w h [] [] [] x y f g e = refl
same_front w h [] [] (q ∷ qs) x y f g e = absurd g
same_front w h [] (p ∷ ps) b x y f g e = absurd f
same_front w h (n ∷ ns) [] b x y f g e = absurd f
same_front w h (n ∷ ns) (p ∷ ps) [] x y f g e = absurd g
same_front w h (n ∷ ns) (p ∷ ps) (q ∷ qs) x y f g e =
    let t : ps ≡ qs = same_front w h ns ps qs x y f.3 g.3 (ap (λ s. tail [] s) e) in
    ap (λ v. v ∷ ps) (ap (λ s. head p s) e) ∙ ap (λ s. q ∷ s) t

-- there is an image for each input
pub one_each : (w h : ℕ) (bits : List ℕ) (a : Images) → FitsInputs w h bits a → length a ≡ length bits
one_each w h [] [] f = refl
one_each w h [] (p ∷ ps) f = absurd f
one_each w h (n ∷ ns) [] f = absurd f
one_each w h (n ∷ ns) (p ∷ ps) f = ap suc (one_each w h ns ps f.3)

-- the image after the first ones fits the input at its place
pub fits_next : (w h : ℕ) (bits : List ℕ) (a round : Images) (x y : Images) (q : Image) (b : ℕ) → FitsInputs w h bits round → slice_get bits (length a) ≡ Some b → round ++ y ≡ a ++ q ∷ x → FitsOne w h b q
fits_next w h [] [] round x y q b f s e = cc
fits_next w h [] (v ∷ vs) round x y q b f s e = cc
fits_next w h (n ∷ ns) a [] x y q b f s e = absurd f
fits_next w h (n ∷ ns) [] (p ∷ ps) x y q b f s e =
    let same : p ≡ q = ap (λ s. head p s) e in
    let bits : n ≡ b = cc in
    record {
      width = ap (λ v. v.width) (sym same) ∙ f.0;
      height = ap (λ v. v.height) (sym same) ∙ f.1;
      maxval = subst (λ v. v.maxval ≤ 2 ^ b - 1) same (subst (λ v. p.maxval ≤ 2 ^ v - 1) bits f.2);
    }
fits_next w h (n ∷ ns) (v ∷ vs) (p ∷ ps) x y q b f s e = fits_next w h ns vs ps x y q b f.3 s (ap (λ s. tail [] s) e)

-- rounds and further images of a round that is not whole, all of which fit
pub record InOrder (w h : ℕ) (inputs : List ℕ) (rounds : List Images) (further : Images) : Type 0 where
  pub whole : AllByRecursion (FitsInputs w h inputs) rounds
  pub begun : FitsInputs w h (take (length further) inputs) further
  pub room : length further < length inputs

first_whole : (w h : ℕ) (inputs : List ℕ) (r : Images) (rs : List Images) (further : Images) → InOrder w h inputs (r ∷ rs) further → FitsInputs w h inputs r
first_whole w h inputs r rs further o = o.whole.0

others : (w h : ℕ) (inputs : List ℕ) (r : Images) (rs : List Images) (further : Images) → InOrder w h inputs (r ∷ rs) further → InOrder w h inputs rs further
others w h inputs r rs further o = record { whole = o.whole.1; begun = o.begun; room = o.room }

-- after the first round
behind : (w h : ℕ) (inputs : List ℕ) (r s x y : Images) → FitsInputs w h inputs r → FitsInputs w h inputs s → r ++ x ≡ s ++ y → x ≡ y
behind w h inputs r s x y f g e =
    let same : r ≡ s = same_front w h inputs r s x y f g e in
    append_cancel_left r x y (e ∙ ap (λ t. t ++ y) (sym same))

too_long : (w h : ℕ) (inputs : List ℕ) (r x further : Images) → FitsInputs w h inputs r → length further < length inputs → further ≡ r ++ x → ⊥
too_long w h inputs r x further f l e = omega (arith, one_each w h inputs r f, ap length e, length-append r x)

regrouped : (r x f y : Images) → ((r ++ x) ++ f) ++ y ≡ r ++ ((x ++ f) ++ y)
regrouped r x f y = simp append_assoc

taken_get : (xs : List ℕ) (k n b : ℕ) → k < n → slice_get xs k ≡ Some b → slice_get (take n xs) k ≡ Some b
taken_get xs k zero b l e = absurd (omega arith)
taken_get [] k (suc n) b l e = e
taken_get (x ∷ xs) zero (suc n) b l e = e
taken_get (x ∷ xs) (suc k) (suc n) b l e = taken_get xs k n b (omega arith) e

-- as many images of the last round
pub same_further : (w h : ℕ) (inputs : List ℕ) (rs ss : List Images) (f g : Images) → InOrder w h inputs rs f → InOrder w h inputs ss g → joined rs ++ f ≡ joined ss ++ g → length f ≡ length g
same_further w h inputs [] [] f g a b e = ap length e
same_further w h inputs [] (s ∷ ss) f g a b e = absurd (too_long w h inputs s (joined ss ++ g) f (first_whole w h inputs s ss g b) a.room (e ∙ append_assoc s (joined ss) g))
same_further w h inputs (r ∷ rs) [] f g a b e = absurd (too_long w h inputs r (joined rs ++ f) g (first_whole w h inputs r rs f a) b.room (sym e ∙ append_assoc r (joined rs) f))
same_further w h inputs (r ∷ rs) (s ∷ ss) f g a b e =
    let rest : joined rs ++ f ≡ joined ss ++ g =
    behind w h inputs r s (joined rs ++ f) (joined ss ++ g) (first_whole w h inputs r rs f a) (first_whole w h inputs s ss g b) (sym (append_assoc r (joined rs) f) ∙ e ∙ append_assoc s (joined ss) g) in
    same_further w h inputs rs ss f g (others w h inputs r rs f a) (others w h inputs s ss g b) rest

-- an image that comes next in other images that are in order fits the next input
pub place_fits : (w h : ℕ) (inputs : List ℕ) (rs ss : List Images) (f g : Images) (q : Image) (more : Images) (b : ℕ) → InOrder w h inputs rs f → InOrder w h inputs ss g → slice_get inputs (length f) ≡ Some b
    → joined ss ++ g ≡ (joined rs ++ f) ++ q ∷ more → FitsOne w h b q
place_fits w h inputs [] [] f g q more b x y s e =
    fits_next w h (take (length g) inputs) f g more [] q b y.begun (taken_get inputs (length f) (length g) b (omega (arith, ap length e, length-append f (q ∷ more))) s) (append-nil g ∙ e)
place_fits w h inputs [] (t ∷ ss) f g q more b x y s e =
    fits_next w h inputs f t more (joined ss ++ g) q b (first_whole w h inputs t ss g y) s (sym (append_assoc t (joined ss) g) ∙ e)
place_fits w h inputs (r ∷ rs) [] f g q more b x y s e =
    absurd (too_long w h inputs r ((joined rs ++ f) ++ q ∷ more) g (first_whole w h inputs r rs f x) y.room (e ∙ regrouped r (joined rs) f (q ∷ more)))
place_fits w h inputs (r ∷ rs) (t ∷ ss) f g q more b x y s e =
    let rest : joined ss ++ g ≡ (joined rs ++ f) ++ q ∷ more =
    behind w h inputs t r (joined ss ++ g) ((joined rs ++ f) ++ q ∷ more) (first_whole w h inputs t ss g y) (first_whole w h inputs r rs f x) (sym (append_assoc t (joined ss) g) ∙ e ∙ regrouped r (joined rs) f (q ∷ more)) in
    place_fits w h inputs rs ss f g q more b (others w h inputs r rs f x) (others w h inputs t ss g y) s rest

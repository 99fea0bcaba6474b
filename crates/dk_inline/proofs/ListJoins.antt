-- Lists that are made one after another.
use Rattle.std.proofs.Common.{◌≡◌, ℕ, zero, suc, ◌+◌, ◌≤◌, List, [], ◌∷◌, ◌++◌, length, map, take, slice_get, Some, refl, ap, sym, ◌∙◌, arith}
use Rattle.std.proofs.lemmas.List.{map-append}
use Rattle.dk_types.specs.Typed.{Definition, Typing}
use Rattle.pointwise_ir.specs.Trees.{Tree}
use Rattle.dk_inline.specs.Inlined.{body_of, bodies_from}

take_more : {A : Type 0} (xs : List A) (k : ℕ) (x : A) → slice_get xs k ≡ Some x → take (k + 1) xs ≡ take k xs ++ x ∷ []
take_more xs k x is = ap (λ n. take n xs) (let e : k + 1 ≡ suc k = omega arith in e) ∙ by xs k x is
  where
    by : {A : Type 0} (xs : List A) (k : ℕ) (x : A) → slice_get xs k ≡ Some x → take (suc k) xs ≡ take k xs ++ x ∷ []
    by [] k x is = absurd (let f : ⊥ = cc in f)
    by (y ∷ xs) zero x is = let same : y ≡ x = cc in ap (λ z. z ∷ []) same
    by (y ∷ xs) (suc k) x is = ap (λ zs. y ∷ zs) (by xs k x is)

take_whole : {A : Type 0} (xs : List A) (k : ℕ) → length xs ≤ k → take k xs ≡ xs
take_whole [] zero h = refl
take_whole [] (suc k) h = refl
take_whole (x ∷ xs) zero h = absurd (omega (arith, h))
take_whole (x ∷ xs) (suc k) h = ap (λ zs. x ∷ zs) (take_whole xs k (omega (arith, h)))

-- of each of the first items the same was made
pub mapped_more : {A B C : Type 0} (f : A → C) (g : B → C) (done next : List A) (y : A) (xs : List B) (k : ℕ) (x : B) → map f done ≡ map g (take k xs) → next ≡ done ++ y ∷ [] → slice_get xs k ≡ Some x → f y ≡ g x → map f next ≡ map g (take (k + 1) xs)
mapped_more f g done next y xs k x before pushed is same =
    ap (map f) pushed ∙ map-append f done (y ∷ []) ∙ ap (λ zs. zs ++ f y ∷ []) before ∙ ap (λ z. map g (take k xs) ++ z ∷ []) same
    ∙ sym (ap (map g) (take_more xs k x is) ∙ map-append g (take k xs) (x ∷ []))

pub mapped_whole : {A B C : Type 0} (f : A → C) (g : B → C) (done : List A) (xs : List B) (k : ℕ) → map f done ≡ map g (take k xs) → length xs ≤ k → map f done ≡ map g xs
mapped_whole f g done xs k all past = all ∙ ap (map g) (take_whole xs k past)

-- bodies
bodies_step : (p : Typing) (ds : List Definition) (n k : ℕ) (d : Definition) → slice_get ds k ≡ Some d → bodies_from p n (take (suc k) ds) ≡ bodies_from p n (take k ds) ++ body_of p (n + k) d ∷ []
bodies_step p [] n k d is = absurd (let f : ⊥ = cc in f)
bodies_step p (c ∷ ds) n zero d is =
    let same : c ≡ d = cc in
    let m : n ≡ n + zero = omega arith in
    ap (λ e. body_of p n e ∷ []) same ∙ ap (λ i. body_of p i d ∷ []) m
bodies_step p (c ∷ ds) n (suc k) d is =
    let m : suc n + k ≡ n + suc k = omega arith in
    ap (λ bs. body_of p n c ∷ bs) (bodies_step p ds (suc n) k d is ∙ ap (λ i. bodies_from p (suc n) (take k ds) ++ body_of p i d ∷ []) m)

pub bodies_more : {A : Type 0} (f : A → Tree) (p : Typing) (done next : List A) (y : A) (k : ℕ) (d : Definition) → map f done ≡ bodies_from p 0 (take k p.definitions) → next ≡ done ++ y ∷ [] → slice_get p.definitions k ≡ Some d → f y ≡ body_of p k d →
    map f next ≡ bodies_from p 0 (take (k + 1) p.definitions)
bodies_more f p done next y k d before pushed is same =
    let m : 0 + k ≡ k = omega arith in
    let n : suc k ≡ k + 1 = omega arith in
    ap (map f) pushed ∙ map-append f done (y ∷ []) ∙ ap (λ zs. zs ++ f y ∷ []) before ∙ ap (λ z. bodies_from p 0 (take k p.definitions) ++ z ∷ []) (same ∙ ap (λ i. body_of p i d) (sym m))
    ∙ sym (bodies_step p p.definitions 0 k d is) ∙ ap (λ i. bodies_from p 0 (take i p.definitions)) n

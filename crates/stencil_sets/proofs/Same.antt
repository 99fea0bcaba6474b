-- A program has one list of kept images in order.
use Rattle.std.proofs.Common.{◌≡◌, ℕ, zero, suc, ◌<◌, ◌⊎◌, inl, inr, List, [], ◌∷◌, length, slice_get, slice_index_or, Some, refl, sym, ap, subst, ◌∙◌, arith}
use Rattle.std.proofs.lemmas.List.Elements.{recursion_from_All}
use Rattle.std.specs.List.{AllByRecursion}
use Rattle.dk_base.specs.declared.stencils.Image.{Image}
use Rattle.dk_base.specs.Types.{width_of}
use Rattle.dk_base.specs.Stencils.{place, Ascends}
use Rattle.pointwise_ir.specs.Programs.{Program, types_of}
use Rattle.pointwise_ir.specs.Stencils.{IsKeptImage, AreImages}
use Rattle.stencil_sets.proofs.Marked.{same_body}
use Rattle.stencil_sets.proofs.Numbered.{no_image, kept_number}

abbrev Member : List Image → Image → Type 0
Member [] i = ⊥
Member (x ∷ xs) i = (x ≡ i) ⊎ Member xs i

member_at : (xs : List Image) (k : ℕ) → k < length xs → Member xs (slice_index_or xs k no_image)
member_at [] k h = absurd (omega (arith, h))
member_at (x ∷ xs) zero h = inl refl
member_at (x ∷ xs) (suc k) h = inr (member_at xs k (omega (arith, h)))

member_is : (P : Image → Type 0) (xs : List Image) (i : Image) → AllByRecursion P xs → Member xs i → P i
member_is P [] i a m = absurd m
member_is P (x ∷ xs) i a (inl e) = subst P e a.0
member_is P (x ∷ xs) i a (inr m) = member_is P xs i a.1 m

-- one image with a number
same_image : (p : Program) (i j : Image) → IsKeptImage p i → IsKeptImage p j → i.number ≡ j.number → i ≡ j
same_image p i j a b e =
    let at : slice_get (types_of p) j.number ≡ Some a.ty = subst (λ n. slice_get (types_of p) n ≡ Some a.ty) e a.typed in
    let width : i.width ≡ j.width = a.width ∙ ap width_of (same_body a.ty b.ty (slice_get (types_of p) j.number) at b.typed) ∙ sym b.width in
    subst (λ n. i ≡ record { number = n; width = j.width }) e (subst (λ w. i ≡ record { number = i.number; width = w }) width refl)

over : (p : Program) (xs ys : List Image) → AreImages p xs → AreImages p ys → (i : Image) → Member xs i → Member ys i
over p xs ys a b i m =
    let own = member_is (IsKeptImage p) xs i (recursion_from_All (IsKeptImage p) xs a.sound) m in
    let there = b.complete i.number own.kept in
    let j = slice_index_or ys (place ys i.number) no_image in
    let at = member_at ys (place ys i.number) there in
    let is = member_is (IsKeptImage p) ys j (recursion_from_All (IsKeptImage p) ys b.sound) at in
    subst (Member ys) (same_image p j i is own (kept_number ys i.number there)) at

above : (x : Image) (xs : List Image) → ((j : ℕ) (d : Image) → j < length xs → x.number < (slice_index_or xs j d).number) → (i : Image) → Member xs i → x.number < i.number
above x [] h i m = absurd m
above x (y ∷ ys) h i (inl e) = subst (λ z. x.number < z.number) e (h zero y (omega arith))
above x (y ∷ ys) h i (inr m) = above x ys (λ j d l. h (suc j) d (omega (arith, l))) i m

later : (x : Image) (xs : List Image) → Ascends (x ∷ xs) → (i : Image) → Member xs i → x.number < i.number
later x xs up = above x xs (λ j d l. up zero (suc j) d (omega arith) (omega (arith, l)))

tail_ascends : (x : Image) (xs : List Image) → Ascends (x ∷ xs) → Ascends xs
tail_ascends x xs up i j d h l = up (suc i) (suc j) d (omega (arith, h)) (omega (arith, l))

same_images : (xs ys : List Image) → Ascends xs → Ascends ys → ((i : Image) → Member xs i → Member ys i) → ((i : Image) → Member ys i → Member xs i) → xs ≡ ys
same_images [] [] a b s t = refl
same_images [] (y ∷ ys) a b s t = absurd (t y (inl refl))
same_images (x ∷ xs) [] a b s t = absurd (s x (inl refl))
same_images (x ∷ xs) (y ∷ ys) a b s t =
    ap (λ i. i ∷ xs) head ∙ ap (λ is. y ∷ is) (same_images xs ys (tail_ascends x xs a) (tail_ascends y ys b) (λ i m. there i m (s i (inr m))) (λ i m. back i m (t i (inr m))))
  where
    first : Member (y ∷ ys) x → Member (x ∷ xs) y → x ≡ y
    first (inl e) m = sym e
    first (inr m) (inl e) = e
    first (inr m) (inr n) = let h = later y ys b x m in let k = later x xs a y n in absurd (omega (arith, h, k))

    head : x ≡ y
    head = first (s x (inl refl)) (t y (inl refl))

    there : (i : Image) → Member xs i → Member (y ∷ ys) i → Member ys i
    there i m (inr n) = n
    there i m (inl e) = let h = later x xs a i m in let same = ap (λ z. z.number) (head ∙ e) in absurd (omega (arith, h, same))

    back : (i : Image) → Member ys i → Member (x ∷ xs) i → Member xs i
    back i m (inr n) = n
    back i m (inl e) = let h = later y ys b i m in let same = ap (λ z. z.number) (sym head ∙ e) in absurd (omega (arith, h, same))

pub one_images : (p : Program) (a b : List Image) → AreImages p a → AreImages p b → a ≡ b
one_images p a b x y = same_images a b x.ascending y.ascending (over p a b x y) (over p b a y x)

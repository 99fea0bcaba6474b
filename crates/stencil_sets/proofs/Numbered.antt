-- The kept images, one after another.
use Rattle.std.proofs.Common.{◌≡◌, ℕ, zero, suc, ◌+◌, ◌≤◌, ◌<◌, ◌==◌, ◌⊎◌, inl, inr, Bool, true, false, List, [], ◌∷◌, ◌++◌, length, slice_get, slice_index, slice_index_or, Some, refl, sym, ap, subst, ◌∙◌, arith}
use Rattle.std.proofs.lemmas.Bool.{cases_lt}
use Rattle.std.proofs.lemmas.List.{length-append}
use Rattle.std.proofs.lemmas.List.Sums.{fails_before_first, passes_at_first}
use Rattle.std.proofs.lemmas.List.Elements.{All-from_get_or}
use Rattle.dk_base.specs.declared.stencils.Image.{Image}
use Rattle.dk_base.specs.declared.ty.Ty.{Ty}
use Rattle.dk_base.specs.Types.{width_of, IsType}
use Rattle.dk_base.specs.Stencils.{numbers, place, IsKept, Ascends, HasWidth, AreKeptImages}
use Rattle.pointwise_ir.specs.Programs.{Program, IsProgram, types_of}
use Rattle.pointwise_ir.specs.Reads.{input}
use Rattle.pointwise_ir.proofs.Defined.{types_are}
use Rattle.pointwise_ir.specs.Stencils.{IsKeptImage, AreImages}
use Rattle.stencil_sets.specs.Marks.{IsMarked, AreMarks}

front : {A : Type 0} (xs : List A) (r d : A) (i : ℕ) → i < length xs → slice_index_or (xs ++ r ∷ []) i d ≡ slice_index_or xs i d
front [] r d i h = absurd (omega (arith, h))
front (x ∷ xs) r d zero h = refl
front (x ∷ xs) r d (suc i) h = front xs r d i (omega (arith, h))

end : {A : Type 0} (xs : List A) (r d : A) → slice_index_or (xs ++ r ∷ []) (length xs) d ≡ r
end [] r d = refl
end (x ∷ xs) r d = end xs r d

mapped : (xs : List Image) (i : ℕ) (d : Image) → i < length xs → slice_index (numbers xs) i ≡ (slice_index_or xs i d).number
mapped [] i d h = absurd (omega (arith, h))
mapped (x ∷ xs) zero d h = refl
mapped (x ∷ xs) (suc i) d h = mapped xs i d (omega (arith, h))

pub no_image : Image
no_image = record { number = 0; width = 0 }

same_test : (n g : ℕ) → n ≡ g → (n == g) ≡ false → ⊥
same_test n g e f = grind (arith, e, f)

test_same : (n g : ℕ) → (n == g) ≡ true → n ≡ g
test_same n g e = grind (arith, e)

-- an image that is in the list is kept
pub number_kept : (images : List Image) (g k : ℕ) → k < length images → (slice_index_or images k no_image).number ≡ g → IsKept images g
number_kept images g k h e = which (cases_lt (place images g) (length images))
  where
    which : (place images g < length images) ⊎ (length images ≤ place images g) → IsKept images g
    which (inl l) = l
    which (inr l) = absurd (same_test (slice_index_or images k no_image).number g e (fails_before_first (λ i. i.number == g) images k no_image (omega (arith, h, l))))

pub kept_number : (images : List Image) (g : ℕ) → IsKept images g → (slice_index_or images (place images g) no_image).number ≡ g
kept_number images g h = test_same (slice_index_or images (place images g) no_image).number g (passes_at_first (λ i. i.number == g) images no_image h)

kept_more : (images : List Image) (r : Image) (g : ℕ) → IsKept images g → IsKept (images ++ r ∷ []) g
kept_more images r g h =
    let long = length-append images (r ∷ []) in
    number_kept (images ++ r ∷ []) g (place images g) (omega (arith, h, long)) (ap (λ i. i.number) (front images r no_image (place images g) h) ∙ kept_number images g h)

kept_last : (images : List Image) (r : Image) → IsKept (images ++ r ∷ []) r.number
kept_last images r =
    let long = length-append images (r ∷ []) in
    number_kept (images ++ r ∷ []) r.number (length images) (omega (arith, long)) (ap (λ i. i.number) (end images r no_image))

pub record ImagesSoFar (p : Program) (kept : List Bool) (images : List Image) (k : ℕ) : Type 0 where
  pub short : length images ≤ k
  pub ascending : Ascends images
  pub below : (j : ℕ) (d : Image) → j < length images → (slice_index_or images j d).number < k
  pub sound : (j : ℕ) (d : Image) → j < length images → IsKeptImage p (slice_index_or images j d)
  pub complete : (g : ℕ) → g < k → IsMarked kept g → IsKept images g
  pub first : (j : ℕ) → j < k → j < length p.inputs → slice_index (numbers images) j ≡ j
  pub full : (n : ℕ) → n ≤ k → n ≤ length p.inputs → n ≤ length images

split_last : {A : Type 0} (xs : List A) (r : A) (j : ℕ) → j < length (xs ++ r ∷ []) → (j < length xs) ⊎ (j ≡ length xs)
split_last xs r j h = which (cases_lt j (length xs))
  where
    which : (j < length xs) ⊎ (length xs ≤ j) → (j < length xs) ⊎ (j ≡ length xs)
    which (inl l) = inl l
    which (inr l) = let long = length-append xs (r ∷ []) in inr (omega (arith, l, h, long))

at_last : {A : Type 0} (xs : List A) (r d : A) (j : ℕ) → j ≡ length xs → slice_index_or (xs ++ r ∷ []) j d ≡ r
at_last xs r d j e = ap (λ n. slice_index_or (xs ++ r ∷ []) n d) e ∙ end xs r d

pub images_more : (p : Program) (kept : List Bool) (images : List Image) (k : ℕ) (r : Image) → r.number ≡ k → IsKeptImage p r → ImagesSoFar p kept images k → ImagesSoFar p kept (images ++ r ∷ []) (k + 1)
images_more p kept images k r own is s = record {
  short = let a = s.short in omega (arith, a, long);
  ascending = λ i j d h l. ascends i j d h (split_last images r j l);
  below = λ j d l. under j d (split_last images r j l);
  sound = λ j d l. sound j d (split_last images r j l);
  complete = λ g h m. complete g m (cases_lt g k) h;
  first = λ j h n. first j n (cases_lt j k) h;
  full = λ n h l. full n l (cases_lt k n) h;
}
  where
    long : length (images ++ r ∷ []) ≡ length images + 1
    long = length-append images (r ∷ [])

    ascends : (i j : ℕ) (d : Image) → i < j → (j < length images) ⊎ (j ≡ length images) → (slice_index_or (images ++ r ∷ []) i d).number < (slice_index_or (images ++ r ∷ []) j d).number
    ascends i j d h (inl l) = let a = s.ascending i j d h l in let b = front images r d i (omega (arith, h, l)) in let c = front images r d j l in
        subst (λ x. x.number < (slice_index_or (images ++ r ∷ []) j d).number) (sym b) (subst (λ x. (slice_index_or images i d).number < x.number) (sym c) a)
    ascends i j d h (inr e) = let a = s.below i d (omega (arith, h, e)) in let b = front images r d i (omega (arith, h, e)) in
        subst (λ x. x.number < (slice_index_or (images ++ r ∷ []) j d).number) (sym b) (subst (λ x. (slice_index_or images i d).number < x.number) (sym (at_last images r d j e)) (omega (arith, a, own)))

    under : (j : ℕ) (d : Image) → (j < length images) ⊎ (j ≡ length images) → (slice_index_or (images ++ r ∷ []) j d).number < k + 1
    under j d (inl l) = let a = s.below j d l in subst (λ x. x.number < k + 1) (sym (front images r d j l)) (omega (arith, a))
    under j d (inr e) = subst (λ x. x.number < k + 1) (sym (at_last images r d j e)) (omega (arith, own))

    sound : (j : ℕ) (d : Image) → (j < length images) ⊎ (j ≡ length images) → IsKeptImage p (slice_index_or (images ++ r ∷ []) j d)
    sound j d (inl l) = subst (IsKeptImage p) (sym (front images r d j l)) (s.sound j d l)
    sound j d (inr e) = subst (IsKeptImage p) (sym (at_last images r d j e)) is

    complete : (g : ℕ) → IsMarked kept g → (g < k) ⊎ (k ≤ g) → g < k + 1 → IsKept (images ++ r ∷ []) g
    complete g m (inl l) h = kept_more images r g (s.complete g l m)
    complete g m (inr l) h = let e : r.number ≡ g = omega (arith, own, l, h) in subst (IsKept (images ++ r ∷ [])) e (kept_last images r)

    full : (n : ℕ) → n ≤ length p.inputs → (k < n) ⊎ (n ≤ k) → n ≤ k + 1 → n ≤ length (images ++ r ∷ [])
    full n l (inl a) h = let f = s.full k (omega arith) (omega (arith, a, l)) in omega (arith, f, long, h)
    full n l (inr a) h = let f = s.full n a l in omega (arith, f, long)

    first : (j : ℕ) → j < length p.inputs → (j < k) ⊎ (k ≤ j) → j < k + 1 → slice_index (numbers (images ++ r ∷ [])) j ≡ j
    first j n (inl l) h = let f = s.full (j + 1) (omega (arith, l)) (omega (arith, n)) in let a : j < length images = omega (arith, f) in
        mapped (images ++ r ∷ []) j no_image (omega (arith, a, long)) ∙ ap (λ x. x.number) (front images r no_image j a) ∙ sym (mapped images j no_image a) ∙ s.first j l n
    first j n (inr l) h = let f = s.full k (omega arith) (omega (arith, n, l)) in let a = s.short in let at : j ≡ length images = omega (arith, a, f, l, h) in
        mapped (images ++ r ∷ []) j no_image (omega (arith, at, long)) ∙ ap (λ x. x.number) (at_last images r no_image j at) ∙ omega (arith, own, l, h)

-- an image that is not kept is left out, and it is no input
pub images_left : (p : Program) (kept : List Bool) (images : List Image) (k : ℕ) → AreMarks p kept → (IsMarked kept k → ⊥) → ImagesSoFar p kept images k → ImagesSoFar p kept images (k + 1)
images_left p kept images k marks none s = record {
  short = let a = s.short in omega (arith, a);
  ascending = s.ascending;
  below = λ j d l. let a = s.below j d l in omega (arith, a);
  sound = s.sound;
  complete = λ g h m. complete g m (cases_lt g k) h;
  first = λ j h n. first j n (cases_lt j k) h;
  full = λ n h l. full n l (cases_lt k n) h;
}
  where
    complete : (g : ℕ) → IsMarked kept g → (g < k) ⊎ (k ≤ g) → g < k + 1 → IsKept images g
    complete g m (inl l) h = s.complete g l m
    complete g m (inr l) h = let e : g ≡ k = omega (arith, l, h) in absurd (none (subst (IsMarked kept) e m))

    past : (j : ℕ) → j ≡ k → j < length p.inputs → ⊥
    past j e n = none (marks.complete k (input k (omega (arith, e, n))))

    first : (j : ℕ) → j < length p.inputs → (j < k) ⊎ (k ≤ j) → j < k + 1 → slice_index (numbers images) j ≡ j
    first j n (inl l) h = s.first j l n
    first j n (inr l) h = absurd (past j (omega (arith, l, h)) n)

    full : (n : ℕ) → n ≤ length p.inputs → (k < n) ⊎ (n ≤ k) → n ≤ k + 1 → n ≤ length images
    full n l (inl a) h = absurd (past k refl (omega (arith, a, l)))
    full n l (inr a) h = s.full n a l

typed_entry : (ts : List Ty) → ((g : ℕ) (t : Ty) → slice_get ts g ≡ Some t → IsType t) → (i : Image) → (t : Ty) → slice_get ts i.number ≡ Some t → i.width ≡ width_of t → HasWidth i
typed_entry ts are i t at w = let is = are i.number t at in let a = is.some in let b = is.most in record { some = omega (arith, a, w); most = omega (arith, b, w) }

pub images_done : (p : Program) → IsProgram p → (kept : List Bool) (images : List Image) (k : ℕ) → AreMarks p kept → length kept ≤ k → ImagesSoFar p kept images k → AreImages p images
images_done p is kept images k marks h s = record {
  ascending = s.ascending;
  sound = All-from_get_or (IsKeptImage p) images no_image (λ i l. s.sound i no_image l);
  complete = λ g m. let mark = marks.complete g m in let l = within kept g mark in s.complete g (omega (arith, l, h)) mark;
}
  where
    within : (bs : List Bool) (g : ℕ) → IsMarked bs g → g < length bs
    within [] g e = absurd (cc (e))
    within (b ∷ bs) zero e = omega arith
    within (b ∷ bs) (suc g) e = let l = within bs g e in omega (arith, l)

pub images_form : (p : Program) → IsProgram p → (kept : List Bool) (images : List Image) (k : ℕ) → AreMarks p kept → k ≤ length kept → length kept ≤ k → ImagesSoFar p kept images k → AreKeptImages (length p.inputs) images
images_form p is kept images k marks l h s = record {
  some_inputs = is.some_inputs;
  most_inputs = is.most_inputs;
  most_images = let a = s.short in let b = is.most_images in let c = marks.one_each in omega (arith, a, b, c, l);
  inputs_kept = let c = marks.one_each in s.full (length p.inputs) (omega (arith, c, h)) (omega arith);
  ascending = s.ascending;
  inputs_first = λ j n. let c = marks.one_each in s.first j (omega (arith, n, c, h)) n;
  widths = All-from_get_or HasWidth images no_image (λ i m. let q = s.sound i no_image m in typed_entry (types_of p) (types_are p.inputs p.images is.inputs is.images) (slice_index_or images i no_image) q.ty q.typed q.width);
}

-- The reads of one image, from rectangles in order.
use Rattle.std.proofs.Common.{◌≡◌, ◌≢◌, ℕ, zero, suc, ◌≤◌, ◌<◌, ℤ, ◌+ℤ◌, ◌≤ℤ◌, ◌<ℤ◌, ◌⊎◌, inl, inr, false, IsTrue, List, [], ◌∷◌, ◌++◌, length, slice_index_or, All, refl, sym, ap, subst, arith, append_assoc}
use Rattle.std.proofs.lemmas.Int.{ints}
use Rattle.std.proofs.lemmas.Bool.{cases_eq}
use Rattle.std.proofs.lemmas.List.Elements.{All-append, All-from_recursion, recursion_from_All}
use Rattle.std.proofs.lemmas.List.Sorted.{All-permutation, IsPermutation-sym, sorted_far, ranks_by}
use Rattle.std.proofs.lemmas.Cmp.{int_cmp_total}
use Rattle.std.specs.List.{AllByRecursion}
use Rattle.std.specs.List.Sorted.{IsPermutation, IsSortedByKey}
use Rattle.std.specs.Ordering.{int_cmp, is_lt}
use Rattle.std.proofs.Common.{Less}
use Rattle.std.specs.Cmp.{int_cmp_is}
use Rattle.dk_base.specs.Frames.{Size, in_frame}
use Rattle.pointwise_ir.specs.Trees.{Tree}
use Rattle.pointwise_ir.specs.Reads.{Reads}
use Rattle.frame_paths.specs.declared.path.Path.{Path}
use Rattle.stencil_sets.specs.declared.path.Rect.{Rect}
use Rattle.frame_paths.specs.declared.moves.Offsets.{Offsets}
use Rattle.frame_paths.specs.Moves.{IsOffset}
use Rattle.frame_paths.specs.Paths.{LeadsTo}
use Rattle.stencil_sets.specs.Paths.{IsIn, IsNearRect, Covered, ReadsFrom, ReadsAt, IsByReader}
use Rattle.stencil_sets.specs.Found.{InRow, InRows, AllFrom, AreSorted, IsOf}
use Rattle.frame_paths.proofs.Chains.{either}

-- without a step, what is read is read in the frame
pub none_reads : (size : Size) (e : Tree) (p : Path)
    → ((x y u v : ℤ) → (LeadsTo p x y u v → (u ≡ x) × (v ≡ y) × IsTrue (in_frame size x y)) × ((u ≡ x) × (v ≡ y) × IsTrue (in_frame size x y) → LeadsTo p x y u v))
    → (g : ℕ) (dx dy : ℤ) → (ReadsFrom size e p g dx dy → ReadsAt size e g dx dy) × (ReadsAt size e g dx dy → ReadsFrom size e p g dx dy)
none_reads size e p l g dx dy = (
  (λ r. let k = (l r.0 r.1 r.2 r.3).0 r.4 in (r.0, r.1, k.2, subst (λ u. Reads size e u r.1 g (r.0 +ℤ dx) (r.1 +ℤ dy)) k.0 (subst (λ v. Reads size e r.2 v g (r.0 +ℤ dx) (r.1 +ℤ dy)) k.1 r.5))),
  (λ r. (r.0, r.1, r.0, r.1, (l r.0 r.1 r.0 r.1).1 (refl, refl, r.2), r.3)),
)

-- whether an offset is one of a rectangle's
offset_or : (o : Offsets) (d : ℤ) → IsOffset o d ⊎ (IsOffset o d → ⊥)
offset_or o d = decided (either o.least d) (either d o.greatest)
  where
    decided : (o.least ≤ℤ d) ⊎ (d <ℤ o.least) → (d ≤ℤ o.greatest) ⊎ (o.greatest <ℤ d) → IsOffset o d ⊎ (IsOffset o d → ⊥)
    decided (inl a) (inl b) = inl (record { least = a; greatest = b })
    decided (inr a) b = inr (λ k. let h = k.least in omega (arith, ints, h, a))
    decided (inl a) (inr b) = inr (λ k. let h = k.greatest in omega (arith, ints, h, b))

in_or : (r : Rect) (g : ℕ) (dx dy : ℤ) → IsIn r g dx dy ⊎ (IsIn r g dx dy → ⊥)
in_or r g dx dy = decided (cases_eq r.image g) (offset_or r.across dx) (offset_or r.down dy)
  where
    decided : (r.image ≡ g) ⊎ (r.image ≡ g → ⊥) → IsOffset r.across dx ⊎ (IsOffset r.across dx → ⊥) → IsOffset r.down dy ⊎ (IsOffset r.down dy → ⊥) → IsIn r g dx dy ⊎ (IsIn r g dx dy → ⊥)
    decided (inl e) (inl a) (inl d) = inl (record { image = e; across = a; down = d })
    decided (inr n) a d = inr (λ i. n i.image)
    decided (inl e) (inr n) d = inr (λ i. n i.across)
    decided (inl e) (inl a) (inr n) = inr (λ i. n i.down)

covered_or : (rs : List Rect) (g : ℕ) (dx dy : ℤ) → Covered rs g dx dy ⊎ AllByRecursion (λ r. IsIn r g dx dy → ⊥) rs
covered_or [] g dx dy = inr tt
covered_or (r ∷ rs) g dx dy = decided (in_or r g dx dy) (covered_or rs g dx dy)
  where
    decided : IsIn r g dx dy ⊎ (IsIn r g dx dy → ⊥) → Covered rs g dx dy ⊎ AllByRecursion (λ q. IsIn q g dx dy → ⊥) rs → Covered (r ∷ rs) g dx dy ⊎ AllByRecursion (λ q. IsIn q g dx dy → ⊥) (r ∷ rs)
    decided (inl i) k = inl (inl i)
    decided (inr n) (inl c) = inl (inr c)
    decided (inr n) (inr a) = inr (n, a)

not_covered : (rs : List Rect) (g : ℕ) (dx dy : ℤ) → AllByRecursion (λ r. IsIn r g dx dy → ⊥) rs → Covered rs g dx dy → ⊥
not_covered [] g dx dy a c = c
not_covered (r ∷ rs) g dx dy a (inl i) = a.0 i
not_covered (r ∷ rs) g dx dy a (inr c) = not_covered rs g dx dy a.1 c

-- in another order the same offsets are covered
pub covered_permuted : (xs ys : List Rect) → IsPermutation xs ys → (g : ℕ) (dx dy : ℤ) → Covered ys g dx dy → Covered xs g dx dy
covered_permuted xs ys p g dx dy c = decided (covered_or xs g dx dy)
  where
    decided : Covered xs g dx dy ⊎ AllByRecursion (λ r. IsIn r g dx dy → ⊥) xs → Covered xs g dx dy
    decided (inl k) = k
    decided (inr a) = absurd (not_covered ys g dx dy (recursion_from_All (λ r. IsIn r g dx dy → ⊥) ys (All-permutation (λ r. IsIn r g dx dy → ⊥) xs ys p (All-from_recursion (λ r. IsIn r g dx dy → ⊥) xs a))) c)

-- keys that do not fall
not_less : (a b : ℤ) → is_lt (int_cmp a b) ≡ false → (b ≤ℤ a) ⊎ (a <ℤ b) → b ≤ℤ a
not_less a b h (inl l) = l
not_less a b h (inr l) = let e = int_cmp_is a b Less l in absurd (cc (h, e))

all_from : (least : ℤ) (rs : List Rect) → ((j : ℕ) (d : Rect) → j < length rs → least ≤ℤ (slice_index_or rs j d).across.least) → AllFrom least rs
all_from least [] h = tt
all_from least (r ∷ rs) h = (h zero r (omega arith), all_from least rs (λ j d k. h (suc j) d (omega (arith, k))))

pub sorted_from : (rs : List Rect) → ((i j : ℕ) (d : Rect) → i ≤ j → j < length rs → (slice_index_or rs i d).across.least ≤ℤ (slice_index_or rs j d).across.least) → AreSorted rs
sorted_from [] h = tt
sorted_from (r ∷ rs) h = (all_from r.across.least rs (λ j d k. h zero (suc j) d (omega arith) (omega (arith, k))), sorted_from rs (λ i j d k l. h (suc i) (suc j) d (omega (arith, k)) (omega (arith, l))))

pub sorted_by : (rs : List Rect) → IsSortedByKey (λ (r : Rect). r.across.least) int_cmp rs → AreSorted rs
sorted_by rs up = sorted_from rs (λ i j d k l.
    not_less _ _ (sorted_far (λ (x y : Rect). is_lt (int_cmp x.across.least y.across.least)) (ranks_by int_cmp_total (λ (r : Rect). r.across.least)) rs up i j d k l) (either _ _))

-- a sorted list without one of its members
all_from_less : (least : ℤ) (xs ys : List Rect) (r : Rect) → AllFrom least (xs ++ r ∷ ys) → AllFrom least (xs ++ ys)
all_from_less least [] ys r a = a.1
all_from_less least (x ∷ xs) ys r a = (a.0, all_from_less least xs ys r a.1)

sorted_less : (xs ys : List Rect) (r : Rect) → AreSorted (xs ++ r ∷ ys) → AreSorted (xs ++ ys)
sorted_less [] ys r s = s.1
sorted_less (x ∷ xs) ys r s = (all_from_less x.across.least xs ys r s.0, sorted_less xs ys r s.1)

-- the rectangles of one image that are chosen so far, of those before a place
pub record ChosenSoFar (rects rest chosen : List Rect) (g : ℕ) : Type 0 where
  pub near : All IsNearRect chosen
  pub sorted : AreSorted (chosen ++ rest)
  pub there : (dy dx : ℤ) → InRows chosen dy dx ⊎ Covered rest g dx dy → Covered rects g dx dy
  pub back : (dy dx : ℤ) → Covered rects g dx dy → InRows chosen dy dx ⊎ Covered rest g dx dy

rows_more : (xs : List Rect) (r : Rect) (dy dx : ℤ) → InRows (xs ++ r ∷ []) dy dx → InRows xs dy dx ⊎ InRow r dy dx
rows_more [] r dy dx (inl i) = inr i
rows_more [] r dy dx (inr n) = absurd n
rows_more (x ∷ xs) r dy dx (inl i) = inl (inl i)
rows_more (x ∷ xs) r dy dx (inr k) = later (rows_more xs r dy dx k)
  where
    later : InRows xs dy dx ⊎ InRow r dy dx → (InRow x dy dx ⊎ InRows xs dy dx) ⊎ InRow r dy dx
    later (inl h) = inl (inr h)
    later (inr h) = inr h

rows_same : (xs : List Rect) (r : Rect) (dy dx : ℤ) → InRows xs dy dx ⊎ InRow r dy dx → InRows (xs ++ r ∷ []) dy dx
rows_same [] r dy dx (inl n) = absurd n
rows_same [] r dy dx (inr i) = inl i
rows_same (x ∷ xs) r dy dx (inl (inl i)) = inl i
rows_same (x ∷ xs) r dy dx (inl (inr h)) = inr (rows_same xs r dy dx (inl h))
rows_same (x ∷ xs) r dy dx (inr i) = inr (rows_same xs r dy dx (inr i))

pub chosen_more : (rects rest more chosen after : List Rect) (r : Rect) (g : ℕ) → rest ≡ r ∷ more → r.image ≡ g → IsNearRect r → after ≡ chosen ++ r ∷ [] → ChosenSoFar rects rest chosen g → ChosenSoFar rects more after g
chosen_more rects rest more chosen after r g e image near a s = rw a (record {
  near = All-append IsNearRect chosen (r ∷ []) s.near (All-from_recursion IsNearRect (r ∷ []) (near, tt));
  sorted = subst AreSorted (sym (append_assoc chosen (r ∷ []) more)) (subst (λ x. AreSorted (chosen ++ x)) e s.sorted);
  there = λ dy dx h. s.there dy dx (subst (λ x. InRows chosen dy dx ⊎ Covered x g dx dy) (sym e) (joined dy dx h));
  back = λ dy dx c. parted dy dx (subst (λ x. InRows chosen dy dx ⊎ Covered x g dx dy) e (s.back dy dx c));
})
  where
    split : (dy dx : ℤ) → InRows chosen dy dx ⊎ InRow r dy dx → InRows chosen dy dx ⊎ Covered (r ∷ more) g dx dy
    split dy dx (inl h) = inl h
    split dy dx (inr i) = inr (inl (record { image = image; across = i.across; down = i.down }))

    joined : (dy dx : ℤ) → InRows (chosen ++ r ∷ []) dy dx ⊎ Covered more g dx dy → InRows chosen dy dx ⊎ Covered (r ∷ more) g dx dy
    joined dy dx (inl h) = split dy dx (rows_more chosen r dy dx h)
    joined dy dx (inr c) = inr (inr c)

    parted : (dy dx : ℤ) → InRows chosen dy dx ⊎ Covered (r ∷ more) g dx dy → InRows (chosen ++ r ∷ []) dy dx ⊎ Covered more g dx dy
    parted dy dx (inl h) = inl (rows_same chosen r dy dx (inl h))
    parted dy dx (inr (inl i)) = inl (rows_same chosen r dy dx (inr (record { down = i.down; across = i.across })))
    parted dy dx (inr (inr c)) = inr c

pub chosen_same : (rects rest more chosen : List Rect) (r : Rect) (g : ℕ) → rest ≡ r ∷ more → r.image ≢ g → ChosenSoFar rects rest chosen g → ChosenSoFar rects more chosen g
chosen_same rects rest more chosen r g e other s = record {
  near = s.near;
  sorted = sorted_less chosen more r (subst (λ x. AreSorted (chosen ++ x)) e s.sorted);
  there = λ dy dx h. s.there dy dx (subst (λ x. InRows chosen dy dx ⊎ Covered x g dx dy) (sym e) (joined dy dx h));
  back = λ dy dx c. parted dy dx (subst (λ x. InRows chosen dy dx ⊎ Covered x g dx dy) e (s.back dy dx c));
}
  where
    joined : (dy dx : ℤ) → InRows chosen dy dx ⊎ Covered more g dx dy → InRows chosen dy dx ⊎ Covered (r ∷ more) g dx dy
    joined dy dx (inl h) = inl h
    joined dy dx (inr c) = inr (inr c)

    parted : (dy dx : ℤ) → InRows chosen dy dx ⊎ Covered (r ∷ more) g dx dy → InRows chosen dy dx ⊎ Covered more g dx dy
    parted dy dx (inl h) = inl h
    parted dy dx (inr (inl i)) = absurd (other i.image)
    parted dy dx (inr (inr c)) = inr c

-- what is chosen of all
pub record IsChosen (rects chosen : List Rect) (g : ℕ) : Type 0 where
  pub near : All IsNearRect chosen
  pub sorted : AreSorted chosen
  pub exact : (dy dx : ℤ) → (InRows chosen dy dx → Covered rects g dx dy) × (Covered rects g dx dy → InRows chosen dy dx)

append_none : {T : Type 0} (xs : List T) → xs ++ [] ≡ xs
append_none [] = refl
append_none (x ∷ xs) = ap (λ z. x ∷ z) (append_none xs)

-- the reads of the chosen rectangles are those of the image
pub by_reader : (rects chosen : List Rect) (a b : ℕ) → ((dy dx : ℤ) → (InRows chosen dy dx → Covered rects b dx dy) × (Covered rects b dx dy → InRows chosen dy dx))
    → (f g : ℕ) (dx dy : ℤ) → (IsOf chosen a b f g dx dy → IsByReader rects a b f g dx dy) × (IsByReader rects a b f g dx dy → IsOf chosen a b f g dx dy)
by_reader rects chosen a b e f g dx dy =
    ((λ k. record { reader = k.reader; source = k.source; covered = (e dy dx).0 k.in_rows }), (λ k. record { reader = k.reader; source = k.source; in_rows = (e dy dx).1 k.covered }))

pub exact_after : (size : Size) (e : Tree) (p : Path) (first found sorted : List Rect) → first ≡ []
    → ((x y u v : ℤ) → (LeadsTo p x y u v → (u ≡ x) × (v ≡ y) × IsTrue (in_frame size x y)) × ((u ≡ x) × (v ≡ y) × IsTrue (in_frame size x y) → LeadsTo p x y u v))
    → ((g : ℕ) (dx dy : ℤ) → (Covered found g dx dy → Covered first g dx dy ⊎ ReadsFrom size e p g dx dy) × (Covered first g dx dy ⊎ ReadsFrom size e p g dx dy → Covered found g dx dy))
    → IsPermutation found sorted → (g : ℕ) (dx dy : ℤ) → (Covered sorted g dx dy → ReadsAt size e g dx dy) × (ReadsAt size e g dx dy → Covered sorted g dx dy)
exact_after size e p first found sorted b l a m g dx dy = (
  (λ c. read ((a g dx dy).0 (covered_permuted found sorted m g dx dy c))),
  (λ r. covered_permuted sorted found (IsPermutation-sym found sorted m) g dx dy ((a g dx dy).1 (inr ((none_reads size e p l g dx dy).1 r)))),
)
  where
    read : Covered first g dx dy ⊎ ReadsFrom size e p g dx dy → ReadsAt size e g dx dy
    read (inl n) = absurd (subst (λ x. Covered x g dx dy) b n)
    read (inr r) = (none_reads size e p l g dx dy).0 r

pub chosen_step : (rects rest more chosen after : List Rect) (r : Rect) (g : ℕ) → rest ≡ r ∷ more → IsNearRect r
    → ((r.image ≡ g) × (after ≡ chosen ++ r ∷ [])) ⊎ ((r.image ≢ g) × (after ≡ chosen)) → ChosenSoFar rects rest chosen g → ChosenSoFar rects more after g
chosen_step rects rest more chosen after r g e n (inl h) s = chosen_more rects rest more chosen after r g e h.0 n h.1 s
chosen_step rects rest more chosen after r g e n (inr h) s = subst (λ x. ChosenSoFar rects more x g) (sym h.1) (chosen_same rects rest more chosen r g e h.0 s)

-- The reads of a row.
use Rattle.std.proofs.Common.{◌≡◌, ℕ, zero, suc, ◌+◌, ◌≤◌, ◌<◌, ℤ, pos, neg_ℤ, ◌+ℤ◌, ◌≤ℤ◌, ◌<ℤ◌, ◌⊎◌, inl, inr, Contains, List, [], ◌∷◌, length, refl, sym, ap, subst, ◌∙◌, arith, unsigned_abs, drop, take, slice_index_or, All}
use Rattle.std.proofs.lemmas.Int.{ints, clamps}
use Rattle.std.proofs.lemmas.List.Elements.{All-head, All-tail, All-more, All-weaker}
use Rattle.std.specs.Int.{int_min, int_max}
use Rattle.dk_base.specs.declared.stencils.LiveRead.{LiveRead}
use Rattle.dk_base.specs.Stencils.{AreInOrder}
use Rattle.stencil_sets.specs.declared.path.Rect.{Rect}
use Rattle.stencil_sets.specs.Paths.{IsNearRect}
use Rattle.pointwise_ir.specs.Stencils.{the}
use Rattle.stencil_sets.specs.Found.{AllBefore, IsRun, InRows, AllFrom, AreSorted, IsLeft, IsBelow, IsOf, IsAmong, IsBehind, Gains, Within}
use Rattle.frame_paths.proofs.Chains.{either}
use Rattle.stencil_sets.proofs.Ordered.{all_before_later}

-- a rectangle of another row adds nothing
pub not_in_row : (rect : Rect) (a b : ℕ) (row next : ℤ) → (row <ℤ rect.down.least) ⊎ (rect.down.greatest <ℤ row) → (f g : ℕ) (dx dy : ℤ) → IsLeft (rect ∷ []) a b row next f g dx dy → ⊥
not_in_row rect a b row next (inl l) f g dx dy k = none k.in_row
  where
    none : InRows (rect ∷ []) row dx → ⊥
    none (inl i) = let h = i.down.least in omega (arith, ints, h, l)
    none (inr n) = n
not_in_row rect a b row next (inr l) f g dx dy k = none k.in_row
  where
    none : InRows (rect ∷ []) row dx → ⊥
    none (inl i) = let h = i.down.greatest in omega (arith, ints, h, l)
    none (inr n) = n

pub gains_nothing : (xs : List LiveRead) (R : ℕ → ℕ → ℤ → ℤ → Type 0) → ((f g : ℕ) (dx dy : ℤ) → R f g dx dy → ⊥) → Gains xs xs R
gains_nothing xs R n f g dx dy = (inl, kept)
  where
    kept : Contains xs (the f g dx dy) ⊎ R f g dx dy → Contains xs (the f g dx dy)
    kept (inl h) = h
    kept (inr r) = absurd (n f g dx dy r)

either_of : {A B C D : Type 0} → (A → C) → (B → D) → A ⊎ B → C ⊎ D
either_of f g (inl a) = inl (f a)
either_of f g (inr b) = inr (g b)

pub gains_as : (old new : List LiveRead) (R S : ℕ → ℕ → ℤ → ℤ → Type 0) → ((f g : ℕ) (dx dy : ℤ) → (R f g dx dy → S f g dx dy) × (S f g dx dy → R f g dx dy)) → Gains old new R → Gains old new S
gains_as old new R S e k f g dx dy = (λ h. either_of (λ x. x) (e f g dx dy).0 ((k f g dx dy).0 h), λ h. (k f g dx dy).1 (either_of (λ x. x) (e f g dx dy).1 h))

pub within_as : (old new : List LiveRead) (R S : ℕ → ℕ → ℤ → ℤ → Type 0) → ((f g : ℕ) (dx dy : ℤ) → R f g dx dy → S f g dx dy) → Within old new R → Within old new S
within_as old new R S e k f g dx dy h = either_of (λ x. x) (e f g dx dy) (k f g dx dy h)

-- a run is what is left of a rectangle's row
pub run_is : (rect : Rect) (a b : ℕ) (row next from end : ℤ) → rect.down.least ≤ℤ row → row ≤ℤ rect.down.greatest → from ≡ int_max next rect.across.least → end ≡ int_max from (rect.across.greatest +ℤ pos 1)
    → (f g : ℕ) (dx dy : ℤ) → (IsRun a b row from end f g dx dy → IsLeft (rect ∷ []) a b row next f g dx dy) × (IsLeft (rect ∷ []) a b row next f g dx dy → IsRun a b row from end f g dx dy)
run_is rect a b row next from end l h s e f g dx dy = (there, back)
  where
    there : IsRun a b row from end f g dx dy → IsLeft (rect ∷ []) a b row next f g dx dy
    there r = let u = r.low in let v = r.high in record {
      reader = r.reader;
      source = r.source;
      down = r.down;
      low = omega (arith, ints, clamps, s, u);
      in_row = inl (record {
        down = record { least = l; greatest = h };
        across = record { least = omega (arith, ints, clamps, s, u); greatest = omega (arith, ints, clamps, e, u, v) };
      });
    }

    back : IsLeft (rect ∷ []) a b row next f g dx dy → IsRun a b row from end f g dx dy
    back k = found k.in_row
      where
        found : InRows (rect ∷ []) row dx → IsRun a b row from end f g dx dy
        found (inl i) = let u = k.low in let v = i.across.least in let w = i.across.greatest in record {
          reader = k.reader;
          source = k.source;
          down = k.down;
          low = omega (arith, ints, clamps, s, u, v);
          high = omega (arith, ints, clamps, e, w);
        }
        found (inr n) = absurd n

pub behind_run : (rect : Rect) (row next from end : ℤ) → rect.down.least ≤ℤ row → row ≤ℤ rect.down.greatest → from ≡ int_max next rect.across.least → end ≡ int_max from (rect.across.greatest +ℤ pos 1) → IsBehind rect row next end
behind_run rect row next from end l h s e = record {
  later = omega (arith, ints, clamps, s, e);
  covered = λ dx n k m. record { down = record { least = l; greatest = h }; across = record { least = k; greatest = omega (arith, ints, clamps, s, e, n, k, m) } };
}

-- what is left of the rectangles once the first is done
from_first : (least : ℤ) (rs : List Rect) (row dx : ℤ) → AllFrom least rs → InRows rs row dx → least ≤ℤ dx
from_first least [] row dx a n = absurd n
from_first least (r ∷ rs) row dx a (inl i) = let l = i.across.least in let k = a.0 in omega (arith, ints, l, k)
from_first least (r ∷ rs) row dx a (inr n) = from_first least rs row dx a.1 n

pub first_done : (rect : Rect) (rs : List Rect) (a b : ℕ) (row next end : ℤ) → AllFrom rect.across.least rs → IsBehind rect row next end
    → (f g : ℕ) (dx dy : ℤ) → (IsLeft (rect ∷ []) a b row next f g dx dy ⊎ IsLeft rs a b row end f g dx dy → IsLeft (rect ∷ rs) a b row next f g dx dy)
    × (IsLeft (rect ∷ rs) a b row next f g dx dy → IsLeft (rect ∷ []) a b row next f g dx dy ⊎ IsLeft rs a b row end f g dx dy)
first_done rect rs a b row next end s k f g dx dy = (there, back)
  where
    one : InRows (rect ∷ []) row dx → InRows (rect ∷ rs) row dx
    one (inl i) = inl i
    one (inr n) = absurd n

    there : IsLeft (rect ∷ []) a b row next f g dx dy ⊎ IsLeft rs a b row end f g dx dy → IsLeft (rect ∷ rs) a b row next f g dx dy
    there (inl l) = record { reader = l.reader; source = l.source; down = l.down; low = l.low; in_row = one l.in_row }
    there (inr l) = let u = k.later in let v = l.low in record { reader = l.reader; source = l.source; down = l.down; low = omega (arith, ints, u, v); in_row = inr l.in_row }

    rest : IsLeft (rect ∷ rs) a b row next f g dx dy → InRows rs row dx → (end ≤ℤ dx) ⊎ (dx <ℤ end) → IsLeft (rect ∷ []) a b row next f g dx dy ⊎ IsLeft rs a b row end f g dx dy
    rest l i (inl e) = inr (record { reader = l.reader; source = l.source; down = l.down; low = e; in_row = i })
    rest l i (inr e) = inl (record { reader = l.reader; source = l.source; down = l.down; low = l.low; in_row = inl (k.covered dx l.low (from_first rect.across.least rs row dx s i) e) })

    which : IsLeft (rect ∷ rs) a b row next f g dx dy → InRows (rect ∷ rs) row dx → IsLeft (rect ∷ []) a b row next f g dx dy ⊎ IsLeft rs a b row end f g dx dy
    which l (inl i) = inl (record { reader = l.reader; source = l.source; down = l.down; low = l.low; in_row = inl i })
    which l (inr i) = rest l i (either end dx)

    back : IsLeft (rect ∷ rs) a b row next f g dx dy → IsLeft (rect ∷ []) a b row next f g dx dy ⊎ IsLeft rs a b row end f g dx dy
    back l = which l l.in_row

-- What is found, with what is left, is what there was with all.
pub record IsOnTheWay (old new : List LiveRead) (All Left : ℕ → ℕ → ℤ → ℤ → Type 0) : Type 0 where
  pub there : (f g : ℕ) (dx dy : ℤ) → Contains new (the f g dx dy) ⊎ Left f g dx dy → Contains old (the f g dx dy) ⊎ All f g dx dy
  pub back : (f g : ℕ) (dx dy : ℤ) → Contains old (the f g dx dy) ⊎ All f g dx dy → Contains new (the f g dx dy) ⊎ Left f g dx dy

pub way_start : (xs : List LiveRead) (R : ℕ → ℕ → ℤ → ℤ → Type 0) → IsOnTheWay xs xs R R
way_start xs R = record { there = λ f g dx dy h. h; back = λ f g dx dy h. h }

pub way_end : (old new : List LiveRead) (R L : ℕ → ℕ → ℤ → ℤ → Type 0) → IsOnTheWay old new R L → ((f g : ℕ) (dx dy : ℤ) → L f g dx dy → ⊥) → Gains old new R
way_end old new R L w n f g dx dy = (λ h. w.there f g dx dy (inl h), λ h. only (w.back f g dx dy h))
  where
    only : Contains new (the f g dx dy) ⊎ L f g dx dy → Contains new (the f g dx dy)
    only (inl h) = h
    only (inr l) = absurd (n f g dx dy l)

pub way_within : (old new next : List LiveRead) (R L P : ℕ → ℕ → ℤ → ℤ → Type 0) → IsOnTheWay old new R L → Within new next P → ((f g : ℕ) (dx dy : ℤ) → P f g dx dy → L f g dx dy) → Within old next R
way_within old new next R L P w s p f g dx dy h = w.there f g dx dy (either_of (λ x. x) (p f g dx dy) (s f g dx dy h))

-- a step: a part of what is left is found
pub way_more : (old new next : List LiveRead) (R L P M : ℕ → ℕ → ℤ → ℤ → Type 0) → IsOnTheWay old new R L → Gains new next P
    → ((f g : ℕ) (dx dy : ℤ) → (P f g dx dy ⊎ M f g dx dy → L f g dx dy) × (L f g dx dy → P f g dx dy ⊎ M f g dx dy)) → IsOnTheWay old next R M
way_more old new next R L P M w k e = record {
  there = λ f g dx dy h. w.there f g dx dy (joined f g dx dy (either_of (k f g dx dy).0 (λ x. x) h));
  back = λ f g dx dy h. either_of (k f g dx dy).1 (λ x. x) (parted f g dx dy (w.back f g dx dy h));
}
  where
    joined : (f g : ℕ) (dx dy : ℤ) → (Contains new (the f g dx dy) ⊎ P f g dx dy) ⊎ M f g dx dy → Contains new (the f g dx dy) ⊎ L f g dx dy
    joined f g dx dy (inl (inl h)) = inl h
    joined f g dx dy (inl (inr p)) = inr ((e f g dx dy).0 (inl p))
    joined f g dx dy (inr m) = inr ((e f g dx dy).0 (inr m))

    placed : (f g : ℕ) (dx dy : ℤ) → P f g dx dy ⊎ M f g dx dy → (Contains new (the f g dx dy) ⊎ P f g dx dy) ⊎ M f g dx dy
    placed f g dx dy (inl p) = inl (inr p)
    placed f g dx dy (inr m) = inr m

    parted : (f g : ℕ) (dx dy : ℤ) → Contains new (the f g dx dy) ⊎ L f g dx dy → (Contains new (the f g dx dy) ⊎ P f g dx dy) ⊎ M f g dx dy
    parted f g dx dy (inl h) = inl (inl h)
    parted f g dx dy (inr l) = placed f g dx dy ((e f g dx dy).1 l)

pub gains_run : (old new : List LiveRead) (a b : ℕ) (row row' from from' end end' : ℤ) → row ≡ row' → from ≡ from' → end ≡ end'
    → Gains old new (λ f g dx dy. IsRun a b row from end f g dx dy) → Gains old new (λ f g dx dy. IsRun a b row' from' end' f g dx dy)
gains_run old new a b row row' from from' end end' r s e k =
    subst (λ x. Gains old new (λ f g dx dy. IsRun a b x from' end' f g dx dy)) r (subst (λ x. Gains old new (λ f g dx dy. IsRun a b row x end' f g dx dy)) s
    (subst (λ x. Gains old new (λ f g dx dy. IsRun a b row from x f g dx dy)) e k))

pub within_run : (old new : List LiveRead) (a b : ℕ) (row row' from from' end end' : ℤ) → row ≡ row' → from ≡ from' → end ≡ end'
    → Within old new (λ f g dx dy. IsRun a b row from end f g dx dy) → Within old new (λ f g dx dy. IsRun a b row' from' end' f g dx dy)
within_run old new a b row row' from from' end end' r s e k =
    subst (λ x. Within old new (λ f g dx dy. IsRun a b x from' end' f g dx dy)) r (subst (λ x. Within old new (λ f g dx dy. IsRun a b row x end' f g dx dy)) s
    (subst (λ x. Within old new (λ f g dx dy. IsRun a b row from x f g dx dy)) e k))

pub before_at : (xs : List LiveRead) (a b : ℕ) (dx dx' dy dy' : ℤ) → dx ≡ dx' → dy ≡ dy' → AllBefore xs (the a b dx dy) → AllBefore xs (the a b dx' dy')
before_at xs a b dx dx' dy dy' x y k = subst (λ z. AllBefore xs (the a b z dy')) x (subst (λ z. AllBefore xs (the a b dx z)) y k)

pub record RowSoFar (old new : List LiveRead) (a b : ℕ) (row : ℤ) (rects rest : List Rect) (next : ℤ) : Type 0 where
  pub order : AreInOrder new
  pub before : AllBefore new (the a b next row)
  pub way : IsOnTheWay old new (λ f g dx dy. IsLeft rects a b row (neg_ℤ (pos 8192)) f g dx dy) (λ f g dx dy. IsLeft rest a b row next f g dx dy)
  pub sorted : AreSorted rest

pub row_more : (old new after : List LiveRead) (a b : ℕ) (row : ℤ) (rects rest more : List Rect) (rect : Rect) (next end : ℤ) → rest ≡ rect ∷ more → RowSoFar old new a b row rects rest next
    → AreInOrder after → AllBefore after (the a b end row) → Gains new after (λ f g dx dy. IsLeft (rect ∷ []) a b row next f g dx dy) → IsBehind rect row next end → RowSoFar old after a b row rects more end
row_more old new after a b row rects rest more rect next end e s o k g h =
    let sorted : AreSorted (rect ∷ more) = subst AreSorted e s.sorted in
    let way = subst (λ r. IsOnTheWay old new (λ f g dx dy. IsLeft rects a b row (neg_ℤ (pos 8192)) f g dx dy) (λ f g dx dy. IsLeft r a b row next f g dx dy)) e s.way in
    record {
      order = o;
      before = k;
      way = way_more old new after (λ f g dx dy. IsLeft rects a b row (neg_ℤ (pos 8192)) f g dx dy) (λ f g dx dy. IsLeft (rect ∷ more) a b row next f g dx dy)
          (λ f g dx dy. IsLeft (rect ∷ []) a b row next f g dx dy) (λ f g dx dy. IsLeft more a b row end f g dx dy) way g (first_done rect more a b row next end sorted.0 h);
      sorted = sorted.1;
    }

drop_suc : {T : Type 0} (xs : List T) (i : ℕ) (d : T) → i < length xs → drop i xs ≡ slice_index_or xs i d ∷ drop (suc i) xs
drop_suc [] i d h = absurd (omega (arith, h))
drop_suc (x ∷ xs) zero d h = refl
drop_suc (x ∷ xs) (suc i) d h = drop_suc xs i d (omega (arith, h))

pub drop_step : {T : Type 0} (xs : List T) (i : ℕ) (d : T) → i < length xs → drop i xs ≡ slice_index_or xs i d ∷ drop (i + 1) xs
drop_step xs i d h = let e : suc i ≡ i + 1 = omega arith in drop_suc xs i d h ∙ ap (λ n. slice_index_or xs i d ∷ drop n xs) e

pub drop_all : {T : Type 0} (xs : List T) (i : ℕ) → length xs ≤ i → drop i xs ≡ []
drop_all [] zero h = refl
drop_all [] (suc i) h = refl
drop_all (x ∷ xs) zero h = absurd (omega (arith, h))
drop_all (x ∷ xs) (suc i) h = drop_all xs i (omega (arith, h))

pub nothing_left : (a b : ℕ) (row next : ℤ) (f g : ℕ) (dx dy : ℤ) → IsLeft [] a b row next f g dx dy → ⊥
nothing_left a b row next f g dx dy l = l.in_row

pub row_within : (old new after : List LiveRead) (a b : ℕ) (row : ℤ) (rects rest more : List Rect) (rect : Rect) (next : ℤ) → rest ≡ rect ∷ more → RowSoFar old new a b row rects rest next
    → Within new after (λ f g dx dy. IsLeft (rect ∷ []) a b row next f g dx dy) → Within old after (λ f g dx dy. IsLeft rects a b row (neg_ℤ (pos 8192)) f g dx dy)
row_within old new after a b row rects rest more rect next e s w =
    let way = subst (λ r. IsOnTheWay old new (λ f g dx dy. IsLeft rects a b row (neg_ℤ (pos 8192)) f g dx dy) (λ f g dx dy. IsLeft r a b row next f g dx dy)) e s.way in
    way_within old new after (λ f g dx dy. IsLeft rects a b row (neg_ℤ (pos 8192)) f g dx dy) (λ f g dx dy. IsLeft (rect ∷ more) a b row next f g dx dy)
    (λ f g dx dy. IsLeft (rect ∷ []) a b row next f g dx dy) way w (λ f g dx dy l. record { reader = l.reader; source = l.source; down = l.down; low = l.low; in_row = here dx l.in_row })
  where
    here : (dx : ℤ) → InRows (rect ∷ []) row dx → InRows (rect ∷ more) row dx
    here dx (inl i) = inl i
    here dx (inr n) = absurd n

pub row_done : (old new : List LiveRead) (a b : ℕ) (row row' : ℤ) (rects rest : List Rect) (next : ℤ) → row ≡ row' → rest ≡ [] → RowSoFar old new a b row rects rest next
    → Gains old new (λ f g dx dy. IsLeft rects a b row' (neg_ℤ (pos 8192)) f g dx dy) × (e : ℤ) × AllBefore new (the a b e row')
row_done old new a b row row' rects rest next r e s =
    let way = subst (λ q. IsOnTheWay old new (λ f g dx dy. IsLeft rects a b row (neg_ℤ (pos 8192)) f g dx dy) (λ f g dx dy. IsLeft q a b row next f g dx dy)) e s.way in (
      subst (λ z. Gains old new (λ f g dx dy. IsLeft rects a b z (neg_ℤ (pos 8192)) f g dx dy)) r
          (way_end old new (λ f g dx dy. IsLeft rects a b row (neg_ℤ (pos 8192)) f g dx dy) (λ f g dx dy. IsLeft [] a b row next f g dx dy) way (nothing_left a b row next)),
      next,
      subst (λ z. AllBefore new (the a b next z)) r s.before,
    )

-- from row to row
pub rows_step : (rects : List Rect) (a b : ℕ) (row to : ℤ) → All IsNearRect rects → to ≡ row +ℤ pos 1
    → (f g : ℕ) (dx dy : ℤ) → (IsLeft rects a b row (neg_ℤ (pos 8192)) f g dx dy ⊎ IsBelow rects a b to f g dx dy → IsBelow rects a b row f g dx dy)
    × (IsBelow rects a b row f g dx dy → IsLeft rects a b row (neg_ℤ (pos 8192)) f g dx dy ⊎ IsBelow rects a b to f g dx dy)
rows_step rects a b row to near e f g dx dy = (there, back)
  where
    there : IsLeft rects a b row (neg_ℤ (pos 8192)) f g dx dy ⊎ IsBelow rects a b to f g dx dy → IsBelow rects a b row f g dx dy
    there (inl l) = let d = l.down in record { reader = l.reader; source = l.source; low = omega (arith, ints, d); in_rows = subst (λ y. InRows rects y dx) (sym d) l.in_row }
    there (inr l) = let d = l.low in record { reader = l.reader; source = l.source; low = omega (arith, ints, d, e); in_rows = l.in_rows }

    far : (rs : List Rect) → All IsNearRect rs → InRows rs dy dx → neg_ℤ (pos 8192) ≤ℤ dx
    far [] n i = absurd i
    far (r ∷ rs) n (inl i) = let k = (All-head IsNearRect r rs n).across.least in let h = i.across.least in omega (arith, ints, k, h)
    far (r ∷ rs) n (inr i) = far rs (All-tail IsNearRect r rs n) i

    which : IsBelow rects a b row f g dx dy → (dy ≤ℤ row) ⊎ (row <ℤ dy) → IsLeft rects a b row (neg_ℤ (pos 8192)) f g dx dy ⊎ IsBelow rects a b to f g dx dy
    which l (inl h) = let k = l.low in let same : dy ≡ row = omega (arith, ints, h, k) in
        inl (record { reader = l.reader; source = l.source; down = same; low = far rects near l.in_rows; in_row = subst (λ y. InRows rects y dx) same l.in_rows })
    which l (inr h) = inr (record { reader = l.reader; source = l.source; low = omega (arith, ints, h, e); in_rows = l.in_rows })

    back : IsBelow rects a b row f g dx dy → IsLeft rects a b row (neg_ℤ (pos 8192)) f g dx dy ⊎ IsBelow rects a b to f g dx dy
    back l = which l (either dy row)

pub record RowsSoFar (old new : List LiveRead) (a b : ℕ) (rects : List Rect) (first row : ℤ) : Type 0 where
  pub order : AreInOrder new
  pub before : AllBefore new (the a b (neg_ℤ (pos 8192)) row)
  pub way : IsOnTheWay old new (λ f g dx dy. IsBelow rects a b first f g dx dy) (λ f g dx dy. IsBelow rects a b row f g dx dy)

pub rows_start : (xs : List LiveRead) (a b : ℕ) (rects : List Rect) (first : ℤ) → AreInOrder xs → AllBefore xs (the a b (neg_ℤ (pos 8192)) first) → RowsSoFar xs xs a b rects first first
rows_start xs a b rects first o k = record { order = o; before = k; way = way_start xs (λ f g dx dy. IsBelow rects a b first f g dx dy) }

pub rows_more : (old new after : List LiveRead) (a b : ℕ) (rects : List Rect) (first row to : ℤ) → All IsNearRect rects → to ≡ row +ℤ pos 1 → RowsSoFar old new a b rects first row
    → AreInOrder after → Gains new after (λ f g dx dy. IsLeft rects a b row (neg_ℤ (pos 8192)) f g dx dy) → ((e : ℤ) × AllBefore after (the a b e row)) → RowsSoFar old after a b rects first to
rows_more old new after a b rects first row to near e s o g k = record {
  order = o;
  before = all_before_later after (the a b k.0 row) (the a b (neg_ℤ (pos 8192)) to) k.1 (inr (refl, inr (refl, inl (omega (arith, ints, e)))));
  way = way_more old new after (λ f g dx dy. IsBelow rects a b first f g dx dy) (λ f g dx dy. IsBelow rects a b row f g dx dy) (λ f g dx dy. IsLeft rects a b row (neg_ℤ (pos 8192)) f g dx dy)
      (λ f g dx dy. IsBelow rects a b to f g dx dy) s.way g (rows_step rects a b row to near e);
}

pub rows_within : (old new after : List LiveRead) (a b : ℕ) (rects : List Rect) (first row : ℤ) → All IsNearRect rects → RowsSoFar old new a b rects first row
    → Within new after (λ f g dx dy. IsLeft rects a b row (neg_ℤ (pos 8192)) f g dx dy) → Within old after (λ f g dx dy. IsBelow rects a b first f g dx dy)
rows_within old new after a b rects first row near s w =
    way_within old new after (λ f g dx dy. IsBelow rects a b first f g dx dy) (λ f g dx dy. IsBelow rects a b row f g dx dy) (λ f g dx dy. IsLeft rects a b row (neg_ℤ (pos 8192)) f g dx dy) s.way w
    (λ f g dx dy l. (rows_step rects a b row (row +ℤ pos 1) near refl f g dx dy).0 (inl l))

pub rows_done : (old new : List LiveRead) (a b : ℕ) (rects : List Rect) (first row : ℤ) → All (IsAmong first row) rects → RowsSoFar old new a b rects first row → Gains old new (λ f g dx dy. IsOf rects a b f g dx dy)
rows_done old new a b rects first row all s =
    gains_as old new (λ f g dx dy. IsBelow rects a b first f g dx dy) (λ f g dx dy. IsOf rects a b f g dx dy)
    (λ f g dx dy. (
      (λ l. record { reader = l.reader; source = l.source; in_rows = l.in_rows }),
      (λ l. record { reader = l.reader; source = l.source; low = from f g dx dy rects all l.in_rows; in_rows = l.in_rows }),
    ))
    (way_end old new (λ f g dx dy. IsBelow rects a b first f g dx dy) (λ f g dx dy. IsBelow rects a b row f g dx dy) s.way (λ f g dx dy l. behind f g dx dy rects all l.in_rows l.low))
  where
    from : (f g : ℕ) (dx dy : ℤ) (rs : List Rect) → All (IsAmong first row) rs → InRows rs dy dx → first ≤ℤ dy
    from f g dx dy [] n i = absurd i
    from f g dx dy (r ∷ rs) n (inl i) = let k = (All-head (IsAmong first row) r rs n).least in let h = i.down.least in omega (arith, ints, k, h)
    from f g dx dy (r ∷ rs) n (inr i) = from f g dx dy rs (All-tail (IsAmong first row) r rs n) i

    behind : (f g : ℕ) (dx dy : ℤ) (rs : List Rect) → All (IsAmong first row) rs → InRows rs dy dx → row ≤ℤ dy → ⊥
    behind f g dx dy [] n i h = i
    behind f g dx dy (r ∷ rs) n (inl i) h = let k = (All-head (IsAmong first row) r rs n).greatest in let l = i.down.greatest in omega (arith, ints, k, l, h)
    behind f g dx dy (r ∷ rs) n (inr i) h = behind f g dx dy rs (All-tail (IsAmong first row) r rs n) i h

pub rows_in : (old after : List LiveRead) (a b : ℕ) (rects : List Rect) (first : ℤ) → Within old after (λ f g dx dy. IsBelow rects a b first f g dx dy) → Within old after (λ f g dx dy. IsOf rects a b f g dx dy)
rows_in old after a b rects first w = within_as old after (λ f g dx dy. IsBelow rects a b first f g dx dy) (λ f g dx dy. IsOf rects a b f g dx dy) (λ f g dx dy l. record { reader = l.reader; source = l.source; in_rows = l.in_rows }) w

pub record IsRange (rects : List Rect) (first end : ℤ) : Type 0 where
  pub among : All (IsAmong first end) rects
  pub low : first ≤ℤ pos 0
  pub high : pos 0 ≤ℤ end
  pub near : unsigned_abs first ≤ 8192
  pub end_near : unsigned_abs end ≤ 8193

pub range_more : (rects : List Rect) (i : ℕ) (d : Rect) (first first' end end' : ℤ) → i < length rects → IsNearRect (slice_index_or rects i d) → IsRange (take i rects) first end
    → first' ≡ int_min first (slice_index_or rects i d).down.least → end' ≡ int_max end ((slice_index_or rects i d).down.greatest +ℤ pos 1) → IsRange (take (i + 1) rects) first' end'
range_more rects i d first first' end end' h near r e f =
    let rect = slice_index_or rects i d in
    let n = near.down.least in
    let m = near.down.greatest in
    record {
      among = All-more (IsAmong first' end') rects i d h
          (All-weaker (IsAmong first end) (IsAmong first' end') (λ q a. let k = a.least in let l = a.greatest in record { least = omega (arith, ints, clamps, e, k); greatest = omega (arith, ints, clamps, f, l) }) (take i rects) r.among)
          (record { least = omega (arith, ints, clamps, e); greatest = omega (arith, ints, clamps, f) });
      low = omega (arith, ints, clamps, e, r.low);
      high = omega (arith, ints, clamps, f, r.high);
      near = omega (arith, ints, clamps, e, r.near, n);
      end_near = omega (arith, ints, clamps, f, r.end_near, m);
    }

pub among_as : (rects : List Rect) (first first' end end' : ℤ) → first' ≡ first → end' ≡ end → All (IsAmong first end) rects → All (IsAmong first' end') rects
among_as rects first first' end end' e f a = subst (λ x. All (IsAmong first' x) rects) (sym f) (subst (λ x. All (IsAmong x end) rects) (sym e) a)

pub rows_from : (xs : List LiveRead) (a b : ℕ) (first : ℤ) → neg_ℤ (pos 8192) ≤ℤ first → AllBefore xs (the a b (neg_ℤ (pos 8192)) (neg_ℤ (pos 8192))) → AllBefore xs (the a b (neg_ℤ (pos 8192)) first)
rows_from xs a b first h k = all_before_later xs (the a b (neg_ℤ (pos 8192)) (neg_ℤ (pos 8192))) (the a b (neg_ℤ (pos 8192)) first) k (inr (refl, inr (refl, placed (either first (neg_ℤ (pos 8192))))))
  where
    placed : (first ≤ℤ neg_ℤ (pos 8192)) ⊎ (neg_ℤ (pos 8192) <ℤ first) → (neg_ℤ (pos 8192) <ℤ first) ⊎ ((neg_ℤ (pos 8192) ≡ first) × (neg_ℤ (pos 8192) ≤ℤ neg_ℤ (pos 8192)))
    placed (inl l) = inr (omega (arith, ints, l, h), omega (arith, ints))
    placed (inr l) = inl l

-- The reads of an image, from the images before it one after another.
use Rattle.std.proofs.Common.{◌≡◌, ℕ, ◌+◌, ◌≤◌, ◌<◌, ℤ, pos, neg_ℤ, ◌⊎◌, inl, inr, Contains, List, refl, sym, subst, arith}
use Rattle.std.proofs.lemmas.Bool.{cases_lt}
use Rattle.dk_base.specs.declared.stencils.LiveRead.{LiveRead}
use Rattle.dk_base.specs.Stencils.{AreInOrder}
use Rattle.stencil_sets.specs.declared.path.Rect.{Rect}
use Rattle.stencil_sets.specs.Paths.{Covered, IsByReader, IsOfReader}
use Rattle.pointwise_ir.specs.Stencils.{the}
use Rattle.stencil_sets.specs.Found.{AllBefore, Gains, Within}
use Rattle.stencil_sets.proofs.Ordered.{all_before_later}
use Rattle.stencil_sets.proofs.Rows.{IsOnTheWay, way_end, way_within, way_more}

-- what is left from image b on
pub record IsLeftFrom (rects : List Rect) (a b : ℕ) (f g : ℕ) (dx dy : ℤ) : Type 0 where
  pub reader : f ≡ a
  pub low : b ≤ g
  pub earlier : g < a
  pub covered : Covered rects g dx dy

sources_step : (rects : List Rect) (a b to : ℕ) → b < a → to ≡ b + 1 → (f g : ℕ) (dx dy : ℤ)
    → (IsByReader rects a b f g dx dy ⊎ IsLeftFrom rects a to f g dx dy → IsLeftFrom rects a b f g dx dy)
    × (IsLeftFrom rects a b f g dx dy → IsByReader rects a b f g dx dy ⊎ IsLeftFrom rects a to f g dx dy)
sources_step rects a b to h e f g dx dy = (there, λ l. which l (cases_lt b g))
  where
    there : IsByReader rects a b f g dx dy ⊎ IsLeftFrom rects a to f g dx dy → IsLeftFrom rects a b f g dx dy
    there (inl k) = let s = k.source in record { reader = k.reader; low = omega (arith, s); earlier = omega (arith, s, h); covered = subst (λ x. Covered rects x dx dy) (sym s) k.covered }
    there (inr l) = let k = l.low in record { reader = l.reader; low = omega (arith, k, e); earlier = l.earlier; covered = l.covered }

    which : IsLeftFrom rects a b f g dx dy → (b < g) ⊎ (g ≤ b) → IsByReader rects a b f g dx dy ⊎ IsLeftFrom rects a to f g dx dy
    which l (inl k) = inr (record { reader = l.reader; low = omega (arith, k, e); earlier = l.earlier; covered = l.covered })
    which l (inr k) = let m = l.low in let same : g ≡ b = omega (arith, k, m) in inl (record { reader = l.reader; source = same; covered = subst (λ x. Covered rects x dx dy) same l.covered })

pub record SourcesSoFar (old new : List LiveRead) (rects : List Rect) (a b : ℕ) : Type 0 where
  pub order : AreInOrder new
  pub before : AllBefore new (the a b (neg_ℤ (pos 8192)) (neg_ℤ (pos 8192)))
  pub way : IsOnTheWay old new (λ f g dx dy. IsLeftFrom rects a 0 f g dx dy) (λ f g dx dy. IsLeftFrom rects a b f g dx dy)

pub sources_more : (old new after : List LiveRead) (rects : List Rect) (a b to : ℕ) → b < a → to ≡ b + 1 → SourcesSoFar old new rects a b → AreInOrder after
    → Gains new after (λ f g dx dy. IsByReader rects a b f g dx dy) → ((d : ℤ) × (e : ℤ) × AllBefore after (the a b d e)) → SourcesSoFar old after rects a to
sources_more old new after rects a b to h e s o g k = record {
  order = o;
  before = all_before_later after (the a b k.0 k.1) (the a to (neg_ℤ (pos 8192)) (neg_ℤ (pos 8192))) k.2 (inr (refl, inl (omega (arith, e))));
  way = way_more old new after (λ f g dx dy. IsLeftFrom rects a 0 f g dx dy) (λ f g dx dy. IsLeftFrom rects a b f g dx dy) (λ f g dx dy. IsByReader rects a b f g dx dy)
      (λ f g dx dy. IsLeftFrom rects a to f g dx dy) s.way g (sources_step rects a b to h e);
}

first_is : (rects : List Rect) (a : ℕ) (f g : ℕ) (dx dy : ℤ) → IsLeftFrom rects a 0 f g dx dy → IsOfReader rects a f g dx dy
first_is rects a f g dx dy l = record { reader = l.reader; earlier = l.earlier; covered = l.covered }

pub sources_within : (old new after : List LiveRead) (rects : List Rect) (a b : ℕ) → b < a → SourcesSoFar old new rects a b
    → Within new after (λ f g dx dy. IsByReader rects a b f g dx dy) → Within old after (λ f g dx dy. IsOfReader rects a f g dx dy)
sources_within old new after rects a b h s w f g dx dy k =
    placed (way_within old new after (λ f g dx dy. IsLeftFrom rects a 0 f g dx dy) (λ f g dx dy. IsLeftFrom rects a b f g dx dy) (λ f g dx dy. IsByReader rects a b f g dx dy) s.way w
    (λ f g dx dy l. (sources_step rects a b (b + 1) h refl f g dx dy).0 (inl l)) f g dx dy k)
  where
    placed : Contains old (the f g dx dy) ⊎ IsLeftFrom rects a 0 f g dx dy → Contains old (the f g dx dy) ⊎ IsOfReader rects a f g dx dy
    placed (inl x) = inl x
    placed (inr l) = inr (first_is rects a f g dx dy l)

pub sources_done : (old new : List LiveRead) (rects : List Rect) (a b : ℕ) → a ≤ b → SourcesSoFar old new rects a b → Gains old new (λ f g dx dy. IsOfReader rects a f g dx dy)
sources_done old new rects a b h s f g dx dy =
    ((λ k. placed ((all f g dx dy).0 k)), (λ k. (all f g dx dy).1 (back k)))
  where
    all : Gains old new (λ f g dx dy. IsLeftFrom rects a 0 f g dx dy)
    all = way_end old new (λ f g dx dy. IsLeftFrom rects a 0 f g dx dy) (λ f g dx dy. IsLeftFrom rects a b f g dx dy) s.way (λ f g dx dy l. let x = l.low in let y = l.earlier in omega (arith, x, y, h))

    placed : Contains old (the f g dx dy) ⊎ IsLeftFrom rects a 0 f g dx dy → Contains old (the f g dx dy) ⊎ IsOfReader rects a f g dx dy
    placed (inl x) = inl x
    placed (inr l) = inr (first_is rects a f g dx dy l)

    back : Contains old (the f g dx dy) ⊎ IsOfReader rects a f g dx dy → Contains old (the f g dx dy) ⊎ IsLeftFrom rects a 0 f g dx dy
    back (inl x) = inl x
    back (inr l) = inr (record { reader = l.reader; low = omega arith; earlier = l.earlier; covered = l.covered })

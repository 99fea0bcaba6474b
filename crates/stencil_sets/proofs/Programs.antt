-- The reads of a program, from its images one after another.
use Rattle.std.proofs.Common.{◌≡◌, ℕ, ◌+◌, ◌≤◌, ◌<◌, ℤ, pos, neg_ℤ, ◌⊎◌, inl, inr, Contains, List, [], length, slice_get, Some, sym, ap, subst, ◌∙◌, arith}
use Rattle.std.proofs.lemmas.Bool.{cases_lt}
use Rattle.dk_base.specs.declared.stencils.LiveRead.{LiveRead}
use Rattle.dk_base.specs.Frames.{Size}
use Rattle.dk_base.specs.Stencils.{AreInOrder}
use Rattle.pointwise_ir.specs.Trees.{Tree, tree_of}
use Rattle.pointwise_ir.specs.Programs.{Program, IsProgram, bodies_of}
use Rattle.pointwise_ir.specs.Reads.{IsLive, Kept}
use Rattle.stencil_sets.specs.declared.path.Rect.{Rect}
use Rattle.stencil_sets.specs.Paths.{Covered, ReadsAt, IsOfReader, IsReadOf}
use Rattle.pointwise_ir.specs.Stencils.{the, IsKeptRead, AreReads}
use Rattle.pointwise_ir.proofs.ReadLists.{none_in}
use Rattle.stencil_sets.specs.Found.{AllBefore, Gains, Within}
use Rattle.stencil_sets.specs.Live.{AreSome}
use Rattle.stencil_sets.proofs.Ordered.{all_before_later}
use Rattle.stencil_sets.proofs.Rows.{IsOnTheWay, way_end, way_within, way_more}
use Rattle.stencil_sets.proofs.Marked.{live_of, same_body, mapped_short, read_below}

-- the reads of one image's rectangles are those of its body
pub covered_made : (size : Size) (e : Tree) (rects : List Rect) (a : ℕ) → ((g : ℕ) (dx dy : ℤ) → (Covered rects g dx dy → ReadsAt size e g dx dy) × (ReadsAt size e g dx dy → Covered rects g dx dy))
    → (f g : ℕ) (dx dy : ℤ) → IsOfReader rects a f g dx dy → IsReadOf size e a f g dx dy
covered_made size e rects a x f g dx dy r = record { reader = r.reader; made = (x g dx dy).0 r.covered }

pub made_covered : (size : Size) (e : Tree) (rects : List Rect) (a : ℕ) → ((g : ℕ) (dx dy : ℤ) → (Covered rects g dx dy → ReadsAt size e g dx dy) × (ReadsAt size e g dx dy → Covered rects g dx dy))
    → ((g : ℕ) (dx dy : ℤ) → ReadsAt size e g dx dy → g < a) → (f g : ℕ) (dx dy : ℤ) → IsReadOf size e a f g dx dy → IsOfReader rects a f g dx dy
made_covered size e rects a x low f g dx dy r = record { reader = r.reader; earlier = low g dx dy r.made; covered = (x g dx dy).1 r.made }

pub gains_as : (old new : List LiveRead) (P Q : ℕ → ℕ → ℤ → ℤ → Type 0) → ((f g : ℕ) (dx dy : ℤ) → P f g dx dy → Q f g dx dy) → ((f g : ℕ) (dx dy : ℤ) → Q f g dx dy → P f g dx dy)
    → Gains old new P → Gains old new Q
gains_as old new P Q there back k f g dx dy = ((λ h. placed ((k f g dx dy).0 h)), (λ h. (k f g dx dy).1 (replaced h)))
  where
    placed : Contains old (the f g dx dy) ⊎ P f g dx dy → Contains old (the f g dx dy) ⊎ Q f g dx dy
    placed (inl h) = inl h
    placed (inr p) = inr (there f g dx dy p)

    replaced : Contains old (the f g dx dy) ⊎ Q f g dx dy → Contains old (the f g dx dy) ⊎ P f g dx dy
    replaced (inl h) = inl h
    replaced (inr q) = inr (back f g dx dy q)

pub within_as : (old new : List LiveRead) (P Q : ℕ → ℕ → ℤ → ℤ → Type 0) → ((f g : ℕ) (dx dy : ℤ) → P f g dx dy → Q f g dx dy) → Within old new P → Within old new Q
within_as old new P Q there w f g dx dy h = placed (w f g dx dy h)
  where
    placed : Contains old (the f g dx dy) ⊎ P f g dx dy → Contains old (the f g dx dy) ⊎ Q f g dx dy
    placed (inl k) = inl k
    placed (inr p) = inr (there f g dx dy p)

-- what is left from the k-th image on that has a body
pub record IsLeftAfter (p : Program) (k : ℕ) (f g : ℕ) (dx dy : ℤ) : Type 0 where
  pub kept : Kept p f
  pub low : length p.inputs + k ≤ f
  pub live : IsLive p f g dx dy

-- the reads of image a, whose body is e
live_is : (p : Program) (k : ℕ) (e : Tree) → slice_get (bodies_of p) k ≡ Some e → (f g : ℕ) (dx dy : ℤ) → f ≡ length p.inputs + k → IsLive p f g dx dy → ReadsAt p.size e g dx dy
live_is p k e there f g dx dy own l =
    let body = l.1 in
    let at = body.1 in
    let same : body.0 ≡ k = omega (arith, at, own) in
    let is : l.0 ≡ e = same_body l.0 e (slice_get (bodies_of p) k) (ap (λ n. slice_get (bodies_of p) n) (sym same) ∙ body.2) there in
    subst (λ t. ReadsAt p.size t g dx dy) is (l.2, l.3, l.4, l.5)

images_step : (p : Program) (k : ℕ) (e : Tree) → slice_get (bodies_of p) k ≡ Some e → Kept p (length p.inputs + k) → (f g : ℕ) (dx dy : ℤ)
    → (IsReadOf p.size e (length p.inputs + k) f g dx dy ⊎ IsLeftAfter p (k + 1) f g dx dy → IsLeftAfter p k f g dx dy)
    × (IsLeftAfter p k f g dx dy → IsReadOf p.size e (length p.inputs + k) f g dx dy ⊎ IsLeftAfter p (k + 1) f g dx dy)
images_step p k e there kept f g dx dy = (back, λ l. which l (cases_lt (length p.inputs + k) f))
  where
    back : IsReadOf p.size e (length p.inputs + k) f g dx dy ⊎ IsLeftAfter p (k + 1) f g dx dy → IsLeftAfter p k f g dx dy
    back (inl r) = let own = r.reader in record { kept = subst (Kept p) (sym own) kept; low = omega (arith, own); live = subst (λ n. IsLive p n g dx dy) (sym own) (live_of p k e there g dx dy r.made) }
    back (inr l) = let low = l.low in record { kept = l.kept; low = omega (arith, low); live = l.live }

    which : IsLeftAfter p k f g dx dy → (length p.inputs + k < f) ⊎ (f ≤ length p.inputs + k) → IsReadOf p.size e (length p.inputs + k) f g dx dy ⊎ IsLeftAfter p (k + 1) f g dx dy
    which l (inl h) = inr (record { kept = l.kept; low = omega (arith, h); live = l.live })
    which l (inr h) = let low = l.low in let own : f ≡ length p.inputs + k = omega (arith, low, h) in inl (record { reader = own; made = live_is p k e there f g dx dy own l.live })

pub record ReadersSoFar (p : Program) (new : List LiveRead) (k : ℕ) : Type 0 where
  pub order : AreInOrder new
  pub before : AllBefore new (the (length p.inputs + k) 0 (neg_ℤ (pos 8192)) (neg_ℤ (pos 8192)))
  pub way : IsOnTheWay [] new (λ f g dx dy. IsLeftAfter p 0 f g dx dy) (λ f g dx dy. IsLeftAfter p k f g dx dy)

pub readers_more : (p : Program) (new after : List LiveRead) (k a : ℕ) (e : Tree) → slice_get (bodies_of p) k ≡ Some e → Kept p (length p.inputs + k) → a ≡ length p.inputs + k → ReadersSoFar p new k → AreInOrder after
    → Gains new after (λ f g dx dy. IsReadOf p.size e a f g dx dy) → ((g : ℕ) × (d : ℤ) × (x : ℤ) × AllBefore after (the a g d x)) → ReadersSoFar p after (k + 1)
readers_more p new after k a e there kept own s o g b = record {
  order = o;
  before = all_before_later after (the a b.0 b.1 b.2) (the (length p.inputs + (k + 1)) 0 (neg_ℤ (pos 8192)) (neg_ℤ (pos 8192))) b.3 (inl (omega (arith, own)));
  way = way_more [] new after (λ f g dx dy. IsLeftAfter p 0 f g dx dy) (λ f g dx dy. IsLeftAfter p k f g dx dy) (λ f g dx dy. IsReadOf p.size e (length p.inputs + k) f g dx dy)
      (λ f g dx dy. IsLeftAfter p (k + 1) f g dx dy) s.way (subst (λ n. Gains new after (λ f g dx dy. IsReadOf p.size e n f g dx dy)) own g) (images_step p k e there kept);
}

-- an image that is not kept has none
pub readers_left : (p : Program) (new : List LiveRead) (k : ℕ) → (Kept p (length p.inputs + k) → ⊥) → ReadersSoFar p new k → ReadersSoFar p new (k + 1)
readers_left p new k none s = record {
  order = s.order;
  before = all_before_later new (the (length p.inputs + k) 0 (neg_ℤ (pos 8192)) (neg_ℤ (pos 8192))) (the (length p.inputs + (k + 1)) 0 (neg_ℤ (pos 8192)) (neg_ℤ (pos 8192))) s.before (inl (omega arith));
  way = record { there = λ f g dx dy h. s.way.there f g dx dy (less f g dx dy h); back = λ f g dx dy h. more f g dx dy (s.way.back f g dx dy h) };
}
  where
    less : (f g : ℕ) (dx dy : ℤ) → Contains new (the f g dx dy) ⊎ IsLeftAfter p (k + 1) f g dx dy → Contains new (the f g dx dy) ⊎ IsLeftAfter p k f g dx dy
    less f g dx dy (inl h) = inl h
    less f g dx dy (inr l) = let low = l.low in inr (record { kept = l.kept; low = omega (arith, low); live = l.live })

    which : (f g : ℕ) (dx dy : ℤ) → (l : IsLeftAfter p k f g dx dy) → (length p.inputs + k < f) ⊎ (f ≤ length p.inputs + k) → IsLeftAfter p (k + 1) f g dx dy
    which f g dx dy l (inl h) = record { kept = l.kept; low = omega (arith, h); live = l.live }
    which f g dx dy l (inr h) = let low = l.low in let own : f ≡ length p.inputs + k = omega (arith, low, h) in absurd (none (subst (Kept p) own l.kept))

    more : (f g : ℕ) (dx dy : ℤ) → Contains new (the f g dx dy) ⊎ IsLeftAfter p k f g dx dy → Contains new (the f g dx dy) ⊎ IsLeftAfter p (k + 1) f g dx dy
    more f g dx dy (inl h) = inl h
    more f g dx dy (inr l) = inr (which f g dx dy l (cases_lt (length p.inputs + k) f))

kept_read : (p : Program) (f g : ℕ) (dx dy : ℤ) → IsLeftAfter p 0 f g dx dy → IsKeptRead p f g dx dy
kept_read p f g dx dy l = record { kept = l.kept; live = l.live }

all_left : (p : Program) (f g : ℕ) (dx dy : ℤ) → IsKeptRead p f g dx dy → IsLeftAfter p 0 f g dx dy
all_left p f g dx dy r = let at = r.live.1.1 in record { kept = r.kept; low = omega (arith, at); live = r.live }

-- past the last image nothing is left
none_left : (p : Program) (k : ℕ) → length p.images ≤ k → (f g : ℕ) (dx dy : ℤ) → IsLeftAfter p k f g dx dy → ⊥
none_left p k h f g dx dy l =
    let body = l.live.1 in
    let at = body.1 in
    let low = l.low in
    let short = mapped_short (λ d. tree_of d.body) p.images body.0 l.live.0 body.2 in
    omega (arith, at, low, short, h)

pub readers_done : (p : Program) (new : List LiveRead) (k : ℕ) → length p.images ≤ k → ReadersSoFar p new k → AreReads p new
readers_done p new k h s = record { in_order = s.order; exact = λ f g dx dy. ((λ a. there f g dx dy ((all f g dx dy).0 a)), (λ r. (all f g dx dy).1 (inr (all_left p f g dx dy r)))) }
  where
    all : Gains [] new (λ f g dx dy. IsLeftAfter p 0 f g dx dy)
    all = way_end [] new (λ f g dx dy. IsLeftAfter p 0 f g dx dy) (λ f g dx dy. IsLeftAfter p k f g dx dy) s.way (none_left p k h)

    there : (f g : ℕ) (dx dy : ℤ) → Contains [] (the f g dx dy) ⊎ IsLeftAfter p 0 f g dx dy → IsKeptRead p f g dx dy
    there f g dx dy (inl n) = absurd (none_in (the f g dx dy) n)
    there f g dx dy (inr l) = kept_read p f g dx dy l

pub readers_within : (p : Program) (new after : List LiveRead) (k a : ℕ) (e : Tree) → slice_get (bodies_of p) k ≡ Some e → Kept p (length p.inputs + k) → a ≡ length p.inputs + k → ReadersSoFar p new k → AreInOrder after
    → Within new after (λ f g dx dy. IsReadOf p.size e a f g dx dy) → AreSome p after
readers_within p new after k a e there kept own s o w = record { in_order = o; sound = λ f g dx dy h. sound f g dx dy (all f g dx dy h) }
  where
    all : Within [] after (λ f g dx dy. IsLeftAfter p 0 f g dx dy)
    all = way_within [] new after (λ f g dx dy. IsLeftAfter p 0 f g dx dy) (λ f g dx dy. IsLeftAfter p k f g dx dy) (λ f g dx dy. IsReadOf p.size e (length p.inputs + k) f g dx dy)
        s.way (subst (λ n. Within new after (λ f g dx dy. IsReadOf p.size e n f g dx dy)) own w) (λ f g dx dy r. (images_step p k e there kept f g dx dy).0 (inl r))

    sound : (f g : ℕ) (dx dy : ℤ) → Contains [] (the f g dx dy) ⊎ IsLeftAfter p 0 f g dx dy → IsKeptRead p f g dx dy
    sound f g dx dy (inl n) = absurd (none_in (the f g dx dy) n)
    sound f g dx dy (inr l) = kept_read p f g dx dy l

pub body_below : (p : Program) → IsProgram p → (k : ℕ) (e : Tree) → slice_get (bodies_of p) k ≡ Some e → (size : Size) (n : ℕ) → size ≡ p.size → n ≡ length p.inputs
    → (g : ℕ) (dx dy : ℤ) → ReadsAt size e g dx dy → g < n + k
body_below p is k e there size n s i g dx dy r = let low = read_below p is k e there g dx dy (subst (λ z. ReadsAt z e g dx dy) s r) in omega (arith, low, i)

pub covered_is : (size : Size) (e : Tree) (xs ys : List Rect) → xs ≡ ys → ((g : ℕ) (dx dy : ℤ) → (Covered xs g dx dy → ReadsAt size e g dx dy) × (ReadsAt size e g dx dy → Covered xs g dx dy))
    → (g : ℕ) (dx dy : ℤ) → (Covered ys g dx dy → ReadsAt size e g dx dy) × (ReadsAt size e g dx dy → Covered ys g dx dy)
covered_is size e xs ys s x = subst (λ rs. (g : ℕ) (dx dy : ℤ) → (Covered rs g dx dy → ReadsAt size e g dx dy) × (ReadsAt size e g dx dy → Covered rs g dx dy)) s x

-- Steps as a path, and the pixels that it leads by some way.
use Rattle.std.proofs.Common.{◌≡◌, ℕ, ◌+◌, ◌<◌, ◌≤◌, ℤ, pos, ◌+ℤ◌, List, [], ◌∷◌, refl, sym, subst}
use Rattle.std.specs.Prelude.{IsTrue, Option}
use Rattle.std.proofs.lemmas.Bool.{lt-ltb}
use Rattle.dk_base.specs.Frames.{Size, is_below, in_frame}
use Rattle.pointwise_ir.specs.declared.expr.Edge.TheVariants.{Zero}
use Rattle.frame_paths.specs.declared.moves.Interval.{Interval}
use Rattle.frame_paths.specs.declared.path.Path.{Path}
use Rattle.frame_paths.specs.Moves.{Leads, IsInOn}
use Rattle.frame_paths.specs.Paths.{LeadsTo, StepsTo}
use Rattle.dk_base.proofs.Unclamped.{ends_here, is_inside}
use Rattle.frame_paths.proofs.Walks.{true_both}
use Rattle.edge_select.specs.declared.step.Step.{Step}
use Rattle.edge_select.specs.declared.paths.Rectangle.{Rectangle}
use Rattle.edge_select.specs.Steps.{Lead, LeadBy}
use Rattle.edge_select.specs.declared.extents.Extent.{Extent}
use Rattle.edge_select.specs.declared.extents.Extent.TheVariants.{Never, Always}
use Rattle.edge_select.specs.Passes.{LeadsThenOn, PassesOn}
use Rattle.edge_select.specs.Pixels.{AllPass, NonePass}

abbrev pub Same : Type 0 → Type 0 → Type 0
Same P Q = (P → Q) × (Q → P)

-- the path so far, with the steps to come
abbrev pub IsSoFar : Size → Path → (rest steps : List Step) → Type 0
IsSoFar size p rest steps = (x y u v : ℤ) → IsTrue (in_frame size x y) → Same (LeadsThenOn size p rest x y u v) (Lead size steps x y u v)

pub so_far_first : (size : Size) (p : Path) (steps : List Step) → ((x y u v : ℤ) → Same (LeadsTo p x y u v) ((u ≡ x) × (v ≡ y) × IsTrue (in_frame size x y))) → IsSoFar size p steps steps
so_far_first size p steps none x y u v inside = (
  (λ k. let e = (none x y k.0 k.1).0 k.2 in subst (λ (w : ℤ). Lead size steps w y u v) e.0 (subst (λ (z : ℤ). Lead size steps k.0 z u v) e.1 k.3)),
  (λ k. (x, y, (none x y x y).1 (refl, refl, inside), k)),
)

pub so_far_next : (size : Size) (p q : Path) (step : Step) (rest steps : List Step) → IsSoFar size p (step ∷ rest) steps → ((x y u v : ℤ) → Same (LeadsTo q x y u v) (StepsTo size p step.edge step.dx step.dy x y u v)) → IsSoFar size q rest steps
so_far_next size p q step rest steps so far x y u v inside = (
  (λ k. let t = (far x y k.0 k.1).0 k.2 in (so x y u v inside).0 (t.0, t.1, t.2, (k.0, k.1, t.3, k.3))),
  (λ k. let t = (so x y u v inside).1 k in (t.3.0, t.3.1, (far x y t.3.0 t.3.1).1 (t.0, t.1, t.2, t.3.2), t.3.3)),
)

pub so_far_nowhere : (size : Size) (p : Path) (step : Step) (rest steps : List Step) → IsSoFar size p (step ∷ rest) steps → ((x y u v : ℤ) → StepsTo size p step.edge step.dx step.dy x y u v → ⊥) → (x y u v : ℤ) → IsTrue (in_frame size x y) → Lead size steps x y u v → ⊥
so_far_nowhere size p step rest steps so none x y u v inside k = let t = (so x y u v inside).1 k in none x y t.3.0 t.3.1 (t.0, t.1, t.2, t.3.2)

pub so_far_last : (size : Size) (p : Path) (steps : List Step) → IsSoFar size p [] steps → (x y u v : ℤ) → IsTrue (in_frame size x y) → Same (LeadsTo p x y u v) (Lead size steps x y u v)
so_far_last size p steps so x y u v inside = (
  (λ k. (so x y u v inside).0 (u, v, k, (refl, refl))),
  (λ k. let t = (so x y u v inside).1 k in subst (λ (w : ℤ). LeadsTo p x y w v) (sym t.3.0) (subst (λ (z : ℤ). LeadsTo p x y t.0 z) (sym t.3.1) t.2)),
)

pub led_is : (p : Path) (dx dy : ℤ) (x y : ℕ) (across down : Option Interval) (both : Option Rectangle) → Same (IsInOn across x) (Leads p.across (pos x) (pos x +ℤ dx)) → Same (IsInOn down y) (Leads p.down (pos y) (pos y +ℤ dy)) → Same (PassesOn both x y) (IsInOn across x × IsInOn down y) →
    Same (PassesOn both x y) (LeadsTo p (pos x) (pos y) (pos x +ℤ dx) (pos y +ℤ dy))
led_is p dx dy x y across down both a d j = (
  (λ k. let t = j.0 k in record { across = a.0 t.0; down = d.0 t.1 }),
  (λ l. j.1 (a.1 l.across, d.1 l.down)),
)

pub led_through : {P Q R : Type 0} → Same P Q → Same Q R → Same P R
led_through f g = ((λ p. g.0 (f.0 p)), (λ r. f.1 (g.1 r)))

pub pixel_inside : (size : Size) (x y : ℕ) → x < size.width → y < size.height → IsTrue (in_frame size (pos x) (pos y))
pixel_inside size x y low high = true_both (is_below (pos x) size.width) (is_below (pos y) size.height) (lt-ltb x size.width low) (lt-ltb y size.height high)

-- one step that is not clamped leads exactly where its point is in the frame
abbrev pub one_step : (dx dy : ℤ) → List Step
one_step dx dy = (record { edge = Zero; dx = dx; dy = dy }) ∷ []

pub one_to : (size : Size) (dx dy : ℤ) (x y : ℕ) → LeadBy size (one_step dx dy) dx dy x y → IsTrue (in_frame size (pos x +ℤ dx) (pos y +ℤ dy))
one_to size dx dy x y k = is_inside size (pos x +ℤ dx) (pos y +ℤ dy) k.0 k.1 k.2

pub one_from : (size : Size) (dx dy : ℤ) (x y : ℕ) → IsTrue (in_frame size (pos x +ℤ dx) (pos y +ℤ dy)) → LeadBy size (one_step dx dy) dx dy x y
one_from size dx dy x y h = (pos x +ℤ dx, pos y +ℤ dy, ends_here size (pos x +ℤ dx) (pos y +ℤ dy) h, (refl, refl))

-- the interval is the whole side
abbrev pub IsWhole : Interval → ℕ → Type 0
IsWhole i side = (i.first ≡ 0) × (side ≤ i.last + 1)

-- how many pixels of a frame pass: none, some and not all, or all
abbrev pub IsExtent : (width height : ℕ) → ((x y : ℕ) → Type 0) → Extent → Type 0
IsExtent width height L e = Same (e ≡ Always) (AllPass width height L) × Same (e ≡ Never) (NonePass width height L)

pub extent_none : (width height : ℕ) (L : (x y : ℕ) → Type 0) → 1 ≤ width → 1 ≤ height → NonePass width height L → IsExtent width height L Never
extent_none width height L some tall none = (
  ((λ e. absurd (let f : ⊥ = cc in f)), (λ all. absurd (none 0 0 some tall (all 0 0 some tall)))),
  ((λ e. none), (λ h. refl)),
)

pub extent_same : (width height : ℕ) (L M : (x y : ℕ) → Type 0) (e : Extent) → ((x y : ℕ) → x < width → y < height → Same (L x y) (M x y)) → IsExtent width height L e → IsExtent width height M e
extent_same width height L M e same is = (
  ((λ h x y low high. (same x y low high).0 (is.0.0 h x y low high)), (λ all. is.0.1 (λ x y low high. (same x y low high).1 (all x y low high)))),
  ((λ h x y low high m. is.1.0 h x y low high ((same x y low high).1 m)), (λ none. is.1.1 (λ x y low high l. none x y low high ((same x y low high).0 l)))),
)

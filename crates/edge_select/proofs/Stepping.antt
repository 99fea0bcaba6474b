-- Steps: where they lead, and that they lead to one point.
use Rattle.std.proofs.Common.{◌≡◌, ℕ, ◌-◌, ◌≤◌, ℤ, pos, negsuc, ◌+ℤ◌, ◌-ℤ◌, Bool, true, false, List, [], ◌∷◌, ◌++◌, refl, sym, inl, inr, subst, ◌∙◌, arith}
use Rattle.std.specs.Prelude.{IsTrue, ◌&&◌, min}
use Rattle.std.proofs.lemmas.Int.{ints}
use Rattle.dk_base.specs.Frames.{Size, is_below, in_frame, clamped}
use Rattle.pointwise_ir.specs.declared.expr.Edge.{Edge}
use Rattle.pointwise_ir.specs.declared.expr.Edge.TheVariants.{Zero, Clamp}
use Rattle.pointwise_ir.specs.Reads.{EndsAt}
use Rattle.edge_select.specs.declared.step.Step.{Step}
use Rattle.edge_select.specs.Steps.{Lead, LeadBy, LeadOn}
use Rattle.net_build.proofs.Counting.{yes_lt}
use Rattle.edge_select.specs.Pixels.{IsBitOf}

both_true : (a b : Bool) → IsTrue a → IsTrue b → IsTrue (a && b)
both_true true b h g = g
both_true false b h g = cc

clamped_below : (side : ℕ) (x : ℤ) → 1 ≤ side → IsTrue (is_below (clamped side x) side)
clamped_below side (pos n) some = yes_lt (min n (side - 1)) side (omega (arith, some))
clamped_below side (negsuc n) some = yes_lt 0 side (omega (arith, some))

pub ends_in : (size : Size) (edge : Edge) (x y u v : ℤ) → 1 ≤ size.width → 1 ≤ size.height → EndsAt size edge x y u v → IsTrue (in_frame size u v)
ends_in size Zero x y u v some tall ((e, on), (f, too)) =
    subst (λ (p : ℤ). IsTrue (in_frame size p v)) (sym e) (subst (λ (q : ℤ). IsTrue (in_frame size x q)) (sym f) (both_true (is_below x size.width) (is_below y size.height) on too))
ends_in size Clamp x y u v some tall (e, f) =
    subst (λ (p : ℤ). IsTrue (in_frame size p v)) (sym e) (subst (λ (q : ℤ). IsTrue (in_frame size (clamped size.width x) q)) (sym f)
    (both_true (is_below (clamped size.width x) size.width) (is_below (clamped size.height y) size.height) (clamped_below size.width x some) (clamped_below size.height y tall)))

pub lead_in_frame : (size : Size) (steps : List Step) (x y u v : ℤ) → 1 ≤ size.width → 1 ≤ size.height → IsTrue (in_frame size x y) → Lead size steps x y u v → IsTrue (in_frame size u v)
lead_in_frame size [] x y u v some tall inside (e, f) = subst (λ (p : ℤ). IsTrue (in_frame size p v)) (sym e) (subst (λ (q : ℤ). IsTrue (in_frame size x q)) (sym f) inside)
lead_in_frame size (step ∷ steps) x y u v some tall inside (w, z, ends, on) = lead_in_frame size steps w z u v some tall (ends_in size step.edge (x +ℤ step.dx) (y +ℤ step.dy) w z some tall ends) on

pub clamped_ends : (size : Size) (x y : ℤ) → (u : ℤ) × (v : ℤ) × EndsAt size Clamp x y u v
clamped_ends size x y = (clamped size.width x, clamped size.height y, (refl, refl))

-- one end
ends_one : (size : Size) (edge : Edge) (x y u v a b : ℤ) → EndsAt size edge x y u v → EndsAt size edge x y a b → (u ≡ a) × (v ≡ b)
ends_one size Zero x y u v a b p q = (p.0.0 ∙ sym q.0.0, p.1.0 ∙ sym q.1.0)
ends_one size Clamp x y u v a b p q = (p.0 ∙ sym q.0, p.1 ∙ sym q.1)

pub lead_one : (size : Size) (steps : List Step) (x y u v a b : ℤ) → Lead size steps x y u v → Lead size steps x y a b → (u ≡ a) × (v ≡ b)
lead_one size [] x y u v a b p q = (p.0 ∙ sym q.0, p.1 ∙ sym q.1)
lead_one size (step ∷ steps) x y u v a b (w, z, first, on) (i, j, other, more) =
    let e = ends_one size step.edge (x +ℤ step.dx) (y +ℤ step.dy) w z i j first other in
    lead_one size steps i j u v a b (subst (λ (p : ℤ). Lead size steps p j u v) e.0 (subst (λ (q : ℤ). Lead size steps w q u v) e.1 on)) more

-- one list of steps after another
pub lead_then : (size : Size) (steps more : List Step) (x y u v a b : ℤ) → Lead size steps x y u v → Lead size more u v a b → Lead size (steps ++ more) x y a b
lead_then size [] more x y u v a b (e, f) on = subst (λ (p : ℤ). Lead size more p y a b) e (subst (λ (q : ℤ). Lead size more u q a b) f on)
lead_then size (step ∷ steps) more x y u v a b (w, z, ends, rest) on = (w, z, ends, lead_then size steps more w z u v a b rest on)

pub lead_parts : (size : Size) (steps more : List Step) (x y a b : ℤ) → Lead size (steps ++ more) x y a b → (u : ℤ) × (v : ℤ) × Lead size steps x y u v × Lead size more u v a b
lead_parts size [] more x y a b on = (x, y, (refl, refl), on)
lead_parts size (step ∷ steps) more x y a b (w, z, ends, rest) = (let r = lead_parts size steps more w z a b rest in (r.0, r.1, (w, z, ends, r.2), r.3))

-- by one way
way : (x u : ℤ) → x +ℤ (u -ℤ x) ≡ u
way x u = omega (arith, ints)

same_way : (x d e : ℤ) → x +ℤ d ≡ x +ℤ e → d ≡ e
same_way x d e h = omega (arith, ints, h)

pub way_of : (size : Size) (steps : List Step) (x y : ℕ) → LeadOn size steps x y → (dx : ℤ) × (dy : ℤ) × LeadBy size steps dx dy x y
way_of size steps x y (u, v, on) = (
  u -ℤ pos x,
  v -ℤ pos y,
  subst (λ (p : ℤ). Lead size steps (pos x) (pos y) p (pos y +ℤ (v -ℤ pos y))) (sym (way (pos x) u)) (subst (λ (q : ℤ). Lead size steps (pos x) (pos y) u q) (sym (way (pos y) v)) on),
)

pub one_way : (size : Size) (steps : List Step) (dx dy ex ey : ℤ) (x y : ℕ) → LeadBy size steps dx dy x y → LeadBy size steps ex ey x y → (dx ≡ ex) × (dy ≡ ey)
one_way size steps dx dy ex ey x y p q =
    let e = lead_one size steps (pos x) (pos y) (pos x +ℤ dx) (pos y +ℤ dy) (pos x +ℤ ex) (pos y +ℤ ey) p q in
    (same_way (pos x) dx ex e.0, same_way (pos y) dy ey e.1)

-- a bit that is 1
pub is_passed : (P : Type 0) (v : ℕ) → IsBitOf P v → v ≡ 1 → P
is_passed P v (inl h) e = h.0
is_passed P v (inr h) e = absurd (omega (arith, h.1, e))

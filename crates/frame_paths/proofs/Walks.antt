-- Paths, columns and rows apart.
use Rattle.std.proofs.Common.{◌≡◌, ℕ, ℤ, Bool, true, false, ◌&&◌, refl, subst, IsTrue, Option}
use Rattle.dk_base.specs.Frames.{Size, in_frame, is_below}
use Rattle.pointwise_ir.specs.declared.expr.Edge.{Edge}
use Rattle.frame_paths.specs.declared.moves.Moves.{Moves}
use Rattle.frame_paths.specs.declared.path.Path.{Path}
use Rattle.frame_paths.specs.Moves.{Leads, LeadsOn, LeadsThen}
use Rattle.frame_paths.specs.Paths.{LeadsTo, LeadsToOn, StepsTo}

pub both_true : (a b : Bool) → IsTrue (a && b) → IsTrue a × IsTrue b
both_true true true t = (refl, refl)
both_true true false t = absurd (cc (t))
both_true false b t = absurd (cc (t))

pub true_both : (a b : Bool) → IsTrue a → IsTrue b → IsTrue (a && b)
true_both true true s t = refl
true_both true false s t = absurd (cc (t))
true_both false b s t = absurd (cc (s))

pub steps_apart : (size : Size) (p : Path) (edge : Edge) (dx dy x y u v : ℤ) → StepsTo size p edge dx dy x y u v → LeadsThen size.width p.across edge dx x u × LeadsThen size.height p.down edge dy y v
steps_apart size p edge dx dy x y u v s = ((s.0, s.2.across, s.3.0), (s.1, s.2.down, s.3.1))

pub steps_together : (size : Size) (p : Path) (edge : Edge) (dx dy x y u v : ℤ) → LeadsThen size.width p.across edge dx x u → LeadsThen size.height p.down edge dy y v → StepsTo size p edge dx dy x y u v
steps_together size p edge dx dy x y u v a b = (a.0, b.0, record { across = a.1; down = b.1 }, (a.2, b.2))

-- what steps lead to
abbrev pub StepsAs : Size → Path → Edge → (dx dy : ℤ) → Option Path → Type 0
StepsAs size p edge dx dy o = (x y u v : ℤ) → (LeadsToOn o x y u v → StepsTo size p edge dx dy x y u v) × (StepsTo size p edge dx dy x y u v → LeadsToOn o x y u v)

pub steps_moved : (size : Size) (p : Path) (edge : Edge) (dx dy dx' dy' : ℤ) (o : Option Path) → dx' ≡ dx → dy' ≡ dy → StepsAs size p edge dx' dy' o → StepsAs size p edge dx dy o
steps_moved size p edge dx dy dx' dy' o a b s = subst (λ d. StepsAs size p edge dx d o) b (subst (λ d. StepsAs size p edge d dy' o) a s)

pub none_leads : (size : Size) (across down : Moves) → ((x u : ℤ) → (Leads across x u → (u ≡ x) × IsTrue (is_below x size.width)) × ((u ≡ x) × IsTrue (is_below x size.width) → Leads across x u))
    → ((y v : ℤ) → (Leads down y v → (v ≡ y) × IsTrue (is_below y size.height)) × ((v ≡ y) × IsTrue (is_below y size.height) → Leads down y v))
    → (x y u v : ℤ) → (LeadsTo (record { across = across; down = down }) x y u v → (u ≡ x) × (v ≡ y) × IsTrue (in_frame size x y)) × ((u ≡ x) × (v ≡ y) × IsTrue (in_frame size x y) → LeadsTo (record { across = across; down = down }) x y u v)
none_leads size across down a d x y u v = (
  (λ l. let i = (a x u).0 l.across in let j = (d y v).0 l.down in (i.0, j.0, true_both (is_below x size.width) (is_below y size.height) i.1 j.1)),
  (λ l. let b = both_true (is_below x size.width) (is_below y size.height) l.2 in record { across = (a x u).1 (l.0, b.0); down = (d y v).1 (l.1, b.1) }),
)

abbrev LeadsAs : ℕ → Moves → Edge → ℤ → Option Moves → Type 0
LeadsAs side m edge by o = (x u : ℤ) → (LeadsOn o x u → LeadsThen side m edge by x u) × (LeadsThen side m edge by x u → LeadsOn o x u)

pub joined_leads : (size : Size) (p : Path) (edge : Edge) (dx dy : ℤ) (a d : Option Moves) (o : Option Path) → LeadsAs size.width p.across edge dx a → LeadsAs size.height p.down edge dy d
    → ((x y u v : ℤ) → (LeadsToOn o x y u v → LeadsOn a x u × LeadsOn d y v) × (LeadsOn a x u × LeadsOn d y v → LeadsToOn o x y u v)) → StepsAs size p edge dx dy o
joined_leads size p edge dx dy a d o s t j x y u v = (
  (λ l. let k = (j x y u v).0 l in steps_together size p edge dx dy x y u v ((s x u).0 k.0) ((t y v).0 k.1)),
  (λ l. let k = steps_apart size p edge dx dy x y u v l in (j x y u v).1 ((s x u).1 k.0, (t y v).1 k.1)),
)

pub leads_moved : (side : ℕ) (m : Moves) (edge : Edge) (by by' : ℤ) (o : Option Moves) → by' ≡ by → LeadsAs side m edge by' o → LeadsAs side m edge by o
leads_moved side m edge by by' o e s = subst (λ b. LeadsAs side m edge b o) e s

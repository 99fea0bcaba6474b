-- What is read at the ends of paths.
use Rattle.std.proofs.Common.{◌≡◌, ℕ, ℤ, ◌+ℤ◌, ◌⊎◌, inl, inr, List, [], ◌∷◌, ◌++◌, sym, subst, Some, None, OnOk, All, Result}
use Rattle.std.proofs.lemmas.List.Elements.{All-append, All-from_recursion}
use Rattle.dk_base.specs.declared.operator.Binary.{Binary}
use Rattle.dk_base.specs.Frames.{Size}
use Rattle.pointwise_ir.specs.declared.expr.Edge.{Edge}
use Rattle.pointwise_ir.specs.Trees.{Tree, read, shifted, binary, select}
use Rattle.frame_paths.specs.declared.moves.Offsets.{Offsets}
use Rattle.frame_paths.specs.declared.path.Path.{Path}
use Rattle.frame_paths.specs.Moves.{Leads, IsOffset}
use Rattle.frame_paths.specs.Paths.{LeadsTo}
use Rattle.frame_paths.proofs.Walks.{StepsAs}
use Rattle.stencil_sets.specs.declared.path.Rect.{Rect}
use Rattle.stencil_sets.specs.Paths.{IsIn, IsNearRect, Covered, ReadsFrom}

-- one rectangle more
covered_more : (rs : List Rect) (r : Rect) (g : ℕ) (dx dy : ℤ) → Covered (rs ++ r ∷ []) g dx dy → Covered rs g dx dy ⊎ IsIn r g dx dy
covered_more [] r g dx dy (inl i) = inr i
covered_more [] r g dx dy (inr n) = absurd n
covered_more (q ∷ rs) r g dx dy (inl i) = inl (inl i)
covered_more (q ∷ rs) r g dx dy (inr c) = later (covered_more rs r g dx dy c)
  where
    later : Covered rs g dx dy ⊎ IsIn r g dx dy → (IsIn q g dx dy ⊎ Covered rs g dx dy) ⊎ IsIn r g dx dy
    later (inl d) = inl (inr d)
    later (inr i) = inr i

covered_same : (rs : List Rect) (r : Rect) (g : ℕ) (dx dy : ℤ) → Covered rs g dx dy ⊎ IsIn r g dx dy → Covered (rs ++ r ∷ []) g dx dy
covered_same [] r g dx dy (inl n) = absurd n
covered_same [] r g dx dy (inr i) = inl i
covered_same (q ∷ rs) r g dx dy (inl (inl i)) = inl i
covered_same (q ∷ rs) r g dx dy (inl (inr c)) = inr (covered_same rs r g dx dy (inl c))
covered_same (q ∷ rs) r g dx dy (inr i) = inr (covered_same rs r g dx dy (inr i))

-- the new rectangles have what the old ones have, and these offsets
abbrev pub Adds : (old new : List Rect) → (ℕ → ℤ → ℤ → Type 0) → Type 0
Adds old new R = (g : ℕ) (x y : ℤ) → (Covered new g x y → Covered old g x y ⊎ R g x y) × (Covered old g x y ⊎ R g x y → Covered new g x y)

either_of : {A B C D : Type 0} → (A → C) → (B → D) → A ⊎ B → C ⊎ D
either_of f g (inl a) = inl (f a)
either_of f g (inr b) = inr (g b)

third : {A B C D : Type 0} → (B ⊎ C → D) → (A ⊎ B) ⊎ C → A ⊎ D
third f (inl (inl a)) = inl a
third f (inl (inr b)) = inr (f (inl b))
third f (inr c) = inr (f (inr c))

split_third : {A B C D : Type 0} → (D → B ⊎ C) → A ⊎ D → (A ⊎ B) ⊎ C
split_third f (inl a) = inl (inl a)
split_third {A = A} {B = B} {C = C} f (inr d) = placed (f d)
  where
    placed : B ⊎ C → (A ⊎ B) ⊎ C
    placed (inl b) = inl (inr b)
    placed (inr c) = inr c

pub adds_both : (old mid new : List Rect) (A B C : ℕ → ℤ → ℤ → Type 0) → Adds old mid A → Adds mid new B
    → ((g : ℕ) (x y : ℤ) → C g x y → A g x y ⊎ B g x y) → ((g : ℕ) (x y : ℤ) → A g x y ⊎ B g x y → C g x y) → Adds old new C
adds_both old mid new A B C a b split join g x y = (
  (λ c. third (join g x y) (either_of (a g x y).0 (λ k. k) ((b g x y).0 c))),
  (λ c. (b g x y).1 (either_of (a g x y).1 (λ k. k) (split_third (split g x y) c))),
)

pub adds_nothing : (old : List Rect) (R : ℕ → ℤ → ℤ → Type 0) → ((g : ℕ) (x y : ℤ) → R g x y → ⊥) → Adds old old R
adds_nothing old R n g x y = (inl, kept)
  where
    kept : Covered old g x y ⊎ R g x y → Covered old g x y
    kept (inl c) = c
    kept (inr r) = absurd (n g x y r)

pub adds_same : (old new : List Rect) (A B : ℕ → ℤ → ℤ → Type 0) → ((g : ℕ) (x y : ℤ) → (A g x y → B g x y) × (B g x y → A g x y)) → Adds old new A → Adds old new B
adds_same old new A B s a g x y = ((λ c. either_of (λ k. k) (s g x y).0 ((a g x y).0 c)), (λ c. (a g x y).1 (either_of (λ k. k) (s g x y).1 c)))

pub adds_one : (old new : List Rect) (R : ℕ → ℤ → ℤ → Type 0) (r : Rect) → new ≡ old ++ r ∷ []
    → ((g : ℕ) (x y : ℤ) → (IsIn r g x y → R g x y) × (R g x y → IsIn r g x y)) → Adds old new R
adds_one old new R r e s g x y =
    rw e ((λ c. either_of (λ k. k) (s g x y).0 (covered_more old r g x y c)), (λ c. covered_same old r g x y (either_of (λ k. k) (s g x y).1 c)))

pub no_step : (size : Size) (p : Path) (edge : Edge) (h : ℕ) (dx dy : ℤ) → StepsAs size p edge dx dy None → (g : ℕ) (x y : ℤ) → ReadsFrom size (read edge h dx dy) p g x y → ⊥
no_step size p edge h dx dy s g x y r = (s r.0 r.1 (r.0 +ℤ x) (r.1 +ℤ y)).1 (r.2, r.3, r.4, r.5.1)

pub no_shift : (size : Size) (p : Path) (edge : Edge) (dx dy : ℤ) (a : Tree) → StepsAs size p edge dx dy None → (g : ℕ) (x y : ℤ) → ReadsFrom size (shifted edge dx dy a) p g x y → ⊥
no_shift size p edge dx dy a s g x y r = (s r.0 r.1 r.5.0 r.5.1).1 (r.2, r.3, r.4, r.5.2)

pub read_end : (size : Size) (p end : Path) (edge : Edge) (h : ℕ) (dx dy : ℤ) (rect : Rect) → StepsAs size p edge dx dy (Some end)
    → ((g : ℕ) (ox oy : ℤ) → (IsIn rect g ox oy → (h ≡ g) × (x : ℤ) × (y : ℤ) × LeadsTo end x y (x +ℤ ox) (y +ℤ oy)) × (((h ≡ g) × (x : ℤ) × (y : ℤ) × LeadsTo end x y (x +ℤ ox) (y +ℤ oy)) → IsIn rect g ox oy))
    → (g : ℕ) (ox oy : ℤ) → (IsIn rect g ox oy → ReadsFrom size (read edge h dx dy) p g ox oy) × (ReadsFrom size (read edge h dx dy) p g ox oy → IsIn rect g ox oy)
read_end size p end edge h dx dy rect s i g ox oy = (
  (λ k. let e = (i g ox oy).0 k in let t = (s e.1 e.2 (e.1 +ℤ ox) (e.2 +ℤ oy)).0 e.3 in (e.1, e.2, t.0, t.1, t.2, (sym e.0, t.3))),
  (λ r. (i g ox oy).1 (sym r.5.0, r.0, r.1, (s r.0 r.1 (r.0 +ℤ ox) (r.1 +ℤ oy)).1 (r.2, r.3, r.4, r.5.1))),
)

pub shift_end : (size : Size) (p end : Path) (edge : Edge) (dx dy : ℤ) (a : Tree) → StepsAs size p edge dx dy (Some end)
    → (g : ℕ) (ox oy : ℤ) → (ReadsFrom size a end g ox oy → ReadsFrom size (shifted edge dx dy a) p g ox oy) × (ReadsFrom size (shifted edge dx dy a) p g ox oy → ReadsFrom size a end g ox oy)
shift_end size p end edge dx dy a s g ox oy = (
  (λ r. let t = (s r.0 r.1 r.2 r.3).0 r.4 in (r.0, r.1, t.0, t.1, t.2, (r.2, r.3, t.3, r.5))),
  (λ r. (r.0, r.1, r.5.0, r.5.1, (s r.0 r.1 r.5.0 r.5.1).1 (r.2, r.3, r.4, r.5.2), r.5.3)),
)

pub two_split : (size : Size) (o : Binary) (a b : Tree) (p : Path) (g : ℕ) (x y : ℤ) → ReadsFrom size (binary o a b) p g x y → ReadsFrom size a p g x y ⊎ ReadsFrom size b p g x y
two_split size o a b p g x y r = either_of (λ k. (r.0, r.1, r.2, r.3, r.4, k)) (λ k. (r.0, r.1, r.2, r.3, r.4, k)) r.5

pub two_join : (size : Size) (o : Binary) (a b : Tree) (p : Path) (g : ℕ) (x y : ℤ) → ReadsFrom size a p g x y ⊎ ReadsFrom size b p g x y → ReadsFrom size (binary o a b) p g x y
two_join size o a b p g x y (inl r) = (r.0, r.1, r.2, r.3, r.4, inl r.5)
two_join size o a b p g x y (inr r) = (r.0, r.1, r.2, r.3, r.4, inr r.5)

abbrev pub Three : Size → Tree → Tree → Tree → Path → ℕ → ℤ → ℤ → Type 0
Three size c a b p g x y = ReadsFrom size c p g x y ⊎ (ReadsFrom size a p g x y ⊎ ReadsFrom size b p g x y)

pub three_split : (size : Size) (c a b : Tree) (p : Path) (g : ℕ) (x y : ℤ) → ReadsFrom size (select c a b) p g x y → Three size c a b p g x y
three_split size c a b p g x y r = either_of (λ k. (r.0, r.1, r.2, r.3, r.4, k)) (λ s. either_of (λ k. (r.0, r.1, r.2, r.3, r.4, k)) (λ k. (r.0, r.1, r.2, r.3, r.4, k)) s) r.5

pub three_join : (size : Size) (c a b : Tree) (p : Path) (g : ℕ) (x y : ℤ) → Three size c a b p g x y → ReadsFrom size (select c a b) p g x y
three_join size c a b p g x y (inl r) = (r.0, r.1, r.2, r.3, r.4, inl r.5)
three_join size c a b p g x y (inr (inl r)) = (r.0, r.1, r.2, r.3, r.4, inr (inl r.5))
three_join size c a b p g x y (inr (inr r)) = (r.0, r.1, r.2, r.3, r.4, inr (inr r.5))

pub adds_three : (old one two new : List Rect) (A B C D : ℕ → ℤ → ℤ → Type 0) → Adds old one A → Adds one two B → Adds two new C
    → ((g : ℕ) (x y : ℤ) → D g x y → A g x y ⊎ (B g x y ⊎ C g x y)) → ((g : ℕ) (x y : ℤ) → A g x y ⊎ (B g x y ⊎ C g x y) → D g x y) → Adds old new D
adds_three old one two new A B C D a b c split join =
    adds_both old one new A (λ g x y. B g x y ⊎ C g x y) D a (adds_both one two new B C (λ g x y. B g x y ⊎ C g x y) b c (λ g x y k. k) (λ g x y k. k)) split join

pub rect_leads : (p : Path) (image : ℕ) (across down : Offsets) → ((d : ℤ) → (IsOffset across d → (x : ℤ) × Leads p.across x (x +ℤ d)) × (((x : ℤ) × Leads p.across x (x +ℤ d)) → IsOffset across d))
    → ((d : ℤ) → (IsOffset down d → (y : ℤ) × Leads p.down y (y +ℤ d)) × (((y : ℤ) × Leads p.down y (y +ℤ d)) → IsOffset down d))
    → (g : ℕ) (dx dy : ℤ) → (IsIn (record { image = image; across = across; down = down }) g dx dy → (image ≡ g) × (x : ℤ) × (y : ℤ) × LeadsTo p x y (x +ℤ dx) (y +ℤ dy))
    × (((image ≡ g) × (x : ℤ) × (y : ℤ) × LeadsTo p x y (x +ℤ dx) (y +ℤ dy)) → IsIn (record { image = image; across = across; down = down }) g dx dy)
rect_leads p image across down a d g dx dy = (
  (λ i. let x = (a dx).0 i.across in let y = (d dy).0 i.down in (i.image, x.0, y.0, record { across = x.1; down = y.1 })),
  (λ l. record { image = l.0; across = (a dx).1 (l.1, l.3.across); down = (d dy).1 (l.2, l.3.down) }),
)

pub as_tree : {E : Type 0} (size : Size) (p : Path) (old new : List Rect) (r : Result (Unit {0}) E) (e e' : Tree) → e ≡ e' → OnOk r (Adds old new (ReadsFrom size e' p)) → OnOk r (Adds old new (ReadsFrom size e p))
as_tree size p old new r e e' h a = subst (λ t. OnOk r (Adds old new (ReadsFrom size t p))) (sym h) a

pub near_more : (rs : List Rect) (r : Rect) → All IsNearRect rs → IsNearRect r → All IsNearRect (rs ++ r ∷ [])
near_more rs r h k = All-append IsNearRect rs (r ∷ []) h (All-from_recursion IsNearRect (r ∷ []) (k, tt))

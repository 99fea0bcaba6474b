-- What a write to a flow does at the nodes, and what a push along a tree leaves as it was.
use Rattle.std.proofs.Common.{◌≡◌, ◌≢◌, ◌<◌, ◌≤◌, ℕ, zero, suc, List, [], ◌∷◌, length, get_or, set, slice_index, ◌+◌, ◌-◌, true, false, eqb, cond, map, refl, ap, sym, ◌∙◌, arith, inl, inr, subst, get_or-set_other}
use Rattle.std.specs.Prelude.{◌⊎◌}
use Rattle.std.specs.List.{zip}
use Rattle.std.proofs.lemmas.List.Sums.{sum_by-cons}
use Rattle.std.proofs.lemmas.List.{length-map}
use Rattle.std.proofs.lemmas.Bool.{cases_eq}
use Rattle.raster_delay.specs.Network.{amount_at, inflow, outflow, constraint_at}
use Rattle.raster_delay.specs.declared.network.Constraint.{Constraint}
use Rattle.raster_delay.proofs.Amounts.{spot}
use Rattle.flow_dual.specs.Tree.{IsTree, IsLink, IsBefore, Moves, ChangesOnlyOn}

amount_at-cons : (k a : ℕ) (xs : List (ℕ × ℕ)) (v : ℕ) → amount_at ((k, a) ∷ xs) v ≡ spot k a v + amount_at xs v
amount_at-cons k a xs v = sum_by-cons (λ (b : ℕ × ℕ). cond (eqb b.0 v) b.1 0) (k, a) xs

amount-set : (ns xs : List ℕ) (i y v : ℕ) → i < length ns → i < length xs
    → amount_at (zip ns (set xs i y)) v + spot (get_or ns i 0) (get_or xs i 0) v ≡ amount_at (zip ns xs) v + spot (get_or ns i 0) y v
amount-set [] xs i y v h k = absurd (omega arith)
amount-set (n ∷ ns) [] i y v h k = absurd (omega arith)
amount-set (n ∷ ns) (x ∷ xs) zero y v h k = omega (arith, amount_at-cons n x (zip ns xs) v, amount_at-cons n y (zip ns xs) v)
amount-set (n ∷ ns) (x ∷ xs) (suc i) y v h k =
    omega (arith, amount_at-cons n x (zip ns xs) v, amount_at-cons n x (zip ns (set xs i y)) v, amount-set ns xs i y v (omega arith) (omega arith))

spot-add : (k a b v : ℕ) → spot k (a + b) v ≡ spot k a v + spot k b v
spot-add k a b v = elim (eqb k v) as (λ t. cond t (a + b) 0 ≡ cond t a 0 + cond t b 0) [ true ↦ refl | false ↦ refl ]

placed_zero : (k v : ℕ) → spot k 0 v ≡ zero
placed_zero k v = elim (eqb k v) as (λ t. ◌≡◌ {A = ℕ} (cond t 0 0) 0) [ true ↦ refl | false ↦ refl ]

pub target_at : (cs : List Constraint) (i : ℕ) → get_or (map (λ (c : Constraint). c.target) cs) i 0 ≡ (constraint_at cs i).target
target_at [] i = refl
target_at (c ∷ cs) zero = refl
target_at (c ∷ cs) (suc i) = target_at cs i

pub source_at : (cs : List Constraint) (i : ℕ) → get_or (map (λ (c : Constraint). c.source) cs) i 0 ≡ (constraint_at cs i).source
source_at [] i = refl
source_at (c ∷ cs) zero = refl
source_at (c ∷ cs) (suc i) = source_at cs i

-- a write at i, seen at the target and at the source
inflow-set : (cs : List Constraint) (flow : List ℕ) (i y v : ℕ) → i < length cs → length flow ≡ length cs
    → inflow cs (set flow i y) v + spot (constraint_at cs i).target (get_or flow i 0) v ≡ inflow cs flow v + spot (constraint_at cs i).target y v
inflow-set cs flow i y v h e =
    let target : Constraint → ℕ = λ c. c.target in
    let short : i < length (map target cs) = omega (arith, length-map cs target) in
    rw target_at at (amount-set (map target cs) flow i y v short (omega arith))

outflow-set : (cs : List Constraint) (flow : List ℕ) (i y v : ℕ) → i < length cs → length flow ≡ length cs
    → outflow cs (set flow i y) v + spot (constraint_at cs i).source (get_or flow i 0) v ≡ outflow cs flow v + spot (constraint_at cs i).source y v
outflow-set cs flow i y v h e =
    let source : Constraint → ℕ = λ c. c.source in
    let short : i < length (map source cs) = omega (arith, length-map cs source) in
    rw source_at at (amount-set (map source cs) flow i y v short (omega arith))

-- one more constraint forward
pub Moves-forward : (cs : List Constraint) (old mid : List ℕ) (root i a : ℕ) → i < length cs → length mid ≡ length cs
    → Moves cs old mid root (constraint_at cs i).source a → Moves cs old (set mid i (get_or mid i 0 + a)) root (constraint_at cs i).target a
Moves-forward cs old mid root i a h e moves = λ v.
    let m : ℕ = get_or mid i 0 in
    omega (
      arith,
      moves v,
      inflow-set cs mid i (m + a) v h e,
      outflow-set cs mid i (m + a) v h e,
      spot-add (constraint_at cs i).target m a v,
      spot-add (constraint_at cs i).source m a v,
    )

-- one more constraint backward
pub Moves-backward : (cs : List Constraint) (old mid : List ℕ) (root i a : ℕ) → i < length cs → length mid ≡ length cs → a ≤ get_or mid i 0
    → Moves cs old mid root (constraint_at cs i).target a → Moves cs old (set mid i (get_or mid i 0 - a)) root (constraint_at cs i).source a
Moves-backward cs old mid root i a h e le moves = λ v.
    let rest : ℕ = get_or mid i 0 - a in
    let whole : get_or mid i 0 ≡ rest + a = omega arith in
    omega (
      arith,
      moves v,
      inflow-set cs mid i rest v h e,
      outflow-set cs mid i rest v h e,
      ap (λ m. spot (constraint_at cs i).target m v) whole,
      ap (λ m. spot (constraint_at cs i).source m v) whole,
      spot-add (constraint_at cs i).target rest a v,
      spot-add (constraint_at cs i).source rest a v,
    )

-- a write on the node's own parent
pub ChangesOnlyOn-more : (order parent : List ℕ) (root prev node y : ℕ) (old mid : List ℕ) → ChangesOnlyOn order parent root prev old mid
    → slice_index order prev < slice_index order node → node ≢ root
    → ChangesOnlyOn order parent root node old (set mid (slice_index parent node) y)
ChangesOnlyOn-more order parent root prev node y old mid changes later other = λ i differs. elim (cases_eq i (slice_index parent node)) [
  | inl same ↦ (node, other, omega arith, omega arith, sym same)
  | inr not ↦
      let kept : slice_index (set mid (slice_index parent node) y) i ≡ slice_index mid i = get_or-set_other mid (slice_index parent node) i y 0 not in
      let u = changes i (λ e. differs (kept ∙ e)) in
      (u.0, u.1, u.2, omega (arith, u.3), u.4)
]

-- two nodes do not hang on one constraint
apart : (order : List ℕ) (u v source target flow : ℕ)
    → ((target ≡ v) × IsBefore order source v) ⊎ ((source ≡ v) × (0 < flow) × IsBefore order target v)
    → ((target ≡ u) × IsBefore order source u) ⊎ ((source ≡ u) × (0 < flow) × IsBefore order target u)
    → slice_index order u < slice_index order v → ⊥
apart order u v source target flow (inl a) (inl b) h = omega (arith, ap (slice_index order) (sym a.0 ∙ b.0))
apart order u v source target flow (inl a) (inr b) h = omega (arith, b.2, ap (slice_index order) a.0)
apart order u v source target flow (inr a) (inl b) h = omega (arith, b.1, ap (slice_index order) a.0)
apart order u v source target flow (inr a) (inr b) h = omega (arith, ap (slice_index order) (sym a.0 ∙ b.0))

-- so a push to an earlier node leaves the node's own parent as it was
pub parent_kept : (cs : List Constraint) (order parent : List ℕ) (root prev node : ℕ) (old mid : List ℕ)
    → IsTree cs old order parent root → ChangesOnlyOn order parent root prev old mid
    → slice_index order prev < slice_index order node → node ≢ root
    → slice_index mid (slice_index parent node) ≡ slice_index old (slice_index parent node)
parent_kept cs order parent root prev node old mid tree changes later other =
    elim (cases_eq (slice_index mid (slice_index parent node)) (slice_index old (slice_index parent node))) [
      | inl same ↦ same
      | inr differs ↦
          let u = changes (slice_index parent node) differs in
          let hangs = tree.links node other (omega arith) in
          let link = tree.links u.0 u.1 u.2 in
          let link' : IsLink cs old order (slice_index parent node) u.0 = subst (λ i. IsLink cs old order i u.0) u.4 link in
          absurd (apart order u.0 node (constraint_at cs (slice_index parent node)).source (constraint_at cs (slice_index parent node)).target (slice_index old (slice_index parent node)) hangs link' (omega (arith, u.3)))
    ]

-- the end of a link that is not the node was reached before it
pub target_differs : (cs : List Constraint) (flow order : List ℕ) (i v : ℕ) → IsLink cs flow order i v → (constraint_at cs i).target ≡ v
    → slice_index order (constraint_at cs i).source < slice_index order v
target_differs cs flow order i v (inl a) e = a.1.1
target_differs cs flow order i v (inr a) e = absurd (omega (arith, a.2, ap (slice_index order) e))

pub source_differs : (cs : List Constraint) (flow order : List ℕ) (i v : ℕ) → IsLink cs flow order i v → (constraint_at cs i).target ≢ v
    → ((constraint_at cs i).source ≡ v) × (slice_index order (constraint_at cs i).target < slice_index order v)
source_differs cs flow order i v (inl a) ne = absurd (ne a.0)
source_differs cs flow order i v (inr a) ne = (a.0, a.2.1)

-- one move after another
pub Moves-more : (cs : List Constraint) (a b c : List ℕ) (from to x y z : ℕ) → x + y ≡ z → Moves cs a b from to x → Moves cs b c from to y → Moves cs a c from to z
Moves-more cs a b c from to x y z e first second = λ v.
    omega (arith, first v, second v, spot-add from x y v, spot-add to x y v, ap (λ n. spot from n v) e, ap (λ n. spot to n v) e)

-- a flow of nothing is balanced
zero_amount : (ns xs : List ℕ) (v : ℕ) → ((i : ℕ) → slice_index xs i ≡ 0) → amount_at (zip ns xs) v ≡ 0
zero_amount [] xs v h = refl
zero_amount (n ∷ ns) [] v h = refl
zero_amount (n ∷ ns) (x ∷ xs) v h = omega (arith, amount_at-cons n x (zip ns xs) v, zero_amount ns xs v (λ i. h (suc i)), ap (λ a. spot n a v) (h 0), placed_zero n v)

pub empty_balanced : (cs : List Constraint) (flow : List ℕ) → ((i : ℕ) → slice_index flow i ≡ 0) → (v : ℕ) → inflow cs flow v ≡ outflow cs flow v
empty_balanced cs flow h v =
    zero_amount (map (λ (c : Constraint). c.target) cs) flow v h ∙ sym (zero_amount (map (λ (c : Constraint). c.source) cs) flow v h)

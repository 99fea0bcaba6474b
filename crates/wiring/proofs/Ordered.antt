-- The search begins and ends well.
use Rattle.std.proofs.Common.{◌≡◌, ◌≢◌, ℕ, suc, ◌<◌, List, [], length, get_or, ap, subst, sym, ◌∙◌, inl, inr, arith, Some}
use Rattle.std.specs.Prelude.{slice_get}
use Rattle.std.proofs.lemmas.Option.{same_Some, slice_get_within, slice_get-get_or}
use Rattle.wiring.specs.declared.netlist.Assign.{Assign}
use Rattle.wiring.specs.declared.order.Mark.{Mark}
use Rattle.wiring.specs.declared.order.Mark.TheVariants.{New, Open, Done}
use Rattle.wiring.specs.declared.order.Visit.{Visit}
use Rattle.wiring.specs.Order.{Feeds, DependsOn, directly, through, IsEvaluationOrder, IsAcyclic}
use Rattle.wiring.specs.Moves.{IsSearch, Enters, KeepsMarks}
use Rattle.wiring.specs.declared.order.Search.{Search}
use Rattle.std.proofs.lemmas.Bool.{cases_eq}
use Rattle.wiring.proofs.Search.{enter_keeps, get_set_same, get_set_other}

-- what the first assign of a path leaves
pub record Begins (assigns : List Assign) (old new : Search) (start : ℕ) : Type 0 where
  pub search : IsSearch assigns new.marks.items new.path.items new.order.items
  pub marks : KeepsMarks old.marks.items new.marks.items
  pub visited : slice_get new.marks.items start ≢ Some New

pub enter_first : (assigns : List Assign) (old new : Search) (start : ℕ) → IsSearch assigns old.marks.items old.path.items old.order.items → old.path.items ≡ [] →
    slice_get old.marks.items start ≡ Some New → Enters old new start → Begins assigns old new start
enter_first assigns old new start search empty is_new enters =
    let fed : (i : ℕ) (w : Visit) → slice_get old.path.items i ≡ Some w → suc i ≡ length old.path.items → Feeds assigns start w.assign =
    λ i w at e. absurd (omega (arith, e, ap length empty)) in
    let kept = enter_keeps assigns old.marks.items old.path.items old.order.items search start is_new fed in
    let within = slice_get_within old.marks.items start New is_new in
    let opened : slice_get new.marks.items start ≡ Some Open = ap (λ (l : List Mark). slice_get l start) enters.marks ∙ get_set_same old.marks.items start Open within in
    record {
      search = rw (enters.marks, enters.path, enters.order) kept;
      marks = λ k was is. elim (cases_eq k start) as (λ _. ⊥) [
        | inl e ↦ was (subst (λ (z : ℕ). slice_get old.marks.items z ≡ Some New) (sym e) is_new)
        | inr ne ↦ was (sym (get_set_other old.marks.items start k Open ne) ∙ ap (λ (l : List Mark). slice_get l k) (sym enters.marks) ∙ is)
      ];
      visited = λ is. apart_marks (same_Some New Open (sym is ∙ opened));
    }
  where
    apart_marks : New ≡ Open → ⊥
    apart_marks e = cc

-- at the end
pub search_ends : (assigns : List Assign) (marks : List Mark) (order : List ℕ) → IsSearch assigns marks [] order → ((k : ℕ) → k < length assigns → slice_get marks k ≢ Some New) → IsEvaluationOrder assigns order
search_ends assigns marks order search all = record {
  within = λ p k at. omega (arith, slice_get_within marks k Done (search.order_done p k at), search.size);
  once = search.order_once;
  all = λ k l. search.done_order k (done k l);
  behind = search.behind;
}
  where
    by : (k : ℕ) (x : Mark) → k < length assigns → slice_get marks k ≡ Some x → slice_get marks k ≡ Some Done
    by k New l at = absurd (all k l at)
    by k Done l at = at
    by k Open l at = absurd (let there = search.open_path k at in none there.0 there.1 there.2)
      where
        none : (i : ℕ) (v : Visit) → slice_get [] i ≡ Some v → ⊥
        none i v e = cc

    done : (k : ℕ) → k < length assigns → slice_get marks k ≡ Some Done
    done k l = by k (get_or marks k New) l (slice_get-get_or marks k New (omega (arith, l, search.size)))

-- where there is an evaluation order no assign depends on itself
module _ (assigns : List Assign) (order : List ℕ) (ordered : IsEvaluationOrder assigns order) where
  depends_behind : {k j : ℕ} → DependsOn assigns k j → (p : ℕ) → slice_get order p ≡ Some k → (q : ℕ) × (q < p) × (slice_get order q ≡ Some j)
  depends_behind {k} {j} (directly f) p at = ordered.behind p j k at f
  depends_behind {k} {j} (through {i = i} {j = m} f d) p at =
      let mid = ordered.behind p m k at f in
      let end = depends_behind d mid.0 mid.2 in
      (end.0, omega (arith, mid.1, end.1), end.2)

  depends_within : {k j : ℕ} → DependsOn assigns k j → k < length assigns
  depends_within {k} {j} (directly f) = slice_get_within assigns k f.to f.to_at
  depends_within {k} {j} (through f d) = slice_get_within assigns k f.to f.to_at

  pub order_acyclic : IsAcyclic assigns
  order_acyclic k d =
      let place = ordered.all k (depends_within d) in
      let before = depends_behind d place.0 place.1 in
      omega (arith, before.1, ordered.once before.0 place.0 k before.2 place.1)

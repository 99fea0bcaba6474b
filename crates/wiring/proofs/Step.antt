-- One move of the search.
use Rattle.std.proofs.Common.{◌≡◌, ◌≢◌, ℕ, suc, ◌+◌, ◌-◌, ◌^◌, ◌<◌, ◌≤◌, List, [], ◌∷◌, ◌++◌, length, set, take, drop, get_or, min, refl, ap, subst, sym, ◌∙◌, inl, inr, arith, Some, None}
use Rattle.std.specs.Prelude.{slice_get, slice_set}
use Rattle.std.proofs.lemmas.List.{length-take-le, take-append-drop, drop_more, drop_all, set_at, length-set}
use Rattle.std.proofs.lemmas.Bool.{cases_eq}
use Rattle.std.proofs.lemmas.Option.{same_Some, slice_get_within, get_or_from_slice_get, slice_get_read, slice_get_cases, none-some}
use Rattle.wiring.specs.declared.netlist.Assign.{Assign}
use Rattle.wiring.specs.declared.order.Mark.{Mark}
use Rattle.wiring.specs.declared.order.Mark.TheVariants.{New, Open, Done}
use Rattle.wiring.specs.declared.order.Visit.{Visit}
use Rattle.wiring.specs.declared.drivers.Drivers.{Drivers}
use Rattle.wiring.specs.declared.order.Search.{Search}
use Rattle.wiring.specs.Order.{Feeds, DependsOn}
use Rattle.wiring.specs.Moves.{FeedsAt, IsSearch, Enters, Leaves, Looks, new_count, path_weight, weight, KeepsMarks, DriverIs}
use Rattle.wiring.specs.Tables.{IsTable}
use Rattle.wiring.proofs.Lists.{at_one}
use Rattle.wiring.proofs.Search.{get_set_other, get_set_same, enter_keeps, leave_keeps, look_keeps, cycle_found}
use Rattle.wiring.proofs.Places.{feeds_driver, driver_feeds, feeds_at, count_opened, count_done, weight_push}

-- a list and its last element
pub last_split : {X : Type 0} (xs : List X) (x : X) → slice_get xs (length xs - 1) ≡ Some x → xs ≡ take (length xs - 1) xs ++ x ∷ []
last_split xs x at =
    let within = slice_get_within xs (length xs - 1) x at in
    let n = length xs - 1 in
    sym (take-append-drop n xs)
    ∙ ap (λ l. take n xs ++ l) (drop_more xs n x within ∙ ap (λ y. y ∷ drop (n + 1) xs) (get_or_from_slice_get xs n x x at) ∙ ap (λ l. x ∷ l) (drop_all (n + 1) xs (omega arith)))

-- the element that was read at the end
pub top_at : (xs : List Visit) (n : ℕ) (v : Visit) → n ≡ length xs → 0 < n → v ≡ get_or xs (n - 1) v → slice_get xs (length xs - 1) ≡ Some v
top_at xs n v e l at = subst (λ (z : ℕ). slice_get xs (z - 1) ≡ Some v) e (slice_get_read xs n (n - 1) v e (omega arith) at)

-- an assign that was read
pub assign_at : (assigns : List Assign) (k : ℕ) (a : Assign) → k < length assigns → a ≡ get_or assigns k a → slice_get assigns k ≡ Some a
assign_at assigns k a l at = slice_get_read assigns (length assigns) k a refl l at

module _ (assigns : List Assign) (d : Drivers) (table : IsTable assigns d) (k place : ℕ) where
  pub none_feeds : DriverIs assigns d k place None → (j : ℕ) → FeedsAt assigns j k place → ⊥
  none_feeds is j feeds = none-some j (is feeds.to feeds.to_at ∙ feeds_driver assigns d table k feeds.to feeds.to_at j place feeds)

  pub one_feeds : (i : ℕ) → DriverIs assigns d k place (Some i) → (j : ℕ) → FeedsAt assigns j k place → i ≡ j
  one_feeds i is j feeds = same_Some i j (is feeds.to feeds.to_at ∙ feeds_driver assigns d table k feeds.to feeds.to_at j place feeds)

  pub some_feeds : (i : ℕ) → k < length assigns → DriverIs assigns d k place (Some i) → Feeds assigns i k
  some_feeds i l is =
      elim (slice_get_cases assigns k).1 as (λ _. Feeds assigns i k) [
        | inl h ↦ driver_feeds assigns d table k h.0 h.2 i place (sym (is h.0 h.2))
        | inr h ↦ absurd (omega (arith, h.0, l))
      ]

  pub some_within : (i : ℕ) → k < length assigns → DriverIs assigns d k place (Some i) → i < length assigns
  some_within i l is = let feeds = some_feeds i l is in slice_get_within assigns i feeds.from feeds.from_at

-- what a move leaves
pub record Moves (assigns : List Assign) (old new : Search) : Type 0 where
  pub search : IsSearch assigns new.marks.items new.path.items new.order.items
  pub nearer : weight new < weight old
  pub marks : KeepsMarks old.marks.items new.marks.items

module _ (assigns : List Assign) (d : Drivers) (table : IsTable assigns d) (old new : Search) (search : IsSearch assigns old.marks.items old.path.items old.order.items)
    (v : Visit) (at : slice_get old.path.items (length old.path.items - 1) ≡ Some v) where
  abbrev front : List Visit
  front = take (length old.path.items - 1) old.path.items

  split : old.path.items ≡ front ++ v ∷ []
  split = last_split old.path.items v at

  at_split : IsSearch assigns old.marks.items (front ++ v ∷ []) old.order.items
  at_split = subst (λ (l : List Visit). IsSearch assigns old.marks.items l old.order.items) split search

  is_open : slice_get old.marks.items v.assign ≡ Some Open
  is_open = search.path_open (length old.path.items - 1) v at

  pub top_within : v.assign < length old.marks.items
  top_within = slice_get_within old.marks.items v.assign Open is_open

  pub assign_within : v.assign < length assigns
  assign_within = omega (arith, top_within, search.size)

  weight_split : path_weight old.path.items ≡ path_weight front + suc (3 - v.looked)
  weight_split = ap path_weight split ∙ weight_push front v

  set_keeps : (k : ℕ) (x : Mark) → x ≢ New → KeepsMarks old.marks.items (set old.marks.items k x)
  set_keeps k x ne j was is_new =
      elim (cases_eq j k) as (λ _. ⊥) [
        | inl e ↦
            let l = slice_get_within (set old.marks.items k x) j New is_new in
            let l' : k < length old.marks.items = omega (arith, l, e, length-set old.marks.items k x) in
            ne (same_Some x New (sym (get_set_same old.marks.items k x l') ∙ subst (λ (z : ℕ). slice_get (set old.marks.items k x) z ≡ Some New) e is_new))
        | inr apart ↦ was (sym (get_set_other old.marks.items k j x apart) ∙ is_new)
      ]

  pub leave_step : 3 ≤ v.looked → Leaves old new v.assign → Moves assigns old new
  leave_step far leaves =
      let all : (j : ℕ) → Feeds assigns j v.assign → slice_get old.marks.items j ≡ Some Done =
      λ j feeds. let f = feeds_at assigns j v.assign feeds in search.looked (length old.path.items - 1) v j f.0 at (omega (arith, f.1, far)) f.2 in
      let kept = leave_keeps assigns old.marks.items front v old.order.items at_split all in
      let count : new_count new.marks.items ≡ new_count old.marks.items = ap new_count leaves.marks ∙ count_done old.marks.items v.assign is_open in
      let path : path_weight new.path.items ≡ path_weight front = ap path_weight leaves.path in
      record {
        search = rw (leaves.marks, leaves.path, leaves.order) kept;
        nearer = omega (arith, count, path, weight_split);
        marks = subst (λ (l : List Mark). KeepsMarks old.marks.items l) (sym leaves.marks) (set_keeps v.assign Done (λ e. cc));
      }

  pub look_step : v.looked < 3 → ((j : ℕ) → FeedsAt assigns j v.assign v.looked → slice_get old.marks.items j ≡ Some Done) → Looks old new (length old.path.items - 1) v → Moves assigns old new
  look_step near here looks =
      let more : Visit = record { assign = v.assign; looked = v.looked + 1 } in
      let kept = look_keeps assigns old.marks.items front v old.order.items at_split here in
      let last : length front ≡ length old.path.items - 1 = length-take-le (length old.path.items - 1) old.path.items (omega arith) in
      let visit : (let x : Visit = record { assign = v.assign; looked = min (v.looked + 1) (2 ^ 64 - 1) } in x) ≡ more = ap (λ (z : ℕ). let x : Visit = record { assign = v.assign; looked = z } in x) (omega (arith, near)) in
      let path : new.path.items ≡ front ++ more ∷ [] =
      looks.path ∙ ap (λ (x : Visit). slice_set old.path.items (length old.path.items - 1) x) visit
      ∙ ap (λ (l : List Visit). slice_set l (length old.path.items - 1) more) split ∙ set_at front v [] more (length old.path.items - 1) last in
      let count : new_count new.marks.items ≡ new_count old.marks.items = ap new_count looks.marks in
      let heavy : path_weight new.path.items ≡ path_weight front + suc (3 - (v.looked + 1)) = ap path_weight path ∙ weight_push front more in
      record {
        search = rw (looks.marks, path, looks.order) kept;
        nearer = omega (arith, count, heavy, weight_split, near);
        marks = λ k was is_new. was (subst (λ (l : List Mark). slice_get l k ≡ Some New) looks.marks is_new);
      }

  pub enter_step : (j : ℕ) → slice_get old.marks.items j ≡ Some New → Feeds assigns j v.assign → Enters old new j → Moves assigns old new
  enter_step j is_new feeds enters =
      let fed : (i : ℕ) (w : Visit) → slice_get old.path.items i ≡ Some w → suc i ≡ length old.path.items → Feeds assigns j w.assign =
      λ i w at_i e. let same : w ≡ v = at_one old.path.items i w v at_i (subst (λ (z : ℕ). slice_get old.path.items z ≡ Some v) (let f : length old.path.items - 1 ≡ i = omega (arith, e) in f) at) in
      subst (λ (x : Visit). Feeds assigns j x.assign) (sym same) feeds in
      let kept = enter_keeps assigns old.marks.items old.path.items old.order.items search j is_new fed in
      let count : suc (new_count new.marks.items) ≡ new_count old.marks.items = ap (λ (l : List Mark). suc (new_count l)) enters.marks ∙ count_opened old.marks.items j is_new in
      let heavy : path_weight new.path.items ≡ path_weight old.path.items + 4 = ap path_weight enters.path ∙ weight_push old.path.items (record { assign = j; looked = 0 }) in
      record {
        search = rw (enters.marks, enters.path, enters.order) kept;
        nearer = omega (arith, count, heavy);
        marks = subst (λ (l : List Mark). KeepsMarks old.marks.items l) (sym enters.marks) (set_keeps j Open (λ e. cc));
      }

  pub cycle_step : (j : ℕ) → slice_get old.marks.items j ≡ Some Open → Feeds assigns j v.assign → DependsOn assigns j j
  cycle_step j opened feeds = cycle_found assigns old.marks.items front v old.order.items at_split j opened feeds

-- The moves of the search keep what it keeps.
use Rattle.std.proofs.Common.{◌≡◌, ◌≢◌, ℕ, zero, suc, ◌+◌, ◌-◌, ◌<◌, ◌⊎◌, List, [], ◌∷◌, ◌++◌, length, set, refl, ap, subst, sym, ◌∙◌, inl, inr, arith, Some}
use Rattle.std.specs.Prelude.{slice_get}
use Rattle.std.proofs.lemmas.List.{length-set}
use Rattle.std.proofs.lemmas.Bool.{cases_eq, cases_lt}
use Rattle.std.proofs.lemmas.Option.{same_Some, slice_get_within}
use Rattle.wiring.specs.declared.netlist.Assign.{Assign}
use Rattle.wiring.specs.declared.order.Mark.{Mark}
use Rattle.wiring.specs.declared.order.Mark.TheVariants.{New, Open, Done}
use Rattle.wiring.specs.declared.order.Visit.{Visit}
use Rattle.wiring.specs.Order.{Feeds, DependsOn, directly, through}
use Rattle.wiring.specs.Moves.{FeedsAt, IsSearch}
use Rattle.wiring.proofs.Lists.{at_one, slice_get-append}

pub at_push : {X : Type 0} (xs : List X) (y x : X) (k : ℕ) → slice_get (xs ++ y ∷ []) k ≡ Some x → (slice_get xs k ≡ Some x) ⊎ ((k ≡ length xs) × (y ≡ x))
at_push [] y x zero e = inr (refl, same_Some y x e)
at_push [] y x (suc k) e = cc
at_push (z ∷ xs) y x zero e = inl e
at_push (z ∷ xs) y x (suc k) e = elim (at_push xs y x k e) [ inl h ↦ inl h | inr h ↦ inr (ap suc h.0, h.1) ]

pub last_push : {X : Type 0} (xs : List X) (y : X) → slice_get (xs ++ y ∷ []) (length xs) ≡ Some y
last_push [] y = refl
last_push (x ∷ xs) y = last_push xs y

pub get_set_same : {X : Type 0} (xs : List X) (i : ℕ) (x : X) → i < length xs → slice_get (set xs i x) i ≡ Some x
get_set_same [] i x l = absurd (omega (arith, l))
get_set_same (y ∷ xs) zero x l = refl
get_set_same (y ∷ xs) (suc i) x l = get_set_same xs i x (omega arith)

pub get_set_other : {X : Type 0} (xs : List X) (i j : ℕ) (x : X) → j ≢ i → slice_get (set xs i x) j ≡ slice_get xs j
get_set_other [] i j x ne = refl
get_set_other (y ∷ xs) zero zero x ne = absurd (ne refl)
get_set_other (y ∷ xs) zero (suc j) x ne = refl
get_set_other (y ∷ xs) (suc i) zero x ne = refl
get_set_other (y ∷ xs) (suc i) (suc j) x ne = get_set_other xs i j x (λ e. ne (ap suc e))

-- what a list of marks has at k after one was set at i
set_cases : (marks : List Mark) (i k : ℕ) (x y : Mark) → i < length marks → slice_get (set marks i x) k ≡ Some y → ((k ≡ i) × (x ≡ y)) ⊎ ((k ≢ i) × (slice_get marks k ≡ Some y))
set_cases marks i k x y l at =
    elim (cases_eq k i) as (λ _. ((k ≡ i) × (x ≡ y)) ⊎ ((k ≢ i) × (slice_get marks k ≡ Some y))) [
      | inl e ↦ inl (e, same_Some x y (sym (get_set_same marks i x l) ∙ subst (λ (z : ℕ). slice_get (set marks i x) z ≡ Some y) e at))
      | inr ne ↦ inr (ne, sym (get_set_other marks i k x ne) ∙ at)
    ]

-- a mark that was something else is another's
apart : (marks : List Mark) (i k : ℕ) (x y : Mark) → slice_get marks i ≡ Some x → slice_get marks k ≡ Some y → x ≢ y → k ≢ i
apart marks i k x y at_i at_k ne e = ne (at_one marks i x y at_i (subst (λ (z : ℕ). slice_get marks z ≡ Some y) e at_k))

new_open : New ≢ Open
new_open e = cc

new_done : New ≢ Done
new_done e = cc

open_done : Open ≢ Done
open_done e = cc

module _ (assigns : List Assign) (marks : List Mark) (path : List Visit) (order : List ℕ) (search : IsSearch assigns marks path order) (k : ℕ) (new : slice_get marks k ≡ Some New)
    (fed : (i : ℕ) (v : Visit) → slice_get path i ≡ Some v → suc i ≡ length path → Feeds assigns k v.assign) where
  abbrev top : Visit
  top = record { assign = k; looked = 0 }

  within : k < length marks
  within = slice_get_within marks k New new

  still : (j : ℕ) (y : Mark) → New ≢ y → slice_get marks j ≡ Some y → slice_get (set marks k Open) j ≡ Some y
  still j y ne at = get_set_other marks k j Open (apart marks k j New y new at ne) ∙ at

  enter_path_open : (i : ℕ) (v : Visit) → slice_get (path ++ top ∷ []) i ≡ Some v → slice_get (set marks k Open) v.assign ≡ Some Open
  enter_path_open i v at =
      elim (at_push path top v i at) as (λ _. slice_get (set marks k Open) v.assign ≡ Some Open) [
        | inl h ↦ still v.assign Open new_open (search.path_open i v h)
        | inr h ↦ subst (λ (w : Visit). slice_get (set marks k Open) w.assign ≡ Some Open) h.1 (get_set_same marks k Open within)
      ]

  not_new : (i : ℕ) (v : Visit) → slice_get path i ≡ Some v → v.assign ≢ k
  not_new i v at = apart marks k v.assign New Open new (search.path_open i v at) new_open

  enter_once : (i j : ℕ) (v w : Visit) → slice_get (path ++ top ∷ []) i ≡ Some v → slice_get (path ++ top ∷ []) j ≡ Some w → v.assign ≡ w.assign → i ≡ j
  enter_once i j v w at_i at_j e =
      elim (at_push path top v i at_i) as (λ _. i ≡ j) [
        | inl hi ↦ elim (at_push path top w j at_j) as (λ _. i ≡ j) [
          | inl hj ↦ search.path_once i j v w hi hj e
          | inr hj ↦ absurd (not_new i v hi (e ∙ ap (λ (x : Visit). x.assign) (sym hj.1)))
        ]
        | inr hi ↦ elim (at_push path top w j at_j) as (λ _. i ≡ j) [
          | inl hj ↦ absurd (not_new j w hj (sym e ∙ ap (λ (x : Visit). x.assign) (sym hi.1)))
          | inr hj ↦ hi.0 ∙ sym hj.0
        ]
      ]

  enter_open : (j : ℕ) → slice_get (set marks k Open) j ≡ Some Open → (i : ℕ) × (v : Visit) × (slice_get (path ++ top ∷ []) i ≡ Some v) × (v.assign ≡ j)
  enter_open j at =
      elim (set_cases marks k j Open Open within at) as (λ _. (i : ℕ) × (v : Visit) × (slice_get (path ++ top ∷ []) i ≡ Some v) × (v.assign ≡ j)) [
        | inl h ↦ (length path, top, last_push path top, sym h.0)
        | inr h ↦
            let there = search.open_path j h.1 in
            (there.0, there.1, slice_get-append path (top ∷ []) there.0 there.1 there.2, there.3)
      ]

  enter_chain : (i : ℕ) (v w : Visit) → slice_get (path ++ top ∷ []) i ≡ Some v → slice_get (path ++ top ∷ []) (suc i) ≡ Some w → Feeds assigns w.assign v.assign
  enter_chain i v w at_i at_j =
      elim (at_push path top w (suc i) at_j) as (λ _. Feeds assigns w.assign v.assign) [
        | inl hj ↦ elim (at_push path top v i at_i) as (λ _. Feeds assigns w.assign v.assign) [
          | inl hi ↦ search.chain i v w hi hj
          | inr hi ↦ absurd (omega (arith, hi.0, slice_get_within path (suc i) w hj))
        ]
        | inr hj ↦ elim (at_push path top v i at_i) as (λ _. Feeds assigns w.assign v.assign) [
          | inl hi ↦ subst (λ (x : Visit). Feeds assigns x.assign v.assign) hj.1 (fed i v hi hj.0)
          | inr hi ↦ absurd (omega (arith, hi.0, hj.0))
        ]
      ]

  enter_looked : (i : ℕ) (v : Visit) (j place : ℕ) → slice_get (path ++ top ∷ []) i ≡ Some v → place < v.looked → FeedsAt assigns j v.assign place → slice_get (set marks k Open) j ≡ Some Done
  enter_looked i v j place at lt feeds =
      elim (at_push path top v i at) as (λ _. slice_get (set marks k Open) j ≡ Some Done) [
        | inl h ↦ still j Done new_done (search.looked i v j place h lt feeds)
        | inr h ↦ absurd (omega (arith, subst (λ (x : Visit). place < x.looked) (sym h.1) lt))
      ]

  enter_done : (j : ℕ) → slice_get (set marks k Open) j ≡ Some Done → (p : ℕ) × (slice_get order p ≡ Some j)
  enter_done j at =
      elim (set_cases marks k j Open Done within at) as (λ _. (p : ℕ) × (slice_get order p ≡ Some j)) [
        | inl h ↦ absurd (open_done h.1)
        | inr h ↦ search.done_order j h.1
      ]

  -- a new assign is entered
  pub enter_keeps : IsSearch assigns (set marks k Open) (path ++ top ∷ []) order
  enter_keeps = record {
    size = length-set marks k Open ∙ search.size;
    path_open = enter_path_open;
    path_once = enter_once;
    open_path = enter_open;
    chain = enter_chain;
    looked = enter_looked;
    order_done = λ p j at. still j Done new_done (search.order_done p j at);
    done_order = enter_done;
    order_once = search.order_once;
    behind = search.behind;
  }

module _ (assigns : List Assign) (marks : List Mark) (path : List Visit) (v : Visit) (order : List ℕ) (search : IsSearch assigns marks (path ++ v ∷ []) order) where
  last : slice_get (path ++ v ∷ []) (length path) ≡ Some v
  last = last_push path v

  is_open : slice_get marks v.assign ≡ Some Open
  is_open = search.path_open (length path) v last

  inside : v.assign < length marks
  inside = slice_get_within marks v.assign Open is_open

  front : (i : ℕ) (w : Visit) → slice_get path i ≡ Some w → slice_get (path ++ v ∷ []) i ≡ Some w
  front i w at = slice_get-append path (v ∷ []) i w at

  done_stays : (j : ℕ) → slice_get marks j ≡ Some Done → slice_get (set marks v.assign Done) j ≡ Some Done
  done_stays j at = get_set_other marks v.assign j Done (apart marks v.assign j Open Done is_open at open_done) ∙ at

  others : (i : ℕ) (w : Visit) → slice_get path i ≡ Some w → w.assign ≢ v.assign
  others i w at e = absurd (omega (arith, search.path_once i (length path) w v (front i w at) last e, slice_get_within path i w at))

  leave_open : (j : ℕ) → slice_get (set marks v.assign Done) j ≡ Some Open → (i : ℕ) × (w : Visit) × (slice_get path i ≡ Some w) × (w.assign ≡ j)
  leave_open j at =
      elim (set_cases marks v.assign j Done Open inside at) as (λ _. (i : ℕ) × (w : Visit) × (slice_get path i ≡ Some w) × (w.assign ≡ j)) [
        | inl h ↦ absurd (open_done (sym h.1))
        | inr h ↦
            let there = search.open_path j h.1 in
            elim (at_push path v there.1 there.0 there.2) as (λ _. (i : ℕ) × (w : Visit) × (slice_get path i ≡ Some w) × (w.assign ≡ j)) [
              | inl g ↦ (there.0, there.1, g, there.3)
              | inr g ↦ absurd (h.0 (sym there.3 ∙ ap (λ (x : Visit). x.assign) (sym g.1)))
            ]
      ]

  leave_order_done : (p j : ℕ) → slice_get (order ++ v.assign ∷ []) p ≡ Some j → slice_get (set marks v.assign Done) j ≡ Some Done
  leave_order_done p j at =
      elim (at_push order v.assign j p at) as (λ _. slice_get (set marks v.assign Done) j ≡ Some Done) [
        | inl h ↦ done_stays j (search.order_done p j h)
        | inr h ↦ subst (λ (z : ℕ). slice_get (set marks v.assign Done) z ≡ Some Done) h.1 (get_set_same marks v.assign Done inside)
      ]

  leave_done_order : (j : ℕ) → slice_get (set marks v.assign Done) j ≡ Some Done → (p : ℕ) × (slice_get (order ++ v.assign ∷ []) p ≡ Some j)
  leave_done_order j at =
      elim (set_cases marks v.assign j Done Done inside at) as (λ _. (p : ℕ) × (slice_get (order ++ v.assign ∷ []) p ≡ Some j)) [
        | inl h ↦ (length order, last_push order v.assign ∙ ap (λ (z : ℕ). Some z) (sym h.0))
        | inr h ↦
            let there = search.done_order j h.1 in
            (there.0, slice_get-append order (v.assign ∷ []) there.0 j there.1)
      ]

  not_ordered : (p j : ℕ) → slice_get order p ≡ Some j → j ≢ v.assign
  not_ordered p j at = apart marks v.assign j Open Done is_open (search.order_done p j at) open_done

  leave_once : (p q j : ℕ) → slice_get (order ++ v.assign ∷ []) p ≡ Some j → slice_get (order ++ v.assign ∷ []) q ≡ Some j → p ≡ q
  leave_once p q j at_p at_q =
      elim (at_push order v.assign j p at_p) as (λ _. p ≡ q) [
        | inl hp ↦ elim (at_push order v.assign j q at_q) as (λ _. p ≡ q) [
          | inl hq ↦ search.order_once p q j hp hq
          | inr hq ↦ absurd (not_ordered p j hp (sym hq.1))
        ]
        | inr hp ↦ elim (at_push order v.assign j q at_q) as (λ _. p ≡ q) [
          | inl hq ↦ absurd (not_ordered q j hq (sym hp.1))
          | inr hq ↦ hp.0 ∙ sym hq.0
        ]
      ]

  leave_behind : ((j : ℕ) → Feeds assigns j v.assign → slice_get marks j ≡ Some Done) → (p j k : ℕ) → slice_get (order ++ v.assign ∷ []) p ≡ Some k → Feeds assigns j k → (q : ℕ) × (q < p) × (slice_get (order ++ v.assign ∷ []) q ≡ Some j)
  leave_behind all p j k at feeds =
      elim (at_push order v.assign k p at) as (λ _. (q : ℕ) × (q < p) × (slice_get (order ++ v.assign ∷ []) q ≡ Some j)) [
        | inl h ↦
            let there = search.behind p j k h feeds in
            (there.0, there.1, slice_get-append order (v.assign ∷ []) there.0 j there.2)
        | inr h ↦
            let there = search.done_order j (all j (subst (λ (z : ℕ). Feeds assigns j z) (sym h.1) feeds)) in
            (there.0, omega (arith, h.0, slice_get_within order there.0 j there.1), slice_get-append order (v.assign ∷ []) there.0 j there.1)
      ]

  -- the last assign of the path is done, where all that feed it are
  pub leave_keeps : ((j : ℕ) → Feeds assigns j v.assign → slice_get marks j ≡ Some Done) → IsSearch assigns (set marks v.assign Done) path (order ++ v.assign ∷ [])
  leave_keeps all = record {
    size = length-set marks v.assign Done ∙ search.size;
    path_open = λ i w at. get_set_other marks v.assign w.assign Done (others i w at) ∙ search.path_open i w (front i w at);
    path_once = λ i j w x at_i at_j e. search.path_once i j w x (front i w at_i) (front j x at_j) e;
    open_path = leave_open;
    chain = λ i w x at_i at_j. search.chain i w x (front i w at_i) (front (suc i) x at_j);
    looked = λ i w j place at lt feeds. done_stays j (search.looked i w j place (front i w at) lt feeds);
    order_done = leave_order_done;
    done_order = leave_done_order;
    order_once = leave_once;
    behind = leave_behind all;
  }

  abbrev pub more : Visit
  more = record { assign = v.assign; looked = v.looked + 1 }

  -- what is at a place of the path, except how often it was looked at
  same_at : (i : ℕ) (w : Visit) → slice_get (path ++ more ∷ []) i ≡ Some w → (x : Visit) × (slice_get (path ++ v ∷ []) i ≡ Some x) × (x.assign ≡ w.assign)
  same_at i w at =
      elim (at_push path more w i at) as (λ _. (x : Visit) × (slice_get (path ++ v ∷ []) i ≡ Some x) × (x.assign ≡ w.assign)) [
        | inl h ↦ (w, front i w h, refl)
        | inr h ↦ (v, subst (λ (z : ℕ). slice_get (path ++ v ∷ []) z ≡ Some v) (sym h.0) last, ap (λ (x : Visit). x.assign) h.1)
      ]

  look_chain : (i : ℕ) (w x : Visit) → slice_get (path ++ more ∷ []) i ≡ Some w → slice_get (path ++ more ∷ []) (suc i) ≡ Some x → Feeds assigns x.assign w.assign
  look_chain i w x at_i at_j =
      let a = same_at i w at_i in
      let b = same_at (suc i) x at_j in
      subst (λ (z : ℕ). Feeds assigns x.assign z) a.2 (subst (λ (z : ℕ). Feeds assigns z a.0.assign) b.2 (search.chain i a.0 b.0 a.1 b.1))

  look_once : (i j : ℕ) (w x : Visit) → slice_get (path ++ more ∷ []) i ≡ Some w → slice_get (path ++ more ∷ []) j ≡ Some x → w.assign ≡ x.assign → i ≡ j
  look_once i j w x at_i at_j e =
      let a = same_at i w at_i in
      let b = same_at j x at_j in
      search.path_once i j a.0 b.0 a.1 b.1 (a.2 ∙ e ∙ sym b.2)

  look_open : (j : ℕ) → slice_get marks j ≡ Some Open → (i : ℕ) × (w : Visit) × (slice_get (path ++ more ∷ []) i ≡ Some w) × (w.assign ≡ j)
  look_open j at =
      let there = search.open_path j at in
      elim (at_push path v there.1 there.0 there.2) as (λ _. (i : ℕ) × (w : Visit) × (slice_get (path ++ more ∷ []) i ≡ Some w) × (w.assign ≡ j)) [
        | inl h ↦ (there.0, there.1, slice_get-append path (more ∷ []) there.0 there.1 h, there.3)
        | inr h ↦ (length path, more, last_push path more, ap (λ (x : Visit). x.assign) h.1 ∙ there.3)
      ]

  look_looked : ((j : ℕ) → FeedsAt assigns j v.assign v.looked → slice_get marks j ≡ Some Done) → (i : ℕ) (w : Visit) (j place : ℕ) → slice_get (path ++ more ∷ []) i ≡ Some w → place < w.looked → FeedsAt assigns j w.assign place → slice_get marks j ≡ Some Done
  look_looked here i w j place at lt feeds =
      elim (at_push path more w i at) as (λ _. slice_get marks j ≡ Some Done) [
        | inl h ↦ search.looked i w j place (front i w h) lt feeds
        | inr h ↦
            let lt' : place < v.looked + 1 = subst (λ (x : Visit). place < x.looked) (sym h.1) lt in
            let feeds' : FeedsAt assigns j v.assign place = subst (λ (x : Visit). FeedsAt assigns j x.assign place) (sym h.1) feeds in
            elim (cases_lt place v.looked) as (λ _. slice_get marks j ≡ Some Done) [
              | inl l ↦ search.looked (length path) v j place last l feeds'
              | inr g ↦ here j (subst (λ (z : ℕ). FeedsAt assigns j v.assign z) (let e : place ≡ v.looked = omega (arith, lt', g) in e) feeds')
            ]
      ]

  -- one more place of the last assign was looked at, where what feeds it there is done
  pub look_keeps : ((j : ℕ) → FeedsAt assigns j v.assign v.looked → slice_get marks j ≡ Some Done) → IsSearch assigns marks (path ++ more ∷ []) order
  look_keeps here = record {
    size = search.size;
    path_open = λ i w at. let a = same_at i w at in subst (λ (z : ℕ). slice_get marks z ≡ Some Open) a.2 (search.path_open i a.0 a.1);
    path_once = look_once;
    open_path = look_open;
    chain = look_chain;
    looked = look_looked here;
    order_done = search.order_done;
    done_order = search.done_order;
    order_once = search.order_once;
    behind = search.behind;
  }

depends-trans : {assigns : List Assign} {a b c : ℕ} → DependsOn assigns a b → DependsOn assigns b c → DependsOn assigns a c
depends-trans (directly f) e = through f e
depends-trans (through f d) e = through f (depends-trans d e)

-- an assign of the path depends on each later one
path_depends : (assigns : List Assign) (path : List Visit) → ((i : ℕ) (v w : Visit) → slice_get path i ≡ Some v → slice_get path (suc i) ≡ Some w → Feeds assigns w.assign v.assign) →
    (n i : ℕ) (v w : Visit) → slice_get path i ≡ Some v → slice_get path (i + suc n) ≡ Some w → DependsOn assigns v.assign w.assign
path_depends assigns path chain zero i v w at_i at_j =
    directly (chain i v w at_i (subst (λ (z : ℕ). slice_get path z ≡ Some w) (let e : i + 1 ≡ suc i = omega arith in e) at_j))
path_depends assigns path chain (suc n) i v w at_i at_j =
    let next = there path (suc i) (let l : suc i < length path = omega (arith, slice_get_within path (i + suc (suc n)) w at_j) in l) in
    through (chain i v next.0 at_i next.1) (path_depends assigns path chain n (suc i) next.0 w next.1 (subst (λ (z : ℕ). slice_get path z ≡ Some w) (let e : i + suc (suc n) ≡ suc i + suc n = omega arith in e) at_j))
  where
    there : (path : List Visit) (i : ℕ) → i < length path → (x : Visit) × (slice_get path i ≡ Some x)
    there [] i l = absurd (omega (arith, l))
    there (x ∷ xs) zero l = (x, refl)
    there (x ∷ xs) (suc i) l = there xs i (omega (arith, l))

-- an open assign that feeds the last one of the path depends on itself
pub cycle_found : (assigns : List Assign) (marks : List Mark) (path : List Visit) (v : Visit) (order : List ℕ) → IsSearch assigns marks (path ++ v ∷ []) order →
    (j : ℕ) → slice_get marks j ≡ Some Open → Feeds assigns j v.assign → DependsOn assigns j j
cycle_found assigns marks path v order search j at feeds =
    let there = search.open_path j at in
    let last = last_push path v in
    elim (at_push path v there.1 there.0 there.2) as (λ _. DependsOn assigns j j) [
      | inl h ↦
          let before = slice_get_within path there.0 there.1 h in
          let at_last : slice_get (path ++ v ∷ []) (there.0 + suc (length path - suc there.0)) ≡ Some v = subst (λ (z : ℕ). slice_get (path ++ v ∷ []) z ≡ Some v) (let e : length path ≡ there.0 + suc (length path - suc there.0) = omega (arith, before) in e) last in
          let down : DependsOn assigns there.1.assign v.assign = path_depends assigns (path ++ v ∷ []) search.chain (length path - suc there.0) there.0 there.1 v there.2 at_last in
          depends-trans (subst (λ (z : ℕ). DependsOn assigns z v.assign) there.3 down) (directly feeds)
      | inr h ↦
          let same : v.assign ≡ j = ap (λ (x : Visit). x.assign) h.1 ∙ there.3 in
          directly (subst (λ (z : ℕ). Feeds assigns j z) same feeds)
    ]

-- A run is one, and goes to the end of the clocks or to the first that stops.
use Rattle.std.proofs.Common.{◌≡◌, ℕ, zero, suc, ◌<◌, ◌≤◌, ◌⊎◌, List, [], ◌∷◌, take, refl, ap, subst, sym, ◌∙◌, inl, inr, arith, Some}
use Rattle.std.specs.Prelude.{slice_get, All}
use Rattle.std.proofs.lemmas.Bool.{cases_lt}
use Rattle.std.proofs.lemmas.List.Elements.{All-nil, All-cons}
use Rattle.wiring.specs.declared.right.Atom.{Atom}
use Rattle.wiring.specs.declared.netlist.Net.{Net}
use Rattle.wiring.specs.Rights.{atom_value}
use Rattle.wiring.specs.Netlist.{Netlist, depth}
use Rattle.wiring.specs.Snapshot.{Contents, Snapshot, SnapshotOf, net_value, accesses, IsInside, IsInRange, StopsAt, IsNext, HasPlaces, HasOneSnapshot, HasOneNext}
use Rattle.wiring.specs.Clock.{Clock, given, Steps, Stops}
use Rattle.wiring.specs.Runs.{Runs, RunStops}
use Rattle.wiring.proofs.Lists.{All-at, at_one}

take_in : {X : Type 0} (xs : List X) (n k : ℕ) (x : X) → k < n → slice_get xs k ≡ Some x → slice_get (take n xs) k ≡ Some x
take_in [] n k x l e = cc
take_in (y ∷ xs) zero k x l e = absurd (omega (arith, l))
take_in (y ∷ xs) (suc n) zero x l e = e
take_in (y ∷ xs) (suc n) (suc k) x l e = take_in xs n k x (omega (arith, l)) e

module _ (m : Netlist) (shots_one : HasOneSnapshot m) (next_one : HasOneNext m) where
  -- the contents after a step have their places
  places_next : (from : Contents) (s : Snapshot) (new : Contents) → HasPlaces m s.contents → IsNext m s new → HasPlaces m new
  places_next from s new h next = record { regs = next.regs ∙ h.regs; arrays = next.arrays ∙ h.arrays }

  places_of : (from : Contents) (inputs : List ℕ) (s : Snapshot) → HasPlaces m from → SnapshotOf m from inputs s → HasPlaces m s.contents
  places_of from inputs s h is = subst (HasPlaces m) (sym is.contents) h

  same_shot : (from : Contents) (inputs : List ℕ) (s t : Snapshot) → SnapshotOf m from inputs s → SnapshotOf m from inputs t → s ≡ t
  same_shot from inputs s t a b = shots_one.one from inputs s t a b

  same_step : (from : Contents) (inputs : List ℕ) (s t : Snapshot) (x y : Contents) → HasPlaces m from → Steps m from inputs s x → Steps m from inputs t y → (s ≡ t) × (x ≡ y)
  same_step from inputs s t x y h a b =
      let e = same_shot from inputs s t a.snapshot b.snapshot in
      (e, next_one.one t x y (places_of from inputs t h b.snapshot) (subst (λ (z : Snapshot). IsNext m z x) e a.next) b.next)

  pub run_one : (from : Contents) (clocks : List Clock) (shots other : List Snapshot) (to end : Contents) → HasPlaces m from → Runs m from clocks shots to → Runs m from clocks other end → (shots ≡ other) × (to ≡ end)
  run_one from [] [] [] to end h a b = (refl, sym a ∙ b)
  run_one from [] [] (t ∷ other) to end h a b = absurd b
  run_one from [] (s ∷ shots) other to end h a b = absurd a
  run_one from (c ∷ clocks) [] other to end h a b = absurd a
  run_one from (c ∷ clocks) (s ∷ shots) [] to end h a b = absurd b
  run_one from (c ∷ clocks) (s ∷ shots) (t ∷ other) to end h a b =
      let e = same_step from (given m c) s t a.0 b.0 h a.1 b.1 in
      let r = run_one b.0 clocks shots other to end (places_next from t b.0 (places_of from (given m c) t h b.1.snapshot) b.1.next) (subst (λ (x : Contents). Runs m x clocks shots to) e.1 a.2) b.2 in
      (ap (λ (z : Snapshot). z ∷ shots) e.0 ∙ ap (λ (l : List Snapshot). t ∷ l) r.0, r.1)

  -- no clock both takes place and stops
  not_both : (from : Contents) (inputs : List ℕ) (s : Snapshot) (new : Contents) (x i : ℕ) → Steps m from inputs s new → Stops m from inputs x i → ⊥
  not_both from inputs s new x i a b =
      let e = same_shot from inputs s b.shot a.snapshot b.snapshot in
      let stop = b.stops in
      let inside : atom_value (net_value b.shot) stop.access < depth m x = All-at (IsInside m b.shot) (accesses m) stop.place (x, stop.access) (subst (IsInRange m) e a.in_range) stop.at in
      omega (arith, inside, stop.value, stop.outside)

  pub run_or_stop : (from : Contents) (clocks : List Clock) (shots other : List Snapshot) (to : Contents) (x i : ℕ) → HasPlaces m from → Runs m from clocks shots to → RunStops m from clocks other x i → ⊥
  run_or_stop from [] shots other to x i h a b = b
  run_or_stop from (c ∷ clocks) [] other to x i h a b = a
  run_or_stop from (c ∷ clocks) (s ∷ shots) [] to x i h a b = not_both from (given m c) s a.0 x i a.1 b
  run_or_stop from (c ∷ clocks) (s ∷ shots) (t ∷ other) to x i h a b =
      let e = same_step from (given m c) s t a.0 b.0 h a.1 b.1 in
      run_or_stop b.0 clocks shots other to x i (places_next from t b.0 (places_of from (given m c) t h b.1.snapshot) b.1.next) (subst (λ (y : Contents). Runs m y clocks shots to) e.1 a.2) b.2

  -- the first access outside is one
  same_stop : (s : Snapshot) (x i y j : ℕ) → StopsAt m s x i → StopsAt m s y j → (x ≡ y) × (i ≡ j)
  same_stop s x i y j a b =
      let e : a.place ≡ b.place = elim (cases_lt a.place b.place) as (λ _. a.place ≡ b.place) [
        | inl l ↦ absurd (clash x i a.place b.place a.access l a.at b.first a.value a.outside)
        | inr g ↦ elim (cases_lt b.place a.place) as (λ _. a.place ≡ b.place) [
          | inl l ↦ absurd (clash y j b.place a.place b.access l b.at a.first b.value b.outside)
          | inr h ↦ omega (arith, g, h)
        ]
      ] in
      let pairs : (let p : ℕ × Atom Net = (x, a.access) in p) ≡ (y, b.access) = at_one (accesses m) b.place (x, a.access) (y, b.access) (subst (λ (z : ℕ). slice_get (accesses m) z ≡ Some (x, a.access)) e a.at) b.at in
      (ap (λ (p : ℕ × Atom Net). p.0) pairs, sym a.value ∙ ap (λ (p : ℕ × Atom Net). atom_value (net_value s) p.1) pairs ∙ b.value)
    where
      clash : (x i p q : ℕ) (access : Atom Net) → p < q → slice_get (accesses m) p ≡ Some (x, access) → All (IsInside m s) (take q (accesses m)) → atom_value (net_value s) access ≡ i → depth m x ≤ i → ⊥
      clash x i p q access l at first value outside =
          let inside : atom_value (net_value s) access < depth m x = All-at (IsInside m s) (take q (accesses m)) p (x, access) first (take_in (accesses m) q p (x, access) l at) in
          omega (arith, inside, value, outside)

  pub stop_one : (from : Contents) (clocks : List Clock) (shots other : List Snapshot) (x i y j : ℕ) → HasPlaces m from → RunStops m from clocks shots x i → RunStops m from clocks other y j → (shots ≡ other) × (x ≡ y) × (i ≡ j)
  stop_one from [] shots other x i y j h a b = absurd a
  stop_one from (c ∷ clocks) [] [] x i y j h a b =
      let e = same_shot from (given m c) a.shot b.shot a.snapshot b.snapshot in
      let r = same_stop b.shot x i y j (subst (λ (z : Snapshot). StopsAt m z x i) e a.stops) b.stops in
      (refl, r.0, r.1)
  stop_one from (c ∷ clocks) [] (t ∷ other) x i y j h a b = absurd (not_both from (given m c) t b.0 x i b.1 a)
  stop_one from (c ∷ clocks) (s ∷ shots) [] x i y j h a b = absurd (not_both from (given m c) s a.0 y j a.1 b)
  stop_one from (c ∷ clocks) (s ∷ shots) (t ∷ other) x i y j h a b =
      let e = same_step from (given m c) s t a.0 b.0 h a.1 b.1 in
      let r = stop_one b.0 clocks shots other x i y j (places_next from t b.0 (places_of from (given m c) t h b.1.snapshot) b.1.next) (subst (λ (z : Contents). RunStops m z clocks shots x i) e.1 a.2) b.2 in
      (ap (λ (z : Snapshot). z ∷ shots) e.0 ∙ ap (λ (l : List Snapshot). t ∷ l) r.0, r.1, r.2)

  -- all accesses are inside, or there is a first that is not
  record Outside (s : Snapshot) (list : List (ℕ × Atom Net)) : Type 0 where
    place : ℕ
    item : ℕ × Atom Net
    at : slice_get list place ≡ Some item
    first : All (IsInside m s) (take place list)
    outside : depth m item.0 ≤ atom_value (net_value s) item.1

  looked : (s : Snapshot) (list : List (ℕ × Atom Net)) → All (IsInside m s) list ⊎ Outside s list
  looked s [] = inl (All-nil (IsInside m s))
  looked s (item ∷ list) =
      elim (cases_lt (atom_value (net_value s) item.1) (depth m item.0)) as (λ _. All (IsInside m s) (item ∷ list) ⊎ Outside s (item ∷ list)) [
        | inl l ↦ elim (looked s list) as (λ _. All (IsInside m s) (item ∷ list) ⊎ Outside s (item ∷ list)) [
          | inl all ↦ inl (All-cons (IsInside m s) item list l all)
          | inr out ↦ inr (record { place = suc out.place; item = out.item; at = out.at; first = All-cons (IsInside m s) item (take out.place list) l out.first; outside = out.outside })
        ]
        | inr g ↦ inr (record { place = zero; item = item; at = refl; first = All-nil (IsInside m s); outside = g })
      ]

  abbrev pub Ends : Contents → List Clock → Type 0
  Ends from clocks = ((shots : List Snapshot) × (to : Contents) × Runs m from clocks shots to) ⊎ ((shots : List Snapshot) × (x : ℕ) × (i : ℕ) × RunStops m from clocks shots x i)

  pub run_some : (from : Contents) (clocks : List Clock) → HasPlaces m from → Ends from clocks
  run_some from [] h = inl ([], from, refl)
  run_some from (c ∷ clocks) h =
      let shot = shots_one.some from (given m c) in
      let there = places_of from (given m c) shot.0 h shot.1 in
      elim (looked shot.0 (accesses m)) as (λ _. Ends from (c ∷ clocks)) [
        | inl all ↦
            let next = next_one.some shot.0 there in
            let step : Steps m from (given m c) shot.0 next.0 = record { snapshot = shot.1; in_range = all; next = next.1 } in
            elim (run_some next.0 clocks (places_next from shot.0 next.0 there next.1)) as (λ _. Ends from (c ∷ clocks)) [
              | inl r ↦ inl (shot.0 ∷ r.0, r.1, (next.0, step, r.2))
              | inr r ↦ inr (shot.0 ∷ r.0, r.1, r.2, (next.0, step, r.3))
            ]
        | inr out ↦
            inr ([], out.item.0, atom_value (net_value shot.0) out.item.1, record { shot = shot.0; snapshot = shot.1; stops = record { place = out.place; access = out.item.1; at = out.at; first = out.first; value = refl; outside = out.outside } })
      ]

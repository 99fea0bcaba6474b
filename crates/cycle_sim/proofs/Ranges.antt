-- Accesses over slots are the netlist's, and so is the edge.
use Rattle.std.proofs.Common.{◌≡◌, ℕ, suc, ◌<◌, List, [], ◌∷◌, length, get_or, map, take, refl, ap, sym, subst, ◌∙◌, inl, inr, arith, Some, lit<}
use Rattle.std.specs.Prelude.{All, Contains, slice_get, slice_set}
use Rattle.std.specs.Option.{option_map}
use Rattle.std.proofs.lemmas.List.{length-set, get_or-set_same, get_or-set_other, take-map, length-map, set_past}
use Rattle.std.proofs.lemmas.List.Elements.{All-cons, All-head, All-tail, All-append, All-nil, All-contains, All-take}
use Rattle.std.proofs.lemmas.Option.{slice_get-get_or, slice_get_within, slice_get-map, same_Some}
use Rattle.std.proofs.lemmas.Bool.{cases_eq, cases_lt}
use Rattle.wiring.specs.declared.right.Atom.{Atom}
use Rattle.wiring.specs.declared.right.Atom.TheVariants as atom
use Rattle.wiring.specs.declared.right.Right.{Right}
use Rattle.wiring.specs.declared.right.Right.TheVariants as right
use Rattle.wiring.specs.declared.netlist.Net.{Net}
use Rattle.wiring.specs.declared.netlist.Net.TheVariants.{Input}
use Rattle.wiring.specs.declared.netlist.Assign.{Assign}
use Rattle.wiring.specs.declared.netlist.Update.{Update}
use Rattle.wiring.specs.declared.netlist.Update.TheVariants as update
use Rattle.wiring.specs.Rights.{atom_nets, atom_value, nets_of}
use Rattle.wiring.specs.Netlist.{Netlist, IsDeclared}
use Rattle.wiring.specs.Snapshot.{Snapshot, net_value, right_accesses, update_accesses, accesses_of, accesses, IsInside, IsInRange, StopsAt, IsNext, TakesPlace}
use Rattle.wiring.specs.Rules.{KeepsRules, AssignIsSound, UpdateIsSound}
use Rattle.wiring.proofs.Lists.{All-at, All-from_at, All-right}
use Rattle.cycle_sim.specs.declared.edge.Access.{Access}
use Rattle.cycle_sim.specs.declared.edge.IndexRange.{IndexRange}
use Rattle.cycle_sim.specs.Slots.{slot, all_values, rename_atom, depth_at, put_at}
use Rattle.cycle_sim.specs.Edge.{slot_value, run_sets, run_puts, edge, access, EdgesAreSafe, IsAccessInside, IsFirstOutside}
use Rattle.cycle_sim.specs.Ready.{HasShape, ArraysFit}
use Rattle.cycle_sim.proofs.Flat.{flat_at}
use Rattle.cycle_sim.proofs.Edges.{length-run_sets, set_taken, length-run_puts, put_taken}

all_accesses : {X : Type 0} (P : ℕ × Atom Net → Type 0) (f : X → List (ℕ × Atom Net)) (xs : List X) → ((x : X) → Contains xs x → All P (f x)) → All P (accesses_of f xs)
all_accesses P f [] h = All-nil P
all_accesses P f (x ∷ xs) h =
    All-append P (f x) (accesses_of f xs) (h x (0, omega arith, refl)) (all_accesses P f xs (λ y c. h y (suc c.0, omega (arith, c.1), c.2)))

module _ (m : Netlist) (rules : KeepsRules m) (s : Snapshot) (shape : HasShape m s) (fit : ArraysFit m s.contents.arrays) where
  -- what an atom over slots is worth
  pub worth_is : (a : Atom Net) → All (IsDeclared m) (atom_nets a) → slot_value (all_values s) (rename_atom (slot m) a) ≡ atom_value (net_value s) a
  worth_is (atom.Net n) h = flat_at m s n shape (All-contains (IsDeclared m) (n ∷ []) n h (0, lit< tt, refl))
  worth_is (atom.Constant c) h = refl

  abbrev Declared : ℕ × Atom Net → Type 0
  Declared p = All (IsDeclared m) (atom_nets p.1)

  right_declared : (r : Right Net ℕ) → All (IsDeclared m) (nets_of r) → All Declared (right_accesses r)
  right_declared (right.Copy a) h = All-nil Declared
  right_declared (right.Not a) h = All-nil Declared
  right_declared (right.Binary o a b) h = All-nil Declared
  right_declared (right.Choose c a b) h = All-nil Declared
  right_declared (right.Join a b) h = All-nil Declared
  right_declared (right.Repeat n a) h = All-nil Declared
  right_declared (right.Bit v k) h = All-nil Declared
  right_declared (right.Slice v k l) h = All-nil Declared
  right_declared (right.Word x i) h = All-cons Declared (x, i) [] h (All-nil Declared)

  update_declared : (u : Update) → UpdateIsSound m u → All Declared (update_accesses u)
  update_declared (update.Set r a) h = All-nil Declared
  update_declared (update.Put x i a) h = All-cons Declared (x, i) [] h.1.nets (All-nil Declared)

  declared : All Declared (accesses m)
  declared =
      All-append Declared (accesses_of (λ (a : Assign). right_accesses a.right) m.assigns) (accesses_of update_accesses m.updates)
      (all_accesses Declared (λ (a : Assign). right_accesses a.right) m.assigns (λ a c. right_declared a.right (All-contains (AssignIsSound m) m.assigns a rules.assigns c).right.nets))
      (all_accesses Declared update_accesses m.updates (λ u c. update_declared u (All-contains (UpdateIsSound m) m.updates u rules.updates c)))

  inside_from : (p : ℕ × Atom Net) → Declared p → IsAccessInside s.contents.arrays (all_values s) (access m p) → IsInside m s p
  inside_from p d h =
      let w = worth_is p.1 d in
      let e = fit.deep p.0 in
      omega (arith, h, w, e)

  -- a list of accesses that are inside over slots
  front_inside : (ps : List (ℕ × Atom Net)) → All Declared ps → All (IsAccessInside s.contents.arrays (all_values s)) (map (access m) ps) → All (IsInside m s) ps
  front_inside [] d h = All-nil (IsInside m s)
  front_inside (p ∷ ps) d h =
      All-cons (IsInside m s) p ps
      (inside_from p (All-head Declared p ps d) (All-head (IsAccessInside s.contents.arrays (all_values s)) (access m p) (map (access m) ps) h))
      (front_inside ps (All-tail Declared p ps d) (All-tail (IsAccessInside s.contents.arrays (all_values s)) (access m p) (map (access m) ps) h))

  pub in_range : All (IsAccessInside s.contents.arrays (all_values s)) (map (access m) (accesses m)) → IsInRange m s
  in_range h = front_inside (accesses m) declared h

  pub stops_at : (range : IndexRange) → IsFirstOutside s.contents.arrays (all_values s) (map (access m) (accesses m)) range → StopsAt m s range.array range.index
  stops_at range h =
      let within : h.place < length (accesses m) = omega (arith, slice_get_within (map (access m) (accesses m)) h.place h.access h.at, length-map (accesses m) (access m)) in
      let p = get_or (accesses m) h.place (0, atom.Net (Input 0)) in
      let at : slice_get (accesses m) h.place ≡ Some p = slice_get-get_or (accesses m) h.place (0, atom.Net (Input 0)) within in
      let same : access m p ≡ h.access = same_Some (access m p) h.access (sym (ap (λ o. option_map (access m) o) at) ∙ sym (slice_get-map (access m) (accesses m) h.place) ∙ h.at) in
      let d = All-at Declared (accesses m) h.place p declared at in
      let array : p.0 ≡ range.array = ap (λ (a : Access). a.array) same ∙ h.array in
      record {
        place = h.place;
        access = p.1;
        at = at ∙ ap (λ (x : ℕ). Some (x, p.1)) array;
        first = front_inside (take h.place (accesses m)) (All-take Declared h.place (accesses m) declared)
            (subst (λ (l : List Access). All (IsAccessInside s.contents.arrays (all_values s)) l) (take-map (access m) h.place (accesses m)) h.inside);
        value = sym (worth_is p.1 d) ∙ ap (λ (a : Access). slot_value (all_values s) a.index) same ∙ h.index;
        outside = omega (arith, h.outside, fit.deep range.array);
      }

  -- the words after the edge keep their numbers
  pub fit_put : (x i w : ℕ) (arrays : List (List ℕ)) → (a : ℕ) → depth_at (put_at arrays x i w) a ≡ depth_at arrays a
  fit_put x i w arrays a =
      elim (cases_eq a x) as (λ _. depth_at (put_at arrays x i w) a ≡ depth_at arrays a) [
        | inl e ↦ elim (cases_lt x (length arrays)) as (λ _. depth_at (put_at arrays x i w) a ≡ depth_at arrays a) [
          | inl l ↦ subst (λ (y : ℕ). depth_at (put_at arrays x i w) y ≡ depth_at arrays y) (sym e) (ap length (get_or-set_same arrays x (slice_set (get_or arrays x []) i w) [] l) ∙ length-set (get_or arrays x []) i w)
          | inr g ↦ ap (λ (l : List (List ℕ)). depth_at l a) (set_past arrays x (slice_set (get_or arrays x []) i w) g)
        ]
        | inr ne ↦ ap length (get_or-set_other arrays x a (slice_set (get_or arrays x []) i w) [] ne)
      ]

  -- each write is inside, if those of the netlist are
  edges_safe : (us : List Update) (count : ℕ) (arrays : List (List ℕ)) → count ≡ length m.regs → ((a : ℕ) → depth_at arrays a ≡ depth_at s.contents.arrays a) →
      All (UpdateIsSound m) us → All (IsInside m s) (accesses_of update_accesses us) → EdgesAreSafe (all_values s) (map (edge m) us) count arrays
  edges_safe [] count arrays c same sound inside = tt
  edges_safe (update.Set r a ∷ us) count arrays c same sound inside =
      let head : UpdateIsSound m (update.Set r a) = All-head (UpdateIsSound m) (update.Set r a) us sound in
      (omega (arith, head.0, c), edges_safe us count arrays c same (All-tail (UpdateIsSound m) (update.Set r a) us sound) inside)
  edges_safe (update.Put x i a ∷ us) count arrays c same sound inside =
      let head : UpdateIsSound m (update.Put x i a) = All-head (UpdateIsSound m) (update.Put x i a) us sound in
      let here : IsInside m s (x, i) = All-head (IsInside m s) (x, i) (accesses_of update_accesses us) inside in
      let depth_is = fit.deep x in
      let index_is = worth_is i head.1.nets in (
        omega (arith, here, depth_is, index_is, same x),
        edges_safe us count (put_at arrays x (slot_value (all_values s) (rename_atom (slot m) i)) (slot_value (all_values s) (rename_atom (slot m) a))) c
            (λ b. fit_put x (slot_value (all_values s) (rename_atom (slot m) i)) (slot_value (all_values s) (rename_atom (slot m) a)) arrays b ∙ same b)
            (All-tail (UpdateIsSound m) (update.Put x i a) us sound) (All-tail (IsInside m s) (x, i) (accesses_of update_accesses us) inside),
      )

  pub all_edges_safe : (count : ℕ) → count ≡ length m.regs → IsInRange m s → EdgesAreSafe (all_values s) (map (edge m) m.updates) count s.contents.arrays
  all_edges_safe count c inside =
      edges_safe m.updates count s.contents.arrays c (λ a. refl) rules.updates
      (All-right (IsInside m s) (accesses_of (λ (a : Assign). right_accesses a.right) m.assigns) (accesses_of update_accesses m.updates) inside)

  taken : (regs : List ℕ) → length regs ≡ length m.regs → (k : ℕ) (u : Update) → slice_get m.updates k ≡ Some u →
      TakesPlace s (record { regs = run_sets (all_values s) (map (edge m) m.updates) regs; arrays = run_puts (all_values s) (map (edge m) m.updates) s.contents.arrays }) u
  taken regs l k (update.Set r a) at =
      let sound : UpdateIsSound m (update.Set r a) = All-at (UpdateIsSound m) m.updates k (update.Set r a) rules.updates at in
      set_taken m (all_values s) m.updates regs k r a rules.updated.one at (omega (arith, sound.0, l)) ∙ ap (λ (x : ℕ). Some x) (worth_is a sound.1.nets)
  taken regs l k (update.Put x i a) at =
      let sound : UpdateIsSound m (update.Put x i a) = All-at (UpdateIsSound m) m.updates k (update.Put x i a) rules.updates at in
      put_taken m (all_values s) m.updates s.contents.arrays k x i a rules.updated.one at (omega (arith, sound.0, fit.count))
      ∙ rw (worth_is i sound.1.nets, worth_is a sound.2.nets) refl

  -- the edge over slots is the netlist's
  pub is_next : (regs : List ℕ) → length regs ≡ length m.regs →
      IsNext m s (record { regs = run_sets (all_values s) (map (edge m) m.updates) regs; arrays = run_puts (all_values s) (map (edge m) m.updates) s.contents.arrays })
  is_next regs l = record {
    regs = length-run_sets m (all_values s) m.updates regs ∙ l ∙ sym shape.regs;
    arrays = length-run_puts m (all_values s) m.updates s.contents.arrays;
    updates = All-from_at (TakesPlace s (record { regs = run_sets (all_values s) (map (edge m) m.updates) regs; arrays = run_puts (all_values s) (map (edge m) m.updates) s.contents.arrays })) m.updates (λ k u at. taken regs l k u at);
  }

-- The rules in order say what the passes do, and the first broken one is the fault that a pass finds.
use Rattle.std.proofs.Common.{◌≡◌, ℕ, ◌+◌, ◌-◌, List, [], ◌∷◌, length, Some, refl, ap, subst, sym, ◌∙◌, inl, inr, arith, Bool, true, false}
use Rattle.std.specs.Prelude.{slice_get, All, nat_lt, if◌then◌else◌}
use Rattle.std.proofs.lemmas.Bool.{ltb-true, ltb-false}
use Rattle.std.proofs.lemmas.Option.{same_Some}
use Rattle.wiring.specs.declared.netlist.Assign.{Assign}
use Rattle.wiring.specs.declared.netlist.Update.{Update}
use Rattle.wiring.specs.Netlist.{Netlist, update_target}
use Rattle.wiring.specs.Tables.{assign_target}
use Rattle.wiring.specs.Order.{IsAcyclic}
use Rattle.wiring.specs.Rules.{DivisorIsConstant}
use Rattle.wiring.proofs.Lists.{All-at, All-from_at}
use Rattle.netlist.specs.declared.parts.Parts.{Parts}
use Rattle.netlist.specs.declared.parts.NamedAssign.{NamedAssign}
use Rattle.netlist.specs.declared.parts.NamedUpdate.{NamedUpdate}
use Rattle.netlist.specs.declared.fault.Declared.{Declared}
use Rattle.netlist.specs.declared.fault.Declared.TheVariants.{Port as PortAt, Declaration as DeclarationAt}
use Rattle.netlist.specs.declared.fault.Statement.{Statement}
use Rattle.netlist.specs.declared.fault.Statement.TheVariants.{Assign as AssignAt, Update as UpdateAt}
use Rattle.netlist.specs.declared.fault.NetFault.{NetFault}
use Rattle.netlist.specs.declared.fault.NetFault.TheVariants.{Duplicate, Ports, Unknown, WrongSort, Divisor, Width, DrivenTwice, Undriven, Cycle}
use Rattle.netlist.specs.declared.fault.NetError.{NetError}
use Rattle.netlist.specs.declared.fault.NetError.TheVariants.{Fault, OutOfMemory}
use Rattle.netlist.specs.Scopes.{Entry, scope_of, netlist_of_parts}
use Rattle.netlist.specs.Faults.{Rule, Keeps, Breaks, FirstBreaks, declared_at, assign_rules, update_rules, driver_rules, each, unique, acyclic, net_rules, AssignFits, UpdateFits, IsSorted, TargetsDiffer, HasDriver, IsFault, IsErrorBy}
use Rattle.netlist.specs.Passes.{entry_names, NamesDiffer, IsPlace, FineAssign, FineUpdate, UnknownAssign, UnknownUpdate, WrongSortAssign, WrongSortUpdate, DivisorAssign, DivisorUpdate, WidthAssign, WidthUpdate, FirstWrong, FirstStatement, PassesPorts, PassesStatements, PassesTargets, PassesDrivers, IsPassFault}

-- ---- places

place_declared : (p : Parts) (d : Declared) (k : ℕ) → IsPlace p d k → d ≡ declared_at (length p.ports.items) k
place_declared p (PortAt j) k h = by (nat_lt k (length p.ports.items)) refl
  where
    by : (t : Bool) → nat_lt k (length p.ports.items) ≡ t → PortAt j ≡ (if t then PortAt k else DeclarationAt (k - length p.ports.items))
    by true e = ap (λ (z : ℕ). PortAt z) h.1
    by false e = absurd (let l = ltb-false k (length p.ports.items) e in omega (arith, l, h.0, h.1))
place_declared p (DeclarationAt j) k h = by (nat_lt k (length p.ports.items)) refl
  where
    by : (t : Bool) → nat_lt k (length p.ports.items) ≡ t → DeclarationAt j ≡ (if t then PortAt k else DeclarationAt (k - length p.ports.items))
    by true e = absurd (let l = ltb-true k (length p.ports.items) e in omega (arith, l, h))
    by false e = ap (λ (z : ℕ). DeclarationAt z) (let f : j ≡ k - length p.ports.items = omega (arith, h) in f)

declared_place : (p : Parts) (k : ℕ) → IsPlace p (declared_at (length p.ports.items) k) k
declared_place p k = by (nat_lt k (length p.ports.items)) refl
  where
    by : (t : Bool) → nat_lt k (length p.ports.items) ≡ t → IsPlace p (if t then PortAt k else DeclarationAt (k - length p.ports.items)) k
    by true e = (ltb-true k (length p.ports.items) e, refl)
    by false e = let l = ltb-false k (length p.ports.items) e in let f : length p.ports.items + (k - length p.ports.items) ≡ k = omega (arith, l) in f

-- ---- statements

module _ (p : Parts) where
  abbrev scope : List Entry
  scope = scope_of p

  abbrev m : Netlist
  m = netlist_of_parts p

  same_assign : (a : NamedAssign) (b c : Assign) → IsSorted scope m a b → IsSorted scope m a c → b ≡ c
  same_assign a b c h i = same_Some b c (sym h.0 ∙ i.0)

  assign_keeps : (k : ℕ) (a : NamedAssign) → FineAssign p a → Keeps (assign_rules scope m k a)
  assign_keeps k a f = (f.known, ((f.stands, f.sorted), ((f.stands, f.sorted, f.divisor), ((f.stands, f.sorted, f.widths), tt))))

  assign_fine : (k : ℕ) (a : NamedAssign) → Keeps (assign_rules scope m k a) → FineAssign p a
  assign_fine k a h =
      let d = h.1.1.0 in
      let w = h.1.1.1.0 in
      record { known = h.0; stands = w.0; sorted = w.1; divisor = subst (λ (b : Assign). DivisorIsConstant b.right) (same_assign a d.0 w.0 d.1 w.1) d.2; widths = w.2 }

  update_keeps : (k : ℕ) (u : NamedUpdate) → FineUpdate p u → Keeps (update_rules scope m k u)
  update_keeps k u f = (f.known, ((f.stands, f.sorted), ((f.stands, f.sorted, f.widths), tt)))

  update_fine : (k : ℕ) (u : NamedUpdate) → Keeps (update_rules scope m k u) → FineUpdate p u
  update_fine k u h = let w = h.1.1.0 in record { known = h.0; stands = w.0; sorted = w.1; widths = w.2 }

  unknown_assign : (k : ℕ) (a : NamedAssign) → UnknownAssign p a → Breaks (assign_rules scope m k a) (Unknown (AssignAt k))
  unknown_assign k a w = inl (refl, w)

  sort_assign : (k : ℕ) (a : NamedAssign) → WrongSortAssign p a → Breaks (assign_rules scope m k a) (WrongSort (AssignAt k))
  sort_assign k a w = inr (w.known, inl (refl, λ s. w.wrong s.0 s.1))

  divisor_assign : (k : ℕ) (a : NamedAssign) → DivisorAssign p a → Breaks (assign_rules scope m k a) (Divisor (AssignAt k))
  divisor_assign k a w =
      inr (w.known, inr ((w.stands, w.sorted), inl (refl, λ s. w.wrong (subst (λ (b : Assign). DivisorIsConstant b.right) (same_assign a s.0 w.stands s.1 w.sorted) s.2))))

  width_assign : (k : ℕ) (a : NamedAssign) → WidthAssign p a → Breaks (assign_rules scope m k a) (Width (AssignAt k))
  width_assign k a w =
      inr (w.known, inr ((w.stands, w.sorted), inr ((w.stands, w.sorted, w.divisor), inl (refl, λ s. w.wrong (subst (λ (b : Assign). AssignFits m b) (same_assign a s.0 w.stands s.1 w.sorted) s.2)))))

  unknown_update : (k : ℕ) (u : NamedUpdate) → UnknownUpdate p u → Breaks (update_rules scope m k u) (Unknown (UpdateAt k))
  unknown_update k u w = inl (refl, w)

  sort_update : (k : ℕ) (u : NamedUpdate) → WrongSortUpdate p u → Breaks (update_rules scope m k u) (WrongSort (UpdateAt k))
  sort_update k u w = inr (w.known, inl (refl, λ s. w.wrong s.0 s.1))

  divisor_update : (k : ℕ) (u : NamedUpdate) → DivisorUpdate p u → Breaks (update_rules scope m k u) (Divisor (UpdateAt k))
  divisor_update k u w = absurd w

  width_update : (k : ℕ) (u : NamedUpdate) → WidthUpdate p u → Breaks (update_rules scope m k u) (Width (UpdateAt k))
  width_update k u w =
      inr (w.known, inr ((w.stands, w.sorted), inl (refl, λ s. w.wrong (subst (λ (v : Update). UpdateFits m v) (same_Some s.0 w.stands (sym s.1 ∙ w.sorted)) s.2))))

  -- ---- from passes to rules

  abbrev AssignsKeep : Type 0
  AssignsKeep = (k : ℕ) (a : NamedAssign) → slice_get p.assigns.items k ≡ Some a → Keeps (assign_rules scope m k a)

  abbrev UpdatesKeep : Type 0
  UpdatesKeep = (k : ℕ) (u : NamedUpdate) → slice_get p.updates.items k ≡ Some u → Keeps (update_rules scope m k u)

  assigns_keep : All (FineAssign p) p.assigns.items → AssignsKeep
  assigns_keep all k a at = assign_keeps k a (All-at (FineAssign p) p.assigns.items k a all at)

  updates_keep : All (FineUpdate p) p.updates.items → UpdatesKeep
  updates_keep all k u at = update_keeps k u (All-at (FineUpdate p) p.updates.items k u all at)

  names_keep : NamesDiffer p → TargetsDiffer (λ (n : List ℕ). n) (entry_names p)
  names_keep h i j x y at_i at_j same = h i j x at_i (subst (λ (z : List ℕ). slice_get (entry_names p) j ≡ Some z) (sym same) at_j)

  pub keeps_of : PassesDrivers p → IsAcyclic m.assigns → Keeps (net_rules p)
  keeps_of h a =
      let t = h.before in
      let s = t.before in
      let q = s.before in
      (names_keep q.names, (q.ports, (assigns_keep s.assigns, (updates_keep s.updates, (t.assigns, (t.updates, ((λ k e at. (h.driven k e at, tt)), (a, tt))))))))

  first_breaks : {X : Type 0} (rules_at : ℕ → X → List Rule) (Fine Wrong : X → Type 0) (items : List X) (k : ℕ) (f : NetFault) → ((j : ℕ) (x : X) → Fine x → Keeps (rules_at j x)) → ((x : X) → Wrong x → Breaks (rules_at k x) f) → FirstWrong Fine Wrong items k → FirstBreaks rules_at items f
  first_breaks rules_at Fine Wrong items k f keeps breaks w = record { place = k; item = w.item; at = w.at; breaks = breaks w.item w.wrong; before = λ j x l at. keeps j x (w.before j x l at) }

  statement : (f : Statement → NetFault) (A : NamedAssign → Type 0) (U : NamedUpdate → Type 0)
      → ((k : ℕ) (a : NamedAssign) → A a → Breaks (assign_rules scope m k a) (f (AssignAt k)))
      → ((k : ℕ) (u : NamedUpdate) → U u → Breaks (update_rules scope m k u) (f (UpdateAt k)))
      → PassesPorts p → (s : Statement) → FirstStatement p A U s → IsFault p (f s)
  statement f A U assign update h (AssignAt k) w =
      inr (names_keep h.names, inr (h.ports, inl (first_breaks (assign_rules scope m) (FineAssign p) A p.assigns.items k (f (AssignAt k)) assign_keeps (assign k) w)))
  statement f A U assign update h (UpdateAt k) w =
      inr (names_keep h.names, inr (h.ports, inr (assigns_keep w.0, inl (first_breaks (update_rules scope m) (FineUpdate p) U p.updates.items k (f (UpdateAt k)) update_keeps (update k) w.1))))

  pub ruled : (f : NetFault) → IsPassFault p f → IsFault p f
  ruled (Duplicate d) h = inl (h.0, ap (λ (z : Declared). Duplicate z) (place_declared p d h.0 h.1), h.2)
  ruled Ports h = inr (names_keep h.0, inl (refl, h.1))
  ruled (Unknown s) h = statement (λ t. Unknown t) (UnknownAssign p) (UnknownUpdate p) unknown_assign unknown_update h.0 s h.1
  ruled (WrongSort s) h = statement (λ t. WrongSort t) (WrongSortAssign p) (WrongSortUpdate p) sort_assign sort_update h.0 s h.1
  ruled (Divisor s) h = statement (λ t. Divisor t) (DivisorAssign p) (DivisorUpdate p) divisor_assign divisor_update h.0 s h.1
  ruled (Width s) h = statement (λ t. Width t) (WidthAssign p) (WidthUpdate p) width_assign width_update h.0 s h.1
  ruled (DrivenTwice (AssignAt k)) h =
      let s = h.0 in
      inr (names_keep s.before.names, inr (s.before.ports, inr (assigns_keep s.assigns, inr (updates_keep s.updates, inl (k, refl, h.1)))))
  ruled (DrivenTwice (UpdateAt k)) h =
      let s = h.0 in
      inr (names_keep s.before.names, inr (s.before.ports, inr (assigns_keep s.assigns, inr (updates_keep s.updates, inr (h.1, inl (k, refl, h.2))))))
  ruled (Undriven d) h =
      let t = h.0 in
      let s = t.before in
      let same = ap (λ (z : Declared). Undriven z) (place_declared p d h.1 h.2) in
      let first : FirstBreaks (driver_rules (length p.ports.items) m) scope (Undriven d) =
      first_breaks (driver_rules (length p.ports.items) m) (λ (e : Entry). HasDriver m e.meaning) (λ (e : Entry). HasDriver m e.meaning → ⊥) scope h.1 (Undriven d) (λ j e k. (k, tt)) (λ e w. inl (same, w)) h.3
      in
      inr (names_keep s.before.names, inr (s.before.ports, inr (assigns_keep s.assigns, inr (updates_keep s.updates, inr (t.assigns, inr (t.updates, inl first))))))
  ruled (Cycle k) h =
      let t = h.0.before in
      let s = t.before in
      inr (names_keep s.before.names, inr (s.before.ports, inr (assigns_keep s.assigns, inr (updates_keep s.updates, inr (t.assigns, inr (t.updates, inr ((λ j e at. (h.0.driven j e at, tt)), inl (k, refl, h.1))))))))

  -- ---- from rules to passes

  assigns_fine : AssignsKeep → All (FineAssign p) p.assigns.items
  assigns_fine h = All-from_at (FineAssign p) p.assigns.items (λ k a at. assign_fine k a (h k a at))

  updates_fine : UpdatesKeep → All (FineUpdate p) p.updates.items
  updates_fine h = All-from_at (FineUpdate p) p.updates.items (λ k u at. update_fine k u (h k u at))

  names_differ : TargetsDiffer (λ (n : List ℕ). n) (entry_names p) → NamesDiffer p
  names_differ h i j x at_i at_j = h i j x x at_i at_j refl

  pub passes_of : Keeps (net_rules p) → PassesDrivers p
  passes_of h = record {
    before = record {
      before = record {
        before = record { names = names_differ h.0; ports = h.1.0 };
        assigns = assigns_fine h.1.1.0;
        updates = updates_fine h.1.1.1.0;
      };
      assigns = h.1.1.1.1.0;
      updates = h.1.1.1.1.1.0;
    };
    driven = λ k e at. (h.1.1.1.1.1.1.0 k e at).0;
  }

  pub acyclic_of : Keeps (net_rules p) → IsAcyclic m.assigns
  acyclic_of h = h.1.1.1.1.1.1.1.0

  -- the rules from the drivers, the targets and the statements on
  abbrev targets_rules : List Rule
  targets_rules = each (driver_rules (length p.ports.items) m) scope ∷ acyclic m ∷ []

  abbrev statement_rules : List Rule
  statement_rules = unique (λ k. DrivenTwice (AssignAt k)) assign_target m.assigns ∷ unique (λ k. DrivenTwice (UpdateAt k)) update_target m.updates ∷ targets_rules

  abbrev port_rules : List Rule
  port_rules = each (assign_rules scope m) p.assigns.items ∷ each (update_rules scope m) p.updates.items ∷ statement_rules

  module _ (f : NetFault) where
    first_assign : (w : FirstBreaks (assign_rules scope m) p.assigns.items f) (A : NamedAssign → Type 0) → A w.item → FirstWrong (FineAssign p) A p.assigns.items w.place
    first_assign w A wrong = record { item = w.item; at = w.at; wrong = wrong; before = λ j x l at. assign_fine j x (w.before j x l at) }

    first_update : (w : FirstBreaks (update_rules scope m) p.updates.items f) (U : NamedUpdate → Type 0) → U w.item → FirstWrong (FineUpdate p) U p.updates.items w.place
    first_update w U wrong = record { item = w.item; at = w.at; wrong = wrong; before = λ j x l at. update_fine j x (w.before j x l at) }

    assign_fault : PassesPorts p → FirstBreaks (assign_rules scope m) p.assigns.items f → IsPassFault p f
    assign_fault q w =
        elim w.breaks as (λ _. IsPassFault p f) [
          | inl u ↦ subst (IsPassFault p) (sym u.0) (q, first_assign w (UnknownAssign p) u.1)
          | inr known ↦ elim known.1 as (λ _. IsPassFault p f) [
            | inl x ↦ subst (IsPassFault p) (sym x.0) (q, first_assign w (WrongSortAssign p) (record { known = known.0; wrong = λ b h. x.1 (b, h) }))
            | inr sorted ↦ elim sorted.1 as (λ _. IsPassFault p f) [
              | inl x ↦ subst (IsPassFault p) (sym x.0) (q, first_assign w (DivisorAssign p) (record { known = known.0; stands = sorted.0.0; sorted = sorted.0.1; wrong = λ h. x.1 (sorted.0.0, sorted.0.1, h) }))
              | inr divided ↦ elim divided.1 as (λ _. IsPassFault p f) [
                | inl x ↦ subst (IsPassFault p) (sym x.0) (q, first_assign w (WidthAssign p) (record { known = known.0; stands = divided.0.0; sorted = divided.0.1; divisor = divided.0.2; wrong = λ h. x.1 (divided.0.0, divided.0.1, h) }))
                | inr none ↦ absurd none.1
              ]
            ]
          ]
        ]

    update_fault : PassesPorts p → All (FineAssign p) p.assigns.items → FirstBreaks (update_rules scope m) p.updates.items f → IsPassFault p f
    update_fault q all w =
        elim w.breaks as (λ _. IsPassFault p f) [
          | inl u ↦ subst (IsPassFault p) (sym u.0) (q, (all, first_update w (UnknownUpdate p) u.1))
          | inr known ↦ elim known.1 as (λ _. IsPassFault p f) [
            | inl x ↦ subst (IsPassFault p) (sym x.0) (q, (all, first_update w (WrongSortUpdate p) (record { known = known.0; wrong = λ v h. x.1 (v, h) })))
            | inr sorted ↦ elim sorted.1 as (λ _. IsPassFault p f) [
              | inl x ↦ subst (IsPassFault p) (sym x.0) (q, (all, first_update w (WidthUpdate p) (record { known = known.0; stands = sorted.0.0; sorted = sorted.0.1; wrong = λ h. x.1 (sorted.0.0, sorted.0.1, h) })))
              | inr none ↦ absurd none.1
            ]
          ]
        ]

    undriven_fault : PassesTargets p → FirstBreaks (driver_rules (length p.ports.items) m) scope f → IsPassFault p f
    undriven_fault targets w =
        elim w.breaks as (λ _. IsPassFault p f) [
          | inl x ↦ subst (IsPassFault p) (sym x.0) (targets, w.place, declared_place p w.place, record { item = w.item; at = w.at; wrong = x.1; before = λ j e l at. (w.before j e l at).0 })
          | inr none ↦ absurd none.1
        ]

    pub passed : IsFault p f → IsPassFault p f
    passed h =
        elim h as (λ _. IsPassFault p f) [
          | inl d ↦ subst (IsPassFault p) (sym d.1) (d.0, declared_place p d.0, d.2)
          | inr names ↦ elim names.1 as (λ _. IsPassFault p f) [
            | inl q ↦ subst (IsPassFault p) (sym q.0) (names_differ names.0, q.1)
            | inr ports ↦ after_ports (record { names = names_differ names.0; ports = ports.0 }) ports.1
          ]
        ]
      where
        after_targets : PassesTargets p → Breaks (targets_rules) f → IsPassFault p f
        after_targets t x = elim x as (λ _. IsPassFault p f) [
          | inl u ↦ undriven_fault t u
          | inr driven ↦ elim driven.1 as (λ _. IsPassFault p f) [
            | inl y ↦ subst (IsPassFault p) (sym y.1) (record { before = t; driven = λ k e at. (driven.0 k e at).0 }, y.2)
            | inr none ↦ absurd none.1
          ]
        ]

        after_statements : PassesStatements p → Breaks (statement_rules) f → IsPassFault p f
        after_statements s x = elim x as (λ _. IsPassFault p f) [
          | inl t ↦ subst (IsPassFault p) (sym t.1) (s, t.2)
          | inr assigns ↦ elim assigns.1 as (λ _. IsPassFault p f) [
            | inl t ↦ subst (IsPassFault p) (sym t.1) (s, assigns.0, t.2)
            | inr updates ↦ after_targets (record { before = s; assigns = assigns.0; updates = updates.0 }) updates.1
          ]
        ]

        after_ports : PassesPorts p → Breaks (port_rules) f → IsPassFault p f
        after_ports q x = elim x as (λ _. IsPassFault p f) [
          | inl w ↦ assign_fault q w
          | inr assigns ↦ elim assigns.1 as (λ _. IsPassFault p f) [
            | inl w ↦ update_fault q (assigns_fine assigns.0) w
            | inr updates ↦ after_statements (record { before = q; assigns = assigns_fine assigns.0; updates = updates_fine updates.0 }) updates.1
          ]
        ]

-- the error of a pass is one of the rules
pub ruled_error : (p : Parts) (e : NetError) → IsErrorBy (IsPassFault p) e → IsErrorBy (IsFault p) e
ruled_error p (Fault f) h = ruled p f h
ruled_error p OutOfMemory h = tt

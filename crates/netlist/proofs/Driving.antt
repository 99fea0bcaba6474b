-- What drives each net and array.
use Rattle.std.proofs.Common.{◌≡◌, ℕ, zero, suc, ◌<◌, true, false, List, [], ◌∷◌, length, refl, ap, subst, sym, ◌∙◌, inl, inr, arith, Option, Some, None}
use Rattle.std.specs.Prelude.{slice_get, All, is_some}
use Rattle.std.proofs.lemmas.Option.{same_Some}
use Rattle.wiring.specs.declared.right.Atom.{Atom}
use Rattle.wiring.specs.declared.netlist.Net.{Net}
use Rattle.wiring.specs.declared.netlist.Net.TheVariants.{Input, Output, Wire, Reg}
use Rattle.wiring.specs.declared.netlist.Holder.{Holder}
use Rattle.wiring.specs.declared.netlist.Holder.TheVariants.{OfNet, OfArray}
use Rattle.wiring.specs.declared.netlist.Assign.{Assign}
use Rattle.wiring.specs.declared.netlist.Update.{Update}
use Rattle.wiring.specs.declared.netlist.Update.TheVariants.{Set, Put}
use Rattle.wiring.specs.declared.netlist.Netlist.{Netlist as TheNetlist}
use Rattle.wiring.specs.declared.drivers.Drivers.{Drivers}
use Rattle.wiring.specs.Netlist.{Netlist, netlist_of, IsDriven, update_target}
use Rattle.wiring.specs.Tables.{IsTableOf, IsTable, IsTarget, IsStateTarget, assign_target, driver_of, updater_of}
use Rattle.wiring.specs.Order.{DependsOn, IsEvaluationOrder}
use Rattle.wiring.proofs.Lists.{All-at}
use Rattle.netlist.specs.declared.parts.Parts.{Parts}
use Rattle.netlist.specs.declared.parts.NamedUpdate.{NamedUpdate}
use Rattle.netlist.specs.declared.parts.NamedUpdate.TheVariants.{Set as NamedSet, Put as NamedPut}
use Rattle.netlist.specs.declared.fault.NetFault.{NetFault}
use Rattle.netlist.specs.declared.fault.NetError.{NetError}
use Rattle.netlist.specs.declared.fault.NetError.TheVariants.{Fault, OutOfMemory}
use Rattle.netlist.specs.declared.drive.Tables.{Tables}
use Rattle.netlist.specs.Scopes.{Meaning, clock, net, array, Entry, scope_of, net_named, array_named, atom_named, assign_named, update_named, reg_of_net, netlist_of_parts}
use Rattle.netlist.specs.Faults.{TargetsDiffer, HasAssign, HasUpdate, HasDriver, IsErrorBy}
use Rattle.netlist.specs.Passes.{FirstWrong, FineAssign, PassesStatements, PassesTargets, PassesDrivers, IsPassFault}
use Rattle.netlist.specs.Driven.{is_driven_by, IsDrivenEntry, AreTables, IsDrivenTwice, IsSecondAssign, IsSecondUpdate, IsFirstUndriven, IsCycle}
use Rattle.netlist.proofs.Scoped.{two_parts, three_parts, net_declared, array_declared}
use Rattle.netlist.proofs.Kept.{collected_all}
use Rattle.netlist.proofs.Resolving.{Before}

some_at : {X : Type 0} (xs : List X) (k : ℕ) → k < length xs → (x : X) × (slice_get xs k ≡ Some x)
some_at [] k l = absurd (omega (arith, l))
some_at (x ∷ xs) zero l = (x, refl)
some_at (x ∷ xs) (suc k) l = some_at xs k (omega (arith, l))

-- the first that is not driven
pub first_not_driven : (d : Tables) (scope : List Entry) (place : ℕ) → place < length scope → ((e : Entry) → slice_get scope place ≡ Some e → false ≡ is_driven_by d e.meaning) → Before (IsDrivenEntry d) scope place → FirstWrong (IsDrivenEntry d) (λ e. IsDrivenEntry d e → ⊥) scope place
first_not_driven d scope place l other before =
    let here = some_at scope place l in
    record {
      item = here.0;
      at = here.1;
      wrong = λ driven. let e : false ≡ true = other here.0 here.1 ∙ driven in cc;
      before = before;
    }

there : {X : Type 0} (o : Option X) → is_some o ≡ true → (x : X) × (o ≡ Some x)
there None e = absurd (let f : false ≡ true = e in cc)
there (Some x) e = (x, refl)

-- what a table of the parts' netlist says
module _ (m : Netlist) (d : Tables) (tables : AreTables m d) where
  assign_there : (n : Net) → is_some (driver_of d.drivers n) ≡ true → HasAssign m n
  assign_there n e = let k = there (driver_of d.drivers n) e in let s = tables.drivers.sound n k.0 k.1 in (k.0, s.0, s.1, s.2)

  there_assign : (n : Net) → HasAssign m n → is_some (driver_of d.drivers n) ≡ true
  there_assign n h = subst (λ (x : Net). is_some (driver_of d.drivers x) ≡ true) h.3 (ap (λ (o : Option ℕ). is_some o) (tables.drivers.complete h.0 h.1 h.2))

  update_there : (h : Holder) → is_some (updater_of d.updaters h) ≡ true → HasUpdate m h
  update_there h e = let k = there (updater_of d.updaters h) e in let s = tables.updaters.sound h k.0 k.1 in (k.0, s.0, s.1, s.2)

  there_update : (h : Holder) → HasUpdate m h → is_some (updater_of d.updaters h) ≡ true
  there_update h u = subst (λ (x : Holder). is_some (updater_of d.updaters x) ≡ true) u.3 (ap (λ (o : Option ℕ). is_some o) (tables.updaters.complete u.0 u.1 u.2))

  driver_there : (x : Meaning) → is_driven_by d x ≡ true → HasDriver m x
  driver_there clock e = tt
  driver_there (net (Input i)) e = tt
  driver_there (net (Output i)) e = assign_there (Output i) e
  driver_there (net (Wire i)) e = assign_there (Wire i) e
  driver_there (net (Reg i)) e = update_there (OfNet (Reg i)) e
  driver_there (array x) e = update_there (OfArray x) e

  there_driver : (x : Meaning) → HasDriver m x → is_driven_by d x ≡ true
  there_driver clock h = refl
  there_driver (net (Input i)) h = refl
  there_driver (net (Output i)) h = there_assign (Output i) h
  there_driver (net (Wire i)) h = there_assign (Wire i) h
  there_driver (net (Reg i)) h = there_update (OfNet (Reg i)) h
  there_driver (array x) h = there_update (OfArray x) h

pub differ_by : {X T : Type 0} (target : X → T) (items : List X) (entry : T → Option ℕ) → IsTableOf target items entry → TargetsDiffer target items
differ_by target items entry table i j x y at_i at_j same = same_Some i j (sym (table.complete i x at_i) ∙ ap entry same ∙ table.complete j y at_j)

module _ (p : Parts) (w : TheNetlist) (is : netlist_of w ≡ netlist_of_parts p) where
  abbrev m : Netlist
  m = netlist_of_parts p

  is_target : (n : Net) → IsDriven m n → IsTarget (length m.outputs) (length m.wires) n
  is_target (Input i) l = l
  is_target (Output i) l = l
  is_target (Wire i) l = l
  is_target (Reg i) l = l

  abbrev Targets : Netlist → Type 0
  Targets n = All (λ (a : Assign). IsTarget (length n.outputs) (length n.wires) a.target) n.assigns

  abbrev States : Netlist → Type 0
  States n = All (λ (u : Update). IsStateTarget (length n.regs) (length n.arrays) (update_target u)) n.updates

  -- each assign has a place in the tables
  pub targets : PassesStatements p → All (λ (a : Assign). IsTarget (length w.outputs.items) (length w.wires.items) a.target) w.assigns.items
  targets passes =
      let here : Targets m = collected_all (assign_named (scope_of p)) (λ (a : Assign). IsTarget (length m.outputs) (length m.wires) a.target) p.assigns.items (λ k a b at named.
      let fine = All-at (FineAssign p) p.assigns.items k a passes.assigns at in
      let same : fine.stands ≡ b = same_Some fine.stands b (sym fine.sorted.0 ∙ named) in
      subst (λ (x : Assign). IsTarget (length m.outputs) (length m.wires) x.target) same (is_target fine.stands.target fine.sorted.1)) in
      subst Targets (sym is) here

  reg_is : (o : Option Net) (x : ℕ) → reg_of_net o ≡ Some x → o ≡ Some (Reg x)
  reg_is None x e = absurd (let g : None ≡ Some x = e in cc)
  reg_is (Some (Input i)) x e = absurd (let g : None ≡ Some x = e in cc)
  reg_is (Some (Output i)) x e = absurd (let g : None ≡ Some x = e in cc)
  reg_is (Some (Wire i)) x e = absurd (let g : None ≡ Some x = e in cc)
  reg_is (Some (Reg i)) x e = ap (λ (z : ℕ). Some (Reg z)) (same_Some i x e)

  is_state : (u : NamedUpdate) (v : Update) → update_named (scope_of p) u ≡ Some v → IsStateTarget (length m.regs) (length m.arrays) (update_target v)
  is_state (NamedSet r a) v e =
      let s = two_parts (λ (x : ℕ) (y : Atom Net). Set x y) (reg_of_net (net_named (scope_of p) r)) (atom_named (scope_of p) a) v e in
      subst (λ (x : Update). IsStateTarget (length m.regs) (length m.arrays) (update_target x)) s.4 (net_declared p r (Reg s.0) (reg_is (net_named (scope_of p) r) s.0 s.2))
  is_state (NamedPut n i a) v e =
      let s = three_parts (λ (x : ℕ) (y z : Atom Net). Put x y z) (array_named (scope_of p) n) (atom_named (scope_of p) i) (atom_named (scope_of p) a) v e in
      subst (λ (x : Update). IsStateTarget (length m.regs) (length m.arrays) (update_target x)) s.6 (array_declared p n s.0 s.3)

  pub states : All (λ (u : Update). IsStateTarget (length w.regs.items) (length w.arrays.items) (update_target u)) w.updates.items
  states =
      let here : States m = collected_all (update_named (scope_of p)) (λ (u : Update). IsStateTarget (length m.regs) (length m.arrays) (update_target u)) p.updates.items (λ k u v at named. is_state u v named) in
      subst States (sym is) here

  pub tables_here : (d : Tables) → AreTables (netlist_of w) d → AreTables m d
  tables_here d tables = subst (λ (x : Netlist). AreTables x d) is tables

  pub passes_targets : PassesStatements p → (d : Tables) → AreTables (netlist_of w) d → PassesTargets p
  passes_targets passes d given =
      let tables = tables_here d given in
      record {
        before = passes;
        assigns = differ_by assign_target m.assigns (driver_of d.drivers) tables.drivers;
        updates = differ_by update_target m.updates (updater_of d.updaters) tables.updaters;
      }

  pub twice_error : PassesStatements p → (e : NetError) → IsErrorBy (IsDrivenTwice (netlist_of w)) e → IsErrorBy (IsPassFault p) e
  twice_error passes OutOfMemory h = tt
  twice_error passes (Fault f) h = by (subst (λ (x : Netlist). IsDrivenTwice x f) is h)
    where
      by : IsDrivenTwice m f → IsPassFault p f
      by (inl s) = subst (IsPassFault p) (sym s.1) (passes, s.2)
      by (inr s) = subst (IsPassFault p) (sym s.1.1) (passes, s.0, s.1.2)

  pub cycle_error : PassesDrivers p → (e : NetError) → IsErrorBy (IsCycle (netlist_of w)) e → IsErrorBy (IsPassFault p) e
  cycle_error passes OutOfMemory s = tt
  cycle_error passes (Fault f) s = subst (IsPassFault p) (sym s.1) (passes, subst (λ (x : Netlist). DependsOn x.assigns s.0 s.0) is s.2)

  pub ordered_here : (order : List ℕ) → IsEvaluationOrder w.assigns.items order → IsEvaluationOrder m.assigns order
  ordered_here order h = subst (λ (x : Netlist). IsEvaluationOrder x.assigns order) is h

module _ (p : Parts) (scope : List Entry) (same : scope ≡ scope_of p) (d : Tables) (tables : AreTables (netlist_of_parts p) d) (passes : PassesTargets p) where
  pub undriven_fault : (f : NetFault) → IsFirstUndriven p scope d f → IsPassFault p f
  undriven_fault f u =
      let first : FirstWrong (λ (e : Entry). HasDriver (netlist_of_parts p) e.meaning) (λ (e : Entry). HasDriver (netlist_of_parts p) e.meaning → ⊥) scope u.place = record {
        item = u.first.item;
        at = u.first.at;
        wrong = λ h. u.first.wrong (there_driver (netlist_of_parts p) d tables u.first.item.meaning h);
        before = λ j e l at. driver_there (netlist_of_parts p) d tables e.meaning (u.first.before j e l at);
      } in
      subst (IsPassFault p) (sym u.fault) (passes, u.place, u.is_place, subst (λ (s : List Entry). FirstWrong (λ (e : Entry). HasDriver (netlist_of_parts p) e.meaning) (λ (e : Entry). HasDriver (netlist_of_parts p) e.meaning → ⊥) s u.place) same first)

  pub passes_drivers : All (IsDrivenEntry d) scope → PassesDrivers p
  passes_drivers all = record {
    before = passes;
    driven = λ k e at. driver_there (netlist_of_parts p) d tables e.meaning (All-at (IsDrivenEntry d) (scope_of p) k e (subst (λ (s : List Entry). All (IsDrivenEntry d) s) same all) at);
  }

pub second_assign : (m : Netlist) (e : NetError) → IsErrorBy (IsSecondAssign m) e → IsErrorBy (IsDrivenTwice m) e
second_assign m OutOfMemory s = tt
second_assign m (Fault f) s = inl s

-- a second update, where no assign is one
pub second_update : (m : Netlist) (d : Drivers) → IsTable m.assigns d → (e : NetError) → IsErrorBy (IsSecondUpdate m) e → IsErrorBy (IsDrivenTwice m) e
second_update m d table OutOfMemory s = tt
second_update m d table (Fault f) s = inr (differ_by assign_target m.assigns (driver_of d) table, s)

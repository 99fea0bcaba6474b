-- Parts with the same lists have the same module and the same faults.
use Rattle.std.proofs.Common.{◌≡◌, ℕ, List, ap, ◌∙◌, subst}
use Rattle.std.specs.Prelude.{◌++◌}
use Rattle.std.specs.Option.{option_map}
use Rattle.wiring.specs.declared.netlist.Shape.{Shape}
use Rattle.wiring.specs.Netlist.{Netlist}
use Rattle.netlist.specs.declared.parts.Parts.{Parts}
use Rattle.netlist.specs.declared.parts.Port.{Port}
use Rattle.netlist.specs.declared.parts.Declaration.{Declaration}
use Rattle.netlist.specs.declared.parts.NamedAssign.{NamedAssign}
use Rattle.netlist.specs.declared.parts.NamedUpdate.{NamedUpdate}
use Rattle.netlist.specs.declared.fault.NetFault.{NetFault}
use Rattle.netlist.specs.Names.{ModuleNames}
use Rattle.netlist.specs.Scopes.{Entry, all_ports, declared_entries, scope_of, assign_named, update_named, netlist_of_parts, module_of, has_enable, collected, taken, given, past_clock, wire_width, reg_width, array_shape, names_of_parts}
use Rattle.netlist.specs.Faults.{Rule, Breaks, rules_of, net_rules, IsFault}

-- the same name and lists
pub record SameParts (p q : Parts) : Type 0 where
  pub name : p.name ≡ q.name
  pub ports : p.ports.items ≡ q.ports.items
  pub declarations : p.declarations.items ≡ q.declarations.items
  pub assigns : p.assigns.items ≡ q.assigns.items
  pub updates : p.updates.items ≡ q.updates.items

same_scope : (p q : Parts) → SameParts p q → scope_of p ≡ scope_of q
same_scope p q e =
    ap (λ x. all_ports x ++ declared_entries 0 0 0 p.declarations.items) e.ports
    ∙ ap (λ x. all_ports q.ports.items ++ declared_entries 0 0 0 x) e.declarations

-- the netlist of these lists
abbrev netlist_with : List Port → List Declaration → List Entry → List NamedAssign → List NamedUpdate → Netlist
netlist_with ports declarations scope assigns updates = record {
  enable = has_enable ports;
  inputs = collected (λ (r : Port). taken r.direction r.width) (past_clock ports);
  outputs = collected (λ (r : Port). given r.direction r.width) (past_clock ports);
  wires = collected (λ (d : Declaration). wire_width d.sort) declarations;
  regs = collected (λ (d : Declaration). reg_width d.sort) declarations;
  arrays = collected (λ (d : Declaration). array_shape d.sort) declarations;
  assigns = collected (assign_named scope) assigns;
  updates = collected (update_named scope) updates;
}

same_netlist : (p q : Parts) → SameParts p q → netlist_of_parts p ≡ netlist_of_parts q
same_netlist p q e =
    ap (λ x. netlist_with x p.declarations.items (scope_of p) p.assigns.items p.updates.items) e.ports
    ∙ ap (λ x. netlist_with q.ports.items x (scope_of p) p.assigns.items p.updates.items) e.declarations
    ∙ ap (λ x. netlist_with q.ports.items q.declarations.items x p.assigns.items p.updates.items) (same_scope p q e)
    ∙ ap (λ x. netlist_with q.ports.items q.declarations.items (scope_of q) x p.updates.items) e.assigns
    ∙ ap (λ x. netlist_with q.ports.items q.declarations.items (scope_of q) q.assigns.items x) e.updates

-- the names of these
abbrev names_with : List ℕ → List Declaration → ModuleNames
names_with name declarations = record {
  «module» = name;
  wires = collected (λ (d : Declaration). option_map (λ (w : ℕ). d.name) (wire_width d.sort)) declarations;
  regs = collected (λ (d : Declaration). option_map (λ (w : ℕ). d.name) (reg_width d.sort)) declarations;
  arrays = collected (λ (d : Declaration). option_map (λ (s : Shape). d.name) (array_shape d.sort)) declarations;
}

same_names : (p q : Parts) → SameParts p q → names_of_parts p ≡ names_of_parts q
same_names p q e = ap (λ x. names_with x p.declarations.items) e.name ∙ ap (λ x. names_with q.name x) e.declarations

pub same_module : (p q : Parts) → SameParts p q → module_of p ≡ module_of q
same_module p q e =
    ap (λ x. record { netlist = x; names = names_of_parts p }) (same_netlist p q e)
    ∙ ap (λ x. record { netlist = netlist_of_parts q; names = x }) (same_names p q e)

-- the same rules
same_rules : (p q : Parts) → SameParts p q → (P : List Rule → Type 0) → P (net_rules p) → P (net_rules q)
same_rules p q e P h =
    subst (λ x. P (rules_of q.ports.items (scope_of q) (netlist_of_parts q) q.assigns.items x)) e.updates
    (subst (λ x. P (rules_of q.ports.items (scope_of q) (netlist_of_parts q) x p.updates.items)) e.assigns
    (subst (λ x. P (rules_of q.ports.items (scope_of q) x p.assigns.items p.updates.items)) (same_netlist p q e)
    (subst (λ x. P (rules_of q.ports.items x (netlist_of_parts p) p.assigns.items p.updates.items)) (same_scope p q e)
    (subst (λ x. P (rules_of x (scope_of p) (netlist_of_parts p) p.assigns.items p.updates.items)) e.ports h))))

pub same_fault : (p q : Parts) → SameParts p q → (f : NetFault) → IsFault p f → IsFault q f
same_fault p q e f h = same_rules p q e (λ rules. Breaks rules f) h

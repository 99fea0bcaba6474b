-- The module of parts that pass all passes.
use Rattle.std.proofs.Common.{◌≡◌, refl, ap, subst, sym, ◌∙◌}
use Rattle.wiring.specs.Netlist.{Netlist, netlist_of}
use Rattle.wiring.specs.Rules.{KeepsRules}
use Rattle.wiring.specs.Order.{IsAcyclic}
use Rattle.netlist.specs.declared.parts.Parts.{Parts}
use Rattle.netlist.specs.declared.checking.Wired.{Wired}
use Rattle.netlist.specs.Names.{ModuleNames, NamedNetlist, HasNames}
use Rattle.netlist.specs.Scopes.{netlist_of_parts, names_of_parts, module_of}
use Rattle.netlist.specs.Faults.{IsModuleOf}
use Rattle.netlist.specs.Driven.{IsWired}
use Rattle.netlist.proofs.Ruled.{keeps_of}

module _ (p : Parts) (w : Wired) (wired : IsWired p w) (acyclic : IsAcyclic (netlist_of_parts p).assigns) where
  pub is_module : IsModuleOf p (module_of p)
  is_module = record { keeps = keeps_of p wired.passes acyclic; is = refl }

  pub rules_here : KeepsRules (netlist_of_parts p) → KeepsRules (netlist_of w.wiring)
  rules_here rules = subst KeepsRules (sym wired.netlist) rules

  pub names_here : (n : ModuleNames) → n ≡ names_of_parts p → HasNames (netlist_of_parts p) (names_of_parts p) → HasNames (netlist_of w.wiring) n
  names_here n is h = subst (λ (x : Netlist). HasNames x n) (sym wired.netlist) (subst (λ (x : ModuleNames). HasNames (netlist_of_parts p) x) (sym is) h)

  pub module_here : (n : ModuleNames) → n ≡ names_of_parts p → (m : NamedNetlist) → m ≡ record { netlist = netlist_of w.wiring; names = n } → IsModuleOf p m
  module_here n is m e = record {
    keeps = keeps_of p wired.passes acyclic;
    is = e ∙ ap (λ (x : Netlist). let y : NamedNetlist = record { netlist = x; names = n } in y) wired.netlist ∙ ap (λ (x : ModuleNames). let y : NamedNetlist = record { netlist = netlist_of_parts p; names = x } in y) is;
  }

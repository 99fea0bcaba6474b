use Rattle.std.proofs.Common.{ℕ, [], ◌∷◌, ◌++◌, length, map, refl, sym, subst, ap, ◌∙◌}
use Rattle.wiring.specs.declared.netlist.Assign.{Assign}
use Rattle.wiring.specs.declared.netlist.Net.TheVariants.{Reg}
use Rattle.wiring.specs.Sizes.{IsWidth}
use Rattle.wiring.specs.Netlist.{Netlist, netlist_of}
use Rattle.net_build.specs.Includes.{Includes}
use Rattle.net_build.specs.Draft.{IsDraft, with_reg}
use Rattle.net_build.proofs.Drafts.{draft_reg, includes_reg, includes_same}
use Rattle.net_build.specs.Runs.{NeverStops}
use Rattle.net_build.proofs.Stops.{reg_stops}
use Rattle.net_build.proofs.Updating.{fresh}
use Rattle.net_build.specs.Control.{IsControlled}
use Rattle.net_build.proofs.Control.{reg_control, reg_copy}
use Rattle.net_build.proofs.builder.Builder.reg.Goals as goal

pub invariant_of-self-2 : goal.invariant_of-self-2
invariant_of-self-2 c =
    let b : Netlist = netlist_of c.self.inside.wiring in (
      subst IsDraft (sym c.in_ok-k.ensures.ok) (draft_reg b c.new.result c.self.invariant.0 (subst IsWidth (sym c.new.ensures) c.requires)),
      c.self.invariant.1 ∙ ap (λ (n : Netlist). map (λ (a : Assign). a.right) n.assigns) (sym c.in_ok-k.ensures.ok),
      c.in_ok-k.ensures.room,
    )

pub returns-clause-includes : goal.returns-clause-includes
returns-clause-includes c =
    let b : Netlist = netlist_of c.self.inside.wiring in
    subst (λ (n : Netlist). Includes (netlist_of c.add_reg.new.wiring) n) c.self.view_is (includes_same _ (netlist_of c.add_reg.new.wiring) b c.in_ok-k.ensures.ok (includes_reg b c.new.result))

pub returns-in_err-k-clause-stops : goal.returns-in_err-k-clause-stops
returns-in_err-k-clause-stops c never = subst NeverStops (sym c.in_err-k.ensures.err) (subst NeverStops (sym c.self.view_is) never)

pub returns-clause-stops : goal.returns-clause-stops
returns-clause-stops c never = subst NeverStops (sym c.in_ok-k.ensures.ok) (reg_stops (netlist_of c.self.inside.wiring) c.new.result (subst NeverStops (sym c.self.view_is) never))

pub returns-clause-free : goal.returns-clause-free
returns-clause-free c = (fresh (netlist_of c.self.inside.wiring) (netlist_of c.add_reg.new.wiring) (Reg c.in_ok-k.k) c.in_ok-k.k c.new.result c.self.invariant.0 c.in_ok-k.ensures.ok refl c.in_ok-k.ensures.number).free

pub returns-clause-net : goal.returns-clause-net
returns-clause-net c = (fresh (netlist_of c.self.inside.wiring) (netlist_of c.add_reg.new.wiring) (Reg c.in_ok-k.k) c.in_ok-k.k c.new.result c.self.invariant.0 c.in_ok-k.ensures.ok refl c.in_ok-k.ensures.number).net

pub returns-clause-register : goal.returns-clause-register
returns-clause-register c = (fresh (netlist_of c.self.inside.wiring) (netlist_of c.add_reg.new.wiring) (Reg c.in_ok-k.k) c.in_ok-k.k c.new.result c.self.invariant.0 c.in_ok-k.ensures.ok refl c.in_ok-k.ensures.number).register

pub returns-clause-width : goal.returns-clause-width
returns-clause-width c = (fresh (netlist_of c.self.inside.wiring) (netlist_of c.add_reg.new.wiring) (Reg c.in_ok-k.k) c.in_ok-k.k c.new.result c.self.invariant.0 c.in_ok-k.ensures.ok refl c.in_ok-k.ensures.number).width_is ∙ c.new.ensures

pub returns-in_err-k-clause-control : goal.returns-in_err-k-clause-control
returns-in_err-k-clause-control c copies is = subst (λ (b : Netlist). IsControlled b copies) (sym c.in_err-k.ensures.err) (subst (λ (b : Netlist). IsControlled b copies) (sym c.self.view_is) is)

pub returns-clause-control : goal.returns-clause-control
returns-clause-control c copies is = subst (λ (b : Netlist). IsControlled b copies) (sym c.in_ok-k.ensures.ok) (reg_control (netlist_of c.self.inside.wiring) c.new.result copies (subst (λ (b : Netlist). IsControlled b copies) (sym c.self.view_is) is))

pub returns-clause-copy : goal.returns-clause-copy
returns-clause-copy c copies is =
    let b : Netlist = netlist_of c.self.inside.wiring in
    let here : IsControlled (with_reg b c.new.result) (copies ++ length b.regs ∷ []) = reg_copy b c.new.result copies c.self.invariant.0 (subst (λ (n : Netlist). IsControlled n copies) (sym c.self.view_is) is) in
    subst (λ (n : Netlist). IsControlled n (copies ++ c.in_ok-k.k ∷ [])) (sym c.in_ok-k.ensures.ok) (subst (λ (k : ℕ). IsControlled (with_reg b c.new.result) (copies ++ k ∷ [])) (sym c.in_ok-k.ensures.number) here)

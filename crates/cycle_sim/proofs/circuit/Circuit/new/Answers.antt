use Rattle.std.proofs.Common.{◌≡◌, ℕ, List, map, sym, subst, ap, ◌∙◌}
use Rattle.wiring.specs.declared.netlist.Shape.{Shape}
use Rattle.wiring.specs.Netlist.{Netlist, netlist_of}
use Rattle.wiring.specs.Order.{IsEvaluationOrder}
use Rattle.wiring.specs.Rules.{KeepsRules}
use Rattle.cycle_sim.specs.Filled.{fill_value, filled_words}
use Rattle.cycle_sim.specs.Simulated.{IsProgram}
use Rattle.cycle_sim.proofs.Initial.{initial}
use Rattle.cycle_sim.proofs.circuit.Circuit.new.Goals as goal

pub invariant_of-result : goal.invariant_of-result
invariant_of-result c =
    let m : Netlist = netlist_of c.in_ok-wiring.wiring in
    let same : m ≡ c.args.module.now.netlist = c.in_ok-wiring.ensures ∙ c.wiring.ensures.netlist in
    let rules : KeepsRules m = subst (λ (x : Netlist). KeepsRules x) (sym same) c.wiring.ensures.rules in
    let f = c.args.fill in
    let ordered : IsEvaluationOrder m.assigns c.in_ok-order.order.items =
    subst (λ (l : List ℕ). IsEvaluationOrder m.assigns l) (sym c.in_ok-order.ensures.items) (subst (λ (x : Netlist). IsEvaluationOrder x.assigns c.order.result.now) (sym same) c.order.ensures) in
    let program : IsProgram m c.in_ok-order.order.items c.in_ok-program.program = subst (λ (l : List ℕ). IsProgram m l c.in_ok-program.program) c.deref.ensures.value c.in_ok-program.ensures in
    let values = c.in_ok-values.ensures ∙ ap (λ (l : List ℕ). map (fill_value f) l) c.deref-2.ensures.value in
    let staged = c.in_ok-staged.ensures ∙ ap (λ (l : List ℕ). map (fill_value f) l) c.deref-3.ensures.value in
    let words = c.in_ok-arrays.ensures ∙ ap (λ (l : List Shape). map (filled_words f) l) c.deref-4.ensures.value in
    rw (values, staged, words) (initial f m c.in_ok-order.order.items c.in_ok-program.program rules ordered program)

use Rattle.std.proofs.Common.{◌≡◌, ℕ, Some, None, sym, subst, ◌∙◌}
use Rattle.std.proofs.lemmas.Option.{same_Some}
use Rattle.module_pass.specs.Words.{word_bits}
use Rattle.dk_compile.proofs.Packing.{packed_circuit, plain_circuit}
use Rattle.dk_compile.proofs.compiling.packed.Goals as goal

pub returns-in_default-clause-packed : goal.returns-in_default-clause-packed
returns-in_default-clause-packed c =
    plain_circuit c.args.ir.now c.args.plan.now c.args.options.enable c.args.options.block c.args.circuit.module.netlist c.args.circuit.nets.items c.args.circuit.reads.items c.law.ensures c.requires.circuit

pub returns-clause-packed : goal.returns-clause-packed
returns-clause-packed c =
    let m = c.in_ok-packed.packed.module.netlist in
    packed_circuit c.args.ir.now c.args.plan.now c.args.options.enable c.args.options.block m c.args.circuit.module.netlist c.in_ok-packed.packed.slots.items c.args.circuit.nets.items c.args.circuit.reads.items c.order-order.result.now
    c.law.ensures c.wiring-wiring.ensures.rules c.order-order.ensures c.requires.circuit c.in_ok-packed.ensures.packing
    (λ least is. subst (λ (n : ℕ). word_bits n m.arrays ≡ word_bits n c.args.circuit.module.netlist.arrays) (same_Some c.in-Some.least least (sym c.in-Some.is ∙ is)) c.in_ok-packed.ensures.words) (λ none. absurd (let some : Some c.in-Some.least ≡ None = sym c.in-Some.is ∙ none in let f : ⊥ = cc in f))

use Rattle.std.proofs.Common.{ℕ, Some, Option, sym, ap, subst, arith}
use Rattle.std.specs.Prelude.{◌≤◌, IfSome}
use Rattle.circuit.specs.Splits.{Splits}
use Rattle.circuit.specs.Divided.{AreChainsDivided}
use Rattle.dk_compile.specs.Circuits.{IsCircuitOf}
use Rattle.dk_compile.proofs.Circuits.{chain_circuit, block_circuit}
use Rattle.dk_compile.proofs.compiling.built.Goals as goal

pub new-form-requires : goal.new-form-requires
new-form-requires c = subst (λ (block : Option ℕ). IfSome block (λ least. 2 ≤ least)) c.in-Some.is c.requires.block

pub returns-in_ok-made-in-None-clause-circuit : goal.returns-in_ok-made-in-None-clause-circuit
returns-in_ok-made-in-None-clause-circuit c =
    let made = c.in_ok-made-in-None.made in
    let is = c.in_ok-made-in-None.ensures in
    subst (λ (block : Option ℕ). IsCircuitOf c.args.ir.now c.args.plan.now c.args.options.enable block made.module.netlist made.nets.items made.reads.items) (sym c.in-None.is)
    (chain_circuit made.module.netlist c.args.ir.now c.args.plan.now c.args.options.enable made.nets.items made.reads.items is.ports is.whole is.runs is.circuit is.reads is.arrays is.property is.computed is.apart is.paths is.registers
    (c.frame_drive_law.ensures made.module.netlist c.args.ir.now c.args.plan.now _ _ made.nets.items c.args.options.enable c.law.ensures is.ports is.whole is.runs is.circuit.behaves))

pub returns-in_ok-made-in-Some-clause-circuit : goal.returns-in_ok-made-in-Some-clause-circuit
returns-in_ok-made-in-Some-clause-circuit c =
    let made = c.in_ok-made-in-Some.made in
    let is = c.in_ok-made-in-Some.ensures in
    subst (λ (block : Option ℕ). IsCircuitOf c.args.ir.now c.args.plan.now c.args.options.enable block made.module.netlist made.nets.items made.reads.items) (sym c.in-Some.is)
    (subst (λ (least : ℕ). IsCircuitOf c.args.ir.now c.args.plan.now c.args.options.enable (Some least) made.module.netlist made.nets.items made.reads.items) (ap (λ (form : Splits). form.least) c.new-form.ensures)
    (block_circuit made.module.netlist c.args.ir.now c.args.plan.now c.args.options.enable c.new-form.result.least c.new-form.result.proposed made.nets.items made.reads.items is.ports is.whole is.runs is.circuit is.reads is.arrays is.property is.computed is.apart is.paths is.registers
    (c.frame_drive_law.ensures made.module.netlist c.args.ir.now c.args.plan.now _ _ made.nets.items c.args.options.enable c.law.ensures is.ports is.whole is.runs is.circuit.behaves)
    (subst (λ (form : Splits). AreChainsDivided form.least c.args.plan.now form.proposed) (sym c.new-form.ensures)
    (c.in_ok-splits-in-Some.ensures.taken (let two : 2 ≤ c.in-Some.least = subst (λ (block : Option ℕ). IfSome block (λ least. 2 ≤ least)) c.in-Some.is c.requires.block in omega (arith, two))))))

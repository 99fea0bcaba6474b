use Rattle.std.proofs.Common.{[], List, ap, sym, subst}
use Rattle.wiring.specs.declared.netlist.Net.{Net}
use Rattle.circuit.specs.Images.{AreBuilt}
use Rattle.circuit.proofs.Adding.{built_none}
use Rattle.circuit.proofs.Registered.{registers_none}
use Rattle.wiring.specs.Netlist.{Netlist}
use Rattle.circuit.proofs.making.build_with.Goals as goal

pub add_images-requires-clause-images : goal.add_images-requires-clause-images
add_images-requires-clause-images g c = record {
  turns = c.new-turns.ensures.turns c.in_ok-b.b;
  built = let b = c.in_ok-b.b in
      let has = c.in_ok-b.ensures in
      let form = g.F.BufferForm.form c.args.form.now in
      let none : AreBuilt b c.args.ir.now c.args.plan.now form 0 [] [] = built_none b c.args.ir.now c.args.plan.now form c.args.options.enable has.ports has.updated has.still has.stops has.control in
      let built : AreBuilt b c.args.ir.now c.args.plan.now form 0 c.new-nets.result.items c.new-taps.result.items =
      subst (λ (ns : List Net). AreBuilt b c.args.ir.now c.args.plan.now form 0 ns c.new-taps.result.items) (sym c.new-nets.ensures.items)
      (subst (λ (ts : List (List Net)). AreBuilt b c.args.ir.now c.args.plan.now form 0 [] ts) (sym c.new-taps.ensures.items) none)
      in
      record { built = built; apart = c.no_tests-tests.ensures.apart built.copies; tests_are = c.no_tests-tests.ensures.tests b };
  registers = let form = g.F.BufferForm.form c.args.form.now in
      let has = c.in_ok-b.ensures in
      registers_none c.in_ok-b.b c.args.ir.now c.args.plan.now form.long c.new-turns.result c.no_tests-tests.result (ap (λ (b : Netlist). b.regs) has.ports) (ap (λ (b : Netlist). b.arrays) has.ports) c.new-turns.ensures.lines c.new-turns.ensures.blocks c.no_tests-tests.ensures.none;
}

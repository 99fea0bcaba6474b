use Rattle.std.proofs.Common.{◌∙◌, ap, refl, length, arith}
use Rattle.std.proofs.lemmas.List.{take_all}
use Rattle.std.proofs.lemmas.Option.{slice_get_read}
use Rattle.netlist.specs.declared.parts.Declaration.{Declaration}
use Rattle.netlist.specs.Scopes.{collected, wire_width, reg_width, array_shape, SortFits}
use Rattle.netlist.proofs.Resolving.{collected_step, before_step, before_end}
use Rattle.netlist.proofs.declare.sorts_of.Goals as goal

pub loop-declaration-preserved : goal.loop-declaration-preserved
loop-declaration-preserved c =
    let at = slice_get_read c.args.declarations.now (length c.args.declarations.now) c.loop-declaration.declaration-index c.declaration-item.result refl c.loop-declaration-test.true c.declaration-item.is in
    record {
      wires = collected_step (λ (d : Declaration). wire_width d.sort) c.args.declarations.now c.loop-declaration.declaration-index c.declaration-item.result c.loop-declaration.sorts.wires.items c.note_sort.new.sorts.wires.items at c.loop-declaration.invariant.wires c.in_ok-note_sort.ensures.wires;
      regs = collected_step (λ (d : Declaration). reg_width d.sort) c.args.declarations.now c.loop-declaration.declaration-index c.declaration-item.result c.loop-declaration.sorts.regs.items c.note_sort.new.sorts.regs.items at c.loop-declaration.invariant.regs c.in_ok-note_sort.ensures.regs;
      arrays = collected_step (λ (d : Declaration). array_shape d.sort) c.args.declarations.now c.loop-declaration.declaration-index c.declaration-item.result c.loop-declaration.sorts.arrays.items c.note_sort.new.sorts.arrays.items at c.loop-declaration.invariant.arrays c.in_ok-note_sort.ensures.arrays;
      fit = before_step (λ (d : Declaration). SortFits d.sort) c.args.declarations.now c.loop-declaration.declaration-index c.declaration-item.result at c.sort_law.ensures c.loop-declaration.invariant.fit;
    }

pub returns : goal.returns
returns c = record {
  wires = c.loop-declaration.invariant.wires ∙ ap (collected (λ (d : Declaration). wire_width d.sort)) (take_all c.loop-declaration.declaration-index c.args.declarations.now (omega arith));
  regs = c.loop-declaration.invariant.regs ∙ ap (collected (λ (d : Declaration). reg_width d.sort)) (take_all c.loop-declaration.declaration-index c.args.declarations.now (omega arith));
  arrays = c.loop-declaration.invariant.arrays ∙ ap (collected (λ (d : Declaration). array_shape d.sort)) (take_all c.loop-declaration.declaration-index c.args.declarations.now (omega arith));
  fit = before_end (λ (d : Declaration). SortFits d.sort) c.args.declarations.now c.loop-declaration.declaration-index (omega arith) c.loop-declaration.invariant.fit;
}
